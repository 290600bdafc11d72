-- Lines of document 01's test sheet, as equations about the definitions. Assumes nothing.
use mathlib.Core.Path.{◌≡◌, refl}
use mathlib.Core.List.{[], ◌∷◌}
use Rattle.std.specs.Prelude.{Err, None, Ok, Some}
use Rattle.limits.specs.Limits.{rust_limits}
use Rattle.limits.specs.declared.Refusal.TheVariants.{MissingHeader}
use Rattle.text.specs.Text.{span, all, alike, split, filled, words, trimmed}
use Rattle.text.specs.Number.{value, digits_below, read_number}
use Rattle.msg.specs.Block.{line_at, lines_after, lines_from, first_named, full_in, block_cause}
use Rattle.prack_headers.specs.Sequence.{read_in, extract_cseq_number}

-- `+5` reads 5
pub plus_five : read_number 32 (43 ∷ 53 ∷ []) ≡ Some 5
unfolding digits_below value all
plus_five = refl

-- `-0` is unreadable
pub minus_zero_lem : read_number 32 (45 ∷ 48 ∷ []) ≡ None
unfolding digits_below value all
minus_zero_lem = refl

-- as numbers of a CSeq: `CSeq:+5 ACK` says 5, and `CSeq:-0 ACK` is refused by 4
pub cseq_plus_five : extract_cseq_number rust_limits (67 ∷ 83 ∷ 101 ∷ 113 ∷ 58 ∷ 43 ∷ 53 ∷ 32 ∷ 65 ∷ 67 ∷ 75 ∷ 13 ∷ 10 ∷ []) ≡ Ok 5
unfolding read_in block_cause lines_after lines_from first_named full_in line_at span all alike trimmed words split filled digits_below value
cseq_plus_five = refl

pub cseq_minus_zero : extract_cseq_number rust_limits (67 ∷ 83 ∷ 101 ∷ 113 ∷ 58 ∷ 45 ∷ 48 ∷ 32 ∷ 65 ∷ 67 ∷ 75 ∷ 13 ∷ 10 ∷ []) ≡ Err MissingHeader
unfolding read_in block_cause lines_after lines_from first_named full_in line_at span all alike trimmed words split filled digits_below value
cseq_minus_zero = refl
