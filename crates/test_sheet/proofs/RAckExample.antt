-- RFC 3262's example of RAck, as equations about the definitions: each is computed. Assumes nothing.
use Prim.Native.Nat.{ℕ}
use native.Mathlib.Omega.{arith}
use mathlib.Core.Path.{◌≡◌, refl, sym}
use mathlib.Core.List.{List, [], ◌∷◌}
use Rattle.std.specs.Prelude.{Err, Ok}
use Rattle.limits.specs.Limits.{rust_limits}
use Rattle.limits.specs.declared.Refusal.TheVariants.{NoRoom}
use Rattle.text.specs.Text.{all, alike, split, filled, words}
use Rattle.text.specs.Number.{value, digits_below}
use Rattle.text.specs.Answers.{value_cause}
use Rattle.output.specs.Decimal.{decimal_in, decimal_of}
use Rattle.output.proofs.DecimalLaws.{decimal_is}
use Rattle.methods.specs.Methods.{method_names, position_from}
use Rattle.rack.specs.RAck.{read_rack, rack_text, parse_rack, format_rack}

-- RFC 3262 section 7.2: `RAck: 776656 1 INVITE`, read and written; its text has 15 bytes
abbrev pub example : List ℕ
example = 55 ∷ 55 ∷ 54 ∷ 54 ∷ 53 ∷ 54 ∷ 32 ∷ 49 ∷ 32 ∷ 73 ∷ 78 ∷ 86 ∷ 73 ∷ 84 ∷ 69 ∷ []

pub rack_read : parse_rack rust_limits example ≡ Ok (record { rseq = 776656; cseq = 1; method = 1 })
unfolding parse_rack value_cause read_rack words split filled all digits_below value position_from method_names alike
rack_read = refl

-- its numbers in decimal: the first by the count of its digits, since so many steps are too deep to compute
rseq_text : decimal_of 776656 ≡ 55 ∷ 55 ∷ 54 ∷ 54 ∷ 53 ∷ 54 ∷ []
rseq_text = sym (decimal_is 776656 6 (omega arith, omega arith, λ l. omega arith))

cseq_text : decimal_of 1 ≡ 49 ∷ []
unfolding decimal_in
cseq_text = refl

pub rack_written : format_rack 776656 1 1 15 ≡ Ok example
unfolding rack_text method_names
rack_written = rw (rseq_text, cseq_text)

pub rack_refused : format_rack 776656 1 1 14 ≡ Err NoRoom
unfolding rack_text method_names
rack_refused = rw (rseq_text, cseq_text)
