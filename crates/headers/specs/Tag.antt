-- The `tag` parameter of a From or To value.
-- Document 01, "Identifier": "the first `;` segment, trimmed, whose first four bytes are `tag=` in any case; the rest is the
-- tag, maybe empty". Document 02, request 3, says which semicolons end a segment: "The tag reader shall cut only at semicolons
-- outside quotes (a backslash in quotes covers the next byte) and outside angle brackets; read from the left, an opened quote or
-- bracket holds all up to its own close or the end." The Rust's `extract_tag` cuts at every semicolon; where none is held the two
-- agree (`as_the_rust`, proofs/SegmentLaws.antt). RFC 3261 section 25.1 has quotes around a whole display name or parameter value
-- alone; here they open wherever nothing else is open, and a backslash outside them is a byte like any other.
use Rattle.std.specs.Prelude.{ℕ, suc, ◌+◌, Bool, true, false, cond, not, ◌&&◌, ◌||◌, List, [], ◌∷◌, length, take, drop, eqb, Err, None, Ok, Option, Result, Some}
use Rattle.limits.specs.Limits.{LimitSet}
use Rattle.limits.specs.Outcome.{refuse_by, or_refuse}
use Rattle.limits.specs.declared.Refusal.{Refusal}
use Rattle.limits.specs.declared.Refusal.TheVariants.{MissingHeader}
use Rattle.text.specs.Text.{same, blanks, trimmed, on_head, Piece}
use Rattle.text.specs.Answers.{value_cause, span_of}
use Rattle.text.specs.declared.Span.{Span}
use Rattle.headers.specs.declared.tag.Mode.{Mode}
use Rattle.headers.specs.declared.tag.Mode.TheVariants as mode

-- ---- where a value is cut: document 02, request 3
-- A byte is read outside, in quotes, in quotes right after a backslash that covers it (`Escaped`), or in angle brackets. The
-- bytes that count are `"` (34), `;` (59), `<` (60), `>` (62) and `\` (92).

-- how the byte after b is read: outside, `"` opens quotes and `<` brackets; in quotes `\` covers it, and `"` closes; a covered b
-- is text, whatever it is; in brackets `>` closes, and no other byte counts
abbrev pub mode_after : Mode → ℕ → Mode
mode_after mode.Outside b = cond (eqb b 34) mode.Quoted (cond (eqb b 60) mode.Bracketed mode.Outside)
mode_after mode.Quoted b = cond (eqb b 92) mode.Escaped (cond (eqb b 34) mode.Outside mode.Quoted)
mode_after mode.Escaped b = mode.Quoted
mode_after mode.Bracketed b = cond (eqb b 62) mode.Outside mode.Bracketed

abbrev pub is_outside : Mode → Bool
is_outside mode.Outside = true
is_outside mode.Quoted = false
is_outside mode.Escaped = false
is_outside mode.Bracketed = false

-- whether the byte b cuts
abbrev pub is_cut : Mode → ℕ → Bool
is_cut m b = eqb b 59 && is_outside m

-- the segments of bytes of which the first is read so; a cut stands outside, and so does the byte after it
unfoldable pub segments_in : Mode → List ℕ → List (List ℕ)
segments_in m [] = [] ∷ []
segments_in m (b ∷ s) = cond (is_cut m b) ([] ∷ segments_in mode.Outside s) (on_head b (segments_in (mode_after m b) s))

-- the segments of a value
abbrev pub tag_segments : List ℕ → List (List ℕ)
tag_segments v = segments_in mode.Outside v

-- whether a semicolon is held in quotes or in brackets
unfoldable pub holds_in : Mode → List ℕ → Bool
holds_in m [] = false
holds_in m (b ∷ s) = (eqb b 59 && not (is_outside m)) || holds_in (mode_after m b) s

abbrev pub holds_semicolon : List ℕ → Bool
holds_semicolon v = holds_in mode.Outside v

-- ---- the tag

-- `tag=`
abbrev pub tag_eq : List ℕ
tag_eq = 116 ∷ 97 ∷ 103 ∷ 61 ∷ []

-- it begins with `tag=`, letter case ignored
unfoldable pub is_tag : List ℕ → Bool
is_tag t = same (take 4 t) tag_eq

-- the tag of a segment that stands at `at` and has one
abbrev pub tag_at : ℕ → List ℕ → Piece
tag_at at g = record { place = at + blanks g + 4; text = drop 4 (trimmed g) }

-- the tag of the first segment that has one; the first segment stands at `at`, and one byte stands between two
unfoldable pub first_tag : ℕ → List (List ℕ) → Option Piece
first_tag at [] = None
first_tag at (g ∷ gs) = cond (is_tag (trimmed g)) (Some (tag_at at g)) (first_tag (at + length g + 1) gs)

abbrev pub tag_of : List ℕ → Option Piece
tag_of v = first_tag 0 (tag_segments v)

-- `extract_tag`: 1, 2, 4
unfoldable pub extract_tag : LimitSet → List ℕ → Result Piece Refusal
extract_tag L v = refuse_by (value_cause L v) (or_refuse MissingHeader (tag_of v))

-- ---- the answers, case by case

abbrev pub part_of : Option Piece → Option Span
part_of None = None
part_of (Some p) = Some (span_of p)

abbrev pub part_answer : Result Piece Refusal → Result Span Refusal
part_answer (Err cause) = Err cause
part_answer (Ok p) = Ok (span_of p)

-- ---- steps of the code

-- how long the first segment is
unfoldable pub cut_length : Mode → List ℕ → ℕ
cut_length m [] = 0
cut_length m (b ∷ s) = cond (is_cut m b) 0 (suc (cut_length (mode_after m b) s))
