-- The elements of a header value that commas separate (RFC 3261 section 7.3.1), as the Rust's `split_header_values` cuts them:
-- a comma cuts outside quotes and angle brackets; every `"` opens or closes quotes, also after a backslash and in brackets;
-- `<` and `>` count in quotes too, which RFC 3261 section 25.1 would not have. Elements are trimmed, and empty ones are none.
use Rattle.std.specs.Prelude.{ℕ, ◌+◌, ◌-◌, Bool, false, cond, not, ◌&&◌, List, [], ◌∷◌, length, drop, leb, eqb, None, Ok, Option, Result, Some}
use Rattle.limits.specs.Limits.{LimitSet}
use Rattle.limits.specs.Outcome.{refuse_by}
use Rattle.limits.specs.declared.Refusal.{Refusal}
use Rattle.text.specs.Text.{on_head, trimmed, Piece, trimmed_piece}
use Rattle.text.specs.Number.{non_empty}
use Rattle.text.specs.Answers.{value_cause, Stop, span_of}
use Rattle.text.specs.declared.Span.{Span}

-- ---- where a comma cuts

-- whether the byte b cuts, inside quotes or not and at a depth of angle brackets
abbrev pub is_cut : Bool → ℕ → ℕ → Bool
is_cut quoted depth b = eqb b 44 && (not quoted && eqb depth 0)

abbrev pub quote_after : Bool → ℕ → Bool
quote_after quoted b = cond (eqb b 34) (not quoted) quoted

-- no depth is below 0
abbrev pub depth_after : ℕ → ℕ → ℕ
depth_after depth b = cond (eqb b 60) (depth + 1) (cond (eqb b 62) (depth - 1) depth)

-- the segments between cuts; after a cut neither quotes nor brackets are open
unfoldable pub segments : Bool → ℕ → List ℕ → List (List ℕ)
segments quoted depth [] = [] ∷ []
segments quoted depth (b ∷ s) =
    cond (is_cut quoted depth b) ([] ∷ segments false 0 s) (on_head b (segments (quote_after quoted b) (depth_after depth b) s))

-- ---- the elements

-- the elements in segments of which the first stands at `at`; one byte stands between two segments
unfoldable pub elements : ℕ → List (List ℕ) → List Piece
elements at [] = []
elements at (g ∷ gs) = cond (non_empty (trimmed g)) (trimmed_piece at g ∷ elements (at + length g + 1) gs) (elements (at + length g + 1) gs)

-- `split_header_values`: all elements of a value, in order
abbrev pub header_values : List ℕ → List Piece
header_values v = elements 0 (segments false 0 v)

-- the segments that start at a place: none past the end
abbrev pub segments_from : List ℕ → ℕ → List (List ℕ)
segments_from v at = cond (leb at (length v)) (segments false 0 (drop at v)) []

-- the first element, and the place after the comma that ends it
unfoldable pub first_element : ℕ → List (List ℕ) → Option Stop
first_element at [] = None
first_element at (g ∷ gs) =
    cond (non_empty (trimmed g)) (Some (record { piece = trimmed_piece at g; next = at + length g + 1 })) (first_element (at + length g + 1) gs)

-- the first element of a value from a place on
abbrev pub element_from : List ℕ → ℕ → Option Stop
element_from v from = first_element from (segments_from v from)

-- 1, 2; then the next element from a place on, or nothing
unfoldable pub next_header_value : LimitSet → List ℕ → ℕ → Result (Option Stop) Refusal
next_header_value L v from = refuse_by (value_cause L v) (Ok (element_from v from))

-- the answer of the reading without refusals
abbrev pub part_from : Option Stop → Option (Span × ℕ)
part_from None = None
part_from (Some e) = Some (span_of e.piece, e.next)
