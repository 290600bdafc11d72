-- The refusals that every reading of a text shares, and the answers of look-ups.
-- Document 01, "Turned back": 1 for a "given text or block over 8,192 bytes", 2 for a "block, or value given alone, not of this form".
use Rattle.std.specs.Prelude.{ℕ, Bool, not, List, length, ltb, Err, None, Ok, Option, Result, Some}
use Rattle.limits.specs.Limits.{LimitSet}
use Rattle.limits.specs.Outcome.{cause_if, or_else}
use Rattle.limits.specs.declared.Refusal.{Refusal}
use Rattle.limits.specs.declared.Refusal.TheVariants.{TextTooLong, Malformed}
use Rattle.text.specs.Text.{is_value, all, Piece}
use Rattle.text.specs.declared.Span.{Span}

abbrev pub too_long : LimitSet → List ℕ → Bool
too_long L s = ltb L.text (length s)

-- 1
abbrev pub length_cause : LimitSet → List ℕ → Option Refusal
length_cause L s = cause_if (too_long L s) TextTooLong

-- 1, then 2: a value given alone
unfoldable pub value_cause : LimitSet → List ℕ → Option Refusal
value_cause L s = or_else (length_cause L s) (cause_if (not (all is_value s)) Malformed)

-- a piece, and the place from which the next is asked for
pub record Stop : Type 0 where
  pub piece : Piece
  pub next : ℕ

-- where a piece stands
abbrev pub span_of : Piece → Span
span_of p = record { start = p.place; length = length p.text }

-- the answers of look-ups, case by case
abbrev pub lookup_of : Result (Option Piece) Refusal → Result (Option Span) Refusal
lookup_of (Err cause) = Err cause
lookup_of (Ok None) = Ok None
lookup_of (Ok (Some p)) = Ok (Some (span_of p))

abbrev pub next_of : Result (Option Stop) Refusal → Result (Option (Span × ℕ)) Refusal
next_of (Err cause) = Err cause
next_of (Ok None) = Ok None
next_of (Ok (Some p)) = Ok (Some (span_of p.piece, p.next))
