-- Document 01, "Handover listing": a line per record, then the total. A line has nine columns with a space between them: "position, state
-- letter (E, C, T), side, local, remote, last ACK, seconds, refresh second, route count; absent is `-`, but local and remote numbers print 0
-- when their bits don't stand". Positions are counted from 1. Document 02, request 8: the refresh second is half of the seconds, "halves to the
-- nearest second, a half going to the even one".
use Rattle.std.specs.Prelude.{ℕ, suc, ◌+◌, ◌*◌, ◌-◌, ◌≤◌, ◌/◌, ◌%◌, ◌≡◌, ◌⊎◌, Bool, true, false, List, [], ◌∷◌, ◌++◌, length, ltb, None, Option, Result, Some}
use Rattle.limits.specs.Limits.{LimitSet}
use Rattle.limits.specs.Outcome.{cause_if, refuse_by, and_then, or_refuse}
use Rattle.limits.specs.Refusal.{number_of}
use Rattle.limits.specs.declared.Refusal.{Refusal}
use Rattle.limits.specs.declared.Refusal.TheVariants.{TextTooLong, BadStore}
use Rattle.output.specs.Decimal.{decimal_of}
use Rattle.output.specs.Output.{fitted}
use Rattle.record.specs.Record.{State, early, confirmed, terminated, Numbers, Record}
use Rattle.record.specs.Store.{decode_all}

-- ---- the columns

-- E, C, T
abbrev pub state_letter : State → List ℕ
state_letter early = 69 ∷ []
state_letter confirmed = 67 ∷ []
state_letter terminated = 84 ∷ []

-- `uac`, `uas`
abbrev pub side_text : Bool → List ℕ
side_text true = 117 ∷ 97 ∷ 99 ∷ []
side_text false = 117 ∷ 97 ∷ 115 ∷ []

-- `-` where the number is absent
abbrev pub or_dash : Option ℕ → List ℕ
or_dash None = 45 ∷ []
or_dash (Some n) = decimal_of n

-- How far two numbers are apart.
abbrev pub apart : ℕ → ℕ → ℕ
apart a b = (a - b) + (b - a)

-- h is half of n to the nearest whole number, and the even one of two that are as near. All is said of twice the number, since n may be odd.
pub record NearestHalf (n h : ℕ) : Type 0 where
  pub nearest : (k : ℕ) → apart (2 * h) n ≤ apart (2 * k) n
  pub even_of_two : (k : ℕ) → apart (2 * k) n ≡ apart (2 * h) n → (k ≡ h) ⊎ (h % 2 ≡ 0)

-- That half: rounded down, and one more where n is three above a multiple of four, since the lower one is odd there (`nearest_half`).
abbrev pub half_to_even : ℕ → ℕ
half_to_even n = n / 2 + n % 4 / 3

-- the refresh second of a number of seconds
abbrev pub refresh_second : Option ℕ → Option ℕ
refresh_second None = None
refresh_second (Some n) = Some (half_to_even n)

abbrev pub columns_of : ℕ → Numbers → Bool → ℕ → List (List ℕ)
columns_of position x we_are_uac routes =
    decimal_of position
    ∷ state_letter x.state
    ∷ side_text we_are_uac
    ∷ decimal_of x.local
    ∷ decimal_of x.remote
    ∷ or_dash x.last_ack
    ∷ or_dash x.seconds
    ∷ or_dash (refresh_second x.seconds)
    ∷ decimal_of routes
    ∷ []

abbrev pub columns : ℕ → Record → List (List ℕ)
columns position r = columns_of position r.numbers r.we_are_uac (length r.routes)

-- ---- the lines

-- columns with a space between them, and a line feed at the end
unfoldable pub line_of : List (List ℕ) → List ℕ
line_of [] = 10 ∷ []
line_of (c ∷ []) = c ++ (10 ∷ [])
line_of (c ∷ d ∷ more) = c ++ (32 ∷ line_of (d ∷ more))

-- a line for each record, the first at a position
unfoldable pub lines_from : ℕ → List Record → List ℕ
lines_from position [] = []
lines_from position (r ∷ rs) = line_of (columns position r) ++ lines_from (suc position) rs

-- `total` and the number of records
abbrev pub total_line : ℕ → List ℕ
total_line n = line_of ((116 ∷ 111 ∷ 116 ∷ 97 ∷ 108 ∷ []) ∷ decimal_of n ∷ [])

unfoldable pub listing_of : List Record → List ℕ
listing_of rs = lines_from 1 rs ++ total_line (length rs)

-- ---- the operation

-- 1 over 65,536 bytes, 3, 18; then the text
unfoldable pub listing : LimitSet → List ℕ → ℕ → Result (List ℕ) Refusal
listing L s room =
    refuse_by (cause_if (ltb L.listed_store (length s)) TextTooLong)
    (and_then (or_refuse BadStore (decode_all s)) (λ rs. fitted room (listing_of rs)))

-- what the program prints of a refused store: `refused` and the number
abbrev pub refused_line : Refusal → List ℕ
refused_line cause = line_of ((114 ∷ 101 ∷ 102 ∷ 117 ∷ 115 ∷ 101 ∷ 100 ∷ []) ∷ decimal_of (number_of cause) ∷ [])
