-- The methods that `parse_method` of prack_validator.rs knows, in its order: document 01, refusal 28, numbers them from 1.
-- RFC 3261 tells method names apart by letter case (sections 20.16 and 25.1); the Rust, and so this reading, doesn't.
use Rattle.std.specs.Prelude.{ℕ, suc, ◌-◌, Bool, cond, not, List, [], ◌∷◌, get_or, Err, None, Ok, Option, Result, Some}
use Rattle.limits.specs.Limits.{LimitSet}
use Rattle.limits.specs.Outcome.{cause_if, refuse_by}
use Rattle.limits.specs.declared.Refusal.{Refusal}
use Rattle.limits.specs.declared.Refusal.TheVariants.{InvalidMethod}
use Rattle.text.specs.Text.{within, same}
use Rattle.text.specs.Answers.{length_cause}
use Rattle.output.specs.Output.{fitted}

-- the names, in the order of their numbers
unfoldable pub method_names : List (List ℕ)
method_names =
    -- 1: INVITE
    (73 ∷ 78 ∷ 86 ∷ 73 ∷ 84 ∷ 69 ∷ [])
    -- 2: ACK
    ∷ (65 ∷ 67 ∷ 75 ∷ [])
    -- 3: BYE
    ∷ (66 ∷ 89 ∷ 69 ∷ [])
    -- 4: CANCEL
    ∷ (67 ∷ 65 ∷ 78 ∷ 67 ∷ 69 ∷ 76 ∷ [])
    -- 5: REGISTER
    ∷ (82 ∷ 69 ∷ 71 ∷ 73 ∷ 83 ∷ 84 ∷ 69 ∷ 82 ∷ [])
    -- 6: OPTIONS
    ∷ (79 ∷ 80 ∷ 84 ∷ 73 ∷ 79 ∷ 78 ∷ 83 ∷ [])
    -- 7: INFO
    ∷ (73 ∷ 78 ∷ 70 ∷ 79 ∷ [])
    -- 8: UPDATE
    ∷ (85 ∷ 80 ∷ 68 ∷ 65 ∷ 84 ∷ 69 ∷ [])
    -- 9: MESSAGE
    ∷ (77 ∷ 69 ∷ 83 ∷ 83 ∷ 65 ∷ 71 ∷ 69 ∷ [])
    -- 10: PRACK
    ∷ (80 ∷ 82 ∷ 65 ∷ 67 ∷ 75 ∷ [])
    -- 11: REFER
    ∷ (82 ∷ 69 ∷ 70 ∷ 69 ∷ 82 ∷ [])
    -- 12: SUBSCRIBE
    ∷ (83 ∷ 85 ∷ 66 ∷ 83 ∷ 67 ∷ 82 ∷ 73 ∷ 66 ∷ 69 ∷ [])
    -- 13: NOTIFY
    ∷ (78 ∷ 79 ∷ 84 ∷ 73 ∷ 70 ∷ 89 ∷ [])
    -- 14: PUBLISH
    ∷ (80 ∷ 85 ∷ 66 ∷ 76 ∷ 73 ∷ 83 ∷ 72 ∷ [])
    ∷ []

-- the number of the first name that is the same text, letter case ignored; the first of the names has the number n
unfoldable pub position_from : ℕ → List ℕ → List (List ℕ) → Option ℕ
position_from n s [] = None
position_from n s (name ∷ names) = cond (same s name) (Some n) (position_from (suc n) s names)

-- the number of a method's text
abbrev pub method_of : List ℕ → Option ℕ
method_of s = position_from 1 s method_names

-- one of the fourteen
abbrev pub is_method : ℕ → Bool
is_method number = within 1 14 number

-- the name of a method's number
abbrev pub name_of : ℕ → List ℕ
name_of number = get_or method_names (number - 1) []

-- ---- the operations

-- 1; then the number, or nothing
abbrev pub method_number : LimitSet → List ℕ → Result (Option ℕ) Refusal
method_number L s = refuse_by (length_cause L s) (Ok (method_of s))

-- 28
abbrev pub method_cause : ℕ → Option Refusal
method_cause number = cause_if (not (is_method number)) InvalidMethod

-- 28, then 18; then the name
abbrev pub method_text : ℕ → ℕ → Result (List ℕ) Refusal
method_text number room = refuse_by (method_cause number) (fitted room (name_of number))

-- ---- the answers

abbrev pub method_from : Option ℕ → Option ℕ
method_from None = None
method_from (Some n) = Some n

abbrev pub method_lookup : Result (Option ℕ) Refusal → Result (Option ℕ) Refusal
method_lookup (Err cause) = Err cause
method_lookup (Ok None) = Ok None
method_lookup (Ok (Some n)) = Ok (Some n)
