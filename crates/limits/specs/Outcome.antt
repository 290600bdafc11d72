-- What a call comes to: refused for a cause of the table in document 01, "Turned back", or a value. Causes are tried in an order; the first that is true
-- refuses the call.
use Rattle.std.specs.Prelude.{ℕ, Bool, cond, Err, None, Ok, Option, Result, Some}
use Rattle.limits.specs.Refusal.{number_of}
use Rattle.limits.specs.declared.Refusal.{Refusal}

-- ---- causes

-- the cause, where the test holds
abbrev pub cause_if : Bool → Refusal → Option Refusal
cause_if test cause = cond test (Some cause) None

-- the first cause, or else the second
abbrev pub or_else : Option Refusal → Option Refusal → Option Refusal
or_else None second = second
or_else (Some cause) second = Some cause

-- refused where there is a cause, otherwise what follows
abbrev pub refuse_by : {A : Type 0} → Option Refusal → Result A Refusal → Result A Refusal
refuse_by None rest = rest
refuse_by (Some cause) rest = Err cause

-- refused where the test holds, otherwise what follows
abbrev pub refuse_if : {A : Type 0} → Bool → Refusal → Result A Refusal → Result A Refusal
refuse_if test cause rest = cond test (Err cause) rest

-- ---- outcomes

-- the second reading goes on from what the first gave
abbrev pub and_then : {A B : Type 0} → Result A Refusal → (A → Result B Refusal) → Result B Refusal
and_then (Err cause) f = Err cause
and_then (Ok a) f = f a

-- what was read, or a refusal where nothing was
abbrev pub or_refuse : {A : Type 0} → Refusal → Option A → Result A Refusal
or_refuse cause None = Err cause
or_refuse cause (Some a) = Ok a

-- ---- answers

-- the number that is returned: 0 where the call is accepted
abbrev pub number_in : {A : Type 0} → Result A Refusal → ℕ
number_in (Err cause) = number_of cause
number_in (Ok a) = 0

-- the answer of a check
abbrev pub check_of : Option Refusal → Result (Unit {0}) Refusal
check_of None = Ok tt
check_of (Some cause) = Err cause
