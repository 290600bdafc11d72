-- The arguments and answers of this crate's functions as values of its enums. Document 01, "The shape of each place": a refusal's number and value are those of
-- its cause, `number_of` and `least_of` of the crate `limits`; an accepted call's number is 0.
use denote.Ref.{Bor}
use Rattle.limits.specs.declared.Refusal.{Refusal}
use Rattle.std.specs.Prelude.{ℕ, Bool, cond, List, Err, None, Ok, Option, Result, Some}

-- ---- arguments that may be absent

abbrev pub time_of : Option ℕ → Option ℕ
time_of (Some n) = Some n
time_of None = None

abbrev pub seconds_of : Option ℕ → Option ℕ
seconds_of (Some n) = Some n
seconds_of None = None

abbrev pub text_if : Bool → List ℕ → Option (List ℕ)
text_if present text = cond present (Some text) None

abbrev pub text_in : Option (Bor (List ℕ)) → Option (List ℕ)
text_in (Some text) = Some text.now
text_in None = None

-- ---- answers

abbrev pub interval_from : Result ℕ Refusal → Result ℕ Refusal
interval_from (Err cause) = Err cause
interval_from (Ok n) = Ok n

abbrev pub role_from : Result Bool Refusal → Result Bool Refusal
role_from (Err cause) = Err cause
role_from (Ok we) = Ok we
