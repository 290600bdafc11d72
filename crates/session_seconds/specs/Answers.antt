-- The answer of this crate's function as a value of its enum. Document 01, "The shape of each place": a refusal's number and value are those of
-- its cause, `number_of` and `least_of` of the crate `limits`; an accepted call's number is 0.
use Rattle.limits.specs.declared.Refusal.{Refusal}
use Rattle.std.specs.Prelude.{ℕ, Err, Ok, Result}

abbrev pub seconds_from : Result ℕ Refusal → Result ℕ Refusal
seconds_from (Err cause) = Err cause
seconds_from (Ok n) = Ok n
