-- Steps of the code: what a call answers that gives no more than the new used length, by what `run` (Run.antt) leaves.
use Rattle.limits.specs.declared.Refusal.{Refusal}
use Rattle.std.specs.Prelude.{ℕ, Err, Ok, Result}
use Rattle.ordered_store.specs.Run.{Left}

-- the new used length, or the cause
abbrev pub written_by : {B : Type 0} → Result B Refusal → ℕ → Result ℕ Refusal
written_by (Err cause) used = Err cause
written_by (Ok v) used = Ok used

abbrev pub written_in : {B : Type 0} → Left B → Result ℕ Refusal
written_in l = written_by l.answer l.used

-- the used length after it
abbrev pub used_written : Result ℕ Refusal → ℕ → ℕ
used_written (Err cause) used = used
used_written (Ok after) used = after
