-- Steps of the code: the answers of the functions on the store that write, case by case (document 01, "Turned back"). What they are is `run`
-- (book/specs/Store.antt).
use Rattle.limits.specs.declared.Refusal.{Refusal}
use Rattle.std.specs.Prelude.{ℕ, Err, Ok, Result}
use Rattle.book.specs.Calls.{Answer}
use Rattle.book.specs.Store.{Left}
use Rattle.book.specs.Returned.{length_after}

-- the used length of an accepted call, or the cause
abbrev pub written_by : ℕ → Answer → Result ℕ Refusal
written_by n (Err cause) = Err cause
written_by n (Ok v) = Ok n

abbrev pub written_in : Left → Result ℕ Refusal
written_in l = written_by l.used l.answer

-- how many bytes of the output were written, or the cause
abbrev pub ids_written : Answer → Result ℕ Refusal
ids_written (Err cause) = Err cause
ids_written (Ok v) = Ok (length_after (Ok v) 0)
