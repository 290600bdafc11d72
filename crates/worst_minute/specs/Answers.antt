-- Document 02, request 10. What the two calls and a step of theirs answer, as the enums that the code hands on.
use Rattle.limits.specs.declared.Refusal.{Refusal}
use Rattle.std.specs.Prelude.{List, Err, None, Ok, Option, Result, Some, ℕ}
use Rattle.worst_minute.specs.Minute.{Verdict, Minute}
use Rattle.worst_minute.specs.Calls.{last_time}

-- `worst_minute`
abbrev pub worst_of : Option Minute → Result (Option (ℕ × ℕ)) Refusal
worst_of None = Ok None
worst_of (Some m) = Ok (Some (m.refusals, m.start))

abbrev pub worst_answer : Result (Option Minute) Refusal → Result (Option (ℕ × ℕ)) Refusal
worst_answer (Err cause) = Err cause
worst_answer (Ok o) = worst_of o

-- ---- steps of the code

-- the worst 60 s of a run that isn't empty
abbrev pub some_worst : Result (ℕ × ℕ) Refusal → Result (Option (ℕ × ℕ)) Refusal
some_worst (Err cause) = Err cause
some_worst (Ok m) = Ok (Some m)

-- the last time of a run that was read
abbrev pub last_of : Option (List Verdict) → Option ℕ
last_of None = None
last_of (Some vs) = Some (last_time 0 vs)
