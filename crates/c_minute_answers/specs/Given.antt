-- Document 02, request 10. What a C caller of `sip_dialog_worst_minute` gets: the number that is returned, and what the lent numbers then hold, by what `worst_in` (worst_minute/specs/Calls.antt)
-- comes to. A lent number keeps its value except where its answer is given.
use Rattle.std.specs.Prelude.{ℕ, Err, None, Ok, Option, Result, Some}
use Rattle.limits.specs.Outcome.{number_in}
use Rattle.limits.specs.declared.Refusal.{Refusal}
use Rattle.worst_minute.specs.Minute.{Minute}
use Rattle.c_answers.specs.Given.{Gives}

-- how many refusals, whether there is a start (1 or 0), and the start
pub record MinuteNumbers : Type 0 where
  pub refusals : ℕ
  pub found : ℕ
  pub start : ℕ

-- "An empty run gives 0 and no start"
abbrev pub found_after : Option Minute → MinuteNumbers → MinuteNumbers
found_after None old = record { refusals = 0; found = 0; start = old.start }
found_after (Some m) old = record { refusals = m.refusals; found = 1; start = m.start }

abbrev pub minute_after : Result (Option Minute) Refusal → MinuteNumbers → MinuteNumbers
minute_after (Err cause) old = old
minute_after (Ok o) old = found_after o old

abbrev pub MinuteGives : Result (Option Minute) Refusal → MinuteNumbers → ℕ → MinuteNumbers → Type 0
MinuteGives o old r left = Gives (number_in o) (minute_after o old) r left

-- ---- a step of the code: the answer handed over

abbrev pub worst_after : Result (Option (ℕ × ℕ)) Refusal → MinuteNumbers → MinuteNumbers
worst_after (Ok (Some (n, t))) old = record { refusals = n; found = 1; start = t }
worst_after (Ok None) old = record { refusals = 0; found = 0; start = old.start }
worst_after (Err cause) old = old

abbrev pub WorstGives : Result (Option (ℕ × ℕ)) Refusal → MinuteNumbers → ℕ → MinuteNumbers → Type 0
WorstGives answer old r left = Gives (number_in answer) (worst_after answer old) r left
