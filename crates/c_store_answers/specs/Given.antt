-- What a C caller of the calls on a store gets (document 01, "Turned back" and "The book of demand 3"). The contracts say it by `run_with` (book/specs/Store.antt)
-- of the call as data; here a short form of that, and a step of the code: what a put and a removal hand over.
use Rattle.std.specs.Prelude.{ℕ, List, length, Err, Ok, Result}
use Rattle.limits.specs.Outcome.{number_in}
use Rattle.limits.specs.declared.Refusal.{Refusal}
use Rattle.limits.specs.declared.settings.Settings.{Settings}
use Rattle.metrics.specs.Metrics.{counted}
use Rattle.book.specs.Calls.{Call, Reading, count}
use Rattle.book.specs.Store.{Left, run_with}
use Rattle.c_answers.specs.Given.{Gives}

-- what a call leaves that is given these settings and lent these bytes, so many of them used
abbrev pub left_by : Settings → (ℕ → Call) → List ℕ → ℕ → Left
left_by s call bytes used = run_with s (call (length bytes)) bytes used

-- the count of the records, as a reading
abbrev pub counting : Reading
counting = count

-- ---- a step of the code: the used length and the count after a put or a removal; both keep their values where the call is refused

pub record CountedNumbers : Type 0 where
  pub used : ℕ
  pub count : ℕ

abbrev pub counted_after : Result ℕ Refusal → CountedNumbers → CountedNumbers
counted_after (Ok n) old = record { used = n; count = counted old.count }
counted_after (Err cause) old = old

abbrev pub CountedGives : Result ℕ Refusal → CountedNumbers → ℕ → CountedNumbers → Type 0
CountedGives answer old r left = Gives (number_in answer) (counted_after answer old) r left
