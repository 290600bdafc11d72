-- Document 02, request 12. What a C caller of the interval contest gets: the number, and what the lent numbers then hold. A lent number keeps its value except where
-- its answer is given: the two ends of an extent where there is one, and of a refusal the minimum of 13.
use Rattle.std.specs.Prelude.{ℕ, Err, None, Ok, Option, Result, Some}
use Rattle.std.specs.Int.{from_bool}
use Rattle.std.specs.Option.{is_some}
use Rattle.limits.specs.Limits.{LimitSet}
use Rattle.limits.specs.Outcome.{number_in}
use Rattle.limits.specs.declared.Refusal.{Refusal}
use Rattle.interval_contest.specs.Contest.{Offer, Extent, Power, Settles}
use Rattle.c_answers.specs.Given.{Gives, least_after}

pub record ContestNumbers : Type 0 where
  pub has_first : ℕ
  pub first_least : ℕ
  pub first_most : ℕ
  pub has_retry : ℕ
  pub retry_least : ℕ
  pub retry_most : ℕ
  pub only_requested : ℕ
  pub least : ℕ

-- the ends of an extent; where there is none, the two numbers are kept
abbrev pub least_in : Option Extent → ℕ → ℕ
least_in (Some e) old = e.least
least_in None old = old

abbrev pub most_in : Option Extent → ℕ → ℕ
most_in (Some e) old = e.most
most_in None old = old

abbrev pub contest_after : Result Power Refusal → ContestNumbers → ContestNumbers
contest_after (Ok power) old = record {
  has_first = from_bool (is_some power.first);
  first_least = least_in power.first old.first_least;
  first_most = most_in power.first old.first_most;
  has_retry = from_bool (is_some power.retry);
  retry_least = least_in power.retry old.retry_least;
  retry_most = most_in power.retry old.retry_most;
  only_requested = from_bool power.only_requested;
  least = old.least;
}
contest_after (Err cause) old = record {
  has_first = old.has_first;
  first_least = old.first_least;
  first_most = old.first_most;
  has_retry = old.has_retry;
  retry_least = old.retry_least;
  retry_most = old.retry_most;
  only_requested = old.only_requested;
  least = least_after cause old.least;
}

abbrev pub ContestGives : Result Power Refusal → ContestNumbers → ℕ → ContestNumbers → Type 0
ContestGives outcome old r left = Gives (number_in outcome) (contest_after outcome old) r left

-- what is handed over is what settles the offer; there is exactly one (`settled` and `settled_only`, interval_contest/proofs/Settled.antt)
pub record ContestGiven (L : LimitSet) (offer : Offer) (old : ContestNumbers) (r : ℕ) (left : ContestNumbers) : Type 0 where
  pub outcome : Result Power Refusal
  pub settles : Settles L offer outcome
  pub gives : ContestGives outcome old r left
