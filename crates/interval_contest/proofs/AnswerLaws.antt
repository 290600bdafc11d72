-- What each callee answers to an offer within the bounds, first and at the retry, by its numbers. Assumes nothing.
use Prim.Native.Nat.{◌≤◌, ◌<◌, min, max}
use native.Mathlib.Omega.{arith}
use mathlib.Core.Path.{◌≡◌, ap, ◌∙◌}
use borrow.Author.Tests.{lt-ltb, le-ltb}
use Rattle.std.specs.Prelude.{Err, None, Ok, Some}
use Rattle.limits.specs.Limits.{LimitSet}
use Rattle.limits.specs.declared.Refusal.TheVariants.{SessionExpiresTooSmall}
use Rattle.session_timer_manager.specs.Intervals.{negotiated}
use Rattle.interval_contest.specs.Contest.{Offer, Callee, answer, answer_at, retry_answer}

-- the request, reduced to the preference, but not below either minimum: a callee whose minimum is no larger than the request
pub taken : (offer : Offer) (callee : Callee) → offer.min_se ≤ offer.requested → callee.minimum ≤ offer.requested
    → answer offer callee ≡ Ok (min offer.requested (max callee.preference (max callee.minimum offer.min_se)))
unfolding negotiated
taken offer callee h k = rw (le-ltb offer.requested (max callee.minimum offer.min_se) (omega arith))

-- 13 with the callee's minimum, where that is above the request
pub turned_back : (offer : Offer) (callee : Callee) → offer.min_se ≤ offer.requested → offer.requested < callee.minimum → answer offer callee ≡ Err (SessionExpiresTooSmall callee.minimum)
unfolding negotiated
turned_back offer callee h k =
    let larger : max callee.minimum offer.min_se ≡ callee.minimum = omega arith in
    rw (larger, lt-ltb offer.requested callee.minimum k)

-- a callee who is offered its own minimum as request and Min-SE takes it
pub own_minimum : (callee : Callee) → answer (record { requested = callee.minimum; min_se = callee.minimum }) callee ≡ Ok callee.minimum
own_minimum callee = taken (record { requested = callee.minimum; min_se = callee.minimum }) callee (omega arith) (omega arith) ∙ ap Ok (omega arith)

module _ (L : LimitSet) (offer : Offer) (callee : Callee) (ordered : offer.min_se ≤ offer.requested) where
  -- after an interval there is no retry
  pub no_retry : callee.minimum ≤ offer.requested → answer_at L retry_answer offer callee ≡ None
  no_retry h = rw (taken offer callee ordered h)

  -- after 13 with a minimum that may be asked for, the retry's answer is that minimum
  pub retried : offer.requested < callee.minimum → callee.minimum ≤ L.max_expires → answer_at L retry_answer offer callee ≡ Some (Ok callee.minimum)
  retried h k = rw (turned_back offer callee ordered h, le-ltb L.max_expires callee.minimum k) (ap Some (own_minimum callee))

  -- after 13 with a minimum above the most there is no retry
  pub past_the_most : offer.requested < callee.minimum → L.max_expires < callee.minimum → answer_at L retry_answer offer callee ≡ None
  past_the_most h k = rw (turned_back offer callee ordered h, lt-ltb L.max_expires callee.minimum k)
