-- What the contest leaves out would change nothing: a callee below 90 s answers as one raised to 90 s does, since M is at least that; and a callee
-- without a preference answers as one that prefers R does. Assumes nothing.
use Prim.Native.Nat.{ℕ, min, max}
use native.Mathlib.Omega.{arith}
use mathlib.Core.Path.{◌≡◌}
use Rattle.std.specs.Prelude.{None, Some}
use Rattle.limits.specs.Limits.{LimitSet, rust_limits}
use Rattle.session_timer_manager.specs.Intervals.{negotiated}
use Rattle.interval_contest.specs.Contest.{Offer, Within, Callee, Permitted, answer}

-- 89 s is no minimum and no preference of a callee, 90 s is both
pub no_minimum_of_89 : (preference : ℕ) → Permitted rust_limits (record { minimum = 89; preference = preference }) → ⊥
no_minimum_of_89 preference p = omega (arith, p.minimum_least)

pub no_preference_of_89 : (minimum : ℕ) → Permitted rust_limits (record { minimum = minimum; preference = 89 }) → ⊥
no_preference_of_89 minimum p = omega (arith, p.preference_least)

pub both_of_90 : Permitted rust_limits (record { minimum = 90; preference = 90 })
both_of_90 = record { minimum_least = omega arith; preference_least = omega arith }

-- a callee, each of its numbers raised to the least
abbrev pub raised : LimitSet → Callee → Callee
raised L callee = record { minimum = max callee.minimum L.min_expires; preference = max callee.preference L.min_expires }

module _ (L : LimitSet) (offer : Offer) (within : Within L offer) (callee : Callee) where
  pub raised_permitted : Permitted L (raised L callee)
  raised_permitted = record { minimum_least = omega arith; preference_least = omega arith }

  pub raised_answers : answer offer callee ≡ answer offer (raised L callee)
  unfolding negotiated
  raised_answers =
      let least = within.least in
      let joint : max (max callee.minimum L.min_expires) offer.min_se ≡ max callee.minimum offer.min_se = omega arith in
      let preferred : max (max callee.preference L.min_expires) (max callee.minimum offer.min_se) ≡ max callee.preference (max callee.minimum offer.min_se) = omega arith in
      rw (joint, preferred)

  pub without_preference : negotiated offer.requested callee.minimum (Some offer.min_se) None ≡ answer offer (record { minimum = callee.minimum; preference = offer.requested })
  unfolding negotiated
  without_preference =
      let whole : min offer.requested (max offer.requested (max callee.minimum offer.min_se)) ≡ offer.requested = omega arith in
      rw whole
