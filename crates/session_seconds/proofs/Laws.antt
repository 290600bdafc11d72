-- What the check of seconds says to its callers. Assumes nothing.
use Prim.Native.Nat.{ℕ, ◌≤◌}
use native.Mathlib.Omega.{arith}
use mathlib.Core.Path.{◌≡◌, refl}
use mathlib.Core.Bool.{Bool, true, false}
use lib.Dec.{ltb}
use borrow.Author.Tests.{ltb-false}
use Rattle.std.specs.Prelude.{Err, None, Ok, Option, Some}
use Rattle.limits.specs.Limits.{LimitSet}
use Rattle.limits.specs.Outcome.{cause_if, or_else, refuse_by}
use Rattle.limits.specs.declared.Refusal.{Refusal}
use Rattle.limits.specs.declared.Refusal.TheVariants.{SessionExpiresTooSmall, SessionExpiresTooLarge}
use Rattle.session_seconds.specs.Answers.{seconds_from}
use Rattle.session_seconds.specs.Seconds.{seconds_cause, checked_seconds}

module _ (limits : LimitSet) (expires : ℕ) where
  -- where there is no cause, the seconds are within both limits
  pub seconds_within : seconds_cause limits expires ≡ None → (limits.min_expires ≤ expires) × (expires ≤ limits.max_expires)
  seconds_within e = by (ltb expires limits.min_expires) refl (ltb limits.max_expires expires) refl e
    where
      by : (t : Bool) → ltb expires limits.min_expires ≡ t → (u : Bool) → ltb limits.max_expires expires ≡ u
          → or_else (cause_if t (SessionExpiresTooSmall limits.min_expires)) (cause_if u SessionExpiresTooLarge) ≡ None → (limits.min_expires ≤ expires) × (expires ≤ limits.max_expires)
      by true p u q e = absurd (let z : ◌≡◌ {A = ℕ} 0 1 = cc in omega arith)
      by false p true q e = absurd (let z : ◌≡◌ {A = ℕ} 0 1 = cc in omega arith)
      by false p false q e = (ltb-false _ _ p, ltb-false _ _ q)

  -- accepted seconds are those that were asked about, and have no cause
  pub seconds_accepted : {n : ℕ} → seconds_from (checked_seconds limits expires) ≡ Ok n → (seconds_cause limits expires ≡ None) × (n ≡ expires)
  unfolding checked_seconds
  seconds_accepted {n} e = by (seconds_cause limits expires) e
    where
      by : (o : Option Refusal) → seconds_from (refuse_by o (Ok expires)) ≡ Ok n → (o ≡ None) × (n ≡ expires)
      by None e = (refl, cc)
      by (Some cause) e = absurd (let z : ◌≡◌ {A = ℕ} 0 1 = cc in omega arith)

  pub seconds_refused : {cause : Refusal} → seconds_from (checked_seconds limits expires) ≡ Err cause → seconds_cause limits expires ≡ Some cause
  unfolding checked_seconds
  seconds_refused {cause} e = by (seconds_cause limits expires) e
    where
      by : (o : Option Refusal) → seconds_from (refuse_by o (Ok expires)) ≡ Err cause → o ≡ Some cause
      by None e = absurd (let z : ◌≡◌ {A = ℕ} 0 1 = cc in omega arith)
      by (Some own) e = cc
