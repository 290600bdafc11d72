-- What RFC 4028 asks of the intervals, as facts about the definitions. Assumes nothing.
use Prim.Native.Nat.{ℕ, ◌≤◌, ◌+◌, ◌*◌, ◌/◌}
use native.Mathlib.Omega.{arith}
use mathlib.Core.Path.{◌≡◌, refl, sym}
use mathlib.Core.Bool.{Bool, true, false}
use lib.Dec.{leb, ltb}
use borrow.Author.Tests.{ltb-false, le-leb, lt-leb, leb-true, leb-false}
use Rattle.std.specs.Prelude.{None, Ok, Option, Some}
use Rattle.session_timer_manager.specs.Intervals.{joint_minimum, reduced, negotiated_from, negotiated, non_refresher_expiry, refresh_time}

-- section 9: a reduced interval is no shorter than the minimum and no longer than the requested one
reduced_within : (minimum requested : ℕ) (preference : Option ℕ) → minimum ≤ requested → (minimum ≤ reduced minimum requested preference) × (reduced minimum requested preference ≤ requested)
reduced_within minimum requested None h = (omega arith, omega arith)
reduced_within minimum requested (Some preference) h = (omega arith, omega arith)

taken_within : (minimum requested : ℕ) (preference : Option ℕ) (agreed : ℕ) → negotiated_from minimum requested preference ≡ Ok agreed → (minimum ≤ agreed) × (agreed ≤ requested)
taken_within minimum requested preference agreed e = by (ltb requested minimum) refl
  where
    by : (t : Bool) → ltb requested minimum ≡ t → (minimum ≤ agreed) × (agreed ≤ requested)
    by true h = let r = rw h at e in absurd (let z : ◌≡◌ {A = ℕ} 0 1 = cc in omega arith)
    by false h =
        let r = rw h at e in
        let same : reduced minimum requested preference ≡ agreed = cc in
        rw same at (reduced_within minimum requested preference (ltb-false _ _ h))

-- and so is an interval that is agreed on; its minimum is the larger of both sides'
pub agreed_within : (requested local : ℕ) (remote preference : Option ℕ) (agreed : ℕ) → negotiated requested local remote preference ≡ Ok agreed → (joint_minimum local remote ≤ agreed) × (agreed ≤ requested)
unfolding negotiated
agreed_within requested local remote preference agreed e = taken_within (joint_minimum local remote) requested preference agreed e

-- sections 7.2, 9 and 10: a refresh, at the half or at two thirds, is due no later than the other side gives the session up
pub refresh_in_time : (interval : ℕ) → (refresh_time interval ≤ non_refresher_expiry interval) × (interval * 2 / 3 ≤ non_refresher_expiry interval)
refresh_in_time interval = (omega arith, omega arith)

-- ---- two thirds without a division: i an interval, e what has elapsed

pub thirds_passed : (i e : ℕ) → i ≤ e → leb (i * 2 / 3) e ≡ true
thirds_passed i e h = le-leb (i * 2 / 3) e (omega (arith, h))

pub thirds_before : (i e : ℕ) → leb (i * 2) (e * 3 + 2) ≡ leb (i * 2 / 3) e
thirds_before i e = by (leb (i * 2) (e * 3 + 2)) refl
  where
    by : (t : Bool) → leb (i * 2) (e * 3 + 2) ≡ t → t ≡ leb (i * 2 / 3) e
    by true p = sym (le-leb (i * 2 / 3) e (omega (arith, leb-true (i * 2) (e * 3 + 2) p)))
    by false p = sym (lt-leb (i * 2 / 3) e (omega (arith, leb-false (i * 2) (e * 3 + 2) p)))
