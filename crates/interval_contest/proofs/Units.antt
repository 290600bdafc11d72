-- Seconds and nanoseconds: what the negotiation gives for whole seconds, given as nanoseconds, is the contest's answer, as nanoseconds. Assumes nothing.
use Prim.Native.Nat.{ℕ, min, max}
use native.Mathlib.Omega.{arith}
use mathlib.Core.Path.{◌≡◌, refl}
use mathlib.Core.Bool.{Bool, true, false, cond}
use lib.Dec.{ltb}
use borrow.Author.Tests.{ltb-true, ltb-false, lt-ltb, le-ltb}
use Rattle.std.specs.Prelude.{Err, Ok, Some}
use Rattle.limits.specs.declared.Refusal.TheVariants.{SessionExpiresTooSmall}
use Rattle.session_timer_manager.specs.Intervals.{seconds, negotiated}
use Rattle.interval_contest.specs.Contest.{Offer, Callee, answer, in_nanos}

larger : (a b : ℕ) → max (seconds a) (seconds b) ≡ seconds (max a b)
larger a b = omega arith

smaller : (a b : ℕ) → min (seconds a) (seconds b) ≡ seconds (min a b)
smaller a b = omega arith

longer : (a b : ℕ) → ltb (seconds a) (seconds b) ≡ ltb a b
longer a b = by (ltb a b) refl
  where
    by : (t : Bool) → ltb a b ≡ t → ltb (seconds a) (seconds b) ≡ ltb a b
    by true h = let k = ltb-true a b h in rw h (lt-ltb (seconds a) (seconds b) (omega arith))
    by false h = let k = ltb-false a b h in rw h (le-ltb (seconds a) (seconds b) (omega arith))

same : (t : Bool) (least interval : ℕ) → cond t (Err (SessionExpiresTooSmall (seconds least))) (Ok (seconds interval)) ≡ in_nanos (cond t (Err (SessionExpiresTooSmall least)) (Ok interval))
same true least interval = refl
same false least interval = refl

pub in_nanoseconds : (offer : Offer) (callee : Callee)
    → negotiated (seconds offer.requested) (seconds callee.minimum) (Some (seconds offer.min_se)) (Some (seconds callee.preference)) ≡ in_nanos (answer offer callee)
unfolding negotiated
in_nanoseconds offer callee =
    let least = max callee.minimum offer.min_se in
    rw (larger callee.minimum offer.min_se, longer offer.requested least, larger callee.preference least, smaller offer.requested (max callee.preference least))
    (same (ltb offer.requested least) least (min offer.requested (max callee.preference least)))
