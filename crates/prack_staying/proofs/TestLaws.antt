-- The test of a cleanup, by an entry's bytes. Assumes nothing.
use Prim.Native.Nat.{ℕ, ◌-◌, ◌*◌}
use mathlib.Core.Path.{◌≡◌, refl}
use mathlib.Core.Bool.{Bool, true, false}
use lib.Dec.{leb}
use Rattle.limits.specs.Limits.{LimitSet}
use Rattle.prack_body.specs.Lists.{Pending, stays}
use Rattle.prack_body.specs.Layout.{to_bit}

module _ (L : LimitSet) (time : ℕ) (p : Pending) where
  -- another stays while it is not older than the timeout
  pub young : (to_bit p.acknowledged ≡ 1 → ⊥) → leb (time - p.registered_at) (L.timeout * 1000000000) ≡ stays L time p
  young e = by p.acknowledged refl
    where
      by : (b : Bool) → p.acknowledged ≡ b → leb (time - p.registered_at) (L.timeout * 1000000000) ≡ stays L time p
      by true q = absurd (e (rw q))
      by false q = rw q
