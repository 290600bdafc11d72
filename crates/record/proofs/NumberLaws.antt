-- The code's numbers for given ones say just those. Assumes nothing.
use Prim.Native.Nat.{ℕ}
use mathlib.Core.Path.{◌≡◌, refl}
use Rattle.std.specs.Prelude.{None, Option, Some}
use Rattle.record.specs.NumbersForm.{meaning, state_in, number_in, side_in, state_from, number_from, side_from, numbers_from}
use Rattle.record.specs.Record.{State, early, confirmed, terminated, Side, uac, uas, Numbers}

pub state_same : (x : State) → state_in (state_from x) ≡ x
state_same early = refl
state_same confirmed = refl
state_same terminated = refl

pub number_same : (o : Option ℕ) → number_in (number_from o) ≡ o
number_same None = refl
number_same (Some n) = refl

pub side_same : (o : Option Side) → side_in (side_from o) ≡ o
side_same None = refl
side_same (Some uac) = refl
side_same (Some uas) = refl

pub meaning_same : (x : Numbers) → meaning (numbers_from x) ≡ x
meaning_same x = rw (state_same x.state, number_same x.last_ack, number_same x.seconds, side_same x.refresher)
