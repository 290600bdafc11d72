use Prim.Native.Nat.{◌<◌}
use mathlib.Core.Path.{◌≡◌}
use lib.ListN.{drop}
use Rattle.text.specs.Number.{digits_below}
use Rattle.text.proofs.Digits.{scan}
use Rattle.text.proofs.number.digits_below.Given as goal

abbrev pub invariant-loop-b : goal.invariant-loop-b
invariant-loop-b l = (l.v < l.bound) × (digits_below l.bound l.s ≡ scan l.bound l.v (drop l.b-index l.s))
