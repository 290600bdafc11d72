use mathlib.Core.Path.{◌≡◌}
use lib.ListN.{drop}
use Rattle.ordered_store.specs.Order.{order}
use Rattle.ordered_store.proofs.compare.Given as goal

abbrev pub invariant-loop-i : goal.invariant-loop-i
invariant-loop-i l = order l.a l.b ≡ order (drop l.i l.a) (drop l.i l.b)
