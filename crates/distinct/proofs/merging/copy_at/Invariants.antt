use Prim.Native.Nat.{◌≤◌}
use mathlib.Core.Path.{◌≡◌}
use lib.ListN.{length}
use lib.Seq.{paste}
use Rattle.distinct.proofs.merging.copy_at.Given as goal

abbrev pub invariant-loop-k : goal.invariant-loop-k
invariant-loop-k l = (l.k ≤ length l.piece) × ((l.out ≡ paste l.initial.out l.at l.piece l.k) × (length l.out ≡ length l.initial.out))
