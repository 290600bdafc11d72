use Prim.Native.Nat.{◌-◌}
use lib.ListN.{length}
use Rattle.store.proofs.WalkLaws.{Going}
use Rattle.store.proofs.read_records.Given as goal

abbrev pub invariant-loop-at : goal.invariant-loop-at
invariant-loop-at l = Going l.bytes l.at l.count

abbrev pub decreases-loop-at : goal.decreases-loop-at
decreases-loop-at l = length l.bytes - l.at
