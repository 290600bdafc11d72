use Prim.Native.Nat.{◌-◌}
use lib.ListN.{length}
use Rattle.worst_minute.proofs.CountLaws.{Counting}
use Rattle.worst_minute.proofs.counting.count.Given as goal

abbrev pub invariant-loop-at : goal.invariant-loop-at
invariant-loop-at l = Counting l.run l.w (record { start = l.start; refusals = l.most }) l.last l.at

abbrev pub decreases-loop-at : goal.decreases-loop-at
decreases-loop-at l = length l.run - l.at
