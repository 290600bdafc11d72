use Prim.Native.Nat.{◌-◌}
use Rattle.worst_minute.proofs.WindowLaws.{Moving}
use Rattle.worst_minute.proofs.counting.moved.Given as goal

abbrev pub invariant-loop-start : goal.invariant-loop-start
invariant-loop-start l = Moving l.run l.at l.t l.initial.from l.from l.start l.refusals

abbrev pub decreases-loop-start : goal.decreases-loop-start
decreases-loop-start l = l.at - l.from
