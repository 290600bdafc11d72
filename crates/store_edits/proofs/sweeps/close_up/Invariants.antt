use Prim.Native.Nat.{◌-◌}
use lib.ListN.{length}
use Rattle.store_edits.proofs.SweepLaws.{Closing}
use Rattle.store_edits.proofs.sweeps.close_up.Given as goal

abbrev pub invariant-loop-at : goal.invariant-loop-at
invariant-loop-at l = Closing l.initial.bytes (length l.initial.bytes) l.bytes l.at l.to

abbrev pub decreases-loop-at : goal.decreases-loop-at
decreases-loop-at l = length l.bytes - l.at
