use Rattle.std.proofs.Common.{length, ◌-◌}
use Rattle.codec.proofs.CodecLaws.{Bytes}
use Rattle.distinct.proofs.RunLaws.{Passed}
use Rattle.distinct.proofs.runs.is_apart.Given as goal

abbrev pub invariant-loop-q : goal.invariant-loop-q
invariant-loop-q l = (b : Bytes l.bytes) → Passed l.bytes b l.run l.from l.q

abbrev pub decreases-loop-q : goal.decreases-loop-q
decreases-loop-q l = length l.bytes - l.q
