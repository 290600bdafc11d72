use Rattle.std.proofs.Common.{length, ◌-◌, ◌≡◌}
use Rattle.codec.proofs.CodecLaws.{Bytes}
use Rattle.distinct.proofs.RunLaws.{Gathering}
use Rattle.distinct.proofs.runs.gather.Given as goal

abbrev pub invariant-loop-count : goal.invariant-loop-count
invariant-loop-count l = (length l.places ≡ length l.initial.places) × ((b : Bytes l.bytes) → Gathering l.bytes b l.from l.places l.count l.at)

abbrev pub decreases-loop-count : goal.decreases-loop-count
decreases-loop-count l = length l.initial.places - l.count
