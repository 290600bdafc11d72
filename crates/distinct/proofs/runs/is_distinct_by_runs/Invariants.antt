use Rattle.std.proofs.Common.{length, ◌-◌, ◌≡◌}
use Rattle.codec.proofs.CodecLaws.{Bytes}
use Rattle.distinct.proofs.RunLaws.{Rest}
use Rattle.distinct.proofs.runs.is_distinct_by_runs.Given as goal

abbrev pub invariant-loop-at : goal.invariant-loop-at
invariant-loop-at l = (length l.places ≡ length l.initial.places) × (length l.scratch ≡ length l.initial.scratch) × ((b : Bytes l.bytes) → Rest l.bytes b l.at)

abbrev pub decreases-loop-at : goal.decreases-loop-at
decreases-loop-at l = length l.bytes - l.at
