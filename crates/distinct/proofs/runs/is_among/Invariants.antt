use Rattle.std.proofs.Common.{◌-◌}
use Rattle.distinct.specs.Keys.{key_at}
use Rattle.distinct.proofs.Searches.{Between}
use Rattle.distinct.proofs.runs.is_among.Given as goal

abbrev pub invariant-loop-low : goal.invariant-loop-low
invariant-loop-low l = Between l.bytes (key_at l.bytes l.q) l.run l.low l.high

abbrev pub decreases-loop-low : goal.decreases-loop-low
decreases-loop-low l = l.high - l.low
