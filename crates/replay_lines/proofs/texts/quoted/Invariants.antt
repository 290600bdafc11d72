-- The measure is how much of the line is left.
use Rattle.std.proofs.Common.{length, ◌≤◌}
use Rattle.replay_lines.proofs.texts.quoted.Given as goal

abbrev pub invariant-loop-rest : goal.invariant-loop-rest
invariant-loop-rest l = length l.rest ≤ length l.line

abbrev pub decreases-loop-rest : goal.decreases-loop-rest
decreases-loop-rest l = length l.rest
