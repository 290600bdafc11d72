-- The measure is how much of the line is left.
use Rattle.std.proofs.Common.{length}
use Rattle.replay_lines.proofs.texts.joined.Given as goal

abbrev pub decreases-loop-rest : goal.decreases-loop-rest
decreases-loop-rest l = length l.rest
