use Prim.Native.Nat.{◌≤◌, ◌<◌}
use mathlib.Core.Path.{◌≡◌}
use lib.ListN.{length}
use Rattle.msg.specs.Block.{lines_since, lines_of}
use Rattle.msg.specs.Lines.{lines_ahead}
use Rattle.msg.proofs.LookupLaws.{lines_left}
use Rattle.msg.proofs.line_since.Given as goal

abbrev pub invariant-loop-line : goal.invariant-loop-line
invariant-loop-line l =
    (l.at ≤ length l.block)
    × (l.at < l.from)
    × (lines_left l.block l.at ≡ lines_ahead l.line-iterator)
    × (lines_since l.from (lines_of l.block) ≡ lines_since l.from (lines_left l.block l.at))
