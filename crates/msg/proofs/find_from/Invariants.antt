use mathlib.Core.Path.{◌≡◌}
use Rattle.msg.specs.Block.{first_named}
use Rattle.msg.specs.Lines.{lines_ahead}
use Rattle.msg.proofs.LookupLaws.{lines_left}
use Rattle.msg.proofs.find_from.Given as goal

abbrev pub invariant-loop-line : goal.invariant-loop-line
invariant-loop-line l = first_named l.name (lines_left l.block l.from) ≡ first_named l.name (lines_ahead l.line-iterator)
