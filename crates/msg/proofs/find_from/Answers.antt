-- `msg::find_from` meets its contract: at each turn the first line of the name is the first in the lines left. Assumes nothing.
use mathlib.Core.Path.{sym, ap, ◌∙◌}
use Rattle.msg.specs.Block.{found_of}
use Rattle.msg.proofs.LookupLaws.{first_miss, first_here, first_none}
use Rattle.msg.proofs.find_from.Goals as goal

pub returns-then-is_named : goal.returns-then-is_named
returns-then-is_named c = c.found.ensures ∙ ap found_of (sym (c.loop-line.invariant ∙ first_here _ _ _ _ c.in-Some.ensures.steps (sym c.is_named.ensures ∙ c.if-is_named.true)))

pub loop-line-preserved : goal.loop-line-preserved
loop-line-preserved c = c.loop-line.invariant ∙ first_miss _ _ _ _ c.in-Some.ensures.steps (sym c.is_named.ensures ∙ c.if-is_named.false)

pub returns : goal.returns
returns c = ap found_of (sym (c.loop-line.invariant ∙ first_none _ _ c.in-None.ensures.steps.0))
