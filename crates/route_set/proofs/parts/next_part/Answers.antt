-- `route_set::next_part` meets its contract: at each turn the first element is that of the segments left. Assumes nothing.
use mathlib.Core.Path.{sym, ap, ◌∙◌}
use Rattle.route_set.specs.Parts.{part_from}
use Rattle.route_set.proofs.PartLaws.{element_among, first_among, element_here, element_later, element_none}
use Rattle.route_set.proofs.parts.next_part.Goals as goal

pub loop-g-init : goal.loop-g-init
loop-g-init c = first_among c.args.from _ ∙ ap element_among (sym (rw c.into_iter-g-iterator.ensures.into_iter_gives c.from-g-items.ensures))

pub returns-then-p-gt0 : goal.returns-then-p-gt0
returns-then-p-gt0 c = rw c.moved.ensures (element_here _ _ _ c.in-Some.ensures.steps _ c.trim_span-p.ensures.value c.if-p-gt0.true ∙ ap part_from (sym c.loop-g.invariant))

pub loop-g-preserved : goal.loop-g-preserved
loop-g-preserved c = c.loop-g.invariant ∙ element_later _ _ _ c.in-Some.ensures.steps _ c.trim_span-p.ensures.value c.if-p-gt0.false

pub returns : goal.returns
returns c = ap part_from (sym (c.loop-g.invariant ∙ element_none _ c.in-None.ensures.steps.0))
