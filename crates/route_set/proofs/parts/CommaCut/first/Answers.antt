use Rattle.route_set.proofs.PartLaws.{first_cuts}
use Rattle.route_set.proofs.parts.CommaCut.first.Goals as goal

pub returns : goal.returns
returns c = first_cuts c.args.s.now _ c.part_length.ensures.value
