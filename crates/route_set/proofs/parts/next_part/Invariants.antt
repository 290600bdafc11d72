use mathlib.Core.Path.{◌≡◌}
use mathlib.Core.Bool.{false}
use Rattle.text.specs.Segments.{pieces_left}
use Rattle.route_set.specs.Parts.{segments, element_from}
use Rattle.route_set.proofs.PartLaws.{element_among}
use Rattle.route_set.proofs.parts.next_part.Given as goal

abbrev pub invariant-loop-g : goal.invariant-loop-g
invariant-loop-g l = element_from l.value l.from ≡ element_among (pieces_left (segments false 0) l.g-iterator.text.now l.g-iterator.at)
