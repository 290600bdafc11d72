-- `route_section::write_routes` meets its contract: the texts filled in their order, and the count put before them. Assumes nothing.
use native.Mathlib.Omega.{arith}
use mathlib.Core.Path.{◌≡◌, ap, ◌∙◌}
use lib.ListN.{length}
use Rattle.route_section.specs.Section.{section_in}
use Rattle.route_section.proofs.FillingLaws.{answered_held, answered_refused}
use Rattle.route_section.proofs.SectionLaws.{Read, routes_read, routes_refused, unwritten, nothing_written, room, written_some}
use Rattle.route_section.proofs.write_routes.Goals as goal
use Rattle.route_section.proofs.write_routes.Given.{Over}
use Rattle.route_section.proofs.write_routes.Goals.{In-Ok}

-- the routes that were read
read : (g : Over) (c : In-Ok g) → Read g.O.Order.reversed c.args.block.now c.args.out.now (record { count = c.in-Ok.count; size = c.in-Ok.field-0-1; bytes = c.fill_routes.new.out })
read g c = routes_read g.O.Order.reversed c.args.block.now c.args.out.now _ (answered_held _ _ _ _ _ c.fill_routes.ensures.answered c.in-Ok.is)

pub returns-in_default : goal.returns-in_default
returns-in_default g c = nothing_written _ _ (ap (section_in g.O.Order.reversed) (routes_refused g.O.Order.reversed c.args.block.now c.args.out.now _ (answered_refused _ _ _ _ c.fill_routes.ensures.answered c.in_default.is))) (c.fill_routes.auto.out ∙ c.requires.1)

pub write_byte-requires : goal.write_byte-requires
write_byte-requires g c =
    let k : length c.fill_routes.new.out ≡ length c.args.out.now = c.fill_routes.auto.out in
    omega (arith, k, room _ _ _ _ (read g (goal.at.write_byte-requires g c).In-Ok) c.requires.1 (omega arith))

pub returns-then-count-gt0 : goal.returns-then-count-gt0
returns-then-count-gt0 g c = (c.write_byte.ensures.out_after) ∙ written_some _ _ _ _ (read g (goal.at.returns-then-count-gt0 g c).In-Ok) c.requires.1 (omega arith)

pub returns-else-count-gt0 : goal.returns-else-count-gt0
returns-else-count-gt0 g c = nothing_written _ _ (unwritten _ _ _ _ (read g (goal.at.returns-else-count-gt0 g c).In-Ok) (omega arith)) (c.fill_routes.auto.out ∙ c.requires.1)
