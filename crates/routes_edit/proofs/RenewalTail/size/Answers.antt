-- The size of a renewal's section. Assumes nothing.
use native.Mathlib.Omega.{arith}
use mathlib.Core.Bool.{true}
use lib.ListN.{length-append}
use Rattle.record.specs.NumbersForm.{meaning}
use Rattle.image_writer.specs.Parts.{numbers_bytes}
use Rattle.route_section.specs.Measured.{given_by}
use Rattle.route_section.specs.Section.{section_in}
use Rattle.image_edit.proofs.RoutesLaws.{measured, measured_size}
use Rattle.routes_edit.proofs.RenewalTail.size.Goals as goal

pub overflow_add-result : goal.overflow_add-result
overflow_add-result c = omega (arith, c.numbers_size.ensures.upper_bound, (measured c.args.self.peer c.args.self.measured).small)

pub returns-clause-value : goal.returns-clause-value
returns-clause-value c =
    let r = c.args.self in
    omega (arith, c.numbers_size.ensures.value, measured_size r.peer, length-append (numbers_bytes (meaning r.numbers)) (section_in true (given_by r.peer)))

pub returns-clause-upper_bound : goal.returns-clause-upper_bound
returns-clause-upper_bound c = omega (arith, c.numbers_size.ensures.upper_bound, (measured c.args.self.peer c.args.self.measured).small)
