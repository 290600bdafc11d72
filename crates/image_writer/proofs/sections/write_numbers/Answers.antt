-- `image_writer::write_numbers` meets its contract: the five numbers one after another. Assumes nothing.
use native.Mathlib.Omega.{arith}
use mathlib.Core.Path.{◌≡◌}
use lib.Dec.{ltb}
use Rattle.std.proofs.Common.{rules}
use Rattle.edit.proofs.EditLaws.{wrote_as}
use Rattle.image_writer.proofs.FieldLaws.{side_as_number, wrote_five}
use Rattle.record.specs.Record.{is_given, number, optional, refresher_field}
use Rattle.record.specs.NumbersForm.{number_in, side_in, meaning}
use Rattle.image_writer.proofs.sections.write_numbers.Goals as goal
use Rattle.image_writer.proofs.sections.write_numbers.Goals.{After-map-who}

-- who refreshes is written as the number that it has
same : (c : After-map-who) → (optional (is_given (number_in c.map-who.result))).write (number_in c.map-who.result) ≡ (refresher_field (is_given (side_in c.args.x.refresher))).write (side_in c.args.x.refresher)
same c = side_as_number c.args.x.refresher c.map-who.result c.map-who.ensures.cases (λ s k q. search rules)

pub returns : goal.returns
returns c =
    let a = c.args in
    let x = meaning a.x in
    let w : _ × _ = wrote_five a.at ((number (ltb 0 x.local)).write x.local) ((number (ltb 0 x.remote)).write x.remote) ((optional (is_given x.last_ack)).write x.last_ack) ((optional (is_given x.seconds)).write x.seconds) ((refresher_field (is_given x.refresher)).write x.refresher) a.out.now (omega arith)
    (c.write_number-a.ensures.value, c.write_number-a.ensures.out_after) (c.write_number-b.ensures.value, c.write_number-b.ensures.out_after) (c.write_optional-c.ensures.value, c.write_optional-c.ensures.out_after) (c.write_optional-d.ensures.value, c.write_optional-d.ensures.out_after)
    (wrote_as c.write_optional-d.result c.write_optional-d.new.out (same (goal.at.returns c).After-map-who) (c.write_optional.ensures.value, c.write_optional.ensures.out_after)) in
    record { value = w.0; out_after = w.1 }
