-- `listing_lines::write_sequence` meets its contract: three columns. Assumes nothing.
use native.Mathlib.Omega.{arith}
use Rattle.listing_lines.proofs.LineLaws.{three_columns}
use Rattle.listing_lines.specs.Steps.{spaced}
use Rattle.listing_lines.specs.Listing.{or_dash}
use Rattle.record.specs.NumbersForm.{number_in}
use Rattle.output.specs.Decimal.{decimal_of}
use Rattle.listing_lines.proofs.write_sequence.Goals as goal

pub returns : goal.returns
returns c =
    let a = c.args in
    let w : _ × _ = three_columns a.at 21 21 21 (spaced (decimal_of a.local)) (spaced (decimal_of a.remote)) (spaced (or_dash (number_in a.last_ack))) a.out.now (omega arith) (c.write_number-a.ensures.value, c.write_number-a.ensures.out_after) (c.write_number-b.ensures.value, c.write_number-b.ensures.out_after) (c.write_optional.ensures.value, c.write_optional.ensures.out_after) in
    record { value = w.0; out_after = w.1 }
