-- `listing_lines::write_head` meets its contract: three columns. Assumes nothing.
use native.Mathlib.Omega.{arith}
use Rattle.listing_lines.proofs.LineLaws.{three_columns}
use Rattle.listing_lines.specs.Steps.{spaced}
use Rattle.listing_lines.specs.Listing.{state_letter, side_text}
use Rattle.record.specs.NumbersForm.{state_in}
use Rattle.output.specs.Decimal.{decimal_of}
use Rattle.listing_lines.proofs.write_head.Goals as goal

pub returns : goal.returns
returns c =
    let a = c.args in
    let w : _ × _ = three_columns a.at 21 2 4 (spaced (decimal_of a.position)) (spaced (state_letter (state_in a.state))) (spaced (side_text a.we_are_uac)) a.out.now (omega arith) (c.write_number-a.ensures.value, c.write_number-a.ensures.out_after) (c.write_state-b.ensures.value, c.write_state-b.ensures.out_after) (c.write_side.ensures.value, c.write_side.ensures.out_after) in
    record { value = w.0; out_after = w.1 }
