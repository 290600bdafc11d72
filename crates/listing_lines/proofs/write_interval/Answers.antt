-- `listing_lines::write_interval` meets its contract: three columns. Assumes nothing.
use native.Mathlib.Omega.{arith}
use mathlib.Core.Path.{sym}
use Rattle.listing_lines.proofs.LineLaws.{three_columns}
use Rattle.listing_lines.specs.Steps.{spaced, ended}
use Rattle.listing_lines.specs.Listing.{or_dash}
use Rattle.record.specs.NumbersForm.{number_in}
use Rattle.output.specs.Decimal.{decimal_of}
use Rattle.listing_lines.proofs.write_interval.Goals as goal

pub returns : goal.returns
returns c =
    let a = c.args in
    let h = c.refresh_second-half in
    let w : _ × _ = three_columns a.at 21 21 21 (spaced (or_dash (number_in a.seconds))) (spaced (or_dash (number_in h.result))) (ended (decimal_of a.routes)) a.out.now (omega arith) (c.write_optional-a.ensures.value, c.write_optional-a.ensures.out_after) (c.write_optional-b.ensures.value, c.write_optional-b.ensures.out_after) (c.write_number.ensures.value, c.write_number.ensures.out_after) in
    record { value = rw (sym h.ensures) w.0; out_after = rw (sym h.ensures) w.1 }
