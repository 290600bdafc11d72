-- `listing_lines::write_number` meets its contract: the digits are the number in decimal. Assumes nothing.
use native.Mathlib.Omega.{arith}
use mathlib.Core.Path.{◌≡◌, ap, ◌∙◌}
use lib.ListN.{length, take}
use Rattle.listing_lines.proofs.LineLaws.{column}
use Rattle.output.proofs.DecimalLaws.{decimal_is, twenty_digits}
use Rattle.output.specs.Decimal.{decimal_of}
use Rattle.listing_lines.proofs.write_number.Goals as goal

pub returns : goal.returns
returns c =
    let a = c.args in
    let d = c.decimal-k in
    let t : take d.result d.new.out ≡ decimal_of a.n = d.ensures.digits ∙ decimal_is a.n d.result d.ensures.len in
    let w : _ × _ = column a.at 20 a.after (take d.result d.new.out) (decimal_of a.n) a.out.now t (omega (arith, ap length t, twenty_digits a.n (omega arith))) c.write_text.ensures.value c.write_text.ensures.out_after in
    record { value = w.0; out_after = w.1 }
