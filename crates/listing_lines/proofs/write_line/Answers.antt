-- `listing_lines::write_line` meets its contract: three parts of three columns are the line. Assumes nothing.
use native.Mathlib.Omega.{arith}
use Rattle.listing_lines.proofs.LineLaws.{three_columns, line_written}
use Rattle.listing_lines.specs.Steps.{head_part, sequence_part, interval_part}
use Rattle.record.specs.NumbersForm.{meaning}
use Rattle.listing_lines.proofs.write_line.Goals as goal

pub returns : goal.returns
returns c =
    let a = c.args in
    let x = meaning a.numbers in
    let p : _ × _ = three_columns 0 27 63 63 (head_part a.position x.state a.we_are_uac) (sequence_part x.local x.remote x.last_ack) (interval_part x.seconds a.routes) a.out.now (omega arith) (c.write_head-a.ensures.value, c.write_head-a.ensures.out_after) (c.write_sequence-b.ensures.value, c.write_sequence-b.ensures.out_after) (c.write_interval.ensures.value, c.write_interval.ensures.out_after) in
    let w : _ × (_ × _) = line_written a.position a.routes x a.we_are_uac a.out.now p in
    record { value = w.0; upper_bound = w.1.0; out_after = w.1.1 }
