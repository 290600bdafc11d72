-- `holding::insert` meets its contract: the tail moved, then text and body written before it. Assumes nothing.
use mathlib.Core.Path.{refl}
use Rattle.prack_entries.proofs.WriteLaws.{inserted}
use Rattle.prack_entries.proofs.holding.insert.Goals as goal

pub returns : goal.returns
returns c =
    let a = c.args in
    let w : _ × _ = inserted a.id.now a.body.now a.bytes.now a.used a.at c.requires.at_le_used.0 c.requires.at_le_used.1 refl c.if-bytes-used.false c.move_tail-n.ensures.value c.move_tail-n.ensures.bytes_after c.move_tail-n.auto.bytes (c.write_text-behind.ensures.value, c.write_text-behind.ensures.out_after) c.put.ensures in
    record { value = w.0; bytes_after = w.1 }
