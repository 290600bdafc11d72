-- `pushing::write_entry` meets its contract: six pieces one after another. Assumes nothing.
use Rattle.prack_list.proofs.PushLaws.{wrote_entry}
use native.Mathlib.Omega.{arith}
use Rattle.prack_list.proofs.pushing.write_entry.Goals as goal

pub returns : goal.returns
returns c =
    let a = c.args in
    let old : _ × _ = wrote_entry a.at a.response.rseq a.response.cseq a.response.method a.response.code a.response.time a.out.now (omega arith) (c.write_four-a.ensures.value, c.write_four-a.ensures.out_after) (c.write_four-b.ensures.value, c.write_four-b.ensures.out_after) (c.write_byte-m.ensures.value, c.write_byte-m.ensures.out_after) (c.write_two-d.ensures.value, c.write_two-d.ensures.out_after) (c.write_byte-k.ensures.value, c.write_byte-k.ensures.out_after) (c.write_eight.ensures.value, c.write_eight.ensures.out_after) in
    record { value = old.0; out_after = old.1 }
