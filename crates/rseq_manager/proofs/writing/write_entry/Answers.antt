-- `writing::write_entry` meets its contract: the three texts one after another, then the number. Assumes nothing.
use Rattle.dialog_id.specs.IdTexts.{ident_of}
use Rattle.rseq_manager.specs.RSeq.{numbered}
use Rattle.rseq_entries.proofs.FormLaws.{entry_size_lem}
use Rattle.rseq_manager.proofs.WriteLaws.{wrote_entry}
use native.Mathlib.Omega.{arith}
use Rattle.rseq_manager.proofs.writing.write_entry.Goals as goal

pub returns : goal.returns
returns c =
    let a = c.args in
    wrote_entry a.at a.bytes.now (ident_of a.id) a.number (omega (arith, entry_size_lem (numbered (ident_of a.id) a.number))) (omega (arith, entry_size_lem (numbered (ident_of a.id) a.number), c.write_text-a.auto.out, c.write_text-a.ensures.value)) (c.write_text-a.ensures.value, c.write_text-a.ensures.out_after) (c.write_text-b.ensures.value, c.write_text-b.ensures.out_after) (c.write_text-c.ensures.value, c.write_text-c.ensures.out_after) (c.write_four.ensures.out_after)
