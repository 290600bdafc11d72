-- `writing::insert` meets its contract: the tail moved, and the entry written before it. Assumes nothing.
use Prim.Native.Nat.{◌+◌}
use native.Mathlib.Omega.{arith}
use mathlib.Core.Path.{◌≡◌}
use lib.ListN.{length}
use Rattle.dialog_id.specs.IdTexts.{ident_of}
use Rattle.rseq_entries.specs.Entries.{entry_form}
use Rattle.rseq_manager.specs.RSeq.{numbered}
use Rattle.rseq_entries.proofs.FormLaws.{entry_size_lem}
use Rattle.rseq_manager.proofs.WriteLaws.{inserted}
use Rattle.rseq_manager.proofs.writing.insert.Goals as goal

pub returns : goal.returns
returns c =
    let a = c.args in
    let z : 6 + (length a.id.call_id.now + length a.id.local_tag.now + length a.id.remote_tag.now) + 4 ≡ length (entry_form.write (numbered (ident_of a.id) a.number)) = omega (arith, entry_size_lem (numbered (ident_of a.id) a.number)) in
    let old : _ × _ = inserted a.bytes.now (entry_form.write (numbered (ident_of a.id) a.number)) a.used a.at c.requires.at_le_used.0 c.requires.at_le_used.1 a.number z c.if-bytes-used.false c.move_tail-n.ensures.value (c.move_tail-n.ensures.bytes_after) c.write_entry.ensures in
    record { value = old.0; bytes_after = old.1 }
