-- `compare` of an entry meets the trait's contract: its texts against those asked for. Assumes nothing.
use Rattle.std.proofs.Common.{ap, ◌∙◌}
use Rattle.ordered_store.specs.Order.{key_order}
use Rattle.dialog_id.specs.Ident.{Ident}
use Rattle.dialog_id.specs.IdTexts.{ident_of}
use Rattle.rseq_entries.specs.Entries.{key_of_ident}
use Rattle.rseq_entries.proofs.OrderLaws.{texts_order}
use Rattle.rseq_entries.proofs.entries.EntryAtKeyedByIdTexts.compare.Goals as goal

pub returns : goal.returns
returns c =
    let a = c.texts.result in
    let b = c.args.key in
    c.cmp.ensures
    ∙ (texts_order a.call_id.now a.local_tag.now a.remote_tag.now b.call_id.now b.local_tag.now b.remote_tag.now
    ∙ ap (λ (i : Ident). key_order (key_of_ident i) (key_of_ident (ident_of b))) c.texts.ensures)
