-- `ascends` of an entry meets the trait's contract: the order of its texts and the next one's. Assumes nothing.
use Rattle.std.proofs.Common.{◌≡◌, ap, ◌∙◌, rules}
use Rattle.ordered_store.specs.Order.{key_order}
use Rattle.dialog_id.specs.Ident.{Ident}
use Rattle.dialog_id.specs.IdTexts.{ident_of}
use Rattle.rseq_entries.specs.Entries.{key_of_ident}
use Rattle.rseq_entries.specs.Places.{key_at}
use Rattle.rseq_entries.proofs.OrderLaws.{texts_order}
use Rattle.rseq_entries.proofs.entries.EntryAtEntry.ascends.Goals as goal

pub returns : goal.returns
returns c =
    let a = c.texts.result in
    let b = c.texts-2.result in
    let e : c.cmp.result ≡ key_order (key_at c.args.bytes.now c.args.self) (key_at c.args.bytes.now c.args.next) =
    c.cmp.ensures
    ∙ (texts_order a.call_id.now a.local_tag.now a.remote_tag.now b.call_id.now b.local_tag.now b.remote_tag.now
    ∙ (ap (λ (i : Ident). key_order (key_of_ident i) (key_of_ident (ident_of b))) c.texts.ensures
    ∙ ap (λ (i : Ident). key_order (key_at c.args.bytes.now c.args.self) (key_of_ident i)) c.texts-2.ensures)) in
    search rules
