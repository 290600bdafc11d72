-- `sip_dialog_next_local_cseq` meets its contract: what is handed over is what `run_with` leaves. Assumes nothing.
use mathlib.Core.Path.{sym}
use lib.ListN.{length}
use Rattle.limits.specs.Limits.{rust_limits}
use Rattle.dialog_id.specs.Ident.{ident}
use Rattle.c_store_answers.proofs.ValueLaws.{raised_returns}
use Rattle.book.specs.Calls.{local_number, update}
use Rattle.book.specs.Returned.{number_after}
use Rattle.book.proofs.SettingLaws.{run_asking_none}
use Rattle.c_store_answers.proofs.ReturnLaws.{moved, moved_value}
use Rattle.book.specs.Store.{Left}
use Rattle.sip_dialog.proofs.stores.sip_dialog_next_local_cseq.Goals as goal

pub returns : goal.returns
returns c =
    let a = c.args in
    let i = ident a.call_id.now a.local_tag.now a.remote_tag.now in
    let q = run_asking_none a.settings a.store.now a.used.now (sym c.if-not-in_bounds.ensures) (update (length a.store.now) (local_number i)) tt in
    let old = raised_returns rust_limits (length a.store.now) i a.store.now a.used.now _ _ _ _ _ c.next_local_cseq.ensures.value c.next_local_cseq.ensures.bytes_after c.give_with_used.ensures in
    record { returns = moved q old.0; number_after = moved_value (λ (l : Left). number_after l.answer a.number.now) q old.1 }
