-- `sip_dialog_remove` meets its contract: what is handed over is what `run_with` leaves. Assumes nothing.
use mathlib.Core.Path.{sym}
use lib.ListN.{length}
use Rattle.limits.specs.Limits.{rust_limits}
use Rattle.dialog_id.specs.Ident.{ident}
use Rattle.book.specs.Calls.{remove}
use Rattle.c_store_answers.proofs.ReturnLaws.{counted_returns, moved, moved_value}
use Rattle.book.specs.Returned.{count_after}
use Rattle.book.proofs.SettingLaws.{run_asking_none}
use Rattle.book.specs.Store.{Left}
use Rattle.sip_dialog.proofs.stores.sip_dialog_remove.Goals as goal

pub returns : goal.returns
returns c =
    let a = c.args in
    let d = remove (length a.store.now) (ident a.call_id.now a.local_tag.now a.remote_tag.now) in
    let q = run_asking_none a.settings a.store.now a.used.now (sym c.if-not-in_bounds.ensures) d tt in
    let old = counted_returns rust_limits d a.store.now a.used.now _ _ _ _ _ c.remove.ensures.value (c.remove.ensures.bytes_after) c.give_counted.ensures in
    record { returns = moved q old.0; terminated_after = moved_value (λ (l : Left). count_after l.answer a.terminated.now) q old.1 }
