-- `sip_dialog_set_session_expires` meets its contract: what is handed over is what `run_with` leaves. Assumes nothing.
use mathlib.Core.Path.{sym}
use lib.ListN.{length}
use Rattle.limits.specs.Limits.{rust_limits}
use Rattle.dialog_id.specs.Ident.{ident}
use Rattle.book.specs.Calls.{interval, update}
use Rattle.book.specs.Returned.{least_after}
use Rattle.book.proofs.SettingLaws.{run_asking_none}
use Rattle.c_store_answers.proofs.ReturnLaws.{least_returns, moved, moved_value}
use Rattle.book.specs.Store.{Left}
use Rattle.sip_dialog.proofs.stores.sip_dialog_set_session_expires.Goals as goal

pub returns : goal.returns
returns c =
    let a = c.args in
    let d = update (length a.store.now) (interval (ident a.call_id.now a.local_tag.now a.remote_tag.now) a.seconds) in
    let q = run_asking_none a.settings a.store.now a.used.now (sym c.if-not-in_bounds.ensures) d tt in
    let old = least_returns rust_limits d a.store.now a.used.now _ _ _ _ _ c.set_session_expires.ensures.value (c.set_session_expires.ensures.bytes_after) c.give_with_least.ensures in
    record { returns = moved q old.0; least_after = moved_value (λ (l : Left). least_after l.answer a.least.now) q old.1 }
