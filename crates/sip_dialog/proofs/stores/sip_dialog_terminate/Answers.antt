-- `sip_dialog_terminate` meets its contract: what is handed over is what `run_with` leaves. Assumes nothing.
use mathlib.Core.Path.{sym}
use lib.ListN.{length}
use Rattle.limits.specs.Limits.{rust_limits}
use Rattle.dialog_id.specs.Ident.{ident}
use Rattle.book.specs.Calls.{terminate, update}
use Rattle.book.proofs.SettingLaws.{run_asking_none}
use Rattle.c_store_answers.proofs.ReturnLaws.{written_returns, moved}
use Rattle.sip_dialog.proofs.stores.sip_dialog_terminate.Goals as goal

pub returns : goal.returns
returns c =
    let a = c.args in
    let d = update (length a.store.now) (terminate (ident a.call_id.now a.local_tag.now a.remote_tag.now)) in
    let q = run_asking_none a.settings a.store.now a.used.now (sym c.if-not-in_bounds.ensures) d tt in
    moved q (written_returns rust_limits d a.store.now a.used.now _ _ _ _ c.terminate.ensures.value (c.terminate.ensures.bytes_after) c.give.ensures)
