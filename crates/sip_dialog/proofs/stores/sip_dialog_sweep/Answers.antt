-- `sip_dialog_sweep` meets its contract: what is handed over is what `run_with` leaves. Assumes nothing.
use mathlib.Core.Path.{sym}
use lib.ListN.{length}
use Rattle.limits.specs.Limits.{rust_limits}
use Rattle.book.specs.Calls.{sweep}
use Rattle.c_store_answers.proofs.ReturnLaws.{written_returns, moved}
use Rattle.book.proofs.SettingLaws.{run_asking_none}
use Rattle.sip_dialog.proofs.stores.sip_dialog_sweep.Goals as goal

pub returns : goal.returns
returns c =
    let a = c.args in
    let q = run_asking_none a.settings a.store.now a.used.now (sym c.if-not-in_bounds.ensures) (sweep (length a.store.now)) tt in
    moved q (written_returns rust_limits (sweep (length a.store.now)) a.store.now a.used.now _ _ _ _ c.sweep.ensures.value (c.sweep.ensures.bytes_after) c.give.ensures)
