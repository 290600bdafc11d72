-- `sip_dialog_count` meets its contract: what is handed over is the answer of `run_with`. Assumes nothing.
use mathlib.Core.Path.{sym}
use lib.ListN.{length}
use Rattle.limits.specs.Limits.{rust_limits}
use Rattle.codec.proofs.CodecLaws.{bytes_all}
use Rattle.book.specs.Calls.{read, count}
use Rattle.c_store_answers.proofs.ReturnLaws.{reading_returns, moved, moved_value}
use Rattle.c_store_answers.proofs.ValueLaws.{count_answers}
use Rattle.book.specs.Returned.{number_after}
use Rattle.book.proofs.SettingLaws.{run_asking_none}
use Rattle.book.specs.Store.{Left}
use Rattle.sip_dialog.proofs.store_readings.sip_dialog_count.Goals as goal

pub returns-clause-returns : goal.returns-clause-returns
returns-clause-returns c =
    let a = c.args in
    let h = bytes_all a.store.now (λ i. (c.type_inv.store i).fits) in
    let g = count_answers rust_limits (length a.store.now) a.store.now a.used h _ _ _ (rw c.count.ensures at c.give.ensures) in
    moved (run_asking_none a.settings a.store.now a.used (sym c.if-not-in_bounds.ensures) (read (length a.store.now) count) tt) (reading_returns rust_limits (length a.store.now) count a.store.now a.used h _ g.0)

pub returns-clause-count_after : goal.returns-clause-count_after
returns-clause-count_after c =
    let a = c.args in
    let h = bytes_all a.store.now (λ i. (c.type_inv.store i).fits) in
    let g = count_answers rust_limits (length a.store.now) a.store.now a.used h _ _ _ (rw c.count.ensures at c.give.ensures) in
    moved_value (λ (l : Left). number_after l.answer a.count.now) (run_asking_none a.settings a.store.now a.used (sym c.if-not-in_bounds.ensures) (read (length a.store.now) count) tt) g.1
