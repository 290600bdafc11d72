-- `sip_dialog_all_ids` meets its contract: what is handed over is the answer of `run_with`. Assumes nothing.
use mathlib.Core.Path.{sym}
use lib.ListN.{length}
use Rattle.limits.specs.Limits.{rust_limits}
use Rattle.codec.proofs.CodecLaws.{bytes_all}
use Rattle.book.specs.Calls.{read, all_ids}
use Rattle.c_store_answers.proofs.ReturnLaws.{reading_returns, moved, moved_value}
use Rattle.c_store_answers.proofs.ValueLaws.{ids_answers}
use Rattle.book.specs.Returned.{length_after}
use Rattle.book.proofs.SettingLaws.{run_asking_none}
use Rattle.book.specs.Store.{Left, output_after}
use Rattle.sip_dialog.proofs.store_readings.sip_dialog_all_ids.Goals as goal

pub returns : goal.returns
returns c =
    let a = c.args in
    let d = all_ids (length a.out.now) in
    let q = run_asking_none a.settings a.store.now a.used (sym c.if-not-in_bounds.ensures) (read (length a.store.now) d) tt in
    let h = bytes_all a.store.now (λ i. (c.type_inv.store i).fits) in
    let g = ids_answers rust_limits (length a.store.now) (length a.out.now) a.store.now a.used _ _ _ _ c.all_ids.ensures.value c.give.ensures in
    record {
      returns = moved q (reading_returns rust_limits (length a.store.now) d a.store.now a.used h _ g.0);
      out_after = moved_value (λ (l : Left). output_after l.answer a.out.now) q c.all_ids.ensures.out_after;
      written_after = moved_value (λ (l : Left). length_after l.answer a.written.now) q g.1;
    }
