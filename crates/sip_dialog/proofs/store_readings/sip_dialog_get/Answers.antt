-- `sip_dialog_get` meets its contract: what is handed over is the answer of `run_with`. Assumes nothing.
use mathlib.Core.Path.{sym}
use lib.ListN.{length}
use Rattle.limits.specs.Limits.{rust_limits}
use Rattle.codec.proofs.CodecLaws.{bytes_all}
use Rattle.dialog_id.specs.Ident.{ident}
use Rattle.book.specs.Calls.{read, get}
use Rattle.c_store_answers.proofs.ReturnLaws.{reading_returns, moved, moved_value}
use Rattle.book.specs.Returned.{place_after, length_after}
use Rattle.book.specs.Store.{Left}
use Rattle.book.proofs.SettingLaws.{run_asking_none}
use Rattle.sip_dialog.proofs.store_readings.sip_dialog_get.Goals as goal

pub returns : goal.returns
returns c =
    let a = c.args in
    let d = get (ident a.call_id.now a.local_tag.now a.remote_tag.now) in
    let q = run_asking_none a.settings a.store.now a.used (sym c.if-not-in_bounds.ensures) (read (length a.store.now) d) tt in
    let e = c.get.ensures in
    let g = c.give_place.ensures in
    record {
      returns = moved q (reading_returns rust_limits (length a.store.now) d a.store.now a.used (bytes_all a.store.now (λ i. (c.type_inv.store i).fits)) _ (rw (← e) g.value));
      place_after = moved_value (λ (l : Left). place_after l.answer a.place.now) q (rw (← e) g.place_after);
      length_after = moved_value (λ (l : Left). length_after l.answer a.length.now) q (rw (← e) g.length_after);
    }
