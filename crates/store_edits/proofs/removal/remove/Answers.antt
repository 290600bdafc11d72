-- `removal::remove` meets its contract: refused where the look-up is, and otherwise the image cut out. Assumes nothing.
use mathlib.Core.Path.{sym, ap, ◌∙◌}
use lib.ListN.{length}
use Rattle.std.proofs.result.Match.{err_is}
use Rattle.std.specs.Prelude.{Ok}
use Rattle.limits.specs.Limits.{rust_limits}
use Rattle.codec.proofs.CodecLaws.{bytes_all}
use Rattle.dialog_manager.specs.Lookups.{answer_in}
use Rattle.store_edits.proofs.RemoveLaws.{turned_back, removes, refuses}
use native.Mathlib.Omega.{arith}
use Rattle.store_edits.proofs.removal.remove.Goals as goal

pub replace-requires : goal.replace-requires
replace-requires c =
    let a = c.args in
    let w = removes rust_limits (length a.bytes.now) a.id.call_id.now a.id.local_tag.now a.id.remote_tag.now a.bytes.now a.used (bytes_all a.bytes.now (λ i. (c.slice_known-1.given i).fits)) c.in_ok-at.at c.in_ok-at.n (ap answer_in (sym c.in_ok-at.was) ∙ c.get.ensures) in
    (w.inside, w.within, omega (arith, w.within))

pub returns : goal.returns
returns c =
    let a = c.args in
    let w = removes rust_limits (length a.bytes.now) a.id.call_id.now a.id.local_tag.now a.id.remote_tag.now a.bytes.now a.used (bytes_all a.bytes.now (λ i. (c.slice_known-1.given i).fits)) c.in_ok-at.at c.in_ok-at.n (ap answer_in (sym c.in_ok-at.was) ∙ c.get.ensures) in
    let r = c.replace.ensures in
    record { value = ap Ok r.value ∙ w.answer; bytes_after = r.bytes_after ∙ w.bytes }

pub returns-in_err-at : goal.returns-in_err-at
returns-in_err-at c =
    let a = c.args in
    let t = turned_back (refuses rust_limits (length a.bytes.now) a.id.call_id.now a.id.local_tag.now a.id.remote_tag.now a.bytes.now a.used (bytes_all a.bytes.now (λ i. (c.slice_known-1.given i).fits)) _ (ap answer_in (sym c.in_err-at.was) ∙ c.get.ensures)) in
    record { value = err_is c.from_residual.result _ c.from_residual.ensures.1 ∙ t.0; bytes_after = t.1 }
