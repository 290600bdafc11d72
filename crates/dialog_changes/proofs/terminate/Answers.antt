-- `dialog_changes::terminate` meets its contract: 3, then the step on the one record. Assumes nothing.
use mathlib.Core.Path.{sym, ◌∙◌}
use Rattle.std.proofs.result.Match.{err_is}
use Rattle.std.specs.Prelude.{Ok}
use Rattle.dialog_rules.specs.Updates.{terminate_update}
use Rattle.dialog_changes.proofs.PlaceLaws.{unread_ended, stepped_ended}
use Rattle.dialog_changes.proofs.terminate.Goals as goal

pub returns-in_err-p : goal.returns-in_err-p
returns-in_err-p c =
    let a = c.args in
    let w : _ × _ = unread_ended a.bytes.now a.used (λ r. Ok (terminate_update r)) (sym c.in_err-p.was ∙ c.read_used.ensures.value) in
    record { value = err_is c.from_residual.result _ c.from_residual.ensures.1 ∙ w.0; bytes_after = w.1 }

pub returns : goal.returns
returns c =
    let a = c.args in
    let w : _ × _ = stepped_ended a.bytes.now a.used (λ r. Ok (terminate_update r)) (sym c.in_ok-p.was ∙ c.read_used.ensures.value) (λ i. (c.slice_known-1.given i).fits)
    (c.terminate_at.ensures.value, c.terminate_at.ensures.bytes_after) in
    record { value = w.0; bytes_after = w.1 }
