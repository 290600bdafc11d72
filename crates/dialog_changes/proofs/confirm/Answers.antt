-- `dialog_changes::confirm` meets its contract: 3, then the numbers of the one record changed. Assumes nothing.
use mathlib.Core.Path.{sym, ap, ◌∙◌}
use Rattle.std.proofs.Common.{rules}
use Rattle.std.proofs.result.Match.{err_is}
use Rattle.std.specs.Prelude.{Ok}
use Rattle.record.specs.Rules.{confirm_step}
use Rattle.dialog_rules.specs.Updates.{confirm_update}
use Rattle.store_steps.proofs.PlaceLaws.{rule_given}
use Rattle.dialog_changes.proofs.PlaceLaws.{unread_ended, stepped_ended}
use Rattle.dialog_changes.proofs.confirm.Goals as goal

pub returns-in_err-p : goal.returns-in_err-p
returns-in_err-p c =
    let a = c.args in
    let w : _ × _ = unread_ended a.bytes.now a.used (λ r. Ok (confirm_update r)) (sym c.in_err-p.was ∙ c.read_used.ensures.value) in
    record { value = err_is c.from_residual.result _ c.from_residual.ensures.1 ∙ w.0; bytes_after = w.1 }

pub returns : goal.returns
returns c =
    let a = c.args in
    let e = sym c.in_ok-p.was ∙ c.read_used.ensures.value in
    let w : _ × _ = stepped_ended a.bytes.now a.used (λ r. Ok (confirm_update r)) e (λ i. (c.slice_known-1.given i).fits)
    (rule_given a.bytes.now c.in_ok-p.p (λ i. (c.slice_known-1.given i).fits) c.in_ok-p.ensures.stands (λ x. Ok (confirm_step x)) (ap Ok (search rules)) (c.revise_numbers.ensures.value, c.revise_numbers.ensures.bytes_after)) in
    record { value = w.0; bytes_after = w.1 }
