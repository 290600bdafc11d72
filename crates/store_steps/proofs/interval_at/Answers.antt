-- `store_steps::interval_at` meets its contract: the record's numbers changed in its place. Assumes nothing.
use mathlib.Core.Path.{sym, ap, ◌∙◌}
use Rattle.std.proofs.result.Match.{err_is}
use Rattle.limits.specs.Limits.{rust_limits}
use Rattle.record.specs.NumbersForm.{outcome_in}
use Rattle.record.specs.Rules.{interval_step}
use Rattle.store_steps.proofs.PlaceLaws.{rule_refused, rule_given}
use Rattle.store_steps.proofs.interval_at.Goals as goal

pub returns : goal.returns
returns c =
    let a = c.args in
    let w : _ × _ = rule_given a.bytes.now a.p (λ i. (c.slice_known-1.given i).fits) c.requires.stands (interval_step rust_limits a.seconds) (sym c.set_session_expires.ensures ∙ ap outcome_in c.in_ok-x.was)
    (c.revise_numbers.ensures.value, c.revise_numbers.ensures.bytes_after) in
    record { value = w.0; bytes_after = w.1 }

pub returns-in_err-x : goal.returns-in_err-x
returns-in_err-x c =
    let a = c.args in
    let w : _ × _ = rule_refused a.bytes.now a.p (λ i. (c.slice_known-1.given i).fits) c.requires.stands (interval_step rust_limits a.seconds) (sym c.set_session_expires.ensures ∙ ap outcome_in c.in_err-x.was) in
    record { value = err_is c.from_residual.result _ c.from_residual.ensures.1 ∙ w.0; bytes_after = w.1 }
