-- `creation_readings::check_interval` meets its contract: 13, then 14. Assumes nothing.
use mathlib.Core.Path.{sym, ap, ◌∙◌}
use Rattle.std.proofs.lemmas.Result.{err_from_is_err_and}
use Rattle.limits.specs.Limits.{rust_limits}
use Rattle.limits.specs.Outcome.{check_of}
use Rattle.session_seconds.proofs.Laws.{seconds_accepted, seconds_refused}
use Rattle.creation_readings.proofs.check_interval.Goals as goal

pub returns : goal.returns
returns c =
    rw c.in-Some.is (sym (ap check_of (seconds_accepted rust_limits _ (sym c.check_expires_seconds.ensures ∙ c.in_ok-check_expires_seconds.was)).0))

pub returns-in_err-check_expires_seconds : goal.returns-in_err-check_expires_seconds
returns-in_err-check_expires_seconds c =
    let p = err_from_is_err_and c.from_residual.result c.from_residual.ensures.1 in
    rw (p.1, p.2, c.in-Some.is) (sym (ap check_of (seconds_refused rust_limits _ (sym c.check_expires_seconds.ensures ∙ c.in_err-check_expires_seconds.was))))
