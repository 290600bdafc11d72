-- `record::Numbers::set_session_expires` meets its contract: 13, then 14. Assumes nothing.
use Prim.Native.Nat.{ℕ}
use mathlib.Core.Path.{sym, ap, ◌∙◌}
use Rattle.std.proofs.lemmas.Result.{err_from_is_err_and}
use Rattle.std.specs.Prelude.{Ok}
use Rattle.limits.specs.Limits.{rust_limits}
use Rattle.session_seconds.proofs.Laws.{seconds_accepted, seconds_refused}
use Rattle.record.specs.NumbersForm.{meaning}
use Rattle.record.specs.Rules.{with_seconds, interval_step}
use Rattle.record.proofs.numbers.Numbers.set_session_expires.Goals as goal

pub returns : goal.returns
unfolding interval_step
returns c =
    let a = c.args in
    let k = seconds_accepted rust_limits a.seconds (sym c.check_expires_seconds.ensures ∙ c.in_ok-n.was) in
    rw k.0 (ap Ok (c.with_seconds.ensures ∙ ap (λ (n : ℕ). with_seconds n (meaning a.self)) k.1))

pub returns-in_err-n : goal.returns-in_err-n
unfolding interval_step
returns-in_err-n c =
    let p = err_from_is_err_and c.from_residual.result c.from_residual.ensures.1 in
    rw (seconds_refused rust_limits c.args.seconds (sym c.check_expires_seconds.ensures ∙ c.in_err-n.was), p.1, p.2)
