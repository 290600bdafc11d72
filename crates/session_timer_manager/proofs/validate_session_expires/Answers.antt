-- `session_timer_manager::validate_session_expires` meets its contract. Assumes nothing.
use native.Mathlib.Omega.{arith}
use borrow.Author.Tests.{lt-ltb, le-ltb}
use Rattle.session_timer_manager.specs.Intervals.{validated}
use Rattle.session_timer_manager.proofs.validate_session_expires.Goals as goal

pub returns-then-interval-least : goal.returns-then-interval-least
unfolding validated
returns-then-interval-least c =
    let least = c.minimum_or_default-least in
    rw (← least.ensures, lt-ltb c.args.interval least.result (omega arith))

pub returns : goal.returns
unfolding validated
returns c =
    let least = c.minimum_or_default-least in
    rw (← least.ensures, le-ltb c.args.interval least.result (omega arith))
