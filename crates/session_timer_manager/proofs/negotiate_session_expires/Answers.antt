-- `session_timer_manager::negotiate_session_expires` meets its contract. Assumes nothing.
use native.Mathlib.Omega.{arith}
use borrow.Author.Tests.{lt-ltb, le-ltb}
use Rattle.session_timer_manager.specs.Intervals.{negotiated}
use Rattle.session_timer_manager.proofs.negotiate_session_expires.Goals as goal

pub returns-then-requested-least : goal.returns-then-requested-least
unfolding negotiated
returns-then-requested-least c =
    let least = c.joint_minimum-least in
    rw (← least.ensures, lt-ltb c.args.requested least.result (omega arith))

pub returns : goal.returns
unfolding negotiated
returns c =
    let least = c.joint_minimum-least in
    rw (c.reduced.ensures, ← least.ensures, le-ltb c.args.requested least.result (omega arith))
