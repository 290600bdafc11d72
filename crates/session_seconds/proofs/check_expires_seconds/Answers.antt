-- `session_seconds::check_expires_seconds` meets its contract. Assumes nothing.
use native.Mathlib.Omega.{arith}
use borrow.Author.Tests.{lt-ltb, le-ltb}
use Rattle.limits.specs.Limits.{rust_limits}
use Rattle.session_seconds.specs.Seconds.{checked_seconds}
use Rattle.session_seconds.proofs.check_expires_seconds.Goals as goal

pub returns-then-expires-least : goal.returns-then-expires-least
unfolding checked_seconds
returns-then-expires-least c = rw (lt-ltb c.args.expires rust_limits.min_expires (omega arith))

pub returns-then-expires : goal.returns-then-expires
unfolding checked_seconds
returns-then-expires c =
    let expires = c.args.expires in
    rw (le-ltb expires rust_limits.min_expires (omega arith), lt-ltb rust_limits.max_expires expires (omega arith))

pub returns : goal.returns
unfolding checked_seconds
returns c =
    let expires = c.args.expires in
    rw (le-ltb expires rust_limits.min_expires (omega arith), le-ltb rust_limits.max_expires expires (omega arith))
