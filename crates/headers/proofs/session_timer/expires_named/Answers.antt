-- `headers::expires_named` meets its contract: the value that the look-up found. Assumes nothing.
use native.Mathlib.Omega.{arith}
use mathlib.Core.Path.{sym, ap, ◌∙◌}
use Rattle.msg.specs.Block.{first_named, lines_of}
use Rattle.msg.proofs.LookupLaws.{Says, found_at, said_fits, no_line}
use Rattle.headers.specs.SessionExpires.{expires_name, session_expires, expires_named, expires_from}
use Rattle.headers.proofs.ExpiresLaws.{interval_in_lem}
use Rattle.headers.proofs.session_timer.expires_named.Goals as goal
use Rattle.headers.proofs.session_timer.expires_named.Goals.{In_ok-v}

-- what the look-up said of the block
found : (c : In_ok-v) → Says c.args.block.now (first_named expires_name (lines_of c.args.block.now)) c.in_ok-v.v c.in_ok-v.field-0-1
found c = found_at c.args.block.now expires_name 0 _ _ (omega arith) (sym c.find.ensures ∙ c.in_ok-v.was)

pub returns-in_err-v : goal.returns-in_err-v
unfolding expires_named
returns-in_err-v c = c.from_residual.ensures ∙ rw (no_line (first_named expires_name (lines_of c.args.block.now)) (sym c.find.ensures ∙ c.in_err-v.was))

pub text-requires : goal.text-requires
text-requires c = said_fits _ _ _ _ (found (goal.at.text-requires c).In_ok-v)

pub returns : goal.returns
unfolding expires_named
returns c = c.read_expires.ensures ∙ ap (λ s. expires_from (session_expires s)) c.text.ensures ∙ ap expires_from (sym (interval_in_lem _ _ _ _ (found (goal.at.returns c).In_ok-v)))
