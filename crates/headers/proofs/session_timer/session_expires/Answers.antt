-- `headers::session_expires` meets its contract: the causes in their order, then the interval. Assumes nothing.
use borrow.Author.Rules.{rules}
use mathlib.Core.Path.{◌≡◌, sym, ap, ◌∙◌}
use Rattle.std.specs.Prelude.{Ok}
use Rattle.limits.proofs.Laws.{passed, stopped}
use Rattle.limits.specs.Limits.{rust_limits}
use Rattle.msg.specs.Block.{block_cause}
use Rattle.headers.specs.SessionExpires.{expires_named, block_expires, expires_answer}
use Rattle.headers.proofs.ExpiresLaws.{answer_is}
use Rattle.headers.proofs.session_timer.session_expires.Goals as goal
use Rattle.headers.proofs.session_timer.session_expires.Goals.{In_ok-check_block}

-- past the check, the interval of the block
clear : (c : In_ok-check_block) → block_expires rust_limits c.args.block.now ≡ Ok (expires_named c.args.block.now)
unfolding block_expires
clear c = rw (passed (block_cause rust_limits c.args.block.now) (sym c.check_block.ensures ∙ c.in_ok-check_block.was))

pub returns-in_err-check_block : goal.returns-in_err-check_block
unfolding block_expires
returns-in_err-check_block c = rw (stopped (block_cause rust_limits c.args.block.now) (sym c.check_block.ensures ∙ c.in_err-check_block.was)) (search rules)

pub returns : goal.returns
returns c = ap Ok c.expires_named.ensures ∙ sym (answer_is _) ∙ ap expires_answer (sym (clear (goal.at.returns c).In_ok-check_block))
