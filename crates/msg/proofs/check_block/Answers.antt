-- `msg::check_block` meets its contract: the two causes, in their order. Assumes nothing.
use mathlib.Core.Path.{sym, ap, ◌∙◌}
use borrow.Author.Tests.{not-true, not-false}
use Rattle.std.proofs.result.Match.{err_is}
use Rattle.std.specs.Prelude.{Err}
use Rattle.limits.specs.Limits.{rust_limits}
use Rattle.text.proofs.Lengths.{length_passed, length_stopped}
use Rattle.msg.specs.Block.{block_cause}
use Rattle.msg.proofs.check_block.Goals as goal

pub returns-in_err-check_length : goal.returns-in_err-check_length
unfolding block_cause
returns-in_err-check_length c =
    let q = length_stopped rust_limits c.args.block.now (sym c.check_length.ensures ∙ c.in_err-check_length.was) in
    err_is c.from_residual.result _ c.from_residual.ensures.1 ∙ ap Err q.1 ∙ rw q.0

pub returns-then-not-is_block : goal.returns-then-not-is_block
unfolding block_cause
returns-then-not-is_block c = rw (length_passed rust_limits c.args.block.now (sym c.check_length.ensures ∙ c.in_ok-check_length.was), sym c.is_block.ensures ∙ not-true _ c.if-not-is_block.true-raw)

pub returns : goal.returns
unfolding block_cause
returns c = rw (length_passed rust_limits c.args.block.now (sym c.check_length.ensures ∙ c.in_ok-check_length.was), sym c.is_block.ensures ∙ not-false _ c.if-not-is_block.false-raw)
