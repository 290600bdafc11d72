-- `msg::header` meets its contract: the causes in their order, then the first line of the name. Assumes nothing.
use borrow.Author.Rules.{rules}
use mathlib.Core.Path.{◌≡◌, sym, ap, ◌∙◌}
use Rattle.std.proofs.result.Match.{err_is}
use Rattle.std.specs.Prelude.{Err, Ok}
use Rattle.limits.proofs.Laws.{passed, stopped}
use Rattle.limits.specs.Limits.{rust_limits}
use Rattle.text.proofs.Lengths.{length_passed, length_stopped}
use Rattle.limits.specs.Outcome.{refuse_by}
use Rattle.text.specs.Answers.{lookup_of}
use Rattle.msg.specs.Block.{lookup, block_cause, value_named, first_named, lines_of}
use Rattle.msg.proofs.LookupLaws.{long_name, short_name, line_mapped}
use Rattle.msg.proofs.header.Goals as goal
use Rattle.msg.proofs.header.Goals.{In_ok-check_block}

-- past both checks the look-up gives the value of the first line
clear : (c : In_ok-check_block) → lookup rust_limits c.args.block.now c.args.name.now ≡ Ok (value_named c.args.name.now c.args.block.now)
unfolding lookup
clear c = ap (λ o. refuse_by o (Ok (value_named c.args.name.now c.args.block.now))) (short_name rust_limits c.args.block.now _ (length_passed rust_limits c.args.name.now (sym c.check_length.ensures ∙ c.in_ok-check_length.was)) ∙ passed _ (sym c.check_block.ensures ∙ c.in_ok-check_block.was))

pub returns-in_err-check_length : goal.returns-in_err-check_length
unfolding lookup
returns-in_err-check_length c =
    let q = length_stopped rust_limits c.args.name.now (sym c.check_length.ensures ∙ c.in_err-check_length.was) in
    err_is c.from_residual.result _ c.from_residual.ensures.1 ∙ ap Err q.1 ∙ rw (long_name rust_limits c.args.block.now _ q.0)

pub returns-in_err-check_block : goal.returns-in_err-check_block
unfolding lookup
returns-in_err-check_block c = rw (short_name rust_limits c.args.block.now _ (length_passed rust_limits c.args.name.now (sym c.check_length.ensures ∙ c.in_ok-check_length.was)), stopped (block_cause rust_limits c.args.block.now) (sym c.check_block.ensures ∙ c.in_err-check_block.was)) (search rules)

pub returns : goal.returns
returns c =
    let o = first_named c.args.name.now (lines_of c.args.block.now) in
    line_mapped o _ _ c.find.ensures c.map.ensures.cases (λ x s q. search rules) ∙ ap lookup_of (sym (clear (goal.at.returns c).In_ok-check_block))
