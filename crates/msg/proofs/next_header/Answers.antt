-- `msg::next_header` meets its contract: the causes in their order, then the first line of the name from the place on. Assumes nothing.
use borrow.Author.Rules.{rules}
use mathlib.Core.Path.{◌≡◌, sym, ap, ◌∙◌}
use Rattle.std.proofs.result.Match.{err_is}
use Rattle.std.specs.Prelude.{Err, Ok}
use Rattle.limits.proofs.Laws.{passed, stopped}
use Rattle.limits.specs.Limits.{rust_limits}
use Rattle.text.proofs.Lengths.{length_passed, length_stopped}
use Rattle.limits.specs.Outcome.{refuse_by}
use Rattle.text.specs.Answers.{next_of}
use Rattle.msg.specs.Block.{lookup_from, block_cause, first_named, lines_since, lines_of, stop_of, found_of}
use Rattle.msg.proofs.LookupLaws.{long_name, short_name, stop_answer}
use Rattle.msg.proofs.next_header.Goals as goal
use Rattle.msg.proofs.next_header.Goals.{After-find_from, In_ok-check_block}

-- past both checks the look-up gives the first line from the place on
clear : (c : In_ok-check_block) → lookup_from rust_limits c.args.block.now c.args.name.now c.args.from ≡ Ok (stop_of (first_named c.args.name.now (lines_since c.args.from (lines_of c.args.block.now))))
unfolding lookup_from
clear c = ap (λ o. refuse_by o (Ok (stop_of (first_named c.args.name.now (lines_since c.args.from (lines_of c.args.block.now)))))) (short_name rust_limits c.args.block.now _ (length_passed rust_limits c.args.name.now (sym c.check_length.ensures ∙ c.in_ok-check_length.was)) ∙ passed _ (sym c.check_block.ensures ∙ c.in_ok-check_block.was))

-- what the search answered is of the lines since the place
since : (c : After-find_from) → found_of (first_named c.args.name.now (lines_since c.args.from (lines_of c.args.block.now))) ≡ c.find_from.result
since c = ap (λ ls. found_of (first_named c.args.name.now ls)) (sym c.line_since-at.ensures.block_value) ∙ sym c.find_from.ensures

pub returns-in_err-check_length : goal.returns-in_err-check_length
unfolding lookup_from
returns-in_err-check_length c =
    let q = length_stopped rust_limits c.args.name.now (sym c.check_length.ensures ∙ c.in_err-check_length.was) in
    err_is c.from_residual.result _ c.from_residual.ensures.1 ∙ ap Err q.1 ∙ rw (long_name rust_limits c.args.block.now _ q.0)

pub returns-in_err-check_block : goal.returns-in_err-check_block
unfolding lookup_from
returns-in_err-check_block c = rw (short_name rust_limits c.args.block.now _ (length_passed rust_limits c.args.name.now (sym c.check_length.ensures ∙ c.in_ok-check_length.was)), stopped (block_cause rust_limits c.args.block.now) (sym c.check_block.ensures ∙ c.in_err-check_block.was)) (search rules)

pub returns : goal.returns
returns c =
    ap Ok (sym (since (goal.at.returns c).After-find_from))
    ∙ stop_answer (first_named c.args.name.now (lines_since c.args.from (lines_of c.args.block.now)))
    ∙ ap next_of (sym (clear (goal.at.returns c).In_ok-check_block))
