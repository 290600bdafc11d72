-- `route_set::next_header_value` meets its contract: the causes in their order, then the next element. Assumes nothing.
use mathlib.Core.Path.{◌≡◌, sym, ap, ◌∙◌}
use Rattle.std.proofs.lemmas.Result.{err_from_is_err_and}
use Rattle.std.specs.Prelude.{Ok}
use Rattle.limits.proofs.Laws.{passed, stopped}
use Rattle.limits.specs.Limits.{rust_limits}
use Rattle.text.specs.Answers.{value_cause, next_of}
use Rattle.route_set.specs.Parts.{element_from, next_header_value}
use Rattle.route_set.proofs.PartLaws.{part_answer}
use Rattle.route_set.proofs.parts.next_header_value.Goals as goal
use Rattle.route_set.proofs.parts.next_header_value.Goals.{In_ok-check_value}

-- past the check, the next element
clear : (c : In_ok-check_value) → next_header_value rust_limits c.args.value.now c.args.from ≡ Ok (element_from c.args.value.now c.args.from)
unfolding next_header_value
clear c = rw (passed (value_cause rust_limits c.args.value.now) (sym c.check_value.ensures ∙ c.in_ok-check_value.was))

pub returns-in_err-check_value : goal.returns-in_err-check_value
unfolding next_header_value
returns-in_err-check_value c =
    let p = err_from_is_err_and c.from_residual.result c.from_residual.ensures.1 in
    rw (p.1, p.2, stopped (value_cause rust_limits c.args.value.now) (sym c.check_value.ensures ∙ c.in_err-check_value.was))

pub returns : goal.returns
returns c = ap Ok c.next_part.ensures ∙ part_answer (element_from c.args.value.now c.args.from) ∙ ap next_of (sym (clear (goal.at.returns c).In_ok-check_value))
