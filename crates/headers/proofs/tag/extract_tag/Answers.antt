-- `headers::extract_tag` meets its contract: the causes in their order, then the first tag. Assumes nothing.
use borrow.Author.Rules.{rules}
use mathlib.Core.Path.{◌≡◌, sym, ap, ◌∙◌}
use Rattle.std.specs.Prelude.{ok_or, Option}
use Rattle.text.specs.declared.Span.{Span}
use Rattle.limits.proofs.Laws.{passed, stopped}
use Rattle.limits.specs.Limits.{rust_limits}
use Rattle.limits.specs.Outcome.{or_refuse}
use Rattle.limits.specs.declared.Refusal.TheVariants.{MissingHeader}
use Rattle.text.specs.Answers.{value_cause}
use Rattle.headers.specs.Tag.{extract_tag, tag_of, part_answer}
use Rattle.headers.proofs.TagLaws.{tag_required}
use Rattle.headers.proofs.tag.extract_tag.Goals as goal
use Rattle.headers.proofs.tag.extract_tag.Goals.{In_ok-check_value}

-- past the check, the first tag or 4
clear : (c : In_ok-check_value) → extract_tag rust_limits c.args.value.now ≡ or_refuse MissingHeader (tag_of c.args.value.now)
unfolding extract_tag
clear c = rw (passed (value_cause rust_limits c.args.value.now) (sym c.check_value.ensures ∙ c.in_ok-check_value.was))

pub returns-in_err-check_value : goal.returns-in_err-check_value
unfolding extract_tag
returns-in_err-check_value c = rw (stopped (value_cause rust_limits c.args.value.now) (sym c.check_value.ensures ∙ c.in_err-check_value.was)) (search rules)

pub returns : goal.returns
returns c =
    c.ok_or.ensures.value
    ∙ ap (λ (o : Option Span). ok_or o MissingHeader) c.find_tag.ensures
    ∙ tag_required (tag_of c.args.value.now)
    ∙ ap part_answer (sym (clear (goal.at.returns c).In_ok-check_value))
