-- `dialog_id::check_part` meets its contract: the three causes, in their order. Assumes nothing.
use mathlib.Core.Path.{sym, ◌∙◌}
use borrow.Author.Tests.{eq-eqb, ne_eqb, lt-ltb, le-ltb, not-true, not-false}
use Rattle.dialog_id.specs.DialogId.{part_cause}
use Rattle.dialog_id.proofs.check_part.Goals as goal

pub returns-then-s-eq0 : goal.returns-then-s-eq0
unfolding part_cause
returns-then-s-eq0 c = rw (eq-eqb _ _ c.if-s-eq0.true)

pub returns-then-limit-s : goal.returns-then-limit-s
unfolding part_cause
returns-then-limit-s c = rw (ne_eqb _ _ c.if-s-eq0.false, lt-ltb _ _ c.if-limit-s.true)

pub returns-then-not-all_plain : goal.returns-then-not-all_plain
unfolding part_cause
returns-then-not-all_plain c = rw (ne_eqb _ _ c.if-s-eq0.false, le-ltb _ _ c.if-limit-s.false, sym c.all_plain.ensures ∙ not-true _ c.if-not-all_plain.true-raw)

pub returns : goal.returns
unfolding part_cause
returns c = rw (ne_eqb _ _ c.if-s-eq0.false, le-ltb _ _ c.if-limit-s.false, sym c.all_plain.ensures ∙ not-false _ c.if-not-all_plain.false-raw)
