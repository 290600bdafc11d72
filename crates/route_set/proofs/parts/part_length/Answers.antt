-- `route_set::part_length` meets its contract: at each turn the bytes passed and those of the rest before the cut.
-- Assumes nothing.
use mathlib.Core.Path.{◌≡◌, sym, ◌∙◌}
use lib.ListN.{length}
use Rattle.route_set.proofs.PartLaws.{cut_done, cut_cut, cut_next}
use native.Mathlib.Omega.{arith}
use Rattle.route_set.proofs.parts.part_length.Goals as goal

pub returns-then-is_cut-clause-value : goal.returns-then-is_cut-clause-value
returns-then-is_cut-clause-value c =
    let l = c.loop-i in
    sym (l.invariant.1 ∙ cut_cut _ _ _ l.i (omega arith) (sym c.is_cut.ensures ∙ c.if-is_cut.true))

pub loop-i-preserved : goal.loop-i-preserved
loop-i-preserved c =
    let l = c.loop-i in (
      omega arith,
      l.invariant.1 ∙ cut_next _ _ _ l.i _ _ (omega arith) (sym c.is_cut.ensures ∙ c.if-is_cut.false) c.quote_after-quoted.ensures c.depth_after-depth.ensures.value,
    )

pub returns-clause-value : goal.returns-clause-value
returns-clause-value c =
    let l = c.loop-i in
    let e : l.i ≡ length c.args.s.now = omega arith in
    sym (l.invariant.1 ∙ cut_done _ _ _ l.i (omega arith) ∙ e)
