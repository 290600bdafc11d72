-- `ordered_store::compare` meets its contract: at each turn the order of the whole is that of the rests. Assumes nothing.
use native.Mathlib.Omega.{arith}
use mathlib.Core.Path.{sym, ◌∙◌}
use Rattle.ordered_store.proofs.CompareLaws.{differ, go_on, ended}
use Rattle.ordered_store.proofs.compare.Goals as goal

pub returns-then-a-i : goal.returns-then-a-i
returns-then-a-i c =
    let l = c.loop-i in
    c.cmp.ensures ∙ sym (l.invariant ∙ differ _ _ l.i (omega (arith, c.min-i-end.ensures)) (omega (arith, c.min-i-end.ensures)) c.if-a-i.true)

pub loop-i-preserved : goal.loop-i-preserved
loop-i-preserved c =
    let l = c.loop-i in
    l.invariant ∙ go_on _ _ l.i (omega (arith, c.min-i-end.ensures)) (omega (arith, c.min-i-end.ensures)) c.if-a-i.false

pub returns : goal.returns
returns c =
    let l = c.loop-i in
    c.cmp-2.ensures ∙ sym (l.invariant ∙ ended _ _ l.i (omega (arith, c.min-i-end.ensures)))
