-- `record_walk::texts_end` meets its contract: the end of all the texts is that of those left. Assumes nothing.
use Prim.Native.Nat.{◌+◌, ◌-◌}
use native.Mathlib.Omega.{arith}
use mathlib.Core.Path.{◌≡◌, sym, ap, ◌∙◌}
use Rattle.record_walk.specs.Walk.{texts_end}
use Rattle.record_walk.proofs.Texts.{texts_next, texts_none, texts_within}
use Rattle.record_walk.proofs.texts_end.Goals as goal

pub past-end-requires : goal.past-end-requires
past-end-requires c =
    let l = c.loop-i in
    let a = c.args in
    omega (arith, texts_within (a.count - l.i) a.bytes.now l.end (omega arith), l.invariant, c.requires)

pub loop-i-preserved : goal.loop-i-preserved
loop-i-preserved c =
    let l = c.loop-i in
    let a = c.args in
    let left = a.count - l.i in
    let less : left - 1 ≡ a.count - (l.i + 1) = omega arith in
    l.invariant ∙ texts_next left a.bytes.now l.end (omega arith) ∙ ap (texts_end (left - 1) a.bytes.now) (sym c.past-end.ensures) ∙ ap (λ n. texts_end n a.bytes.now c.past-end.result) less

pub returns : goal.returns
returns c =
    let l = c.loop-i in
    sym (l.invariant ∙ texts_none (c.args.count - l.i) _ l.end (omega arith))
