-- `marks::mark_all` meets its contract: each turn adds the mark of a key, and loses none. Assumes nothing.
use Prim.Native.Nat.{ℕ, ◌+◌, ◌/◌, ◌%◌, ◌<◌}
use native.Mathlib.Omega.{arith}
use mathlib.Core.Path.{subst, ◌∙◌}
use lib.ListN.{length, get_or, length-set}
use Rattle.distinct.specs.Marks.{Kept}
use Rattle.distinct.specs.Sorting.{tally}
use Rattle.distinct.proofs.Ascents.{each_at}
use Rattle.distinct.proofs.MarkLaws.{mark_more}
use Rattle.distinct.proofs.marks.mark_all.Goals as goal

pub loop-i-init : goal.loop-i-init
unfolding tally
loop-i-init c = (c.fill.auto.self ∙ c.requires.room, λ k h. absurd (omega arith))

pub head-h-requires : goal.head-h-requires
head-h-requires c = each_at c.args.bytes.now c.args.run.now c.loop-i.i c.requires.each_at (omega arith)

pub loop-i-preserved : goal.loop-i-preserved
loop-i-preserved c =
    let a = c.args in
    let l = c.loop-i in
    let less : l.i < length a.run.now = omega arith in
    let room : 0 < length l.marks = omega (arith, l.invariant.0) in
    let m : Kept (get_or l.marks (c.head-h.result % length l.marks) 0) (c.head-h.result / length l.marks % 1023 + 1) c.with_mark.result =
    subst (λ (f : ℕ). Kept (get_or l.marks (c.head-h.result % length l.marks) 0) f c.with_mark.result) c.print.ensures c.with_mark.ensures in (
      length-set l.marks (c.head-h.result % length l.marks) c.with_mark.result ∙ l.invariant.0,
      mark_more a.bytes.now a.run.now l.marks l.i less room c.head-h.result c.head-h.ensures c.with_mark.result m l.invariant.1,
    )
