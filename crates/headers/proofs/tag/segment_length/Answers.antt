-- `headers::segment_length` meets its contract: at each turn the bytes passed and those of the rest before the cut. Assumes nothing.
use native.Mathlib.Omega.{arith}
use Prim.Native.Nat.{◌+◌}
use mathlib.Core.Path.{◌≡◌, sym, ap, ◌∙◌}
use lib.ListN.{length, drop}
use Rattle.headers.specs.Tag.{cut_length}
use Rattle.headers.proofs.SegmentLaws.{cut_done, cut_stop, cut_next}
use Rattle.headers.proofs.tag.segment_length.Goals as goal

pub returns-then-is_cut-clause-value : goal.returns-then-is_cut-clause-value
returns-then-is_cut-clause-value c =
    let l = c.loop-i in
    sym (l.invariant ∙ cut_stop _ _ l.i (omega arith) (sym c.is_cut.ensures ∙ c.if-is_cut.true))

pub loop-i-preserved : goal.loop-i-preserved
loop-i-preserved c =
    let l = c.loop-i in
    let s = c.args.s.now in
    l.invariant ∙ cut_next _ _ l.i (omega arith) (sym c.is_cut.ensures ∙ c.if-is_cut.false) ∙ ap (λ m. l.i + 1 + cut_length m (drop (l.i + 1) s)) (sym c.mode_after-mode.ensures)

pub returns-clause-value : goal.returns-clause-value
returns-clause-value c =
    let l = c.loop-i in
    let e : l.i ≡ length c.args.s.now = omega arith in
    sym (l.invariant ∙ cut_done _ _ l.i (omega arith) ∙ e)
