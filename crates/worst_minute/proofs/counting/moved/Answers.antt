-- `worst_minute::counting::moved` meets its contract. Assumes nothing.
use native.Mathlib.Omega.{arith}
use mathlib.Core.Path.{◌∙◌}
use Rattle.worst_minute.proofs.WindowLaws.{refused_there, accepted_there, moved_on, moved_all}
use Rattle.worst_minute.proofs.counting.moved.Goals as goal
use Rattle.worst_minute.proofs.counting.moved.Goals.{then-run-from-ne0, else-run-from-ne0}

pub overflow_sub-refusals : goal.overflow_sub-refusals
overflow_sub-refusals c = omega (arith, refused_there c.loop-start.invariant (omega (arith, c.loop-start-test.true)) c.if-run-from-ne0.true)

pub loop-start-preserved : goal.loop-start-preserved
loop-start-preserved c =
    let w = c.loop-start.invariant in
    let h = c.loop-start-test.true in
    moved_on w (omega (arith, h)) c.time_at-start.ensures
    (elim c.if-run-from-ne0.branch [ then-run-from-ne0 k ↦ omega (arith, k.refusals-is, refused_there w (omega (arith, h)) k.if-run-from-ne0.true) | else-run-from-ne0 k ↦ k.refusals-is ∙ accepted_there w (omega (arith, h)) k.if-run-from-ne0.false ])

pub returns : goal.returns
returns c = moved_all c.args.w c.loop-start.invariant (omega (arith, c.loop-start-test.false))
