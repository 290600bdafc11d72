-- `msg::line_since` meets its contract: at each turn the lines from a place on are among the lines left. Assumes nothing.
use native.Mathlib.Omega.{arith}
use mathlib.Core.Path.{sym, ◌∙◌}
use Rattle.msg.specs.Lines.{line_in, lines_ahead}
use Rattle.msg.proofs.LookupLaws.{Turn, turned, since_none, since_next, since_reached}
use Rattle.msg.proofs.line_since.Goals as goal
use Rattle.msg.proofs.line_since.Goals.{In-Some}

-- the line of this turn is the first that is left
turn : (c : In-Some) → Turn c.args.block.now c.loop-line.at (line_in c.in-Some.line) (lines_ahead c.next.new.self)
turn c = turned _ _ _ _ (c.loop-line.invariant.2 ∙ c.in-Some.ensures.steps)

pub returns-then-from-eq0-clause-block_value : goal.returns-then-from-eq0-clause-block_value
returns-then-from-eq0-clause-block_value c = sym (since_reached c.args.block.now c.args.from 0 (omega (arith, c.if-from-eq0.true)))

pub returns-then-from-at-clause-block_value : goal.returns-then-from-at-clause-block_value
returns-then-from-at-clause-block_value c =
    let l = c.loop-line in
    let t = turn (goal.at.returns-then-from-at-clause-block_value c).In-Some in
    rw (c.end-at.ensures, t.next) (sym (l.invariant.3 ∙ since_next _ _ l.at _ _ t.read l.invariant.1 ∙ since_reached _ _ _ (omega (arith, c.if-from-at.true, c.end-at.ensures, t.next))))

pub returns-then-from-at-clause-upper_bound : goal.returns-then-from-at-clause-upper_bound
returns-then-from-at-clause-upper_bound c =
    let t = turn (goal.at.returns-then-from-at-clause-upper_bound c).In-Some in
    rw c.end-at.ensures (t.fits c.loop-line.invariant.0)

pub loop-line-preserved : goal.loop-line-preserved
loop-line-preserved c =
    let l = c.loop-line in
    let t = turn (goal.at.loop-line-preserved c).In-Some in (
      rw c.end-at.ensures (t.fits l.invariant.0),
      omega (arith, c.if-from-at.false),
      rw c.end-at.ensures (sym t.others),
      rw (c.end-at.ensures, t.next) (l.invariant.3 ∙ since_next _ _ l.at _ _ t.read l.invariant.1),
    )

pub returns-clause-block_value : goal.returns-clause-block_value
returns-clause-block_value c =
    let l = c.loop-line in
    since_none _ _ l.at (l.invariant.2 ∙ c.in-None.ensures.steps.0) ∙ sym l.invariant.3
