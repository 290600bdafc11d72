-- `msg::is_block` meets its contract: at each turn the block is one exactly where the rest is. Assumes nothing.
use mathlib.Core.Path.{sym, ◌∙◌}
use Rattle.msg.specs.Lines.{line_in, lines_ahead}
use Rattle.msg.proofs.LookupLaws.{Turn, turned, block_end, block_next}
use Rattle.msg.proofs.is_block.Goals as goal
use Rattle.msg.proofs.is_block.Goals.{In-Some}

-- the line of this turn is the first that is left
turn : (c : In-Some) → Turn c.args.block.now c.loop-line.end (line_in c.in-Some.line) (lines_ahead c.next.new.self)
turn c = turned _ _ _ _ (c.loop-line.invariant.1 ∙ c.in-Some.ensures.steps)

pub loop-line-preserved : goal.loop-line-preserved
loop-line-preserved c =
    let l = c.loop-line in
    let t = turn (goal.at.loop-line-preserved c).In-Some in (
      rw c.end-end.ensures (t.fits l.invariant.0),
      rw c.end-end.ensures (sym t.others),
      rw (c.end-end.ensures, t.next) (l.invariant.2 ∙ block_next _ l.end _ _ t.read),
    )

pub returns : goal.returns
returns c =
    let l = c.loop-line in
    sym (l.invariant.2 ∙ block_end _ l.end l.invariant.0 (l.invariant.1 ∙ c.in-None.ensures.steps.0))
