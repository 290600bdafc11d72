-- `msg::read_headers` meets its contract: at each turn the block is one exactly where the rest is, and its table is that of the
-- lines read, completed by the lines left. Assumes nothing.
use native.Mathlib.Omega.{arith}
use mathlib.Core.Path.{◌≡◌, sym, ap, ◌∙◌}
use lib.ListN.{length, length-set}
use lib.Dec.{eqb}
use borrow.Author.Tests.{eq-eqb, ne_eqb}
use Rattle.std.proofs.result.Match.{err_is}
use Rattle.std.specs.Prelude.{Err}
use Rattle.limits.specs.Limits.{rust_limits}
use Rattle.text.proofs.Lengths.{length_passed, length_stopped}
use Rattle.msg.specs.Block.{block_cause, is_block}
use Rattle.msg.specs.Lines.{line_in, lines_ahead}
use Rattle.msg.proofs.LookupLaws.{Turn, turned, block_end, block_next}
use Rattle.msg.proofs.TableLaws.{table_in, table_after, table_end, table_noted, table_put, table_skip}
use Rattle.msg.proofs.table.read_headers.Goals as goal
use Rattle.msg.proofs.table.read_headers.Goals.{In-Some, In-None, in-Some-slot_of, in_default}

-- the line of this turn is the first that is left
turn : (c : In-Some) → Turn c.args.block.now c.loop-line.end (line_in c.in-Some.line) (lines_ahead c.next.new.self)
turn c = turned _ _ _ _ (c.loop-line.invariant.1 ∙ c.in-Some.ensures.steps)

-- at the end of the lines the block is one exactly where its bytes end too
whole : (c : In-None) → is_block c.args.block.now ≡ eqb c.loop-line.end (length c.args.block.now)
whole c =
    let l = c.loop-line in
    l.invariant.2 ∙ block_end _ l.end l.invariant.0 (l.invariant.1 ∙ c.in-None.ensures.steps.0)

pub returns-in_err-check_length : goal.returns-in_err-check_length
unfolding block_cause
returns-in_err-check_length c =
    let q = length_stopped rust_limits c.args.block.now (sym c.check_length.ensures ∙ c.in_err-check_length.was) in
    err_is c.from_residual.result _ c.from_residual.ensures.1 ∙ ap Err q.1 ∙ rw q.0

pub loop-line-preserved : goal.loop-line-preserved
loop-line-preserved c =
    let l = c.loop-line in
    let t = turn (goal.at.loop-line-preserved c).In-Some in (
      rw c.end-end.ensures (t.fits l.invariant.0),
      rw c.end-end.ensures (sym t.others),
      rw (c.end-end.ensures, t.next) (l.invariant.2 ∙ block_next _ l.end _ _ t.read),
      elim c.match-slot_of.branch [
        | in-Some-slot_of w ↦ ap length w.lines-is ∙ length-set _ _ _ ∙ l.invariant.3
        | in_default w ↦ ap length w.lines-is ∙ l.invariant.3
      ],
      l.invariant.4 ∙ ap (table_after (table_in l.lines)) c.in-Some.ensures.steps ∙ elim c.match-slot_of.branch [
        | in-Some-slot_of w ↦ table_noted (table_in l.lines) _ _ _ _ (table_in c.match-slot_of.lines) w.in-Some-slot_of.ensures.0 w.found.ensures (ap table_in w.lines-is ∙ table_put l.lines _ _ _ (omega (arith, w.in-Some-slot_of.ensures.1, l.invariant.3)) w.or.ensures)
        | in_default w ↦ rw w.lines-is (table_skip (table_in l.lines) _ _ (omega (arith, w.in_default.ensures)))
      ],
    )

pub returns-then-end-block : goal.returns-then-end-block
unfolding block_cause
returns-then-end-block c =
    let d : c.loop-line.end ≡ length c.args.block.now → ⊥ = (λ (x : c.loop-line.end ≡ length c.args.block.now). omega arith) in
    rw (length_passed rust_limits c.args.block.now (sym c.check_length.ensures ∙ c.in_ok-check_length.was), whole (goal.at.returns-then-end-block c).In-None ∙ ne_eqb _ _ d)

pub returns : goal.returns
unfolding block_cause
returns c =
    let l = c.loop-line in
    let d : l.end ≡ length c.args.block.now = omega (arith, l.invariant.0) in
    rw (length_passed rust_limits c.args.block.now (sym c.check_length.ensures ∙ c.in_ok-check_length.was), whole (goal.at.returns c).In-None ∙ eq-eqb _ _ d, l.invariant.4 ∙ ap (table_after (table_in l.lines)) c.in-None.ensures.steps.0 ∙ table_end _)
