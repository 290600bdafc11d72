-- `runs::is_distinct_by_runs` meets its contract: whether all records are distinct is whether those after a run are, if it stands alone. Assumes nothing.
use native.Mathlib.Omega.{arith}
use mathlib.Core.Path.{refl, sym}
use lib.ListN.{drop, length-append, length-drop}
use lib.Seq.{length-take-le}
use Rattle.codec.proofs.CodecLaws.{bytes_all}
use Rattle.distinct.proofs.RunLaws.{rest_start, rest_met, rest_next, rest_end}
use Rattle.distinct.proofs.runs.is_distinct_by_runs.Goals as goal

pub loop-at-init : goal.loop-at-init
loop-at-init c = (refl, refl, λ b. rest_start c.args.bytes.now b c.requires.whole)

pub gather-run-requires-clause-whole : goal.gather-run-requires-clause-whole
gather-run-requires-clause-whole c =
    let a = c.args in
    (c.loop-at.invariant.2 (bytes_all a.bytes.now (λ i. (c.type_inv.bytes i).fits))).whole

pub returns-then-not-is_alone : goal.returns-then-not-is_alone
returns-then-not-is_alone c =
    let a = c.args in
    let b = bytes_all a.bytes.now (λ i. (c.type_inv.bytes i).fits) in
    sym (rest_met a.bytes.now b c.loop-at.at (c.loop-at.invariant.2 b) c.gather-run.new.places c.gather-run.result c.gather-run.ensures c.if-not-is_alone.ensures)

pub loop-at-preserved : goal.loop-at-preserved
loop-at-preserved c =
    let a = c.args in
    let l = c.loop-at in
    let n = c.gather-run.result.count in
    let g = c.gather-run.ensures in (
      omega (arith, length-append c.is_alone.new.run (drop n c.gather-run.new.places), length-drop n c.gather-run.new.places, c.is_alone.auto.run, length-take-le n c.gather-run.new.places g.within, c.gather-run.auto.places, l.invariant.0, g.within),
      omega (arith, length-append c.is_alone.new.scratch (drop n l.scratch), length-drop n l.scratch, c.is_alone.auto.scratch, length-take-le n l.scratch (omega (arith, l.invariant.0, l.invariant.1, g.within, c.gather-run.auto.places, c.requires.scratch_len)), l.invariant.0, l.invariant.1, g.within, c.gather-run.auto.places, c.requires.scratch_len),
      λ b. rest_next a.bytes.now b l.at (l.invariant.2 b) c.gather-run.new.places c.gather-run.result g c.if-not-is_alone.ensures,
    )

pub returns : goal.returns
returns c =
    let a = c.args in
    let b = bytes_all a.bytes.now (λ i. (c.type_inv.bytes i).fits) in
    sym (rest_end a.bytes.now b c.loop-at.at c.loop-at-test.false (c.loop-at.invariant.2 b))
