-- `distinct::is_distinct_by_pairs` meets its contract: the records passed have identifiers of their own. Assumes nothing.
use mathlib.Core.Path.{◌≡◌, sym, ap, subst, ◌∙◌}
use borrow.Author.Tests.{not-true, not-false}
use Rattle.codec.proofs.CodecLaws.{bytes_all}
use Rattle.record_walk.specs.Walk.{end_at}
use Rattle.record_walk.proofs.Walks.{Given, given, ended}
use Rattle.distinct.specs.Pairs.{alone_from}
use Rattle.distinct.proofs.Alones.{Left, left_start, left_end, left_met, left_next}
use Rattle.distinct.proofs.is_distinct_by_pairs.Goals as goal
use Rattle.distinct.proofs.is_distinct_by_pairs.Goals.{In-Some, After-is_alone}

-- the walk's turn
taken : (c : In-Some) → Given c.args.bytes.now c.loop-p.records c.in-Some.p c.next.new.self
taken c = given c.args.bytes.now c.loop-p.records c.loop-p.invariant.0 c.in-Some.ensures.steps

-- the records left are those from the turn's record on
left : (c : In-Some) → Left c.args.bytes.now c.in-Some.p
left c = subst (Left c.args.bytes.now) (sym (taken c).from) c.loop-p.invariant.1

-- what `is_alone` answers
answered : (c : After-is_alone) → (c.is_alone.result ≡ alone_from c.args.bytes.now c.in-Some.p (end_at c.args.bytes.now c.in-Some.p))
answered c =
    let g : Given c.args.bytes.now c.loop-p.records c.in-Some.p c.next.new.self = given c.args.bytes.now c.loop-p.records c.loop-p.invariant.0 c.in-Some.ensures.steps in
    c.is_alone.ensures ∙ ap (alone_from c.args.bytes.now c.in-Some.p) g.ends

pub loop-p-init : goal.loop-p-init
loop-p-init c =
    let e = c.new-records.ensures in
    (e.bytes, subst (Left c.args.bytes.now) (sym e.at) (left_start c.args.bytes.now c.requires))

pub returns-then-not-is_alone : goal.returns-then-not-is_alone
returns-then-not-is_alone c =
    let i = (goal.at.returns-then-not-is_alone c).In-Some in
    let b = bytes_all c.args.bytes.now (λ i. (c.type_inv.bytes i).fits) in
    sym (left_met c.args.bytes.now b c.in-Some.p (left i) (taken i).more (sym (answered (goal.at.returns-then-not-is_alone c).After-is_alone) ∙ not-true c.is_alone.result c.if-not-is_alone.true-raw))

pub loop-p-preserved : goal.loop-p-preserved
loop-p-preserved c =
    let i = (goal.at.loop-p-preserved c).In-Some in
    let b = bytes_all c.args.bytes.now (λ i. (c.type_inv.bytes i).fits) in
    let g = taken i in
    (g.same, subst (Left c.args.bytes.now) (sym g.ends) (left_next c.args.bytes.now b c.in-Some.p (left i) g.more (sym (answered (goal.at.loop-p-preserved c).After-is_alone) ∙ not-false c.is_alone.result c.if-not-is_alone.false-raw)))

pub returns : goal.returns
returns c =
    let b = bytes_all c.args.bytes.now (λ i. (c.type_inv.bytes i).fits) in
    let l = c.loop-p in
    sym (left_end c.args.bytes.now b l.records.at (ended c.args.bytes.now l.records l.invariant.0 c.next.new.self c.in_default.ensures.steps) l.invariant.1)
