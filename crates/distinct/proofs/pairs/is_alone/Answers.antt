-- `pairs::is_alone` meets its contract: what is asked of the records from the start is asked of those left. Assumes nothing.
use native.Mathlib.Omega.{arith}
use mathlib.Core.Path.{◌≡◌, sym, ap, subst, ◌∙◌}
use mathlib.Core.Bool.{true, false, true≢false}
use Rattle.std.specs.Cmp.{Equal-is}
use Rattle.std.specs.declared.cmp.Ordering.TheVariants.{Equal}
use Rattle.codec.proofs.CodecLaws.{Bytes, bytes_all}
use Rattle.record_walk.proofs.Walks.{Given, given, ended}
use Rattle.distinct.specs.Pairs.{alone_from}
use Rattle.distinct.proofs.Alones.{Step, step, whole_here, alone_end, alone_met, alone_next}
use Rattle.distinct.proofs.pairs.is_alone.Goals as goal
use Rattle.distinct.proofs.pairs.is_alone.Goals.{In-Some}

known : (c : In-Some) → Bytes c.args.bytes.now
known c = bytes_all c.args.bytes.now (λ i. (c.type_inv.bytes i).fits)

-- the walk's turn
taken : (c : In-Some) → Given c.args.bytes.now c.loop-q.q-iterator c.in-Some.q c.next.new.self
taken c = given c.args.bytes.now c.loop-q.q-iterator c.loop-q.invariant.0 c.in-Some.ensures.steps

-- the record of the turn
turn : (c : In-Some) → Step c.args.bytes.now (known c) c.in-Some.q
turn c =
    let g = taken c in
    subst (Step c.args.bytes.now (known c)) (sym g.from) (step c.args.bytes.now (known c) c.loop-q.q-iterator.at (omega (arith, g.more, g.from)) (whole_here c.args.bytes.now (known c) c.loop-q.q-iterator c.loop-q.invariant.0))

pub returns-then-is_eq : goal.returns-then-is_eq
returns-then-is_eq c =
    let i = (goal.at.returns-then-is_eq c).In-Some in
    let a = c.args in
    let from = ap (alone_from a.bytes.now a.p) (sym (taken i).from) in
    sym (c.loop-q.invariant.1 ∙ from ∙ alone_met a.bytes.now (known i) a.p c.requires.0 c.in-Some.q (turn i) (sym c.compare.ensures ∙ (Equal-is c.compare.result).0 (sym c.is_eq.ensures ∙ c.if-is_eq.true)))

pub loop-q-preserved : goal.loop-q-preserved
loop-q-preserved c =
    let i = (goal.at.loop-q-preserved c).In-Some in
    let a = c.args in
    let g = taken i in
    let differ : c.compare.result ≡ Equal → ⊥ =
    λ o. let z : false ≡ true = sym c.if-is_eq.false ∙ c.is_eq.ensures ∙ (Equal-is c.compare.result).1 o in true≢false (sym z) in
    let next = alone_next a.bytes.now (known i) a.p c.requires.0 c.in-Some.q (turn i) (λ o. differ (c.compare.ensures ∙ o)) in
    (g.same, c.loop-q.invariant.1 ∙ ap (alone_from a.bytes.now a.p) (sym g.from) ∙ next ∙ ap (alone_from a.bytes.now a.p) (sym g.ends))

pub returns : goal.returns
returns c =
    let a = c.args in
    let r = c.loop-q.q-iterator in
    let b = bytes_all a.bytes.now (λ i. (c.type_inv.bytes i).fits) in
    let e = c.loop-q.invariant.0 in
    sym (c.loop-q.invariant.1 ∙ alone_end a.bytes.now b a.p c.requires.0 r.at (ended a.bytes.now r e c.next.new.self c.in-None.ensures.steps) (whole_here a.bytes.now b r e))
