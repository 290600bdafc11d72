-- `merging::merge` meets its contract: what is written comes before what is left of each run, and at the end one run has nothing left. Assumes nothing.
use Prim.Native.Nat.{ℕ, ◌-◌, ◌≤◌, ◌<◌}
use native.Mathlib.Omega.{arith}
use mathlib.Core.Path.{sym, ap, subst, ◌∙◌}
use mathlib.Core.Logic.{◌⊎◌, inl, inr}
use mathlib.Core.List.{List}
use lib.ListN.{length, take, drop}
use Rattle.distinct.specs.Sorting.{Sorted, put}
use Rattle.distinct.proofs.Ascents.{each_at}
use Rattle.distinct.proofs.Merges.{begin, turn_left, turn_right, met, ended}
use Rattle.distinct.proofs.merging.merge.Goals as goal
use Rattle.distinct.proofs.merging.merge.Goals.{then-loop-i-test+else-j-places, else-loop-i-test}

pub loop-i-init : goal.loop-i-init
loop-i-init c =
    begin c.args.bytes.now c.args.places.now c.args.mid c.requires.within c.requires.each c.args.out.now c.requires.wide c.requires.low c.requires.high

pub compare-way-requires : goal.compare-way-requires
compare-way-requires c =
    let a = c.args in
    let l = c.loop-i in
    let left : l.i < a.mid = c.loop-i-test.true in
    let right : l.j < length a.places.now = c.if-j-places.true in
    (each_at a.bytes.now a.places.now l.i c.requires.each (omega (arith, left, c.requires.within)), each_at a.bytes.now a.places.now l.j c.requires.each right)

pub loop-i-preserved-in-Less : goal.loop-i-preserved-in-Less
loop-i-preserved-in-Less c =
    let a = c.args in
    let l = c.loop-i in
    let left : l.i < a.mid = c.loop-i-test.true in
    let right : l.j < length a.places.now = c.if-j-places.true in
    turn_left a.bytes.now a.places.now a.mid c.requires.within c.requires.each l.out l.i l.j l.invariant left right (sym c.compare-way.ensures ∙ c.in-Less.is)

pub loop-i-preserved : goal.loop-i-preserved
loop-i-preserved c =
    let a = c.args in
    let l = c.loop-i in
    let left : l.i < a.mid = c.loop-i-test.true in
    let right : l.j < length a.places.now = c.if-j-places.true in
    turn_right a.bytes.now a.places.now a.mid c.requires.within c.requires.each l.out l.i l.j l.invariant left right (sym c.compare-way.ensures ∙ c.in-Greater.is)

pub returns-in-Equal : goal.returns-in-Equal
returns-in-Equal c =
    let a = c.args in
    let l = c.loop-i in
    let left : l.i < a.mid = c.loop-i-test.true in
    let right : l.j < length a.places.now = c.if-j-places.true in
    met a.bytes.now a.places.now a.mid c.requires.within c.requires.each l.out l.i l.j l.invariant left right (sym c.compare-way.ensures ∙ c.in-Equal.is)

pub returns : goal.returns
returns c =
    let a = c.args in
    let l = c.loop-i in
    let done : (a.mid ≤ l.i) ⊎ (length a.places.now ≤ l.j) =
    elim c.loop-i-test.branch [ then-loop-i-test+else-j-places w ↦ inr w.if-j-places.false | else-loop-i-test w ↦ inl w.loop-i-test.false ] in
    subst (Sorted a.bytes.now a.places.now) (sym (c.copy_at-2.ensures ∙ ap (λ (x : List ℕ). put x l.j (take (length a.places.now - l.j) (drop l.j a.places.now))) c.copy_at.ensures))
    (ended a.bytes.now a.places.now a.mid c.requires.within c.requires.each l.out l.i l.j l.invariant done)
