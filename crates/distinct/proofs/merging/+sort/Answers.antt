-- `merging::sort`, which calls itself, meets its contract: each half has fewer places, and what the halves' keys are the whole's are. Assumes nothing.
use Prim.Native.Nat.{ℕ, ◌/◌}
use native.Mathlib.Omega.{arith}
use mathlib.Core.Path.{◌≡◌, sym, ap, subst, subst₂, ◌∙◌}
use mathlib.Core.Bool.{Bool, true, false}
use mathlib.Core.List.{List}
use lib.ListN.{length, take, length-drop}
use lib.Seq.{length-take-le}
use Rattle.distinct.specs.Sorting.{EachAt, Runs, SortedOr, Twice}
use Rattle.distinct.proofs.Ascents.{each_take, each_drop}
use Rattle.distinct.proofs.Halves.{short, as_sorted, as_twice, back_is, both_length, runs, whole, twice_back, twice_front}
use Rattle.distinct.proofs.merging.+sort.Goals as goal
use Rattle.distinct.proofs.merging.+sort.Goals.{then-sort, else-sort}

pub returns-then-n-lt2 : goal.returns-then-n-lt2
returns-then-n-lt2 t c = short c.args.bytes.now c.args.places.now c.if-n-lt2.true c.requires.each_at

pub sort-requires : goal.sort-requires
sort-requires t c =
    let a = c.args in
    let r = c.requires in
    let n : length (take (length a.places.now / 2) a.places.now) ≡ length a.places.now / 2 = length-take-le (length a.places.now / 2) a.places.now (omega arith) in
    let m : length (take (length a.places.now / 2) a.scratch.now) ≡ length a.places.now / 2 = length-take-le (length a.places.now / 2) a.scratch.now (omega (arith, r.scratch_len)) in
    (omega (arith, c.decreases, n, c.if-n-lt2.false), (each_take a.bytes.now (length a.places.now / 2) a.places.now r.each_at, m ∙ sym n))

pub sort-requires-then-sort : goal.sort-requires-then-sort
sort-requires-then-sort t c =
    let a = c.args in
    let r = c.requires in
    let n = ap length (back_is a.places.now (length a.places.now / 2) (omega arith) c.sort.new.places c.sort.auto.places) in
    let m = ap length (back_is a.scratch.now (length a.places.now / 2) (omega (arith, r.scratch_len)) c.sort.new.scratch c.sort.auto.scratch) in
    (omega (arith, n, length-drop (length a.places.now / 2) a.places.now, c.decreases, c.if-n-lt2.false), (subst (EachAt a.bytes.now) (sym (back_is a.places.now (length a.places.now / 2) (omega arith) c.sort.new.places c.sort.auto.places)) (each_drop a.bytes.now (length a.places.now / 2) a.places.now r.each_at), omega (arith, n, m, length-drop (length a.places.now / 2) a.places.now, length-drop (length a.places.now / 2) a.scratch.now, r.scratch_len)))

pub join-requires : goal.join-requires
join-requires t c =
    let a = c.args in
    elim c.if-sort.branch [
      | then-sort w ↦
          let l = both_length a.scratch.now (length a.places.now / 2) (omega (arith, c.requires.scratch_len)) c.sort.new.scratch c.sort.auto.scratch w.sort-then-sort.new.scratch w.sort-then-sort.auto.scratch ∙ c.requires.scratch_len in
          subst₂ (λ (x y : List ℕ). Runs a.bytes.now x (length a.places.now / 2) y) (sym w.places-is) (sym w.scratch-is)
          (runs a.places.now (length a.places.now / 2) (omega arith) c.sort.new.places c.sort.auto.places w.sort-then-sort.new.places w.sort-then-sort.auto.places a.bytes.now (as_sorted c.sort.result a.bytes.now _ c.sort.new.places w.if-sort.true c.sort.ensures) (as_sorted w.sort-then-sort.result a.bytes.now _ w.sort-then-sort.new.places (sym w.value-is ∙ c.if-sort-2.true) w.sort-then-sort.ensures) _ l)
      | else-sort w ↦ absurd (let z : false ≡ true = sym w.if-sort.false ∙ sym w.value-is ∙ c.if-sort-2.true in cc)
    ]

pub returns-then-sort-2 : goal.returns-then-sort-2
returns-then-sort-2 t c =
    let a = c.args in
    elim c.if-sort.branch [
      | then-sort w ↦
          whole a.places.now (length a.places.now / 2) (omega arith) c.sort.new.places c.sort.auto.places w.sort-then-sort.new.places w.sort-then-sort.auto.places a.bytes.now (as_sorted c.sort.result a.bytes.now _ c.sort.new.places w.if-sort.true c.sort.ensures) (as_sorted w.sort-then-sort.result a.bytes.now _ w.sort-then-sort.new.places (sym w.value-is ∙ c.if-sort-2.true) w.sort-then-sort.ensures) c.join.result c.join.new.places
          (subst (λ (x : List ℕ). SortedOr c.join.result a.bytes.now x c.join.new.places) w.places-is c.join.ensures)
      | else-sort w ↦ absurd (let z : false ≡ true = sym w.if-sort.false ∙ sym w.value-is ∙ c.if-sort-2.true in cc)
    ]

pub returns-else-sort-2 : goal.returns-else-sort-2
returns-else-sort-2 t c =
    let a = c.args in
    let no : Twice a.bytes.now a.places.now = elim c.if-sort.branch [
      | then-sort w ↦ twice_back a.places.now (length a.places.now / 2) (omega arith) c.sort.new.places c.sort.auto.places a.bytes.now (as_twice w.sort-then-sort.result a.bytes.now _ w.sort-then-sort.new.places (sym w.value-is ∙ c.if-sort-2.false) w.sort-then-sort.ensures)
      | else-sort w ↦ twice_front a.bytes.now a.places.now (length a.places.now / 2) (as_twice c.sort.result a.bytes.now _ c.sort.new.places w.if-sort.false c.sort.ensures)
    ] in
    subst (λ (b : Bool). SortedOr b a.bytes.now a.places.now c.if-sort.places) (sym c.if-sort-2.false) no
