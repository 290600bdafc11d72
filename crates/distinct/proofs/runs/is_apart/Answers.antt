-- `runs::is_apart` meets its contract: no record passed has a key of the run. Assumes nothing.
use Prim.Native.Nat.{ℕ, ◌<◌}
use native.Mathlib.Omega.{arith}
use mathlib.Core.Path.{◌≡◌, sym, subst}
use mathlib.Core.List.{List}
use lib.ListN.{length}
use Rattle.codec.proofs.CodecLaws.{Bytes, bytes_all}
use Rattle.record_walk.specs.Walk.{At}
use Rattle.distinct.specs.Keys.{key_at}
use Rattle.distinct.specs.Sorting.{tally}
use Rattle.distinct.proofs.Alones.{Step, step}
use Rattle.distinct.proofs.RunLaws.{Passed, passed_met, passed_next, passed_end, unmarked}
use Rattle.distinct.proofs.runs.is_apart.Goals as goal
use Rattle.distinct.proofs.runs.is_apart.Goals.{else-is_marked-via-then-is_marked+else-is_among, else-is_marked-via-else-is_marked}

-- the record of the turn
module _ (s : List ℕ) (b : Bytes s) (ps : List ℕ) (from q : ℕ) (h : q < length s) (p : (b : Bytes s) → Passed s b ps from q) where
  turn : Step s b q
  turn = step s b q h (p b).whole

  here : At s q
  here = turn.next.here

pub is_marked-requires-clause-at : goal.is_marked-requires-clause-at
is_marked-requires-clause-at c =
    let a = c.args in
    here a.bytes.now (bytes_all a.bytes.now (λ i. (c.type_inv.bytes i).fits)) a.run.now a.from c.loop-q.q c.loop-q-test.true c.loop-q.invariant

pub is_among-requires-clause-at : goal.is_among-requires-clause-at
is_among-requires-clause-at c =
    let a = c.args in
    here a.bytes.now (bytes_all a.bytes.now (λ i. (c.type_inv.bytes i).fits)) a.run.now a.from c.loop-q.q c.loop-q-test.true c.loop-q.invariant

pub record_end-q-requires : goal.record_end-q-requires
record_end-q-requires c =
    let a = c.args in
    here a.bytes.now (bytes_all a.bytes.now (λ i. (c.type_inv.bytes i).fits)) a.run.now a.from c.loop-q.q c.loop-q-test.true c.loop-q.invariant

pub returns-then-is_among : goal.returns-then-is_among
returns-then-is_among c =
    let a = c.args in
    let b : Bytes a.bytes.now = bytes_all a.bytes.now (λ i. (c.type_inv.bytes i).fits) in
    passed_met a.bytes.now b a.run.now a.from c.loop-q.q (c.loop-q.invariant b) c.loop-q-test.true c.if-is_among.ensures

pub loop-q-smaller : goal.loop-q-smaller
loop-q-smaller c =
    let a = c.args in
    let t = turn a.bytes.now (bytes_all a.bytes.now (λ i. (c.type_inv.bytes i).fits)) a.run.now a.from c.loop-q.q c.loop-q-test.true c.loop-q.invariant in
    omega (arith, c.record_end-q.ensures, t.next.moves, t.next.within)

pub loop-q-preserved : goal.loop-q-preserved
loop-q-preserved c =
    let a = c.args in
    let q = c.loop-q.q in
    let other : tally a.bytes.now (key_at a.bytes.now q) a.run.now ≡ 0 = elim c.else-is_marked.branch [
      | else-is_marked-via-then-is_marked+else-is_among w ↦ w.if-is_among.ensures
      | else-is_marked-via-else-is_marked w ↦ unmarked a.bytes.now a.marks.now a.run.now (key_at a.bytes.now q) c.requires.marked w.if-is_marked.ensures
    ] in
    λ b. subst (Passed a.bytes.now b a.run.now a.from) (sym c.record_end-q.ensures) (passed_next a.bytes.now b a.run.now a.from q (c.loop-q.invariant b) c.loop-q-test.true other)

pub returns : goal.returns
returns c =
    let a = c.args in
    let b : Bytes a.bytes.now = bytes_all a.bytes.now (λ i. (c.type_inv.bytes i).fits) in
    passed_end a.bytes.now b a.run.now a.from c.loop-q.q (c.loop-q.invariant b) c.loop-q-test.false
