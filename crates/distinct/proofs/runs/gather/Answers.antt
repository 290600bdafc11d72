-- `runs::gather` meets its contract: each turn puts a record into the table. Assumes nothing.
use Prim.Native.Nat.{ℕ, ◌+◌, ◌<◌}
use native.Mathlib.Omega.{arith}
use mathlib.Core.Path.{◌≡◌, refl, subst, sym, ◌∙◌}
use lib.ListN.{length-set, set}
use Rattle.codec.proofs.CodecLaws.{Bytes, bytes_all}
use Rattle.distinct.proofs.Alones.{step}
use Rattle.distinct.proofs.RunLaws.{Gathering, gather_start, gather_next, gather_end}
use Rattle.distinct.proofs.runs.gather.Goals as goal

pub loop-count-init : goal.loop-count-init
loop-count-init c = (refl, λ b. gather_start c.args.bytes.now b c.args.from c.args.places.now c.requires.whole)

pub record_end-at-requires : goal.record_end-at-requires
record_end-at-requires c =
    let a = c.args in
    let b : Bytes a.bytes.now = bytes_all a.bytes.now (λ i. (c.type_inv.bytes i).fits) in
    (step a.bytes.now b c.loop-count.at c.if-at-bytes.true (c.loop-count.invariant.1 b).others).next.here

pub loop-count-preserved : goal.loop-count-preserved
loop-count-preserved c =
    let a = c.args in
    let l = c.loop-count in (
      length-set l.places l.count l.at ∙ l.invariant.0,
      λ b. subst (λ (e : ℕ). Gathering a.bytes.now b a.from (set l.places l.count l.at) (l.count + 1) e) (sym c.record_end-at.ensures) (gather_next a.bytes.now b a.from l.places l.count l.at (l.invariant.1 b) c.loop-count-test.true c.if-at-bytes.true),
    )

pub returns-else-at-bytes : goal.returns-else-at-bytes
returns-else-at-bytes c =
    let a = c.args in
    let l = c.loop-count in
    let b : Bytes a.bytes.now = bytes_all a.bytes.now (λ i. (c.type_inv.bytes i).fits) in
    let g = l.invariant.1 b in
    gather_end a.bytes.now b a.from l.places l.count l.at g (some l.count (λ e. omega (arith, g.begins e, c.if-at-bytes.false, c.requires.more)))
  where
    some : (n : ℕ) → (n ≡ 0 → ⊥) → 0 < n
    some n h = omega (arith, h)

pub returns-after-loop-count : goal.returns-after-loop-count
returns-after-loop-count c =
    let a = c.args in
    let l = c.loop-count in
    let b : Bytes a.bytes.now = bytes_all a.bytes.now (λ i. (c.type_inv.bytes i).fits) in
    gather_end a.bytes.now b a.from l.places l.count l.at (l.invariant.1 b) (omega (arith, c.loop-count-test.false, l.invariant.0, c.requires.room))
