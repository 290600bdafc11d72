-- `keys::compare_texts` meets its contract: the Call-IDs with their lengths decide, and where they are equal the bytes of the identifiers. Assumes nothing.
use Prim.Native.Nat.{ℕ, ◌+◌, ◌-◌, ◌≤◌}
use native.Mathlib.Omega.{arith}
use mathlib.Core.Path.{◌≡◌, sym, ap, ◌∙◌}
use mathlib.Core.Bool.{true≢false}
use mathlib.Core.List.{List}
use lib.ListN.{length, take, drop}
use Rattle.std.specs.Ordering.{is_ne}
use Rattle.std.specs.declared.cmp.Ordering.TheVariants.{Equal}
use Rattle.ordered_store.specs.Order.{order}
use Rattle.codec.proofs.CodecLaws.{Bytes, bytes_all}
use Rattle.record_walk.specs.Walk.{At, two_at, ids_end}
use Rattle.distinct.specs.Keys.{key_at}
use Rattle.distinct.proofs.KeysAt.{key_long, ends_with_key}
use Rattle.distinct.proofs.Compares.{first_within, texts_decide, by_bytes}
use Rattle.distinct.proofs.keys.compare_texts.Goals as goal

module _ (s : List ℕ) (known : Bytes s) (p : ℕ) (h : At s p) where
  long : 1 ≤ length (key_at s p)
  long = key_long s p known h

  ends : {e : ℕ} → e ≡ ids_end s p → e ≡ p + 1 + length (key_at s p)
  ends e = e ∙ ends_with_key s p known h

pub two-n-requires : goal.two-n-requires
two-n-requires c =
    let a = c.args in
    let k : Bytes a.bytes.now = bytes_all a.bytes.now (λ i. (c.type_inv.bytes i).fits) in
    omega (arith, first_within a.bytes.now a.p k c.requires.at.0 a.flags c.requires.flags.0 c.if-flags-eq1.true)

pub two-requires : goal.two-requires
two-requires c =
    let a = c.args in
    let k : Bytes a.bytes.now = bytes_all a.bytes.now (λ i. (c.type_inv.bytes i).fits) in
    omega (arith, first_within a.bytes.now a.q k c.requires.at.1 a.flags c.requires.flags.1 c.if-flags-eq1.true)

pub slice_bounds-compare-end : goal.slice_bounds-compare-end
slice_bounds-compare-end c =
    let a = c.args in
    let k : Bytes a.bytes.now = bytes_all a.bytes.now (λ i. (c.type_inv.bytes i).fits) in
    omega (arith, c.two-n.ensures.0, first_within a.bytes.now a.p k c.requires.at.0 a.flags c.requires.flags.0 c.if-flags-eq1.true)

pub slice_bounds-compare-end-then-two-n : goal.slice_bounds-compare-end-then-two-n
slice_bounds-compare-end-then-two-n c =
    let a = c.args in
    let k : Bytes a.bytes.now = bytes_all a.bytes.now (λ i. (c.type_inv.bytes i).fits) in
    omega (arith, c.two.ensures.0, c.if-two-n.true, first_within a.bytes.now a.q k c.requires.at.1 a.flags c.requires.flags.1 c.if-flags-eq1.true)

pub returns-then-is_ne : goal.returns-then-is_ne
returns-then-is_ne c =
    let a = c.args in
    let s = a.bytes.now in
    let k : Bytes s = bytes_all s (λ i. (c.type_inv.bytes i).fits) in
    let n = c.two-n.result in
    let m : a.p + 2 + 2 + n - (a.p + 2) ≡ 2 + two_at s (a.p + 2) = omega (arith, c.two-n.ensures.0) in
    let l : a.q + 2 + 2 + n - (a.q + 2) ≡ a.p + 2 + 2 + n - (a.p + 2) = omega arith in
    let e = c.compare-way.ensures ∙ ap (λ j. order (take (a.p + 2 + 2 + n - (a.p + 2)) (drop (a.p + 2) s)) (take j (drop (a.q + 2) s))) l in
    let differ : c.compare-way.result ≡ Equal → ⊥ = λ o. true≢false (sym c.if-is_ne.true ∙ c.is_ne.ensures ∙ ap is_ne o) in
    texts_decide s a.p a.q k c.requires.at.0 c.requires.at.1 a.flags c.requires.flags.0 c.requires.flags.1 c.if-flags-eq1.true (omega (arith, c.two-n.ensures.0, c.two.ensures.0, c.if-two-n.true)) (a.p + 2 + 2 + n - (a.p + 2)) m c.compare-way.result e differ

pub slice_bounds-compare-count-2 : goal.slice_bounds-compare-count-2
slice_bounds-compare-count-2 c =
    let a = c.args in
    let k : Bytes a.bytes.now = bytes_all a.bytes.now (λ i. (c.type_inv.bytes i).fits) in
    omega (arith, long a.bytes.now k a.p c.requires.at.0, ends a.bytes.now k a.p c.requires.at.0 c.ids_end-a_end.ensures.0)

pub slice_bounds-compare-start-2 : goal.slice_bounds-compare-start-2
slice_bounds-compare-start-2 c =
    let a = c.args in
    let k : Bytes a.bytes.now = bytes_all a.bytes.now (λ i. (c.type_inv.bytes i).fits) in
    omega (arith, long a.bytes.now k a.p c.requires.at.0, ends a.bytes.now k a.p c.requires.at.0 c.ids_end-a_end.ensures.0)

pub slice_bounds-compare-count-3 : goal.slice_bounds-compare-count-3
slice_bounds-compare-count-3 c =
    let a = c.args in
    let k : Bytes a.bytes.now = bytes_all a.bytes.now (λ i. (c.type_inv.bytes i).fits) in
    omega (arith, long a.bytes.now k a.q c.requires.at.1, ends a.bytes.now k a.q c.requires.at.1 c.ids_end-b_end.ensures.0)

pub slice_bounds-compare-start-3 : goal.slice_bounds-compare-start-3
slice_bounds-compare-start-3 c =
    let a = c.args in
    let k : Bytes a.bytes.now = bytes_all a.bytes.now (λ i. (c.type_inv.bytes i).fits) in
    omega (arith, long a.bytes.now k a.q c.requires.at.1, ends a.bytes.now k a.q c.requires.at.1 c.ids_end-b_end.ensures.0)

pub returns : goal.returns
returns c =
    let a = c.args in
    let k : Bytes a.bytes.now = bytes_all a.bytes.now (λ i. (c.type_inv.bytes i).fits) in
    c.compare.ensures
    ∙ sym (by_bytes a.bytes.now a.p a.q k c.requires.at.0 c.requires.at.1 _ _ c.requires.flags.0 c.requires.flags.1 (omega arith) (omega arith) _ _ (ends a.bytes.now k a.p c.requires.at.0 c.ids_end-a_end.ensures.0) (ends a.bytes.now k a.q c.requires.at.1 c.ids_end-b_end.ensures.0))
