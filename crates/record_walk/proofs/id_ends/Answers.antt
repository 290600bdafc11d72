-- `record_walk::id_ends` meets its contract: each step goes past one text of the identifier. Assumes nothing.
use Prim.Native.Nat.{ℕ, ◌+◌, ◌/◌, ◌%◌, ◌≤◌}
use native.Mathlib.Omega.{arith}
use mathlib.Core.Path.{◌≡◌, sym, subst, ◌∙◌}
use mathlib.Core.List.{List}
use lib.ListN.{length}
use lib.Dec.{eqb}
use Rattle.std.specs.Prelude.{Some}
use Rattle.codec.specs.Codec.{Reading}
use Rattle.record.specs.Record.{Record, fields_of}
use Rattle.record_walk.specs.Walk.{At, two_at, past_text, EndsOf}
use Rattle.codec.proofs.CodecLaws.{Bytes, bytes_all}
use Rattle.record_walk.proofs.Images
use Rattle.record_walk.proofs.id_ends.Goals as goal

-- the places that the steps come to, m being the map
module _ (s : List ℕ) (p : ℕ) (k : Bytes s) (x : At s p) (m : ℕ) (e : m ≡ two_at s p) where
  first : (a : ℕ) → a ≡ past_text s (p + 2) (eqb (m % 2) 1) → a ≡ Images.first_end s p k x
  first a q = q ∙ Images.first_past s p k x m e

  second : (a b : ℕ) → a ≡ past_text s (p + 2) (eqb (m % 2) 1) → b ≡ past_text s a (eqb (m / 2 % 2) 1) → b ≡ Images.second_end s p k x
  second a b q r = r ∙ Images.second_past s p k x m a e (first a q)

  first_here : past_text s (p + 2) (eqb (m % 2) 1) ≤ length s
  first_here = rw (Images.first_past s p k x m e) (Images.second_at s p k x).here

  second_here : (a : ℕ) → a ≡ past_text s (p + 2) (eqb (m % 2) 1) → past_text s a (eqb (m / 2 % 2) 1) ≤ length s
  second_here a q = rw (Images.second_past s p k x m a e (first a q)) (Images.third_at s p k x).here

  third_here : (a b : ℕ) → a ≡ past_text s (p + 2) (eqb (m % 2) 1) → b ≡ past_text s a (eqb (m / 2 % 2) 1) → past_text s b (eqb (m / 4 % 2) 1) ≤ length s
  third_here a b q r = rw (Images.third_past s p k x m b e (second a b q r)) (Images.after_at s p k x).here

  third : (a b d : ℕ) → a ≡ past_text s (p + 2) (eqb (m % 2) 1) → b ≡ past_text s a (eqb (m / 2 % 2) 1) → d ≡ past_text s b (eqb (m / 4 % 2) 1) → d ≡ Images.third_end s p k x
  third a b d q r t = t ∙ Images.third_past s p k x m b e (second a b q r)

pub two-m-requires : goal.two-m-requires
two-m-requires c = let a = c.args in Images.map_here a.bytes.now a.p (bytes_all a.bytes.now (λ i. (c.type_inv.bytes i).fits)) c.requires

pub past_if-call_id-requires : goal.past_if-call_id-requires
past_if-call_id-requires c = let a = c.args in first_here a.bytes.now a.p (bytes_all a.bytes.now (λ i. (c.type_inv.bytes i).fits)) c.requires c.two-m.result c.two-m.ensures.0

pub past_if-local_tag-requires : goal.past_if-local_tag-requires
past_if-local_tag-requires c = let a = c.args in second_here a.bytes.now a.p (bytes_all a.bytes.now (λ i. (c.type_inv.bytes i).fits)) c.requires c.two-m.result c.two-m.ensures.0 c.past_if-call_id.result c.past_if-call_id.ensures

pub past_if-remote_tag-requires : goal.past_if-remote_tag-requires
past_if-remote_tag-requires c = let a = c.args in third_here a.bytes.now a.p (bytes_all a.bytes.now (λ i. (c.type_inv.bytes i).fits)) c.requires c.two-m.result c.two-m.ensures.0 c.past_if-call_id.result c.past_if-local_tag.result c.past_if-call_id.ensures c.past_if-local_tag.ensures

pub returns-clause-ends : goal.returns-clause-ends
returns-clause-ends c x e =
    let a = c.args in
    let s = a.bytes.now in
    let k : Bytes s = bytes_all s (λ i. (c.type_inv.bytes i).fits) in
    let n = c.two-m.result in
    let d = c.two-m.ensures.0 in
    let u = first s a.p k c.requires n d c.past_if-call_id.result c.past_if-call_id.ensures in
    let v = second s a.p k c.requires n d c.past_if-call_id.result c.past_if-local_tag.result c.past_if-call_id.ensures c.past_if-local_tag.ensures in
    let w = third s a.p k c.requires n d c.past_if-call_id.result c.past_if-local_tag.result c.past_if-remote_tag.result c.past_if-call_id.ensures c.past_if-local_tag.ensures c.past_if-remote_tag.ensures in
    let q : Some c.requires.reading ≡ Some x = sym c.requires.reads ∙ e in
    let r : c.requires.reading ≡ x = cc in
    subst (λ (y : Reading Record). EndsOf (a.p + 2) (fields_of y.value).first (record { call_id = c.past_if-call_id.result; local_tag = c.past_if-local_tag.result; remote_tag = c.past_if-remote_tag.result })) r
    (u, omega (arith, u, v), omega (arith, v, w))

pub returns-clause-remote_tag_in_bounds : goal.returns-clause-remote_tag_in_bounds
returns-clause-remote_tag_in_bounds c =
    let a = c.args in
    let k : Bytes a.bytes.now = (bytes_all a.bytes.now (λ i. (c.type_inv.bytes i).fits)) in
    let w = third a.bytes.now a.p k c.requires c.two-m.result c.two-m.ensures.0 c.past_if-call_id.result c.past_if-local_tag.result c.past_if-remote_tag.result c.past_if-call_id.ensures c.past_if-local_tag.ensures c.past_if-remote_tag.ensures in
    omega (arith, w, (Images.after_at a.bytes.now a.p k c.requires).here)
