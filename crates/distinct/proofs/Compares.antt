-- How the keys of two records at two places stand to each other, by their flags and the bytes of their identifiers. Assumes nothing.
use Prim.Native.Nat.{ℕ, zero, suc, ◌+◌, ◌-◌, ◌%◌, ◌≤◌, ◌<◌}
use native.Mathlib.Omega.{arith}
use mathlib.Core.Path.{◌≡◌, refl, sym, ap, ap₂, ◌∙◌}
use mathlib.Core.Bool.{true}
use mathlib.Core.List.{List, [], ◌∷◌}
use lib.Dec.{eqb}
use lib.ListN.{length, take, drop, get_or, length-drop}
use lib.Seq.{length-take-le, take-take}
use Rattle.codec.proofs.CodecLaws.{Bytes}
use Rattle.ordered_store.specs.Order.{or_next, byte_order, order}
use Rattle.std.specs.declared.cmp.Ordering.{Ordering}
use Rattle.std.specs.declared.cmp.Ordering.TheVariants.{Less, Equal, Greater}
use Rattle.ordered_store.proofs.OrderLaws.{byte_less, byte_more, byte_same}
use Rattle.record_walk.specs.Walk.{At, two_at, past_text, ids_end}
use Rattle.record_walk.proofs.Images.{first_end, first_past, after_at, ids_end_is}
use Rattle.distinct.specs.Keys.{key_at}
use Rattle.distinct.proofs.KeysAt.{flags_are, ends_with_key, key_bytes}

module _ (s : List ℕ) (p q : ℕ) (b : Bytes s) (x : At s p) (y : At s q) (f g : ℕ) (u : f ≡ get_or (key_at s p) 0 0) (v : g ≡ get_or (key_at s q) 0 0) where
  pub flags_less : f < g → order (key_at s p) (key_at s q) ≡ Less
  flags_less h = ap₂ order (key_bytes s p b x _ refl) (key_bytes s q b y _ refl) ∙ byte_less _ _ _ _ (omega arith)

  pub flags_more : g < f → order (key_at s p) (key_at s q) ≡ Greater
  flags_more h = ap₂ order (key_bytes s p b x _ refl) (key_bytes s q b y _ refl) ∙ byte_more _ _ _ _ (omega arith)

  -- with the same flags, by the bytes up to the identifiers' ends
  pub by_bytes : g ≤ f → f ≤ g → (d e : ℕ) → d ≡ p + 1 + length (key_at s p) → e ≡ q + 1 + length (key_at s q) → order (key_at s p) (key_at s q) ≡ order (take (d - (p + 2)) (drop (p + 2) s)) (take (e - (q + 2)) (drop (q + 2) s))
  by_bytes h k d e m n = ap₂ order (key_bytes s p b x d m) (key_bytes s q b y e n) ∙ byte_same _ _ _ _ (omega arith)

-- ---- a front that decides

next : (b f g o : Ordering) → (f ≡ o → g ≡ o) → or_next b f ≡ o → or_next b g ≡ o
next Less f g o h e = e
next Equal f g o h e = h e
next Greater f g o h e = e

-- of lists that are alike in length up to a place, the fronts decide where they differ
pub front_decides : (i : ℕ) (s t : List ℕ) → i ≤ length s → i ≤ length t → (o : Ordering) → order (take i s) (take i t) ≡ o → (o ≡ Equal → ⊥) → order s t ≡ o
unfolding order
front_decides zero s t h k o e d = absurd (d (sym e))
front_decides (suc i) [] t h k o e d = absurd (omega arith)
front_decides (suc i) (x ∷ s) [] h k o e d = absurd (omega arith)
front_decides (suc i) (x ∷ s) (y ∷ t) h k o e d = next (byte_order x y) (order (take i s) (take i t)) (order s t) o (λ f. front_decides i s t (omega arith) (omega arith) o f d) e

module _ (s : List ℕ) (p : ℕ) (b : Bytes s) (x : At s p) (f : ℕ) (u : f ≡ get_or (key_at s p) 0 0) (odd : f % 2 ≡ 1) where
  -- where a Call-ID stands it is the first text
  pub first_text : p + 4 + two_at s (p + 2) ≤ ids_end s p
  first_text =
      let m : two_at s p % 2 ≡ 1 = omega (arith, flags_are s p b x) in
      let e = first_past s p b x (two_at s p) refl in
      let z : eqb (two_at s p % 2) 1 ≡ true = rw m refl in
      let k : past_text s (p + 2) true ≡ first_end s p b x = ap (past_text s (p + 2)) (sym z) ∙ e in
      omega (arith, k, ids_end_is s p b x)

  pub first_within : p + 4 + two_at s (p + 2) ≤ length s
  first_within = omega (arith, first_text, ids_end_is s p b x, (after_at s p b x).here)

-- the fronts of two records of the same flags
pub texts_decide : (s : List ℕ) (p q : ℕ) (b : Bytes s) (x : At s p) (y : At s q) (f : ℕ) → f ≡ get_or (key_at s p) 0 0 → f ≡ get_or (key_at s q) 0 0 → f % 2 ≡ 1
    → two_at s (p + 2) ≡ two_at s (q + 2)
    → (n : ℕ) → n ≡ 2 + two_at s (p + 2) → (o : Ordering) → o ≡ order (take n (drop (p + 2) s)) (take n (drop (q + 2) s)) → (o ≡ Equal → ⊥) → o ≡ order (key_at s p) (key_at s q)
texts_decide s p q b x y f u v odd m n k o e d =
    let i = ids_end s p - (p + 2) in
    let j = ids_end s q - (q + 2) in
    let c = first_text s p b x f u odd in
    let g = first_text s q b y f v odd in
    let w : n ≤ i = omega arith in
    let z : n ≤ j = omega arith in
    let ip : length (take i (drop (p + 2) s)) ≡ i = length-take-le i (drop (p + 2) s) (omega (arith, length-drop (p + 2) s, ids_end_is s p b x, (after_at s p b x).here)) in
    let jq : length (take j (drop (q + 2) s)) ≡ j = length-take-le j (drop (q + 2) s) (omega (arith, length-drop (q + 2) s, ids_end_is s q b y, (after_at s q b y).here)) in
    let t = front_decides n (take i (drop (p + 2) s)) (take j (drop (q + 2) s)) (omega (arith, w, ip)) (omega (arith, z, jq)) o (rw (take-take n i (drop (p + 2) s) w, take-take n j (drop (q + 2) s) z) (sym e)) d in
    sym (by_bytes s p q b x y f f u v (omega arith) (omega arith) (ids_end s p) (ids_end s q) (ends_with_key s p b x) (ends_with_key s q b y) ∙ t)
