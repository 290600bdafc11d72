-- One step of a comparison of two texts at a place, and where one of them ends. Assumes nothing.
use Prim.Native.Nat.{ℕ, ◌+◌, ◌≤◌, ◌<◌, min}
use native.Mathlib.Omega.{arith}
use native.Mathlib.Numerals.{add-one}
use mathlib.Core.Path.{◌≡◌, refl, ap, ◌∙◌}
use mathlib.Core.Bool.{Bool, true, false, cond}
use mathlib.Core.List.{List, [], ◌∷◌}
use lib.ListN.{length, drop, get_or, drop_of_length-le}
use lib.Seq.{drop-cons}
use lib.Dec.{ltb, eqb}
use borrow.Author.Tests.{le-ltb, eqb-true, eqb-false, ltb-true, ltb-false}
use Rattle.std.specs.Cmp.Lexicographic.{slice_cmp}
use Rattle.std.specs.Ordering.{nat_cmp, ordering_then}
use Rattle.std.specs.declared.cmp.Ordering.{Ordering}
use Rattle.std.specs.declared.cmp.Ordering.TheVariants.{Less, Equal, Greater}
use Rattle.ordered_store.specs.Order.{order, byte_order, or_next}

-- two bytes are the same exactly where neither is below the other
byte_cmp : (x y : ℕ) → nat_cmp x y ≡ byte_order x y
byte_cmp x y = by (ltb x y) refl (eqb x y) refl (ltb y x) refl
  where
    by : (a : Bool) → ltb x y ≡ a → (b : Bool) → eqb x y ≡ b → (c : Bool) → ltb y x ≡ c → cond a Less (cond b Equal Greater) ≡ cond a Less (cond c Greater Equal)
    by true p b q c r = refl
    by false p true q true r = absurd (omega (arith, eqb-true x y q, ltb-true y x r))
    by false p true q false r = refl
    by false p false q true r = refl
    by false p false q false r = absurd (eqb-false x y q (omega (arith, ltb-false x y p, ltb-false y x r)))

-- bytes that differ decide, whatever comes next
decided : (x y : ℕ) (o : Ordering) → (x ≡ y → ⊥) → or_next (byte_order x y) o ≡ byte_order x y
decided x y o h = by (ltb x y) refl (ltb y x) refl
  where
    by : (a : Bool) → ltb x y ≡ a → (b : Bool) → ltb y x ≡ b → or_next (cond a Less (cond b Greater Equal)) o ≡ cond a Less (cond b Greater Equal)
    by true p b q = refl
    by false p true q = refl
    by false p false q = absurd (h (omega (arith, ltb-false x y p, ltb-false y x q)))

module _ (a b : List ℕ) (i : ℕ) where
  abbrev rests : Ordering
  rests = order (drop i a) (drop i b)

  module _ (h : i < length a) (k : i < length b) where
    pub differ : (get_or a i 0 ≡ get_or b i 0 → ⊥) → rests ≡ nat_cmp (get_or a i 0) (get_or b i 0)
    unfolding order
    differ e = rw (drop-cons a i 0 h, drop-cons b i 0 k, byte_cmp (get_or a i 0) (get_or b i 0)) (decided (get_or a i 0) (get_or b i 0) _ e)

    -- equal bytes: the rest decides
    pub go_on : get_or a i 0 ≡ get_or b i 0 → rests ≡ order (drop (i + 1) a) (drop (i + 1) b)
    unfolding order
    go_on e = rw (drop-cons a i 0 h, drop-cons b i 0 k, le-ltb (get_or a i 0) (get_or b i 0) (omega (arith, e)), le-ltb (get_or b i 0) (get_or a i 0) (omega (arith, e)), add-one i)

  -- the shorter one has ended: the lengths decide
  pub ended : i ≡ min (length a) (length b) → rests ≡ nat_cmp (length a) (length b)
  unfolding order
  ended e = by (ltb (length a) (length b)) refl (eqb (length a) (length b)) refl
    where
      by : (t : Bool) → ltb (length a) (length b) ≡ t → (u : Bool) → eqb (length a) (length b) ≡ u → rests ≡ cond t Less (cond u Equal Greater)
      by true p u q =
          let h : length a < length b = ltb-true _ _ p in
          let k : length a ≤ i = omega (arith, e) in
          let l : i < length b = omega (arith, e) in
          rw (drop_of_length-le a k, drop-cons b i 0 l)
      by false p true q =
          let h : length a ≡ length b = eqb-true _ _ q in
          let k : length a ≤ i = omega (arith, e) in
          let l : length b ≤ i = omega (arith, e) in
          rw (drop_of_length-le a k, drop_of_length-le b l)
      by false p false q =
          let h : length b ≤ length a = ltb-false _ _ p in
          let g : length a ≡ length b → ⊥ = eqb-false _ _ q in
          let k : i < length a = omega (arith, e) in
          let l : length b ≤ i = omega (arith, e) in
          rw (drop-cons a i 0 k, drop_of_length-le b l)

-- ---- std's order of two texts is the same

then_next : (o p : Ordering) → ordering_then o p ≡ or_next o p
then_next Less p = refl
then_next Equal p = refl
then_next Greater p = refl

pub cmp_order : (a b : List ℕ) → slice_cmp nat_cmp a b ≡ order a b
unfolding order
cmp_order [] [] = refl
cmp_order [] (y ∷ t) = refl
cmp_order (x ∷ s) [] = refl
cmp_order (x ∷ s) (y ∷ t) = then_next (nat_cmp x y) (slice_cmp nat_cmp s t) ∙ (ap (λ o. or_next o (slice_cmp nat_cmp s t)) (byte_cmp x y) ∙ ap (or_next (byte_order x y)) (cmp_order s t))
