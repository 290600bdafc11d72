-- The order of texts and of keys is a strict total order: `Same` says that they are equal, `Before` and `After` mirror each other, and `Before` is
-- transitive. Assumes nothing.
use Prim.Native.Nat.{ℕ, ◌<◌}
use native.Mathlib.Omega.{arith}
use mathlib.Core.Path.{◌≡◌, refl, sym, ap, ap₂, ◌∙◌}
use mathlib.Core.Bool.{Bool, true, false, cond}
use mathlib.Core.List.{List, [], ◌∷◌}
use lib.Dec.{ltb}
use borrow.Author.Tests.{ltb-true, ltb-false, lt-ltb, le-ltb}
use Rattle.ordered_store.specs.Order.{or_next, byte_order, order, key_order}
use Rattle.std.specs.declared.cmp.Ordering.{Ordering}
use Rattle.std.specs.declared.cmp.Ordering.TheVariants.{Less, Equal, Greater}

-- ---- answers

-- the order of two things taken the other way round
abbrev pub flip : Ordering → Ordering
flip Less = Greater
flip Equal = Equal
flip Greater = Less

flip_next : (o n : Ordering) → flip (or_next o n) ≡ or_next (flip o) (flip n)
flip_next Less n = refl
flip_next Equal n = refl
flip_next Greater n = refl

-- Same only if both are
next_same : (o n : Ordering) → or_next o n ≡ Equal → (o ≡ Equal) × (n ≡ Equal)
next_same Less n e = absurd (let z : ◌≡◌ {A = ℕ} 0 1 = cc in omega arith)
next_same Equal n e = (refl, e)
next_same Greater n e = absurd (let z : ◌≡◌ {A = ℕ} 0 1 = cc in omega arith)

-- o₁ and o₂ decide one after the other; n₁, n₂, n₃ where they don't
next_before : (o₁ o₂ o₃ n₁ n₂ n₃ : Ordering) → (o₁ ≡ Less → o₂ ≡ Less → o₃ ≡ Less) → (o₁ ≡ Equal → o₃ ≡ o₂) → (o₂ ≡ Equal → o₃ ≡ o₁)
    → (n₁ ≡ Less → n₂ ≡ Less → n₃ ≡ Less) → or_next o₁ n₁ ≡ Less → or_next o₂ n₂ ≡ Less → or_next o₃ n₃ ≡ Less
next_before Less Less o₃ n₁ n₂ n₃ f g h k d e = ap (λ o. or_next o n₃) (f refl refl)
next_before Less Equal o₃ n₁ n₂ n₃ f g h k d e = ap (λ o. or_next o n₃) (h refl)
next_before Equal Less o₃ n₁ n₂ n₃ f g h k d e = ap (λ o. or_next o n₃) (g refl)
next_before Equal Equal o₃ n₁ n₂ n₃ f g h k d e = ap (λ o. or_next o n₃) (g refl) ∙ k d e
next_before Less Greater o₃ n₁ n₂ n₃ f g h k d e = absurd (let z : ◌≡◌ {A = ℕ} 0 1 = cc in omega arith)
next_before Equal Greater o₃ n₁ n₂ n₃ f g h k d e = absurd (let z : ◌≡◌ {A = ℕ} 0 1 = cc in omega arith)
next_before Greater o₂ o₃ n₁ n₂ n₃ f g h k d e = absurd (let z : ◌≡◌ {A = ℕ} 0 1 = cc in omega arith)

-- ---- bytes

byte_before : (x y : ℕ) → x < y → byte_order x y ≡ Less
byte_before x y h = rw (lt-ltb x y h)

byte_itself : (x : ℕ) → byte_order x x ≡ Equal
byte_itself x = rw (le-ltb x x (omega arith))

before_byte : (x y : ℕ) → byte_order x y ≡ Less → x < y
before_byte x y e = by (ltb x y) refl (ltb y x) e
  where
    by : (p : Bool) → ltb x y ≡ p → (q : Bool) → cond p Less (cond q Greater Equal) ≡ Less → x < y
    by true h q e = ltb-true x y h
    by false h true e = absurd (let z : ◌≡◌ {A = ℕ} 0 1 = cc in omega arith)
    by false h false e = absurd (let z : ◌≡◌ {A = ℕ} 0 1 = cc in omega arith)

same_byte : (x y : ℕ) → byte_order x y ≡ Equal → x ≡ y
same_byte x y e = by (ltb x y) refl (ltb y x) refl e
  where
    by : (p : Bool) → ltb x y ≡ p → (q : Bool) → ltb y x ≡ q → cond p Less (cond q Greater Equal) ≡ Equal → x ≡ y
    by true h q k e = absurd (let z : ◌≡◌ {A = ℕ} 0 1 = cc in omega arith)
    by false h true k e = absurd (let z : ◌≡◌ {A = ℕ} 0 1 = cc in omega arith)
    by false h false k e = omega (arith, ltb-false x y h, ltb-false y x k)

byte_mirror : (x y : ℕ) → byte_order y x ≡ flip (byte_order x y)
byte_mirror x y = by (ltb x y) refl (ltb y x) refl
  where
    by : (p : Bool) → ltb x y ≡ p → (q : Bool) → ltb y x ≡ q → cond q Less (cond p Greater Equal) ≡ flip (cond p Less (cond q Greater Equal))
    by true h true k = absurd (omega (arith, ltb-true x y h, ltb-true y x k))
    by true h false k = refl
    by false h true k = refl
    by false h false k = refl

-- ---- texts

pub order_itself : (s : List ℕ) → order s s ≡ Equal
unfolding order
order_itself [] = refl
order_itself (x ∷ s) = ap (λ o. or_next o (order s s)) (byte_itself x) ∙ order_itself s

pub order_equal : (s t : List ℕ) → order s t ≡ Equal → s ≡ t
unfolding order
order_equal [] [] e = refl
order_equal [] (y ∷ t) e = absurd (let z : ◌≡◌ {A = ℕ} 0 1 = cc in omega arith)
order_equal (x ∷ s) [] e = absurd (let z : ◌≡◌ {A = ℕ} 0 1 = cc in omega arith)
order_equal (x ∷ s) (y ∷ t) e = let k = next_same (byte_order x y) (order s t) e in ap₂ (λ a b. a ∷ b) (same_byte x y k.0) (order_equal s t k.1)

pub order_mirror : (s t : List ℕ) → order t s ≡ flip (order s t)
unfolding order
order_mirror [] [] = refl
order_mirror [] (y ∷ t) = refl
order_mirror (x ∷ s) [] = refl
order_mirror (x ∷ s) (y ∷ t) = ap₂ or_next (byte_mirror x y) (order_mirror s t) ∙ sym (flip_next (byte_order x y) (order s t))

pub order_transitive : (s t u : List ℕ) → order s t ≡ Less → order t u ≡ Less → order s u ≡ Less
unfolding order
order_transitive [] [] u d e = absurd (let z : ◌≡◌ {A = ℕ} 0 1 = cc in omega arith)
order_transitive [] (y ∷ t) [] d e = absurd (let z : ◌≡◌ {A = ℕ} 0 1 = cc in omega arith)
order_transitive [] (y ∷ t) (v ∷ u) d e = refl
order_transitive (x ∷ s) [] u d e = absurd (let z : ◌≡◌ {A = ℕ} 0 1 = cc in omega arith)
order_transitive (x ∷ s) (y ∷ t) [] d e = absurd (let z : ◌≡◌ {A = ℕ} 0 1 = cc in omega arith)
order_transitive (x ∷ s) (y ∷ t) (v ∷ u) d e =
    next_before (byte_order x y) (byte_order y v) (byte_order x v) (order s t) (order t u) (order s u)
    (λ p q. byte_before x v (omega (arith, before_byte x y p, before_byte y v q)))
    (λ p. ap (λ z. byte_order z v) (same_byte x y p))
    (λ p. ap (λ z. byte_order x z) (sym (same_byte y v p)))
    (order_transitive s t u) d e

-- ---- a text's first byte

module _ (x y : ℕ) (s t : List ℕ) where
  -- where the first bytes differ, they decide
  pub byte_less : x < y → order (x ∷ s) (y ∷ t) ≡ Less
  unfolding order
  byte_less h = ap (λ o. or_next o (order s t)) (byte_before x y h)

  pub byte_more : y < x → order (x ∷ s) (y ∷ t) ≡ Greater
  unfolding order
  byte_more h = ap (λ o. or_next o (order s t)) (byte_mirror y x ∙ ap flip (byte_before y x h))

  -- where they are the same, the others decide
  pub byte_same : x ≡ y → order (x ∷ s) (y ∷ t) ≡ order s t
  unfolding order
  byte_same e = ap (λ z. or_next (byte_order x z) (order s t)) (sym e) ∙ ap (λ o. or_next o (order s t)) (byte_itself x)

-- ---- keys

pub key_itself : (k : List (List ℕ)) → key_order k k ≡ Equal
unfolding key_order
key_itself [] = refl
key_itself (s ∷ k) = ap (λ o. or_next o (key_order k k)) (order_itself s) ∙ key_itself k

pub key_equal : (k l : List (List ℕ)) → key_order k l ≡ Equal → k ≡ l
unfolding key_order
key_equal [] [] e = refl
key_equal [] (t ∷ l) e = absurd (let z : ◌≡◌ {A = ℕ} 0 1 = cc in omega arith)
key_equal (s ∷ k) [] e = absurd (let z : ◌≡◌ {A = ℕ} 0 1 = cc in omega arith)
key_equal (s ∷ k) (t ∷ l) e = let m = next_same (order s t) (key_order k l) e in ap₂ (λ a b. a ∷ b) (order_equal s t m.0) (key_equal k l m.1)

pub key_mirror : (k l : List (List ℕ)) → key_order l k ≡ flip (key_order k l)
unfolding key_order
key_mirror [] [] = refl
key_mirror [] (t ∷ l) = refl
key_mirror (s ∷ k) [] = refl
key_mirror (s ∷ k) (t ∷ l) = ap₂ or_next (order_mirror s t) (key_mirror k l) ∙ sym (flip_next (order s t) (key_order k l))

pub key_transitive : (k l m : List (List ℕ)) → key_order k l ≡ Less → key_order l m ≡ Less → key_order k m ≡ Less
unfolding key_order
key_transitive [] [] m d e = absurd (let z : ◌≡◌ {A = ℕ} 0 1 = cc in omega arith)
key_transitive [] (t ∷ l) [] d e = absurd (let z : ◌≡◌ {A = ℕ} 0 1 = cc in omega arith)
key_transitive [] (t ∷ l) (u ∷ m) d e = refl
key_transitive (s ∷ k) [] m d e = absurd (let z : ◌≡◌ {A = ℕ} 0 1 = cc in omega arith)
key_transitive (s ∷ k) (t ∷ l) [] d e = absurd (let z : ◌≡◌ {A = ℕ} 0 1 = cc in omega arith)
key_transitive (s ∷ k) (t ∷ l) (u ∷ m) d e =
    next_before (order s t) (order t u) (order s u) (key_order k l) (key_order l m) (key_order k m)
    (λ p q. order_transitive s t u p q)
    (λ p. ap (λ z. order z u) (order_equal s t p))
    (λ p. ap (λ z. order s z) (sym (order_equal t u p)))
    (key_transitive k l m) d e

-- a key of one text
pub one_text : (s t : List ℕ) → key_order (s ∷ []) (t ∷ []) ≡ order s t
unfolding key_order
one_text s t = by (order s t)
  where
    by : (o : Ordering) → or_next o Equal ≡ o
    by Less = refl
    by Equal = refl
    by Greater = refl
