-- Comparison of two texts, as far as `f` tells bytes apart. Assumes nothing.
use Prim.Native.Nat.{ℕ, zero, suc, ◌<◌}
use mathlib.Core.Path.{◌≡◌, refl, sym, ap}
use mathlib.Core.Bool.{Bool, true, false, ◌||◌, and-false}
use mathlib.Core.List.{List, [], ◌∷◌, map}
use lib.ListN.{length, take, length-take}
use lib.Dec.{eqb}
use native.Mathlib.Omega.{arith}
use borrow.Author.Tests.{eq-eqb, ne_eqb}
use Rattle.std.specs.Bool.{MatchBool}
use Rattle.std.specs.List.{zip, AllWithin, HoldsAt}
use Rattle.std.specs.Char.{eq_ignore_ascii_case}
use Rattle.std.specs.Str.{bytes_eq}
use Rattle.std.proofs.lemmas.Bool.Decides.{nat_tests}
use Rattle.text.specs.Text.{alike, lower, same}

-- the same comparison in the library's words, of what `g` makes of the bytes
pub alike_is : (f g : ℕ → ℕ) → ((x : ℕ) → f x ≡ g x) → (a b : List ℕ) → alike f a b ≡ bytes_eq (map g a) (map g b)
unfolding alike
alike_is f g e [] [] = refl
alike_is f g e [] (y ∷ b) = refl
alike_is f g e (x ∷ a) [] = refl
alike_is f g e (x ∷ a) (y ∷ b) = rw (e x, e y, alike_is f g e a b)

-- texts of two lengths differ
pub alike_length : (f : ℕ → ℕ) (a b : List ℕ) → (length a ≡ length b → ⊥) → alike f a b ≡ false
unfolding alike
alike_length f [] [] h = absurd (h refl)
alike_length f [] (y ∷ b) h = refl
alike_length f (x ∷ a) [] h = refl
alike_length f (x ∷ a) (y ∷ b) h = rw (alike_length f a b (λ e. h (ap suc e)), and-false)

-- texts of one length are alike exactly where their bytes are, pair by pair
alike_each : (f : ℕ → ℕ) (a b : List ℕ) → length a ≡ length b → AllWithin (λ (p : ℕ × ℕ). f p.0 ≡ f p.1) (zip a b) 0 (length (zip a b)) → alike f a b ≡ true
unfolding alike
alike_each f [] [] h e = refl
alike_each f [] (y ∷ b) h e = absurd (omega arith)
alike_each f (x ∷ a) [] h e = absurd (omega arith)
alike_each f (x ∷ a) (y ∷ b) h e = rw (eq-eqb _ _ (e 0 (0, 0) (omega arith) (omega arith))) (alike_each f a b (omega arith) (λ k d l m. e (suc k) d (omega arith) (omega arith)))

alike_some : (f : ℕ → ℕ) (a b : List ℕ) (k : ℕ) → k < length (zip a b) → HoldsAt (λ (p : ℕ × ℕ). f p.0 ≡ f p.1 → ⊥) (zip a b) k → alike f a b ≡ false
unfolding alike
alike_some f [] b k h e = absurd (omega arith)
alike_some f (x ∷ a) [] k h e = absurd (omega arith)
alike_some f (x ∷ a) (y ∷ b) zero h e = rw (ne_eqb _ _ (e (0, 0)))
alike_some f (x ∷ a) (y ∷ b) (suc k) h e = rw (alike_some f a b k (omega arith) (λ d. e d), and-false)

pub alike_zip : (f : ℕ → ℕ) (a b : List ℕ) (r : Bool) → length a ≡ length b
    → MatchBool r (AllWithin (λ (p : ℕ × ℕ). f p.0 ≡ f p.1) (zip a b) 0 (length (zip a b))) ((k : ℕ) × (k < length (zip a b)) × HoldsAt (λ (p : ℕ × ℕ). f p.0 ≡ f p.1 → ⊥) (zip a b) k)
    → r ≡ alike f a b
alike_zip f a b true h e = sym (alike_each f a b h e)
alike_zip f a b false h e = sym (alike_some f a b e.0 e.1 e.2)

-- what the library's tests of two bytes say, one after the other
pub letters_or : (x y : ℕ) → (eqb x y || eq_ignore_ascii_case x y) ≡ true → lower x ≡ lower y
letters_or x y e = grind (arith, nat_tests)

pub letters_nor : (x y : ℕ) → (eqb x y || eq_ignore_ascii_case x y) ≡ false → lower x ≡ lower y → ⊥
letters_nor x y e h = grind (arith, nat_tests)

-- a text that is shorter than the head doesn't begin with it
pub starts_not : (s head : List ℕ) → length s < length head → same (take (length head) s) head ≡ false
starts_not s head h = alike_length lower (take (length head) s) head (λ e. omega (arith, length-take (length head) s))
