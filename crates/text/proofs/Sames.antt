-- Equality of texts: the test says true of equal texts, and of no others. Assumes nothing.
use Prim.Native.Nat.{ℕ}
use mathlib.Core.Path.{◌≡◌, refl, ap₂}
use mathlib.Core.Bool.{true, false≢true}
use mathlib.Core.List.{List, [], ◌∷◌}
use lib.Dec.{eqb}
use borrow.Author.Tests.{eq-eqb, eqb-true}
use Rattle.std.proofs.lemmas.Bool.{and_parts}
use Rattle.text.specs.Text.{alike, equal}

pub equal_same : (a : List ℕ) → equal a a ≡ true
unfolding alike
equal_same [] = refl
equal_same (x ∷ a) = rw (eq-eqb x x refl) (equal_same a)

pub equal_is : (a b : List ℕ) → equal a b ≡ true → a ≡ b
unfolding alike
equal_is [] [] e = refl
equal_is [] (y ∷ b) e = absurd (false≢true e)
equal_is (x ∷ a) [] e = absurd (false≢true e)
equal_is (x ∷ a) (y ∷ b) e = let k = and_parts (eqb x y) (equal a b) e in ap₂ (λ (n : ℕ) (l : List ℕ). n ∷ l) (eqb-true x y k.0) (equal_is a b k.1)
