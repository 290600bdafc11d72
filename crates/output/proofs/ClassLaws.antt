-- Tests of bytes: bounds, and tests that every byte of a text passes. Assumes nothing.
use Prim.Native.Nat.{ℕ, ◌≤◌}
use mathlib.Core.Path.{◌≡◌, refl}
use mathlib.Core.Bool.{Bool, true}
use mathlib.Core.List.{List, [], ◌∷◌, ◌++◌}
use lib.Dec.{leb}
use borrow.Author.Tests.{leb-true}
use Rattle.std.proofs.lemmas.Bool.{and_parts}
use Rattle.text.specs.Text.{within, all}

pub within_range : (lo hi n : ℕ) → within lo hi n ≡ true → (lo ≤ n) × (n ≤ hi)
within_range lo hi n e = (leb-true lo n (and_parts (leb lo n) (leb n hi) e).0, leb-true n hi (and_parts (leb lo n) (leb n hi) e).1)

pub all_append : (p : ℕ → Bool) (s t : List ℕ) → all p s ≡ true → all p t ≡ true → all p (s ++ t) ≡ true
unfolding all
all_append p [] t e h = h
all_append p (b ∷ s) t e h = rw ((and_parts (p b) (all p s) e).0) (all_append p s t (and_parts (p b) (all p s) e).1 h)

-- a test that follows from another
pub all_by : (p q : ℕ → Bool) → ((b : ℕ) → p b ≡ true → q b ≡ true) → (s : List ℕ) → all p s ≡ true → all q s ≡ true
unfolding all
all_by p q h [] e = refl
all_by p q h (b ∷ s) e = rw (h b (and_parts (p b) (all p s) e).0) (all_by p q h s (and_parts (p b) (all p s) e).1)
