-- Number reading, over its bound and so over its width. `scan` is the loop of `digits_below` as a definition: what is left of
-- the digits, after those so far said `v`; `scan_is` says what it computes. Assumes nothing.
use Prim.Native.Nat.{ℕ, suc, ◌+◌, ◌-◌, ◌*◌, ◌^◌, ◌≤◌, ◌<◌}
use native.Mathlib.Nat.{add-zero, mul-one, pow-zero, pow-succ', add-mul, mul_assoc, add_assoc, le-add_right, le_trans, le-mul_of_pos_right, zero-mul, zero-add, one-le-pow, not-suc-le-zero}
use native.Mathlib.Numerals.{add-one}
use native.Mathlib.Omega.{arith}
use mathlib.Core.Path.{◌≡◌, refl}
use mathlib.Core.Bool.{Bool, true, false, cond, ◌&&◌, and-false}
use mathlib.Core.List.{List, [], ◌∷◌}
use lib.ListN.{length, get_or, drop, drop_of_length-le}
use lib.Seq.{drop-cons}
use lib.Dec.{ltb, lit<}
use borrow.Author.Tests.{lt-ltb, le-ltb, ltb-true, ltb-false}
use Rattle.std.specs.Prelude.{None, Option, Some}
use Rattle.text.specs.Text.{is_digit, all}
use Rattle.text.specs.Number.{value, digits_below}

unfoldable pub scan : ℕ → ℕ → List ℕ → Option ℕ
scan w v [] = Some v
scan w v (b ∷ s) = cond (is_digit b) (cond (ltb (v * 10 + (b - 48)) w) (scan w (v * 10 + (b - 48)) s) None) None

-- what is right, as `digits_below` has it: v followed by the digits s
abbrev rest : ℕ → ℕ → List ℕ → Option ℕ
rest w v s = cond (all is_digit s && ltb (v * 10 ^ length s + value s) w) (Some (v * 10 ^ length s + value s)) None

-- one digit more
shift : (v d n x : ℕ) → v * 10 ^ suc n + (d * 10 ^ n + x) ≡ (v * 10 + d) * 10 ^ n + x
shift v d n x = simp (pow-succ', add-mul, mul_assoc, add_assoc)

grows : (v n x : ℕ) → v ≤ v * 10 ^ n + x
grows v n x = le_trans (le-mul_of_pos_right v (one-le-pow n 10 (lit< tt))) (le-add_right (v * 10 ^ n) x)

over : (w v n x : ℕ) (t : Bool) → w ≤ v → (t && ltb (v * 10 ^ n + x) w) ≡ false
over w v n x t h = rw (le-ltb (v * 10 ^ n + x) w (le_trans h (grows v n x))) (and-false t)

-- a digit b: by whether v with it is still below w
by_size : (w v b : ℕ) (s : List ℕ) (t : Bool) → ((u : ℕ) → u < w → scan w u s ≡ rest w u s) → ltb (v * 10 + (b - 48)) w ≡ t
    → cond (ltb (v * 10 + (b - 48)) w) (scan w (v * 10 + (b - 48)) s) None ≡ rest w (v * 10 + (b - 48)) s
by_size w v b s true ih e = rw e (ih (v * 10 + (b - 48)) (ltb-true _ _ e))
by_size w v b s false ih e = rw (e, over w (v * 10 + (b - 48)) (length s) (value s) (all is_digit s) (ltb-false _ _ e))

by_digit : (w v b : ℕ) (s : List ℕ) (t : Bool) → ((u : ℕ) → u < w → scan w u s ≡ rest w u s) → is_digit b ≡ t → scan w v (b ∷ s) ≡ rest w v (b ∷ s)
unfolding scan all value
by_digit w v b s true ih e = rw (e, shift v (b - 48) (length s) (value s)) (by_size w v b s (ltb (v * 10 + (b - 48)) w) ih refl)
by_digit w v b s false ih e = rw e

pub scan_is : (w v : ℕ) (s : List ℕ) → v < w → scan w v s ≡ rest w v s
unfolding scan all value
scan_is w v [] h = simp (pow-zero, mul-one, add-zero, lt-ltb v w h)
scan_is w v (b ∷ s) h = by_digit w v b s (is_digit b) (λ u. scan_is w u s) refl

-- what `digits_below` is to answer of bytes that are not none
pub scan_start : (w : ℕ) (s : List ℕ) → 0 < w → 0 < length s → digits_below w s ≡ scan w 0 s
unfolding digits_below
scan_start w [] p h = absurd (not-suc-le-zero h)
scan_start w (b ∷ s) p h = rw (scan_is w 0 (b ∷ s) p) (simp (zero-mul, zero-add))

-- the turns of the loop: s are the bytes, i the index and v the number so far
module _ (w v : ℕ) (s : List ℕ) (i : ℕ) where
  pub done : length s ≤ i → scan w v (drop i s) ≡ Some v
  unfolding scan
  done h = rw (drop_of_length-le s h)

  pub other : i < length s → is_digit (get_or s i 0) ≡ false → scan w v (drop i s) ≡ None
  unfolding scan
  other h d = rw (drop-cons s i 0 h, d)

  pub large : i < length s → is_digit (get_or s i 0) ≡ true → w ≤ v * 10 + (get_or s i 0 - 48) → scan w v (drop i s) ≡ None
  unfolding scan
  large h d k = rw (drop-cons s i 0 h, d, le-ltb _ _ k)

  pub next : i < length s → is_digit (get_or s i 0) ≡ true → v * 10 + (get_or s i 0 - 48) < w → scan w v (drop i s) ≡ scan w (v * 10 + (get_or s i 0 - 48)) (drop (i + 1) s)
  unfolding scan
  next h d k = rw (drop-cons s i 0 h, d, lt-ltb _ _ k, add-one i)

-- no bytes, no number
pub empty : (w : ℕ) (s : List ℕ) → length s ≡ 0 → digits_below w s ≡ None
unfolding digits_below
empty w [] h = refl
empty w (b ∷ s) h = absurd (omega arith)
