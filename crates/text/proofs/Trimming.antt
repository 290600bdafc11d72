-- Blanks at both ends: where the text ends, and where the trimmed text stands. Assumes nothing.
use Prim.Native.Nat.{ℕ, zero, suc, ◌+◌, ◌-◌, ◌≤◌, ◌<◌}
use native.Mathlib.Nat.{suc-sub-suc, sub-zero, zero-sub}
use native.Mathlib.Omega.{arith}
use mathlib.Core.Path.{◌≡◌, sym, ap, ◌∙◌}
use mathlib.Core.Bool.{Bool, true, false}
use mathlib.Core.List.{List, [], ◌∷◌, reverse, reverse-append}
use lib.ListN.{length, get_or, take, drop, length-drop, length-take}
use lib.Seq.{take-length, take-suc, take-nil, take-take, drop-drop, length-take-le}
use mathlib.Core.Logic.{◌⊎◌, inl, inr}
use Rattle.std.proofs.lemmas.List.{take_rest}
use Rattle.std.proofs.lemmas.Bool.{cases_lt}
use Rattle.text.specs.Text.{span, is_blank, blanks, text_end, trimmed}
use Rattle.text.proofs.Runs.{span_le}

-- m bytes are left
last : (s : List ℕ) (m : ℕ) → m < length s → reverse (take (suc m) s) ≡ get_or s m 0 ∷ reverse (take m s)
last s m h = rw (take-suc s m 0 h, reverse-append)

-- the bytes from `e` on pass, and the one before them does not
module _ (p : ℕ → Bool) (s : List ℕ) (e : ℕ) (stop : (k : ℕ) → k + 1 ≡ e → p (get_or s k 0) ≡ false) where
  end_of : (m : ℕ) → e ≤ m → m ≤ length s → ((k : ℕ) → e ≤ k → k < m → p (get_or s k 0) ≡ true) → m - span p (reverse (take m s)) ≡ e
  unfolding span
  end_of zero h l f = rw zero-sub (omega arith)
  end_of (suc m) h l f = by (cases_lt m e) (λ q. end_of m q (omega arith) (λ k a b. f k a (omega arith)))
    where
      by : (m < e) ⊎ (e ≤ m) → (e ≤ m → m - span p (reverse (take m s)) ≡ e) → suc m - span p (reverse (take (suc m) s)) ≡ e
      by (inl q) more = rw (last s m l, stop m (omega arith), sub-zero) (omega arith)
      by (inr q) more = rw (last s m l, f m q (omega arith), suc-sub-suc) (more q)

  pub end_is : e ≤ length s → ((k : ℕ) → e ≤ k → k < length s → p (get_or s k 0) ≡ true) → e ≡ length s - span p (reverse s)
  end_is h f = sym (rw take-length at (end_of (length s) h (omega arith) f))

-- what `trim` returns, as its two calls say it
pub trim_part : (s : List ℕ) (a e : ℕ) → a ≡ blanks s → e ≡ text_end (take (length s - a) (drop a s)) → take e (take (length s - a) (drop a s)) ≡ trimmed s
unfolding trimmed
trim_part s a e p q = rw (q, take_rest s a, p)

-- how long it is
pub trim_length : (s : List ℕ) (a e : ℕ) → a ≡ blanks s → e ≡ text_end (take (length s - a) (drop a s)) → e ≤ length (take (length s - a) (drop a s)) → e ≡ length (trimmed s)
trim_length s a e p q h = sym (length-take-le e (take (length s - a) (drop a s)) h) ∙ ap length (trim_part s a e p q)

-- ---- where the trimmed text stands

pub drop_take : (b m : ℕ) (l : List ℕ) → drop b (take m l) ≡ take (m - b) (drop b l)
drop_take zero m l = rw sub-zero
drop_take (suc b) zero l = rw zero-sub
drop_take (suc b) (suc m) [] = sym (take-nil (suc m - suc b))
drop_take (suc b) (suc m) (x ∷ l) = rw suc-sub-suc (drop_take b m l)

pub trimmed_fits : (v : List ℕ) → blanks v + length (trimmed v) ≤ length v
unfolding trimmed
trimmed_fits v = simp (length-take, length-drop) (omega (arith, span_le is_blank v))

pub trimmed_is : (v : List ℕ) → take (length (trimmed v)) (drop (blanks v) v) ≡ trimmed v
unfolding trimmed
trimmed_is v = ap (λ (k : ℕ). take k (drop (blanks v) v)) (length-take-le (text_end (drop (blanks v) v)) (drop (blanks v) v) (omega arith))

-- the same, of the m bytes from p on
pub trimmed_at : (s : List ℕ) (p m : ℕ) → p ≤ length s → p + blanks (take m (drop p s)) + length (trimmed (take m (drop p s))) ≤ length s
trimmed_at s p m h = omega (arith, trimmed_fits (take m (drop p s)), length-take m (drop p s), length-drop p s)

pub trimmed_part : (s : List ℕ) (p m : ℕ) → take (length (trimmed (take m (drop p s)))) (drop (p + blanks (take m (drop p s))) s) ≡ trimmed (take m (drop p s))
trimmed_part s p m =
    let v : List ℕ = take m (drop p s) in
    let h : length (trimmed v) ≤ m - blanks v = omega (arith, trimmed_fits v, length-take m (drop p s)) in
    rw (← drop-drop (blanks v) p s, ← take-take (length (trimmed v)) (m - blanks v) (drop (blanks v) (drop p s)) h, ← drop_take (blanks v) m (drop p s)) (trimmed_is v)
