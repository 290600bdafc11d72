-- Runs of bytes and tests of all of them: what one run says of another, and of the bytes before and after its end. Assumes nothing.
use Prim.Native.Nat.{ℕ, zero, suc, ◌≤◌, ◌<◌}
use native.Mathlib.Nat.{le_of_suc-le-suc}
use native.Mathlib.Omega.{arith}
use mathlib.Core.Path.{◌≡◌, refl, sym, ◌∙◌}
use mathlib.Core.Bool.{Bool, true, false, cond, ◌&&◌, true≢false}
use mathlib.Core.List.{List, [], ◌∷◌}
use lib.ListN.{length, take, drop, get_or}
use lib.Dec.{ltb}
use borrow.Author.Tests.{ne_eqb, ltb-true, ltb-false}
use Rattle.text.specs.Text.{span, all}
use Rattle.text.proofs.Runs.{all_span}

-- a byte of the run passes the test
pub span_passes : (p : ℕ → Bool) (s : List ℕ) (i : ℕ) → i < span p s → p (get_or s i 0) ≡ true
unfolding span
span_passes p [] i h = absurd (omega arith)
span_passes p (b ∷ s) i h = by (p b) refl i h (span_passes p s)
  where
    by : (t : Bool) → p b ≡ t → (i : ℕ) → i < cond (p b) (suc (span p s)) 0 → ((j : ℕ) → j < span p s → p (get_or s j 0) ≡ true) → p (get_or (b ∷ s) i 0) ≡ true
    by true e zero h more = e
    by true e (suc i) h more = more i (le_of_suc-le-suc (rw e at h))
    by false e i h more = absurd (omega (arith, rw e at h))

-- the byte that ends it doesn't
pub span_ends : (p : ℕ → Bool) (s : List ℕ) → span p s < length s → p (get_or s (span p s) 0) ≡ false
unfolding span
span_ends p [] h = absurd (omega arith)
span_ends p (b ∷ s) h = by (p b) refl h (span_ends p s)
  where
    by : (t : Bool) → p b ≡ t → cond (p b) (suc (span p s)) 0 < suc (length s) → (span p s < length s → p (get_or s (span p s) 0) ≡ false)
        → p (get_or (b ∷ s) (cond (p b) (suc (span p s)) 0) 0) ≡ false
    by true e h more = rw e (more (le_of_suc-le-suc (rw e at h)))
    by false e h more = rw (e, e)

-- so a byte that doesn't pass is not before its end
pub span_until : (p : ℕ → Bool) (s : List ℕ) (n : ℕ) → p (get_or s n 0) ≡ false → span p s ≤ n
span_until p s n e = by (ltb n (span p s)) refl
  where
    by : (t : Bool) → ltb n (span p s) ≡ t → span p s ≤ n
    by true f = absurd (true≢false (sym (span_passes p s n (ltb-true _ _ f)) ∙ e))
    by false f = ltb-false _ _ f

-- a weaker test has the longer run
pub span_longer : (p q : ℕ → Bool) → ((b : ℕ) → p b ≡ true → q b ≡ true) → (s : List ℕ) → span p s ≤ span q s
unfolding span
span_longer p q w [] = omega arith
span_longer p q w (b ∷ s) = by (p b) refl (span_longer p q w s)
  where
    by : (t : Bool) → p b ≡ t → span p s ≤ span q s → cond t (suc (span p s)) 0 ≤ cond (q b) (suc (span q s)) 0
    by true e h = rw (w b e) (omega arith)
    by false e h = omega arith

-- the bytes before its end pass
pub all_before : (p : ℕ → Bool) (s : List ℕ) (n : ℕ) → n ≤ span p s → all p (take n s) ≡ true
unfolding all span
all_before p s zero h = refl
all_before p [] (suc n) h = refl
all_before p (b ∷ s) (suc n) h = by (p b) refl h (all_before p s n)
  where
    by : (t : Bool) → p b ≡ t → suc n ≤ cond (p b) (suc (span p s)) 0 → (n ≤ span p s → all p (take n s) ≡ true) → (p b && all p (take n s)) ≡ true
    by true e h more = rw (e, more (le_of_suc-le-suc (rw e at h)))
    by false e h more = absurd (omega (arith, rw e at h))

-- where one doesn't pass, not all do
pub all_fails : (p : ℕ → Bool) (s : List ℕ) (n : ℕ) → n < length s → p (get_or s n 0) ≡ false → all p s ≡ false
all_fails p s n h e = sym (all_span p s) ∙ ne_eqb (span p s) (length s) (λ (q : span p s ≡ length s). omega (arith, span_until p s n e))

-- the first bytes and the others
pub all_split : (p : ℕ → Bool) (n : ℕ) (s : List ℕ) → all p s ≡ (all p (take n s) && all p (drop n s))
unfolding all
all_split p zero s = refl
all_split p (suc n) [] = refl
all_split p (suc n) (b ∷ s) = by (p b) (all_split p n s)
  where
    by : (t : Bool) → all p s ≡ (all p (take n s) && all p (drop n s)) → (t && all p s) ≡ ((t && all p (take n s)) && all p (drop n s))
    by true e = e
    by false e = refl

-- a test that all pass, and a weaker one
pub all_weaker : (p q : ℕ → Bool) → ((b : ℕ) → p b ≡ true → q b ≡ true) → (s : List ℕ) → all p s ≡ true → all q s ≡ true
unfolding all
all_weaker p q w [] e = refl
all_weaker p q w (b ∷ s) e = by (p b) refl e (all_weaker p q w s)
  where
    by : (t : Bool) → p b ≡ t → (t && all p s) ≡ true → (all p s ≡ true → all q s ≡ true) → (q b && all q s) ≡ true
    by true f e more = rw (w b f, more e)
    by false f e more = absurd (true≢false (sym e))
