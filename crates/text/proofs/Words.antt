-- Segments between bytes that pass a test, and words between blanks. Assumes nothing.
use Prim.Native.Nat.{ℕ, zero, suc, ◌+◌, ◌≤◌, ◌<◌}
use native.Mathlib.Nat.{le_of_suc-le-suc}
use native.Mathlib.Numerals.{add-one}
use native.Mathlib.Omega.{arith}
use mathlib.Core.Path.{◌≡◌, refl, sym, ap, ◌∙◌}
use mathlib.Core.Bool.{Bool, true, false, cond, not}
use mathlib.Core.List.{List, [], ◌∷◌}
use lib.ListN.{length, take, drop}
use lib.Seq.{drop-drop}
use Rattle.text.specs.Text.{span, split, filled, words, is_blank, blanks, word_span}
use Rattle.text.specs.Segments.{Cuts}
use Rattle.text.specs.declared.Span.{Span}
use Rattle.text.proofs.Runs.{span_le}

-- a segment that ends at a byte that passes, and the others
pub split_at : (p : ℕ → Bool) (t : List ℕ) → span (λ b. not (p b)) t < length t
    → split p t ≡ take (span (λ b. not (p b)) t) t ∷ split p (drop (suc (span (λ b. not (p b)) t)) t)
unfolding split span
split_at p [] h = absurd (omega arith)
split_at p (b ∷ t) h = by (p b) refl h (split_at p t)
  where
    by : (u : Bool) → p b ≡ u → cond (not (p b)) (suc (span (λ b. not (p b)) t)) 0 < suc (length t)
        → (span (λ b. not (p b)) t < length t → split p t ≡ take (span (λ b. not (p b)) t) t ∷ split p (drop (suc (span (λ b. not (p b)) t)) t))
        → split p (b ∷ t) ≡ take (span (λ b. not (p b)) (b ∷ t)) (b ∷ t) ∷ split p (drop (suc (span (λ b. not (p b)) (b ∷ t))) (b ∷ t))
    by true e h more = rw e
    by false e h more = rw (e, more (le_of_suc-le-suc (rw e at h)))

-- a segment that nothing ends
pub split_last : (p : ℕ → Bool) (t : List ℕ) → length t ≤ span (λ b. not (p b)) t → split p t ≡ t ∷ []
unfolding split span
split_last p [] h = refl
split_last p (b ∷ t) h = by (p b) refl h (split_last p t)
  where
    by : (u : Bool) → p b ≡ u → suc (length t) ≤ cond (not (p b)) (suc (span (λ b. not (p b)) t)) 0
        → (length t ≤ span (λ b. not (p b)) t → split p t ≡ t ∷ []) → split p (b ∷ t) ≡ (b ∷ t) ∷ []
    by true e h more = absurd (omega (arith, rw e at h))
    by false e h more = rw (e, more (le_of_suc-le-suc (rw e at h)))

-- n is what the search for the next such byte answers
pub split_cuts : (p : ℕ → Bool) (s : List ℕ) (n : ℕ) → n ≡ span (λ b. not (p b)) s → Cuts (split p) s n
split_cuts p s n h = (
  rw h (span_le (λ b. not (p b)) s),
  (λ l. rw (h, add-one) (split_at p s (rw h at l))),
  (λ l. split_last p s (rw h at l)),
)

-- ---- words

-- the bytes up to the first blank are the first segment, and the words after them are those of the other segments
split_run : (t : List ℕ) → (rest : List (List ℕ)) × (split is_blank t ≡ take (span (λ b. not (is_blank b)) t) t ∷ rest) × (filled rest ≡ words (drop (span (λ b. not (is_blank b)) t) t))
unfolding split span filled words
split_run [] = ([], refl, refl)
split_run (b ∷ t) = by (is_blank b) refl (split_run t)
  where
    by : (u : Bool) → is_blank b ≡ u
        → (rest : List (List ℕ)) × (split is_blank t ≡ take (span (λ b. not (is_blank b)) t) t ∷ rest) × (filled rest ≡ words (drop (span (λ b. not (is_blank b)) t) t))
        → (rest : List (List ℕ)) × (split is_blank (b ∷ t) ≡ take (span (λ b. not (is_blank b)) (b ∷ t)) (b ∷ t) ∷ rest) × (filled rest ≡ words (drop (span (λ b. not (is_blank b)) (b ∷ t)) (b ∷ t)))
    by true e more = (split is_blank t, rw e, rw (e, e))
    by false e more = (more.0, rw (e, more.1), rw e more.2)

-- blanks in front change no word
words_blanks : (s : List ℕ) → words s ≡ words (drop (blanks s) s)
unfolding split span filled words
words_blanks [] = refl
words_blanks (b ∷ s) = by (is_blank b) refl (words_blanks s)
  where
    by : (u : Bool) → is_blank b ≡ u → words s ≡ words (drop (blanks s) s) → words (b ∷ s) ≡ words (drop (blanks (b ∷ s)) (b ∷ s))
    by true e more = rw e more
    by false e more = rw (e, e)

first_filled : (n : ℕ) (t : List ℕ) (gs : List (List ℕ)) → 0 < n → n ≤ length t → filled (take n t ∷ gs) ≡ take n t ∷ filled gs
unfolding filled
first_filled zero t gs h k = absurd (omega arith)
first_filled (suc n) [] gs h k = absurd (omega arith)
first_filled (suc n) (b ∷ t) gs h k = refl

-- after the first blanks stands no blank
blanks_once : (s : List ℕ) → blanks (drop (blanks s) s) ≡ 0
unfolding span
blanks_once [] = refl
blanks_once (b ∷ s) = by (is_blank b) refl (blanks_once s)
  where
    by : (u : Bool) → is_blank b ≡ u → blanks (drop (blanks s) s) ≡ 0 → blanks (drop (blanks (b ∷ s)) (b ∷ s)) ≡ 0
    by true e more = rw e more
    by false e more = rw (e, e)

-- a text that begins with neither a blank nor another byte is empty
no_word : (t : List ℕ) → span (λ b. not (is_blank b)) t ≡ 0 → blanks t ≡ 0 → words t ≡ []
unfolding words split filled span
no_word [] p q = refl
no_word (b ∷ t) p q = by (is_blank b) refl p q
  where
    by : (u : Bool) → is_blank b ≡ u → cond (not (is_blank b)) (suc (span (λ b. not (is_blank b)) t)) 0 ≡ 0 → cond (is_blank b) (suc (blanks t)) 0 ≡ 0 → words (b ∷ t) ≡ []
    by true e p q = absurd (omega (arith, rw e at q))
    by false e p q = absurd (omega (arith, rw e at p))

by_run : (s : List ℕ) (a n : ℕ) → a ≡ blanks s → n ≡ span (λ b. not (is_blank b)) (drop a s) → 0 < n
    → (rest : List (List ℕ)) × (split is_blank (drop a s) ≡ take (span (λ b. not (is_blank b)) (drop a s)) (drop a s) ∷ rest) × (filled rest ≡ words (drop (span (λ b. not (is_blank b)) (drop a s)) (drop a s)))
    → words (drop a s) ≡ take n (drop a s) ∷ words (drop (a + n) s)
unfolding words
by_run s a n x z h r =
    let k : n ≤ length (drop a s) = rw z (span_le (λ b. not (is_blank b)) (drop a s)) in
    rw (r.1, ← z, first_filled n (drop a s) r.0 h k, ← drop-drop n a s, z) (ap (λ gs. take (span (λ b. not (is_blank b)) (drop a s)) (drop a s) ∷ gs) r.2)

-- the first word, and those after it
pub words_cons : (s : List ℕ) (a n : ℕ) → record { start = a; length = n } ≡ word_span s → 0 < n → words s ≡ take n (drop a s) ∷ words (drop (a + n) s)
words_cons s a n e h =
    let x : a ≡ blanks s = ap (λ (r : Span). r.start) e in
    let y : n ≡ span (λ b. not (is_blank b)) (drop (blanks s) s) = ap (λ (r : Span). r.length) e in
    words_blanks s ∙ rw (← x) (by_run s a n x (rw x y) h (split_run (drop a s)))

-- a text with no first word has none
pub words_none : (s : List ℕ) (a : ℕ) → record { start = a; length = 0 } ≡ word_span s → words s ≡ []
words_none s a e =
    let y : 0 ≡ span (λ b. not (is_blank b)) (drop (blanks s) s) = ap (λ (r : Span). r.length) e in
    words_blanks s ∙ no_word (drop (blanks s) s) (sym y) (blanks_once s)
