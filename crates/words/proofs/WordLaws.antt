-- The first word of a text and what stands after it, as `word` and `after_word` cut them. Assumes nothing.
use Prim.Native.Nat.{ℕ, zero, suc, ◌+◌, ◌-◌, ◌<◌}
use native.Mathlib.Omega.{arith}
use mathlib.Core.Path.{◌≡◌, refl}
use mathlib.Core.Bool.{Bool, true, false}
use mathlib.Core.List.{List, [], ◌∷◌}
use lib.ListN.{length, take, drop}
use lib.Seq.{get_or-drop, drop-drop}
use Rattle.std.proofs.lemmas.List.{take_rest}
use Rattle.text.specs.Text.{is_blank, split, on_head, filled, words, word_span}
use Rattle.text.proofs.Words.{words_cons, words_none}
use Rattle.words.specs.Words.{word_at}

-- a text that begins with a byte that is no blank has a word
headed : (b : ℕ) (gs : List (List ℕ)) → filled (on_head b gs) ≡ [] → ⊥
unfolding filled
headed b [] e = let z : ◌≡◌ {A = ℕ} 0 1 = cc in omega arith
headed b (g ∷ gs) e = let z : ◌≡◌ {A = ℕ} 0 1 = cc in omega arith

-- where a text has no word, none begins later
no_more : (s : List ℕ) (k : ℕ) → words s ≡ [] → words (drop k s) ≡ []
unfolding words split filled
no_more s zero e = e
no_more [] (suc k) e = e
no_more (b ∷ s) (suc k) e = no_more s k (by (is_blank b) refl e)
  where
    by : (u : Bool) → is_blank b ≡ u → words (b ∷ s) ≡ [] → words s ≡ []
    by true q e = rw q at e
    by false q e = absurd (headed b (split is_blank s) (rw q at e))

-- a and n are what `first_word` answers
pub word_is : (s : List ℕ) (a n : ℕ) → record { start = a; length = n } ≡ word_span s → take n (drop a s) ≡ word_at 0 s
word_is s a zero e = rw (words_none s a e)
word_is s a (suc n) e = rw (words_cons s a (suc n) e (omega arith))

pub rest_is : (s : List ℕ) (a n : ℕ) → record { start = a; length = n } ≡ word_span s → words (take (length s - (a + n)) (drop (a + n) s)) ≡ drop 1 (words s)
rest_is s a zero e = rw (take_rest, words_none s a e) (no_more s (a + 0) (words_none s a e))
rest_is s a (suc n) e = rw (take_rest, words_cons s a (suc n) e (omega arith))

-- a word of what stands after the first is the next one of the whole
pub next_word : (s t : List ℕ) (k : ℕ) → words t ≡ drop 1 (words s) → word_at k t ≡ word_at (1 + k) s
next_word s t k e = rw (e, get_or-drop)

-- what stands after the third word
pub after_three : (s t u v : List ℕ) → words t ≡ drop 1 (words s) → words u ≡ drop 1 (words t) → words v ≡ drop 1 (words u) → words v ≡ drop 3 (words s)
after_three s t u v p q r = rw (r, q, p, drop-drop 1 1 (words s), drop-drop 1 2 (words s))

-- whether there is a word; a and n are what `first_word` answers
pub some_word : (s : List ℕ) (a n : ℕ) → record { start = a; length = n } ≡ word_span s → (n ≡ 0 → ⊥) → 0 < length (words s)
some_word s a n e h = rw (words_cons s a n e (omega arith)) (omega arith)

pub no_word : (s : List ℕ) (a n : ℕ) → record { start = a; length = n } ≡ word_span s → n ≡ 0 → length (words s) ≡ 0
no_word s a zero e h = rw (words_none s a e)
no_word s a (suc n) e h = absurd (omega arith)
