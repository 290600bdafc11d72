-- Segments of a value, cut outside quotes and angle brackets: the turns of the loops of `segment_length` and `find_tag`, and that
-- a value in which no semicolon is held is cut as by the Rust. Assumes nothing.
use Prim.Native.Nat.{ℕ, suc, ◌+◌, ◌≤◌, ◌<◌}
use native.Mathlib.Nat.{add-zero, add-suc, suc-add, le_of_suc-le-suc}
use native.Mathlib.Numerals.{add-one}
use native.Mathlib.Omega.{arith}
use mathlib.Core.Path.{◌≡◌, refl, sym, ap, ap₂, ◌∙◌}
use mathlib.Core.Bool.{Bool, true, false, cond, not, ◌&&◌, true≢false}
use mathlib.Core.List.{List, [], ◌∷◌}
use lib.ListN.{length, get_or, take, drop, drop_of_length-le}
use lib.Seq.{drop-cons}
use lib.Dec.{eqb}
use borrow.Author.Tests.{eqb-true}
use Rattle.std.proofs.lemmas.Bool.{or_parts}
use Rattle.text.specs.Text.{is, split}
use Rattle.text.specs.Segments.{Cuts}
use Rattle.headers.specs.declared.tag.Mode.{Mode}
use Rattle.headers.specs.declared.tag.Mode.TheVariants.{Outside, Quoted, Escaped, Bracketed}
use Rattle.headers.specs.Tag.{mode_after, is_outside, is_cut, segments_in, tag_segments, holds_in, holds_semicolon, first_tag, tag_of, cut_length}

-- ---- the length of the first segment, byte by byte

module _ (m : Mode) (s : List ℕ) (i : ℕ) where
  -- no byte is left
  pub cut_done : length s ≤ i → i + cut_length m (drop i s) ≡ i
  unfolding cut_length
  cut_done h = rw (drop_of_length-le s h, add-zero i)

  -- the byte at i cuts
  pub cut_stop : i < length s → is_cut m (get_or s i 0) ≡ true → i + cut_length m (drop i s) ≡ i
  unfolding cut_length
  cut_stop h e = rw (drop-cons s i 0 h, e, add-zero i)

  -- it doesn't, and is passed
  pub cut_next : i < length s → is_cut m (get_or s i 0) ≡ false → i + cut_length m (drop i s) ≡ i + 1 + cut_length (mode_after m (get_or s i 0)) (drop (i + 1) s)
  unfolding cut_length
  cut_next h e = rw (drop-cons s i 0 h, e, add-one i, add-suc, suc-add)

-- a segment is no longer than what it is cut from
pub cut_le : (m : Mode) (s : List ℕ) → cut_length m s ≤ length s
unfolding cut_length
cut_le m [] = omega arith
cut_le m (b ∷ s) = by (is_cut m b) (cut_le (mode_after m b) s)
  where
    by : (t : Bool) → cut_length (mode_after m b) s ≤ length s → cond t 0 (suc (cut_length (mode_after m b) s)) ≤ suc (length s)
    by true h = omega arith
    by false h = omega (arith, h)

-- ---- the segments

-- a segment that a semicolon ends, and those after it
segments_at : (m : Mode) (t : List ℕ) → cut_length m t < length t → segments_in m t ≡ take (cut_length m t) t ∷ segments_in Outside (drop (suc (cut_length m t)) t)
unfolding segments_in cut_length
segments_at m [] h = absurd (omega arith)
segments_at m (b ∷ t) h = by (is_cut m b) refl h (segments_at (mode_after m b) t)
  where
    by : (u : Bool) → is_cut m b ≡ u → cond (is_cut m b) 0 (suc (cut_length (mode_after m b) t)) < suc (length t)
        → (cut_length (mode_after m b) t < length t → segments_in (mode_after m b) t ≡ take (cut_length (mode_after m b) t) t ∷ segments_in Outside (drop (suc (cut_length (mode_after m b) t)) t))
        → segments_in m (b ∷ t) ≡ take (cut_length m (b ∷ t)) (b ∷ t) ∷ segments_in Outside (drop (suc (cut_length m (b ∷ t))) (b ∷ t))
    by true e h more = rw e
    by false e h more = rw (e, more (le_of_suc-le-suc (rw e at h)))

-- the last one
segments_last : (m : Mode) (t : List ℕ) → length t ≤ cut_length m t → segments_in m t ≡ t ∷ []
unfolding segments_in cut_length
segments_last m [] h = refl
segments_last m (b ∷ t) h = by (is_cut m b) refl h (segments_last (mode_after m b) t)
  where
    by : (u : Bool) → is_cut m b ≡ u → suc (length t) ≤ cond (is_cut m b) 0 (suc (cut_length (mode_after m b) t))
        → (length t ≤ cut_length (mode_after m b) t → segments_in (mode_after m b) t ≡ t ∷ []) → segments_in m (b ∷ t) ≡ (b ∷ t) ∷ []
    by true e h more = absurd (omega (arith, rw e at h))
    by false e h more = rw (e, more (le_of_suc-le-suc (rw e at h)))

-- n is how many bytes stand before the first cut
pub first_cuts : (s : List ℕ) (n : ℕ) → n ≡ cut_length Outside s → Cuts tag_segments s n
first_cuts s n h = (
  rw h (cut_le Outside s),
  (λ l. rw (h, add-one) (segments_at Outside s (rw h at l))),
  (λ l. segments_last Outside s (rw h at l)),
)

-- ---- where no semicolon is held, the segments are the Rust's

-- a semicolon outside leaves the reading outside
stays_outside : (m : Mode) (b : ℕ) → eqb b 59 ≡ true → is_outside m ≡ true → mode_after m b ≡ Outside
stays_outside Outside b e o = rw (eqb-true b 59 e)
stays_outside Quoted b e o = absurd (true≢false (sym o))
stays_outside Escaped b e o = absurd (true≢false (sym o))
stays_outside Bracketed b e o = absurd (true≢false (sym o))

cut_alike : (m : Mode) (v : List ℕ) → holds_in m v ≡ false → segments_in m v ≡ split (is 59) v
unfolding segments_in split holds_in
cut_alike m [] h = refl
cut_alike m (b ∷ s) h = by (eqb b 59) refl (is_outside m) refl (cut_alike (mode_after m b) s (or_parts (eqb b 59 && not (is_outside m)) (holds_in (mode_after m b) s) h).1)
  where
    by : (u : Bool) → eqb b 59 ≡ u → (w : Bool) → is_outside m ≡ w → segments_in (mode_after m b) s ≡ split (is 59) s → segments_in m (b ∷ s) ≡ split (is 59) (b ∷ s)
    by true e true o more = rw (e, o, ← more, stays_outside m b e o)
    by true e false o more = absurd (true≢false (sym (ap₂ (λ p q. p && not q) e o) ∙ (or_parts (eqb b 59 && not (is_outside m)) (holds_in (mode_after m b) s) h).0))
    by false e w o more = rw (e, more)

-- a value in which no semicolon is held is cut at every semicolon, as the Rust's `extract_tag` cuts it
pub as_the_rust : (v : List ℕ) → holds_semicolon v ≡ false → tag_segments v ≡ split (is 59) v
as_the_rust v h = cut_alike Outside v h

-- and so has the same tag
pub tag_as_the_rust : (v : List ℕ) → holds_semicolon v ≡ false → tag_of v ≡ first_tag 0 (split (is 59) v)
tag_as_the_rust v h = ap (first_tag 0) (as_the_rust v h)
