-- Segments between cuts: the loop of `part_length`, and the turns of the loop of `next_part`. Assumes nothing.
use Prim.Native.Nat.{ℕ, suc, ◌+◌, ◌≤◌, ◌<◌}
use native.Mathlib.Nat.{add-zero, add-suc, suc-add, le_of_suc-le-suc}
use native.Mathlib.Numerals.{add-one}
use native.Mathlib.Omega.{arith}
use mathlib.Core.Path.{◌≡◌, refl, ap}
use mathlib.Core.Bool.{Bool, true, false, cond}
use mathlib.Core.List.{List, [], ◌∷◌}
use lib.ListN.{length, get_or, take, drop, drop_of_length-le}
use lib.Seq.{drop-cons}
use Rattle.std.specs.Prelude.{None, Ok, Option, Some}
use Rattle.text.specs.Text.{trimmed, trimmed_span, Piece, trimmed_piece}
use Rattle.text.specs.Segments.{Cuts, placed}
use Rattle.text.specs.Number.{non_empty}
use Rattle.text.specs.Answers.{Stop, next_of}
use Rattle.text.specs.declared.Span.{Span}
use Rattle.route_set.specs.Parts.{is_cut, quote_after, depth_after, segments, first_element, part_from}
use Rattle.route_set.specs.Cuts.{cut_length}

-- ---- the bytes before the first cut

module _ (q : Bool) (d : ℕ) (s : List ℕ) (i : ℕ) where
  pub cut_done : length s ≤ i → i + cut_length q d (drop i s) ≡ i
  unfolding cut_length
  cut_done h = rw (drop_of_length-le s h, add-zero i)

  pub cut_cut : i < length s → is_cut q d (get_or s i 0) ≡ true → i + cut_length q d (drop i s) ≡ i
  unfolding cut_length
  cut_cut h e = rw (drop-cons s i 0 h, e, add-zero i)

  pub cut_next : (q' : Bool) (d' : ℕ) → i < length s → is_cut q d (get_or s i 0) ≡ false → q' ≡ quote_after q (get_or s i 0) → d' ≡ depth_after d (get_or s i 0)
      → i + cut_length q d (drop i s) ≡ i + 1 + cut_length q' d' (drop (i + 1) s)
  unfolding cut_length
  cut_next q' d' h e x y = rw (drop-cons s i 0 h, e, x, y, add-one i, add-suc, suc-add)

pub cut_le : (q : Bool) (d : ℕ) (s : List ℕ) → cut_length q d s ≤ length s
unfolding cut_length
cut_le q d [] = omega arith
cut_le q d (b ∷ s) = by (is_cut q d b) (cut_le (quote_after q b) (depth_after d b) s)
  where
    by : (t : Bool) → cut_length (quote_after q b) (depth_after d b) s ≤ length s → cond t 0 (suc (cut_length (quote_after q b) (depth_after d b) s)) ≤ suc (length s)
    by true h = omega arith
    by false h = omega arith

-- ---- the first segment, and the others

split_cut : (q : Bool) (d : ℕ) (t : List ℕ) → cut_length q d t < length t → segments q d t ≡ take (cut_length q d t) t ∷ segments false 0 (drop (suc (cut_length q d t)) t)
unfolding segments cut_length
split_cut q d [] h = absurd (omega arith)
split_cut q d (b ∷ t) h = by (is_cut q d b) refl h (split_cut (quote_after q b) (depth_after d b) t)
  where
    by : (u : Bool) → is_cut q d b ≡ u → cond (is_cut q d b) 0 (suc (cut_length (quote_after q b) (depth_after d b) t)) < suc (length t)
        → (cut_length (quote_after q b) (depth_after d b) t < length t → segments (quote_after q b) (depth_after d b) t ≡ take (cut_length (quote_after q b) (depth_after d b) t) t ∷ segments false 0 (drop (suc (cut_length (quote_after q b) (depth_after d b) t)) t))
        → segments q d (b ∷ t) ≡ take (cut_length q d (b ∷ t)) (b ∷ t) ∷ segments false 0 (drop (suc (cut_length q d (b ∷ t))) (b ∷ t))
    by true e h more = rw e
    by false e h more = rw (e, more (le_of_suc-le-suc (rw e at h)))

split_end : (q : Bool) (d : ℕ) (t : List ℕ) → length t ≤ cut_length q d t → segments q d t ≡ t ∷ []
unfolding segments cut_length
split_end q d [] h = refl
split_end q d (b ∷ t) h = by (is_cut q d b) refl h (split_end (quote_after q b) (depth_after d b) t)
  where
    by : (u : Bool) → is_cut q d b ≡ u → suc (length t) ≤ cond (is_cut q d b) 0 (suc (cut_length (quote_after q b) (depth_after d b) t))
        → (length t ≤ cut_length (quote_after q b) (depth_after d b) t → segments (quote_after q b) (depth_after d b) t ≡ t ∷ []) → segments q d (b ∷ t) ≡ (b ∷ t) ∷ []
    by true e h more = absurd (omega (arith, rw e at h))
    by false e h more = rw (e, more (le_of_suc-le-suc (rw e at h)))

-- n is what `part_length` answers
pub first_cuts : (s : List ℕ) (n : ℕ) → n ≡ cut_length false 0 s → Cuts (segments false 0) s n
first_cuts s n h = (
  rw h (cut_le false 0 s),
  (λ l. rw (h, add-one) (split_cut false 0 s (rw h at l))),
  (λ l. split_end false 0 s (rw h at l)),
)

-- ---- the first element of segments with their places

unfoldable pub element_among : List Piece → Option Stop
element_among [] = None
element_among (p ∷ ps) = cond (non_empty (trimmed p.text)) (Some (record { piece = trimmed_piece p.place p.text; next = p.place + length p.text + 1 })) (element_among ps)

pub first_among : (at : ℕ) (gs : List (List ℕ)) → first_element at gs ≡ element_among (placed at gs)
unfolding first_element element_among placed
first_among at [] = refl
first_among at (g ∷ gs) = rw (first_among (at + length g + 1) gs)

-- p is the first of them, and s what `trim_span` answers of its text
module _ (ps qs : List Piece) (p : Piece) (e : ps ≡ p ∷ qs) (s : Span) (is : s ≡ trimmed_span p.text) where
  pub element_here : 0 < s.length → Some (record { start = p.place + s.start; length = s.length }, p.place + length p.text + 1) ≡ part_from (element_among ps)
  unfolding element_among
  element_here k = rw (e, filled (trimmed p.text) (omega (arith, ap (λ (x : Span). x.length) is)), is)
    where
      filled : (t : List ℕ) → 0 < length t → non_empty t ≡ true
      filled [] h = absurd (omega arith)
      filled (b ∷ t) h = refl

  pub element_later : s.length ≤ 0 → element_among ps ≡ element_among qs
  unfolding element_among
  element_later k = rw (e, none_here (trimmed p.text) (omega (arith, ap (λ (x : Span). x.length) is)))
    where
      none_here : (t : List ℕ) → length t ≤ 0 → non_empty t ≡ false
      none_here [] h = refl
      none_here (b ∷ t) h = absurd (omega arith)

pub element_none : (ps : List Piece) → ps ≡ [] → element_among ps ≡ None
unfolding element_among
element_none ps e = rw e

-- ---- the answer with refusals by the one without

pub part_answer : (o : Option Stop) → Ok (part_from o) ≡ next_of (Ok o)
part_answer None = refl
part_answer (Some e) = refl
