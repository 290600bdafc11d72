-- The segments of a text that are left at a place, by the first of them. Assumes nothing.
use Prim.Native.Nat.{ℕ, ◌+◌, ◌-◌, ◌≤◌, ◌<◌}
use native.Mathlib.Omega.{arith}
use mathlib.Core.Path.{◌≡◌, refl, ◌∙◌}
use mathlib.Core.Bool.{Bool, true, false}
use mathlib.Core.List.{List, [], ◌∷◌, map}
use lib.ListN.{length, take, drop, length-drop}
use lib.Seq.{take_all, drop-drop, length-take-le}
use lib.Dec.{ltb}
use borrow.Author.Tests.{ltb-true, ltb-false, le-leb, lt-leb}
use Rattle.std.proofs.lemmas.List.{take_rest}
use Rattle.text.specs.Text.{Piece}
use Rattle.text.specs.Segments.{Cuts, placed, segments_left, pieces_left}
use Rattle.text.specs.Spans.{part_in}
use Rattle.text.specs.declared.Span.{Span}

module _ (f : List ℕ → List (List ℕ)) (s : List ℕ) where
  pub left_start : segments_left f s 0 ≡ f s
  left_start = rw (le-leb 0 (length s) (omega arith))

  module _ (at : ℕ) where
    pub left_done : length s < at → segments_left f s at ≡ []
    left_done h = rw (lt-leb at (length s) h)

    pub pieces_done : length s < at → pieces_left f s at ≡ []
    unfolding placed
    pieces_done h = rw (left_done h)

    -- n is how many bytes the first segment of the part from `at` on has
    module _ (n : ℕ) (h : at ≤ length s) (c : Cuts f (take (length s - at) (drop at s)) n) where
      first : Cuts f (drop at s) n
      first = (rw take_rest at c)

      pub segment_fits : at + n ≤ length s
      segment_fits = omega (arith, first.0, length-drop at s)

      pub segment_length : length (take n (take (length s - at) (drop at s))) ≡ n
      segment_length = rw take_rest (length-take-le n (drop at s) first.0)

      by_more : (u : Bool) → ltb n (length (drop at s)) ≡ u → f (drop at s) ≡ take n (drop at s) ∷ segments_left f s (at + n + 1)
      by_more true e =
          let l : n < length (drop at s) = ltb-true _ _ e in
          let q : at + (n + 1) ≡ at + n + 1 = omega arith in
          let k : at + n + 1 ≤ length s = omega (arith, l, length-drop at s) in
          first.1 l ∙ rw (drop-drop (n + 1) at s, q, le-leb _ _ k)
      by_more false e =
          let l : length (drop at s) ≤ n = ltb-false _ _ e in
          let k : length s < at + n + 1 = omega (arith, l, length-drop at s) in
          first.2 l ∙ rw (take_all n (drop at s) l, lt-leb _ _ k)

      pub left_cons : segments_left f s at ≡ take n (take (length s - at) (drop at s)) ∷ segments_left f s (at + n + 1)
      left_cons = rw (le-leb at (length s) h, take_rest s at) (by_more _ refl)

      pub pieces_cons : pieces_left f s at ≡ record { place = at; text = take n (take (length s - at) (drop at s)) } ∷ pieces_left f s (at + n + 1)
      unfolding placed
      pieces_cons = rw (left_cons, segment_length)

-- ---- the texts of segments with their places

abbrev pub texts : List Piece → List (List ℕ)
texts ps = map (λ p. p.text) ps

pub texts_placed : (at : ℕ) (gs : List (List ℕ)) → texts (placed at gs) ≡ gs
unfolding placed
texts_placed at [] = refl
texts_placed at (g ∷ gs) = rw (texts_placed (at + length g + 1) gs)

-- ---- the bytes that a span names

pub named_length : (s : List ℕ) (v : Span) → v.start + v.length ≤ length s → length (part_in s v) ≡ v.length
named_length s v h = length-take-le v.length (drop v.start s) (omega (arith, length-drop v.start s))
