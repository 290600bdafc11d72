-- The first segment with a tag: the turns of the loop of `find_tag`. Assumes nothing.
use Prim.Native.Nat.{ℕ, zero, suc, ◌+◌, ◌-◌, ◌≤◌, ◌<◌}
use native.Mathlib.Omega.{arith}
use mathlib.Core.Path.{◌≡◌, refl, sym, ap, subst, ◌∙◌}
use mathlib.Core.Bool.{Bool, true, false, cond, true≢false}
use mathlib.Core.List.{List, [], ◌∷◌}
use lib.ListN.{length, take, drop, length-drop}
use lib.Seq.{drop-drop}
use lib.Dec.{ltb}
use borrow.Author.Tests.{ltb-true, ltb-false}
use Rattle.std.proofs.lemmas.List.{take_rest}
use Rattle.std.specs.Prelude.{ok_or, None, Option, Some}
use Rattle.text.specs.Text.{blanks, trimmed, Piece}
use Rattle.text.specs.Answers.{span_of}
use Rattle.text.specs.declared.Span.{Span}
use Rattle.text.proofs.Trimming.{trimmed_fits, trimmed_part, drop_take}
use Rattle.msg.proofs.LookupLaws.{Placed}
use Rattle.text.proofs.Alike.{starts_not}
use Rattle.text.specs.Segments.{Cuts, placed, segments_left}
use Rattle.text.proofs.SegmentLaws.{left_start, left_done, left_cons, segment_fits, segment_length}
use Rattle.headers.proofs.SegmentLaws.{first_cuts}
use Rattle.headers.specs.declared.tag.Mode.TheVariants.{Outside}
use Rattle.headers.specs.Tag.{tag_segments, segments_in, cut_length, tag_eq, is_tag, tag_at, first_tag, part_of, part_answer}
use Rattle.limits.specs.Outcome.{or_refuse}
use Rattle.limits.specs.declared.Refusal.TheVariants.{MissingHeader}

-- the tag of the first segment that has one, of segments with their places
unfoldable pub tag_among : List Piece → Option Piece
tag_among [] = None
tag_among (p ∷ ps) = cond (is_tag (trimmed p.text)) (Some (tag_at p.place p.text)) (tag_among ps)

pub first_among : (at : ℕ) (gs : List (List ℕ)) → first_tag at gs ≡ tag_among (placed at gs)
unfolding first_tag tag_among placed
first_among at [] = refl
first_among at (g ∷ gs) = rw (first_among (at + length g + 1) gs)

-- p is the first of them
module _ (ps qs : List Piece) (p : Piece) (e : ps ≡ p ∷ qs) where
  pub tag_next : is_tag (trimmed p.text) ≡ false → tag_among ps ≡ tag_among qs
  unfolding tag_among
  tag_next d = rw (e, d)

  pub tag_hit : is_tag (trimmed p.text) ≡ true → part_of (tag_among ps) ≡ Some (record { start = p.place + blanks p.text + 4; length = length (trimmed p.text) - 4 })
  unfolding tag_among
  tag_hit d = rw (e, d, length-drop)

pub tag_none : (ps : List Piece) → ps ≡ [] → tag_among ps ≡ None
unfolding tag_among
tag_none ps e = rw e

-- the tag in the segments of v that are left at a place
abbrev tag_from : List ℕ → ℕ → Option Piece
tag_from v at = first_tag at (segments_left tag_segments v at)

pub tag_start : (v : List ℕ) → first_tag 0 (tag_segments v) ≡ tag_from v 0
tag_start v = ap (first_tag 0) (sym (left_start tag_segments v))

pub tag_done : (v : List ℕ) (at : ℕ) → length v < at → tag_from v at ≡ None
unfolding first_tag
tag_done v at h = rw (left_done tag_segments v at h)

-- n is how many bytes of the part from `at` on stand before the next cut
module _ (v : List ℕ) (at n : ℕ) (h : at ≤ length v) (hn : n ≡ cut_length Outside (take (length v - at) (drop at v))) where
  -- the segment that starts at `at`
  abbrev segment : List ℕ
  segment = take n (take (length v - at) (drop at v))

  cuts : Cuts tag_segments (take (length v - at) (drop at v)) n
  cuts = first_cuts (take (length v - at) (drop at v)) n hn

  pub segment_within : at + blanks segment + length (trimmed segment) ≤ length v
  segment_within = omega (arith, trimmed_fits segment, segment_length tag_segments v at n h cuts, segment_fits tag_segments v at n h cuts)

-- fewer than four bytes are no tag
pub short : (t : List ℕ) → length t < 4 → is_tag t ≡ false
unfolding is_tag
short t h = starts_not t tag_eq h

-- a tag's four bytes are there
pub long : (t : List ℕ) → is_tag t ≡ true → 4 ≤ length t
long t e = by (ltb (length t) 4) refl
  where
    by : (u : Bool) → ltb (length t) 4 ≡ u → 4 ≤ length t
    by true h = absurd (true≢false (sym e ∙ short t (ltb-true _ _ h)))
    by false h = ltb-false _ _ h

-- ---- a tag stands where the reading says

tail_placed : (v g : List ℕ) (a : ℕ) → take (length (trimmed g)) (drop a v) ≡ trimmed g → take (length (drop 4 (trimmed g))) (drop (a + 4) v) ≡ drop 4 (trimmed g)
tail_placed v g a e = rw (length-drop, ← drop-drop 4 a v, ← drop_take 4 (length (trimmed g)) (drop a v), e)

module _ (v : List ℕ) (at n : ℕ) (h : at ≤ length v) (hn : n ≡ cut_length Outside (take (length v - at) (drop at v))) where
  placed_here : is_tag (trimmed (take n (take (length v - at) (drop at v)))) ≡ true → Placed v (tag_at at (take n (take (length v - at) (drop at v))))
  placed_here e =
      let g : List ℕ = take n (take (length v - at) (drop at v)) in
      record {
        fits = omega (arith, segment_within v at n h hn, long (trimmed g) e, length-drop 4 (trimmed g));
        there = tail_placed v g (at + blanks g) (rw (take_rest v at) (trimmed_part v at n));
      }

by_first : (v : List ℕ) (p : Piece) (at : ℕ) (g : List ℕ) (gs : List (List ℕ)) (u : Bool) → is_tag (trimmed g) ≡ u
    → (is_tag (trimmed g) ≡ true → Placed v (tag_at at g)) → (first_tag (at + length g + 1) gs ≡ Some p → Placed v p) → first_tag at (g ∷ gs) ≡ Some p → Placed v p
unfolding first_tag
by_first v p at g gs true e here more q =
    let r : Some (tag_at at g) ≡ Some p = (rw e at q) in
    let s : tag_at at g ≡ p = cc in
    subst (λ (x : Piece). Placed v x) s (here e)
by_first v p at g gs false e here more q = more (rw e at q)

-- by fuel: each segment is at least one byte with what ends it
placed_from : (v : List ℕ) (p : Piece) (fuel at : ℕ) → length v < at + fuel → tag_from v at ≡ Some p → Placed v p
placed_from v p zero at h e = absurd (let x : tag_from v at ≡ None = tag_done v at (omega arith) in let z : ◌≡◌ {A = ℕ} 0 1 = cc in omega arith)
placed_from v p (suc fuel) at h e = by (ltb (length v) at) refl (λ m. placed_from v p fuel m)
  where
    by : (u : Bool) → ltb (length v) at ≡ u → ((m : ℕ) → length v < m + fuel → tag_from v m ≡ Some p → Placed v p) → Placed v p
    by true k more = absurd (let x : tag_from v at ≡ None = tag_done v at (ltb-true _ _ k) in let z : ◌≡◌ {A = ℕ} 0 1 = cc in omega arith)
    by false k more =
        let n : ℕ = cut_length Outside (take (length v - at) (drop at v)) in
        let l : at ≤ length v = ltb-false _ _ k in
        let g : List ℕ = take n (take (length v - at) (drop at v)) in
        by_first v p at g (segments_left tag_segments v (at + n + 1)) (is_tag (trimmed g)) refl
        (placed_here v at n l refl)
        (λ q. more (at + n + 1) (omega arith) (rw (segment_length tag_segments v at n l (cuts v at n l refl)) at q))
        (rw (left_cons tag_segments v at n l (cuts v at n l refl)) at e)

-- a tag that was read stands in the value
pub tag_placed : (v : List ℕ) (p : Piece) → first_tag 0 (segments_in Outside v) ≡ Some p → Placed v p
tag_placed v p e = placed_from v p (suc (length v)) 0 (omega arith) (sym (tag_start v) ∙ e)

-- as `find_tag` answers it
pub tag_says : (v : List ℕ) (o : Option Piece) (t : Span) → ((p : Piece) → o ≡ Some p → Placed v p) → part_of o ≡ Some t → t.start + t.length ≤ length v
tag_says v None t k e = absurd (let z : ◌≡◌ {A = ℕ} 0 1 = cc in omega arith)
tag_says v (Some p) t k e = let q : span_of p ≡ t = cc in subst (λ (x : Span). x.start + x.length ≤ length v) q (k p refl).fits

-- the answer with refusals by the one without
pub tag_required : (o : Option Piece) → ok_or (part_of o) MissingHeader ≡ part_answer (or_refuse MissingHeader o)
tag_required None = refl
tag_required (Some p) = refl
