-- All elements of a value by the first one: what a walk over the elements goes by. Assumes nothing.
use Prim.Native.Nat.{ℕ, zero, suc, ◌+◌, ◌-◌, ◌≤◌, ◌<◌}
use native.Mathlib.Omega.{arith}
use mathlib.Core.Path.{◌≡◌, refl, sym, ap, subst, ◌∙◌}
use mathlib.Core.Bool.{Bool, true, false}
use mathlib.Core.List.{List, [], ◌∷◌}
use lib.ListN.{length, take, drop}
use lib.Dec.{ltb}
use borrow.Author.Tests.{ltb-true, ltb-false}
use Rattle.std.proofs.lemmas.List.{take_rest}
use Rattle.std.specs.Prelude.{None, Option, Some}
use Rattle.limits.proofs.Laws.{some_pair}
use Rattle.text.specs.Text.{trimmed, Piece, trimmed_piece}
use Rattle.text.specs.Number.{non_empty}
use Rattle.text.specs.Answers.{Stop, span_of}
use Rattle.text.specs.Spans.{part_in}
use Rattle.text.specs.declared.Span.{Span}
use Rattle.text.proofs.Trimming.{trimmed_at, trimmed_part}
use Rattle.msg.proofs.LookupLaws.{Placed}
use Rattle.route_set.specs.Parts.{segments, segments_from, elements, first_element, part_from}
use Rattle.route_set.specs.Cuts.{cut_length}
use Rattle.text.specs.Segments.{Cuts}
use Rattle.text.proofs.SegmentLaws.{left_cons, left_done, segment_length}
use Rattle.route_set.specs.Elements.{elements_left}
use Rattle.route_set.proofs.PartLaws.{first_cuts}

-- ---- the elements of a value

-- the first element left, and those after it
pub record First (v : List ℕ) (at : ℕ) (e : Stop) : Type 0 where
  pub then : elements_left v at ≡ e.piece ∷ elements_left v e.next
  pub later : at < e.next
  pub placed : Placed v e.piece

-- by whether the segment at the place has one
by_segment : (v : List ℕ) (e : Stop) (at : ℕ) (g : List ℕ) (next : ℕ) (u : Bool) → non_empty (trimmed g) ≡ u → segments_from v at ≡ g ∷ segments_from v next → at + length g + 1 ≡ next
    → Placed v (trimmed_piece at g) → (first_element next (segments_from v next) ≡ Some e → First v next e) → first_element at (segments_from v at) ≡ Some e → First v at e
unfolding elements first_element
by_segment v e at g next true t cut after here more q =
    let r : Some (record { piece = trimmed_piece at g; next = at + length g + 1 }) ≡ Some e = (rw (cut, t) at q) in
    let s : record { piece = trimmed_piece at g; next = at + length g + 1 } ≡ e = cc in
    subst (λ (x : Stop). First v at x) s (record { then = rw (cut, t, after); later = omega arith; placed = here })
by_segment v e at g next false t cut after here more q =
    let f : First v next e = more (rw (cut, t, after) at q) in
    record { then = rw (cut, t, after) f.then; later = omega (arith, f.later); placed = f.placed }

no_first : (v : List ℕ) (at : ℕ) → length v < at → first_element at (segments_from v at) ≡ None
unfolding first_element
no_first v at h = rw (left_done (segments false 0) v at h)

placed_segment : (v : List ℕ) (at n : ℕ) → at ≤ length v → Placed v (trimmed_piece at (take n (take (length v - at) (drop at v))))
placed_segment v at n h = record { fits = rw (take_rest v at) (trimmed_at v at n h); there = rw (take_rest v at) (trimmed_part v at n) }

first_by : (v : List ℕ) (e : Stop) (fuel at : ℕ) → length v < at + fuel → first_element at (segments_from v at) ≡ Some e → First v at e
first_by v e zero at h q = absurd (let x = no_first v at (omega arith) in let z : ◌≡◌ {A = ℕ} 0 1 = cc x in omega arith)
first_by v e (suc fuel) at h q = by (ltb (length v) at) refl (λ m. first_by v e fuel m)
  where
    by : (u : Bool) → ltb (length v) at ≡ u → ((m : ℕ) → length v < m + fuel → first_element m (segments_from v m) ≡ Some e → First v m e) → First v at e
    by true k more = absurd (let x = no_first v at (ltb-true _ _ k) in let z : ◌≡◌ {A = ℕ} 0 1 = cc x in omega arith)
    by false k more =
        let n : ℕ = cut_length false 0 (take (length v - at) (drop at v)) in
        let l : at ≤ length v = ltb-false _ _ k in
        let g : List ℕ = take n (take (length v - at) (drop at v)) in
        let c : Cuts (segments false 0) (take (length v - at) (drop at v)) n = first_cuts (take (length v - at) (drop at v)) n refl in
        let after : at + length g + 1 ≡ at + n + 1 = ap (λ (x : ℕ). at + x + 1) (segment_length (segments false 0) v at n l c) in
        by_segment v e at g (at + n + 1) (non_empty (trimmed g)) refl (left_cons (segments false 0) v at n l c) after (placed_segment v at n l) (more (at + n + 1) (omega arith)) q

-- as `next_part` answers it
pub record Told (v : List ℕ) (at : ℕ) (p : Span) (next : ℕ) : Type 0 where
  pub piece : Piece
  pub span_is : span_of piece ≡ p
  pub then : elements_left v at ≡ piece ∷ elements_left v next
  pub later : at < next
  pub placed : Placed v piece

told : (v : List ℕ) (at : ℕ) (o : Option Stop) (p : Span) (next : ℕ) → ((e : Stop) → o ≡ Some e → First v at e) → part_from o ≡ Some (p, next) → Told v at p next
told v at None p next k q = absurd (let z : ◌≡◌ {A = ℕ} 0 1 = cc in omega arith)
told v at (Some e) p next k q =
    let f : First v at e = k e refl in
    let n : e.next ≡ next = (some_pair q).1 in
    record { piece = e.piece; span_is = (some_pair q).0; then = subst (λ (x : ℕ). elements_left v at ≡ e.piece ∷ elements_left v x) n f.then; later = omega (arith, f.later); placed = f.placed }

pub part_told : (v : List ℕ) (at : ℕ) (p : Span) (next : ℕ) → part_from (first_element at (segments_from v at)) ≡ Some (p, next) → Told v at p next
part_told v at p next q = told v at (first_element at (segments_from v at)) p next (λ e. first_by v e (suc (length v)) at (omega arith)) q

-- no first element, no elements
none_left : (at : ℕ) (gs : List (List ℕ)) → first_element at gs ≡ None → elements at gs ≡ []
unfolding elements first_element
none_left at [] e = refl
none_left at (g ∷ gs) e = by (non_empty (trimmed g)) refl e (none_left (at + length g + 1) gs)
  where
    by : (u : Bool) → non_empty (trimmed g) ≡ u → first_element at (g ∷ gs) ≡ None → (first_element (at + length g + 1) gs ≡ None → elements (at + length g + 1) gs ≡ []) → elements at (g ∷ gs) ≡ []
    by true t e more = absurd (let x : Some (record { piece = trimmed_piece at g; next = at + length g + 1 }) ≡ None = (rw t at e) in let z : ◌≡◌ {A = ℕ} 0 1 = cc in omega arith)
    by false t e more = rw t (more (rw t at e))

pub part_none : (v : List ℕ) (at : ℕ) → part_from (first_element at (segments_from v at)) ≡ None → elements_left v at ≡ []
part_none v at q = none_left at (segments_from v at) (go (first_element at (segments_from v at)) q)
  where
    go : (o : Option Stop) → part_from o ≡ None → o ≡ None
    go None e = refl
    go (Some x) e = absurd (let z : ◌≡◌ {A = ℕ} 0 1 = cc in omega arith)

-- as the code's iterator gives it
pub told_first : (v : List ℕ) (at : ℕ) (p : Span) (next : ℕ) → Told v at p next → elements_left v at ≡ record { place = p.start; text = part_in v p } ∷ elements_left v next
told_first v at p next t =
    t.then ∙ ap (λ (x : Piece). x ∷ elements_left v next) (subst (λ (x : Span). t.piece ≡ record { place = x.start; text = part_in v x }) t.span_is (ap (λ (l : List ℕ). record { place = t.piece.place; text = l }) (sym t.placed.there)))

pub told_fits : (v : List ℕ) (from : ℕ) (p : Span) (next : ℕ) → Told v from p next → p.start + p.length ≤ length v
told_fits v from p next t = subst (λ (x : Span). x.start + x.length ≤ length v) t.span_is t.placed.fits
