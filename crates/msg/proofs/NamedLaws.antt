-- All lines of a name by the first one: what a walk over the values of a name goes by. Assumes nothing.
use Prim.Native.Nat.{ℕ, zero, suc, ◌+◌, ◌-◌, ◌≤◌, ◌<◌}
use native.Mathlib.Omega.{arith}
use mathlib.Core.Path.{◌≡◌, refl, sym, ap, subst, ◌∙◌}
use mathlib.Core.Bool.{Bool, true, false}
use mathlib.Core.List.{List, [], ◌∷◌}
use lib.ListN.{length, take, drop}
use lib.Dec.{ltb}
use borrow.Author.Tests.{ltb-true, ltb-false}
use Rattle.std.specs.Prelude.{None, Option, Some}
use Rattle.text.specs.Spans.{part_in}
use Rattle.text.specs.declared.Span.{Span}
use Rattle.msg.specs.Block.{HeaderLine, line_at, line_of, named, first_named, all_named, found_of}
use Rattle.msg.specs.Lines.{values_of}
use Rattle.msg.proofs.LineLaws.{line_fits}
use Rattle.msg.proofs.LookupLaws.{lines_left, left_done, left_stop, left_line, Says, found_none}

abbrev pub named_left : List ℕ → List ℕ → ℕ → List HeaderLine
named_left s asked at = all_named asked (lines_left s at)

pub no_line_left : (asked : List ℕ) (ls : List HeaderLine) → first_named asked ls ≡ None → all_named asked ls ≡ []
unfolding first_named all_named
no_line_left asked [] e = refl
no_line_left asked (l ∷ ls) e = by (named asked l.name) refl e (no_line_left asked ls)
  where
    by : (u : Bool) → named asked l.name ≡ u → first_named asked (l ∷ ls) ≡ None → (first_named asked ls ≡ None → all_named asked ls ≡ []) → all_named asked (l ∷ ls) ≡ []
    by true t e more = absurd (let x : Some l ≡ None = (rw t at e) in let z : ◌≡◌ {A = ℕ} 0 1 = cc in omega arith)
    by false t e more = rw t (more (rw t at e))

-- the first line of the name, and those after it
pub record FirstLine (s asked : List ℕ) (at : ℕ) (l : HeaderLine) : Type 0 where
  pub then : named_left s asked at ≡ l ∷ named_left s asked l.next
  pub later : at < l.next
  pub within : l.next ≤ length s

by_line : (s asked : List ℕ) (f : HeaderLine) (at : ℕ) (l : HeaderLine) (next : ℕ) (u : Bool) → named asked l.name ≡ u → lines_left s at ≡ l ∷ lines_left s next → l.next ≡ next → at < next → next ≤ length s
    → (first_named asked (lines_left s next) ≡ Some f → FirstLine s asked next f) → first_named asked (lines_left s at) ≡ Some f → FirstLine s asked at f
unfolding first_named all_named
by_line s asked f at l next true t cut after h k more q =
    let r : Some l ≡ Some f = (rw (cut, t) at q) in
    let e : l ≡ f = cc in
    subst (λ (x : HeaderLine). FirstLine s asked at x) e (record { then = rw (cut, t, after); later = omega arith; within = omega arith })
by_line s asked f at l next false t cut after h k more q =
    let m : FirstLine s asked next f = more (rw (cut, t) at q) in
    record { then = rw (cut, t) m.then; later = omega (arith, m.later); within = m.within }

line_by_lem : (s asked : List ℕ) (f : HeaderLine) (fuel at : ℕ) → length s < at + fuel → first_named asked (lines_left s at) ≡ Some f → FirstLine s asked at f
unfolding first_named
line_by_lem s asked f zero at h q = absurd (let x : None ≡ Some f = (rw (left_done s at (omega arith)) at q) in let z : ◌≡◌ {A = ℕ} 0 1 = cc in omega arith)
line_by_lem s asked f (suc fuel) at h q = by (ltb at (length s)) refl (line_at (take (length s - at) (drop at s))) refl (λ m. line_by_lem s asked f fuel m)
  where
    by : (u : Bool) → ltb at (length s) ≡ u → (l : Option (ℕ × ℕ)) → line_at (take (length s - at) (drop at s)) ≡ l → ((m : ℕ) → length s < m + fuel → first_named asked (lines_left s m) ≡ Some f → FirstLine s asked m f) → FirstLine s asked at f
    by false k l e more = absurd (let x : None ≡ Some f = (rw (left_done s at (ltb-false _ _ k)) at q) in let z : ◌≡◌ {A = ℕ} 0 1 = cc in omega arith)
    by true k None e more = absurd (let x : None ≡ Some f = (rw (left_stop s at (ltb-true _ _ k) e) at q) in let z : ◌≡◌ {A = ℕ} 0 1 = cc in omega arith)
    by true k (Some (n, m)) e more =
        let i : at < length s = ltb-true _ _ k in
        let w : at + (n + m + 3) ≤ length s = line_fits s at n m (omega arith) e in
        by_line s asked f at (line_of at (drop at s) n m) (at + (n + m + 3)) (named asked (take n (drop at s))) refl (left_line s at n m e) refl (omega arith) w (more (at + (n + m + 3)) (omega arith)) q

pub line_told : (s asked : List ℕ) (at : ℕ) (f : HeaderLine) → first_named asked (lines_left s at) ≡ Some f → FirstLine s asked at f
line_told s asked at f q = line_by_lem s asked f (suc (length s)) at (omega arith) q

-- ---- the values of the lines that a look-up finds

module _ (s asked : List ℕ) (at : ℕ) where
  -- the first one, as a look-up answers it, and those after it
  module _ (v : Span) (next : ℕ) (r : Says s (first_named asked (lines_left s at)) v next) where
    first : FirstLine s asked at r.line
    first = line_told s asked at r.line r.is

    pub next_within : next ≤ length s
    next_within = omega (arith, first.within, r.next_is)

    value_is : r.line.value ≡ record { place = v.start; text = part_in s v }
    value_is = subst (λ (x : Span). r.line.value ≡ record { place = x.start; text = part_in s x }) r.span_is (ap (λ (t : List ℕ). record { place = r.line.value.place; text = t }) (sym r.placed.there))

    pub first_value : values_of (named_left s asked at) ≡ record { place = v.start; text = part_in s v } ∷ values_of (named_left s asked next)
    first_value = ap values_of first.then ∙ rw (value_is, r.next_is)

  -- none is left
  pub no_value : found_of (first_named asked (lines_left s at)) ≡ None → values_of (named_left s asked at) ≡ []
  no_value e = ap values_of (no_line_left asked (lines_left s at) (found_none _ e))
