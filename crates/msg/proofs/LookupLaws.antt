-- Lines one after another: the turns of the loops over a block, and that a value stands where the look-up says.
-- Assumes nothing.
use Prim.Native.Nat.{ℕ, zero, suc, ◌+◌, ◌-◌, ◌≤◌, ◌<◌}
use native.Mathlib.Nat.{add-zero, add-sub_cancel_left}
use native.Mathlib.Omega.{arith}
use mathlib.Core.Path.{◌≡◌, refl, sym, ap, subst, ◌∙◌}
use mathlib.Core.Bool.{Bool, true, false, cond}
use mathlib.Core.List.{List, [], ◌∷◌}
use lib.ListN.{length, take, drop, drop_of_length-le, length-drop}
use lib.Seq.{drop-cons, drop-drop, length-take-le}
use lib.Dec.{eqb, ltb}
use borrow.Author.Tests.{eq-eqb, ne_eqb, lt-ltb, le-ltb, ltb-true, ltb-false}
use Rattle.std.proofs.lemmas.List.{take_rest}
use Rattle.std.specs.Option.{MatchOption, IsSomeAnd}
use Rattle.std.specs.Prelude.{None, Ok, Option, Some}
use Rattle.text.specs.Text.{Piece}
use Rattle.limits.proofs.Laws.{some_pair}
use Rattle.limits.specs.Limits.{LimitSet}
use Rattle.limits.specs.declared.Refusal.TheVariants.{TextTooLong}
use Rattle.text.specs.Answers.{too_long, span_of, lookup_of, next_of}
use Rattle.text.specs.Spans.{part_in}
use Rattle.text.specs.declared.Span.{Span}
use Rattle.text.proofs.Trimming.{trimmed_at, trimmed_part}
use Rattle.msg.specs.Block.{line_at, lines_after, HeaderLine, line_of, with_line, tail_of, lines_from, lines_since, first_named, named, value_of, text_of, stop_of, found_of, block_cause, lookup_cause}
use Rattle.msg.specs.Lines.{line_read}
use Rattle.msg.proofs.LineLaws.{line_length, line_fits}

-- ---- nothing but lines

after_skip : (k : ℕ) (s : List ℕ) → lines_after k s ≡ lines_after 0 (drop k s)
unfolding lines_after
after_skip zero s = refl
after_skip (suc k) [] = refl
after_skip (suc k) (b ∷ s) = after_skip k s

after_line : (t : List ℕ) (n m : ℕ) → line_at t ≡ Some (n, m) → lines_after 0 t ≡ lines_after 0 (drop (suc (n + m + 2)) t)
unfolding lines_after
after_line [] n m e = refl
after_line (b ∷ s) n m e = rw e (after_skip (n + m + 2) s)

-- the line at `at` is read in the part from there on
module _ (s : List ℕ) (at : ℕ) where
  pub block_done : length s ≤ at → lines_after 0 (drop at s) ≡ true
  unfolding lines_after
  block_done h = rw (drop_of_length-le s h)

  pub block_stop : at < length s → line_at (take (length s - at) (drop at s)) ≡ None → lines_after 0 (drop at s) ≡ false
  unfolding lines_after
  block_stop h e = rw (drop-cons s at 0 h, rw (take_rest s at, drop-cons s at 0 h) at e)

  pub block_next : (n m : ℕ) → line_at (take (length s - at) (drop at s)) ≡ Some (n, m) → lines_after 0 (drop at s) ≡ lines_after 0 (drop (at + (n + m + 3)) s)
  block_next n m e =
      let q : at + suc (n + m + 2) ≡ at + (n + m + 3) = omega arith in
      after_line (drop at s) n m (rw take_rest at e) ∙ rw (drop-drop, q)

-- ---- the lines

from_skip : (k at : ℕ) (s : List ℕ) → lines_from k at s ≡ lines_from 0 (at + k) (drop k s)
unfolding lines_from
from_skip zero at s = rw (add-zero at)
from_skip (suc k) at [] = refl
from_skip (suc k) at (b ∷ s) =
    let q : at + 1 + k ≡ at + suc k = omega arith in
    from_skip k (at + 1) s ∙ rw q

from_line : (at : ℕ) (t : List ℕ) (n m : ℕ) → line_at t ≡ Some (n, m) → lines_from 0 at t ≡ line_of at t n m ∷ lines_from 0 (at + (n + m + 3)) (drop (suc (n + m + 2)) t)
unfolding lines_from
from_line at [] n m e = absurd (omega (arith, line_length [] n m e))
from_line at (b ∷ s) n m e =
    let q : at + 1 + (n + m + 2) ≡ at + (n + m + 3) = omega arith in
    rw (e, from_skip (n + m + 2) (at + 1) s, q)

-- the lines of s that are left at a place
abbrev pub lines_left : List ℕ → ℕ → List HeaderLine
lines_left s at = lines_from 0 at (drop at s)

module _ (s : List ℕ) (at : ℕ) where
  pub left_done : length s ≤ at → lines_left s at ≡ []
  unfolding lines_from
  left_done h = rw (drop_of_length-le s h)

  pub left_stop : at < length s → line_at (take (length s - at) (drop at s)) ≡ None → lines_left s at ≡ []
  unfolding lines_from
  left_stop h e = rw (drop-cons s at 0 h, rw (take_rest s at, drop-cons s at 0 h) at e)

  pub left_line : (n m : ℕ) → line_at (take (length s - at) (drop at s)) ≡ Some (n, m) → lines_left s at ≡ line_of at (drop at s) n m ∷ lines_left s (at + (n + m + 3))
  left_line n m e =
      let q : at + suc (n + m + 2) ≡ at + (n + m + 3) = omega arith in
      from_line at (drop at s) n m (rw take_rest at e) ∙ rw (drop-drop (suc (n + m + 2)) at s, q)

-- the same as the code reads it, of the part from `at` on
module _ (s : List ℕ) (at n m : ℕ) (e : line_at (take (length s - at) (drop at s)) ≡ Some (n, m)) where
  name_fits : n ≤ length (drop at s)
  name_fits = omega (arith, line_length (drop at s) n m (rw take_rest at e))

  value_fits : m ≤ length (drop (n + 1) (drop at s))
  value_fits = omega (arith, line_length (drop at s) n m (rw take_rest at e), length-drop (n + 1) (drop at s))

  pub read_name : length (take n (take (length s - at) (drop at s))) ≡ n
  read_name = rw take_rest (length-take-le n (drop at s) name_fits)

  pub read_value : length (take (n + 1 + m - (n + 1)) (drop (n + 1) (take (length s - at) (drop at s)))) ≡ m
  read_value = rw (take_rest, add-sub_cancel_left) (length-take-le m (drop (n + 1) (drop at s)) value_fits)

  pub left_read : lines_left s at ≡ line_read at (take n (take (length s - at) (drop at s))) (take (n + 1 + m - (n + 1)) (drop (n + 1) (take (length s - at) (drop at s)))) ∷ lines_left s (at + (n + m + 3))
  left_read = left_line s at n m e ∙ rw (read_name, read_value, take_rest, add-sub_cancel_left)

-- bytes that are no line, or none
pub left_none : (s : List ℕ) (at : ℕ) → line_at (take (length s - at) (drop at s)) ≡ None → lines_left s at ≡ []
left_none s at e = by (ltb at (length s)) refl
  where
    by : (u : Bool) → ltb at (length s) ≡ u → lines_left s at ≡ []
    by true h = left_stop s at (ltb-true _ _ h) e
    by false h = left_done s at (ltb-false _ _ h)

-- where no line is left, the block is one exactly if no byte is left
pub block_end : (s : List ℕ) (at : ℕ) → at ≤ length s → lines_left s at ≡ [] → lines_after 0 (drop at s) ≡ eqb at (length s)
block_end s at h e = by (ltb at (length s)) refl (line_at (take (length s - at) (drop at s))) refl
  where
    by : (u : Bool) → ltb at (length s) ≡ u → (o : Option (ℕ × ℕ)) → line_at (take (length s - at) (drop at s)) ≡ o → lines_after 0 (drop at s) ≡ eqb at (length s)
    by true k None q =
        let l : at < length s = ltb-true _ _ k in
        let d : at ≡ length s → ⊥ = (λ (x : at ≡ length s). omega arith) in
        block_stop s at l q ∙ sym (ne_eqb at (length s) d)
    by true k (Some (n, m)) q = absurd (let x : line_of at (drop at s) n m ∷ lines_left s (at + (n + m + 3)) ≡ [] = sym (left_line s at n m q) ∙ e in let z : ◌≡◌ {A = ℕ} 0 1 = cc in omega arith)
    by false k o q =
        let l : length s ≤ at = ltb-false _ _ k in
        let d : at ≡ length s = omega arith in
        block_done s at l ∙ sym (eq-eqb at (length s) d)

-- the first of the lines left at a place: where the line after it starts, the others are left
pub record Turn (s : List ℕ) (at : ℕ) (l : HeaderLine) (ls : List HeaderLine) : Type 0 where
  pub n : ℕ
  pub m : ℕ
  pub read : line_at (take (length s - at) (drop at s)) ≡ Some (n, m)
  pub is : l ≡ line_of at (drop at s) n m
  pub next : l.next ≡ at + (n + m + 3)
  pub others : ls ≡ lines_left s l.next
  pub fits : at ≤ length s → l.next ≤ length s

pub turned : (s : List ℕ) (at : ℕ) (l : HeaderLine) (ls : List HeaderLine) → lines_left s at ≡ l ∷ ls → Turn s at l ls
turned s at l ls e = by (line_at (take (length s - at) (drop at s))) refl
  where
    by : (o : Option (ℕ × ℕ)) → line_at (take (length s - at) (drop at s)) ≡ o → Turn s at l ls
    by None q = absurd (let x : [] ≡ l ∷ ls = sym (left_none s at q) ∙ e in let z : ◌≡◌ {A = ℕ} 0 1 = cc in omega arith)
    by (Some (n, m)) q =
        let x : line_of at (drop at s) n m ∷ lines_left s (at + (n + m + 3)) ≡ l ∷ ls = sym (left_line s at n m q) ∙ e in
        let i : line_of at (drop at s) n m ≡ l = cc in
        let k : at + (n + m + 3) ≡ l.next = ap (λ (f : HeaderLine). f.next) i in
        let o : lines_left s (at + (n + m + 3)) ≡ ls = cc in
        record { n = n; m = m; read = q; is = sym i; next = sym k; others = sym o ∙ ap (lines_left s) k; fits = λ h. subst (λ (x : ℕ). x ≤ length s) k (line_fits s at n m h q) }

-- ---- the first line of a name, in lines of which the first is l

module _ (asked : List ℕ) (l : HeaderLine) (ls ms : List HeaderLine) (e : ls ≡ l ∷ ms) where
  pub first_miss : named asked l.name ≡ false → first_named asked ls ≡ first_named asked ms
  unfolding first_named
  first_miss d = rw (e, d)

  pub first_here : named asked l.name ≡ true → first_named asked ls ≡ Some l
  unfolding first_named
  first_here d = rw (e, d)

pub first_none : (asked : List ℕ) (ls : List HeaderLine) → ls ≡ [] → first_named asked ls ≡ None
unfolding first_named
first_none asked ls e = rw e

-- ---- the lines from a place on

-- once the place is not before `from`, the rest is left: its first line starts at the place
by_reached : (s : List ℕ) (from at : ℕ) (l : Option (ℕ × ℕ)) → line_at (take (length s - at) (drop at s)) ≡ l → at < length s → from ≤ at → lines_since from (lines_left s at) ≡ lines_left s at
unfolding lines_since
by_reached s from at (Some (n, m)) e h k = rw (left_line s at n m e, le-ltb at from k)
by_reached s from at None e h k = rw (left_stop s at h e)

pub since_reached : (s : List ℕ) (from at : ℕ) → from ≤ at → lines_since from (lines_left s at) ≡ lines_left s at
unfolding lines_since
since_reached s from at k = by (ltb at (length s)) refl
  where
    by : (u : Bool) → ltb at (length s) ≡ u → lines_since from (lines_left s at) ≡ lines_left s at
    by true e = by_reached s from at (line_at (take (length s - at) (drop at s))) refl (ltb-true _ _ e) k
    by false e = rw (left_done s at (ltb-false _ _ e))

pub since_none : (s : List ℕ) (from at : ℕ) → lines_left s at ≡ [] → lines_left s at ≡ lines_since from (lines_left s at)
unfolding lines_since
since_none s from at e = rw e

pub since_next : (s : List ℕ) (from at n m : ℕ) → line_at (take (length s - at) (drop at s)) ≡ Some (n, m) → at < from → lines_since from (lines_left s at) ≡ lines_since from (lines_left s (at + (n + m + 3)))
unfolding lines_since
since_next s from at n m e h = rw (left_line s at n m e, lt-ltb at from h)

-- ---- a value stands at its place

pub record Placed (s : List ℕ) (p : Piece) : Type 0 where
  pub fits : p.place + length p.text ≤ length s
  pub there : take (length p.text) (drop p.place s) ≡ p.text

placed_line : (s : List ℕ) (at n m : ℕ) → at ≤ length s → line_at (drop at s) ≡ Some (n, m) → Placed s (line_of at (drop at s) n m).value
placed_line s at n m h e =
    let p : at + (n + 1) ≤ length s = omega (arith, line_length (drop at s) n m e, length-drop at s) in
    record {
      fits = rw drop-drop (trimmed_at s (at + (n + 1)) m p);
      there = rw drop-drop (trimmed_part s (at + (n + 1)) m);
    }

-- by what the line is, and whether its name is the one sought
module _ (asked s : List ℕ) (f : HeaderLine) (b : ℕ) (t : List ℕ) (at : ℕ) (h : at ≤ length s) (here : drop at s ≡ b ∷ t) where
  by_name : (n m : ℕ) (u : Bool) → Placed s (line_of at (b ∷ t) n m).value
      → (first_named asked (lines_from (n + m + 2) (at + 1) t) ≡ Some f → Placed s f.value)
      → cond u (Some (line_of at (b ∷ t) n m)) (first_named asked (lines_from (n + m + 2) (at + 1) t)) ≡ Some f → Placed s f.value
  by_name n m true p more e = let q : line_of at (b ∷ t) n m ≡ f = cc in subst (λ (g : HeaderLine). Placed s g.value) q p
  by_name n m false p more e = more e

  by_line : (l : Option (ℕ × ℕ)) → line_at (b ∷ t) ≡ l → ((k : ℕ) → first_named asked (lines_from k (at + 1) t) ≡ Some f → Placed s f.value)
      → first_named asked (with_line l at (b ∷ t) (lines_from (tail_of l) (at + 1) t)) ≡ Some f → Placed s f.value
  unfolding first_named
  by_line (Some (n, m)) q more e =
      by_name n m (named asked (take n (b ∷ t))) (subst (λ (l : List ℕ). Placed s (line_of at l n m).value) here (placed_line s at n m h (ap line_at here ∙ q))) (more (n + m + 2)) e
  by_line None q more e = absurd (let z : ◌≡◌ {A = ℕ} 0 1 = cc in omega arith)

first_placed : (asked s : List ℕ) (f : HeaderLine) (t : List ℕ) (skip at : ℕ) → at ≤ length s → drop at s ≡ t → first_named asked (lines_from skip at t) ≡ Some f → Placed s f.value
unfolding lines_from first_named
first_placed asked s f [] skip at h q e = absurd (let z : ◌≡◌ {A = ℕ} 0 1 = cc in omega arith)
first_placed asked s f (b ∷ t) zero at h q e =
    by_line asked s f b t at h q (line_at (b ∷ t)) refl (λ k. first_placed asked s f t k (at + 1) (omega (arith, ap length q, length-drop at s)) (sym (drop-drop 1 at s) ∙ ap (drop 1) q)) e
first_placed asked s f (b ∷ t) (suc skip) at h q e =
    first_placed asked s f t skip (at + 1) (omega (arith, ap length q, length-drop at s)) (sym (drop-drop 1 at s) ∙ ap (drop 1) q) e

-- what a look-up's answer says: the value's piece is the span, and it stands in the block
pub record Says (s : List ℕ) (o : Option HeaderLine) (v : Span) (next : ℕ) : Type 0 where
  pub line : HeaderLine
  pub is : o ≡ Some line
  pub span_is : span_of line.value ≡ v
  pub next_is : line.next ≡ next
  pub placed : Placed s line.value

says : (s : List ℕ) (o : Option HeaderLine) (v : Span) (next : ℕ) → ((f : HeaderLine) → o ≡ Some f → Placed s f.value) → found_of o ≡ Some (v, next) → Says s o v next
says s None v next p e = absurd (let z : ◌≡◌ {A = ℕ} 0 1 = cc in omega arith)
says s (Some f) v next p e = let q = some_pair e in record { line = f; is = refl; span_is = q.0; next_is = q.1; placed = p f refl }

-- the span lies within the block, the bytes there are the value, and it starts where the value stands
module _ (s : List ℕ) (o : Option HeaderLine) (v : Span) (next : ℕ) (r : Says s o v next) where
  pub said_fits : v.start + v.length ≤ length s
  said_fits = subst (λ (x : Span). x.start + x.length ≤ length s) r.span_is r.placed.fits

  pub said_bytes : part_in s v ≡ text_of o
  said_bytes = rw r.is (ap (λ (x : Span). part_in s x) (sym r.span_is) ∙ r.placed.there)

pub found_at : (s asked : List ℕ) (at : ℕ) (v : Span) (next : ℕ) → at ≤ length s → found_of (first_named asked (lines_left s at)) ≡ Some (v, next) → Says s (first_named asked (lines_left s at)) v next
found_at s asked at v next h e = says s (first_named asked (lines_left s at)) v next (λ f. first_placed asked s f (drop at s) 0 at h refl) e

pub found_none : (o : Option HeaderLine) → found_of o ≡ None → o ≡ None
found_none None e = refl
found_none (Some f) e = absurd (let z : ◌≡◌ {A = ℕ} 0 1 = cc in omega arith)

-- ---- the refusals of a look-up, in their order

module _ (L : LimitSet) (block asked : List ℕ) where
  pub long_name : too_long L asked ≡ true → lookup_cause L block asked ≡ Some TextTooLong
  unfolding lookup_cause
  long_name e = rw e

  pub short_name : too_long L asked ≡ false → lookup_cause L block asked ≡ block_cause L block
  unfolding lookup_cause
  short_name e = rw e

-- the answer by the first line: nothing, or the value's place
pub no_line : (o : Option HeaderLine) → found_of o ≡ None → value_of o ≡ None
no_line o e = ap value_of (found_none o e)

-- the value alone, by `map`, of which `Q` is what its closure says
pub line_mapped : {Q : Span × ℕ → Span → Type 0} (o : Option HeaderLine) (f : Option (Span × ℕ)) (r : Option Span) → f ≡ found_of o
    → MatchOption f (r ≡ None) (λ x. IsSomeAnd r (Q x)) → ((x : Span × ℕ) (s : Span) → Q x s → s ≡ x.0) → Ok r ≡ lookup_of (Ok (value_of o))
line_mapped {Q} o f r e m q = go o r (subst (λ (x : Option (Span × ℕ)). MatchOption x (r ≡ None) (λ y. IsSomeAnd r (Q y))) e m)
  where
    go : (o : Option HeaderLine) (r : Option Span) → MatchOption (found_of o) (r ≡ None) (λ y. IsSomeAnd r (Q y)) → Ok r ≡ lookup_of (Ok (value_of o))
    go None r h = ap Ok h
    go (Some l) (Some s) h = ap (λ (x : Span). Ok (Some x)) (q _ s h)
    go (Some l) None h = absurd h

pub stop_answer : (o : Option HeaderLine) → Ok (found_of o) ≡ next_of (Ok (stop_of o))
stop_answer None = refl
stop_answer (Some l) = refl
