-- The window of a pass moves over the verdicts that are left behind, one at a time. Assumes nothing.
use Prim.Native.Nat.{ℕ, zero, suc, ◌+◌, ◌-◌, ◌*◌, ◌/◌, ◌≤◌, ◌<◌}
use native.Mathlib.Omega.{arith}
use mathlib.Core.Path.{◌≡◌, refl, sym, ap, ap₂, ◌∙◌}
use mathlib.Core.Bool.{true, false, not}
use mathlib.Core.List.{List, ◌∷◌}
use lib.ListN.{length, drop, get_or}
use lib.Seq.{get_or-drop, drop-drop}
use lib.Dec.{eqb}
use borrow.Author.Tests.{le-leb, lt-leb, eq-eqb, ne_eqb}
use Rattle.worst_minute.specs.Minute.{Verdict, is_refusal, minute}
use Rattle.worst_minute.specs.Layout.{entry_in, entries_in}
use Rattle.worst_minute.specs.Steps.{refused_in, left_behind, time_at, between, moved_by, moved_to}
use Rattle.worst_minute.specs.declared.counting.Window.{Window}
use Rattle.worst_minute.proofs.LayoutLaws.{drop_entries}

-- ---- the entry at a place, and those behind it

pub first_entry : (m from : ℕ) (s : List ℕ) → entries_in (suc m) (drop from s) ≡ entry_in (drop from s) ∷ entries_in m (drop (from + 9) s)
unfolding entries_in
first_entry m from s = ap (λ t. entry_in (drop from s) ∷ entries_in m t) (drop-drop 9 from s)

pub first_of_lem : (n from : ℕ) (s : List ℕ) → 0 < n → entries_in n (drop from s) ≡ entry_in (drop from s) ∷ entries_in (n - 1) (drop (from + 9) s)
first_of_lem zero from s h = absurd (omega arith)
first_of_lem (suc m) from s h =
    let e : m ≡ suc m - 1 = omega arith in
    first_entry m from s ∙ ap (λ k. entry_in (drop from s) ∷ entries_in k (drop (from + 9) s)) e

-- those from a place on that are left behind
module _ (s : List ℕ) (t from : ℕ) where
  pub one_left : (n : ℕ) → 0 < n → minute ≤ t - time_at s from → left_behind t (entries_in n (drop from s)) ≡ 1 + left_behind t (entries_in (n - 1) (drop (from + 9) s))
  unfolding left_behind
  one_left n h d = ap (left_behind t) (first_of_lem n from s h) ∙ rw (le-leb minute (t - time_at s from) d)

  pub none_left : (n : ℕ) → t - time_at s from < minute → left_behind t (entries_in n (drop from s)) ≡ 0
  unfolding left_behind entries_in
  none_left zero d = refl
  none_left (suc n) d = rw (lt-leb minute (t - time_at s from) d)

module _ (s : List ℕ) (from : ℕ) where
  number_there : (entry_in (drop from s)).number ≡ get_or s (from + 8) 0
  number_there = get_or-drop from s 8 0

  pub is_refusal_lem : (get_or s (from + 8) 0 ≡ 0 → ⊥) → is_refusal (entry_in (drop from s)) ≡ true
  is_refusal_lem h = ap (λ n. not (eqb n 0)) number_there ∙ ap not (ne_eqb (get_or s (from + 8) 0) 0 h)

  pub is_accepted : get_or s (from + 8) 0 ≡ 0 → is_refusal (entry_in (drop from s)) ≡ false
  is_accepted h = ap (λ n. not (eqb n 0)) number_there ∙ ap not (eq-eqb (get_or s (from + 8) 0) 0 h)

-- refusals among the first verdict and others
pub one_refused : (v : Verdict) (vs : List Verdict) → is_refusal v ≡ true → refused_in (v ∷ vs) ≡ 1 + refused_in vs
unfolding refused_in
one_refused v vs e = rw e

pub one_accepted : (v : Verdict) (vs : List Verdict) → is_refusal v ≡ false → refused_in (v ∷ vs) ≡ refused_in vs
unfolding refused_in
one_accepted v vs e = rw e

-- ---- the window while it moves

-- it begins at from₀, and has come to `from`; m verdicts lie from there up to the one at the place, whose time is t
pub record Moving (s : List ℕ) (at t from₀ from start refusals : ℕ) : Type 0 where
  pub i : ℕ
  pub m : ℕ
  pub here : from ≡ from₀ + i * 9
  pub up : from + m * 9 ≡ at
  pub entry : at + 9 ≤ length s
  pub time : t ≡ time_at s at
  pub starts : start ≡ time_at s from
  pub counts : refusals ≡ refused_in (entries_in m (drop from s))
  pub left : left_behind t (entries_in (i + m) (drop from₀ s)) ≡ i + left_behind t (entries_in m (drop from s))
  pub below : (j : ℕ) → j ≤ m → time_at s (from + j * 9) ≤ t

module _ {s : List ℕ} {at t from₀ from start refusals : ℕ} (w : Moving s at t from₀ from start refusals) where
  -- the window hasn't come to the place
  module _ (h : minute ≤ t - start) where
    some_left : 0 < w.m
    some_left = by w.m refl
      where
        by : (n : ℕ) → w.m ≡ n → 0 < w.m
        by zero e =
            let f : from ≡ at = omega (arith, w.up, e) in
            let g : time_at s from ≡ time_at s at = ap (time_at s) f in
            absurd (omega (arith, w.time, w.starts, g))
        by (suc n) e = omega (arith, e)

    pub room : from + 9 ≤ at
    room = omega (arith, w.up, some_left)

    far : minute ≤ t - time_at s from
    far = omega (arith, w.starts)

    first_there : entries_in w.m (drop from s) ≡ entry_in (drop from s) ∷ entries_in (w.m - 1) (drop (from + 9) s)
    first_there = first_of_lem w.m from s some_left

    pub refused_there : (get_or s (from + 8) 0 ≡ 0 → ⊥) → refusals ≡ 1 + refused_in (entries_in (w.m - 1) (drop (from + 9) s))
    refused_there n = w.counts ∙ ap refused_in first_there ∙ one_refused (entry_in (drop from s)) (entries_in (w.m - 1) (drop (from + 9) s)) (is_refusal_lem s from n)

    pub accepted_there : get_or s (from + 8) 0 ≡ 0 → refusals ≡ refused_in (entries_in (w.m - 1) (drop (from + 9) s))
    accepted_there n = w.counts ∙ ap refused_in first_there ∙ one_accepted (entry_in (drop from s)) (entries_in (w.m - 1) (drop (from + 9) s)) (is_accepted s from n)

    -- one more is left behind
    pub moved_on : {start' refusals' : ℕ} → start' ≡ time_at s (from + 9) → refusals' ≡ refused_in (entries_in (w.m - 1) (drop (from + 9) s)) → Moving s at t from₀ (from + 9) start' refusals'
    moved_on e f =
        let n : w.i + 1 + (w.m - 1) ≡ w.i + w.m = omega (arith, some_left) in
        record {
          i = w.i + 1;
          m = w.m - 1;
          here = omega (arith, w.here);
          up = omega (arith, w.up, some_left);
          entry = w.entry;
          time = w.time;
          starts = e;
          counts = f;
          left = ap (λ k. left_behind t (entries_in k (drop from₀ s))) n ∙ w.left ∙ ap (λ k. w.i + k) (one_left s t from w.m some_left far) ∙ omega arith;
          below = λ j h.
              let q : from + 9 + j * 9 ≡ from + (j + 1) * 9 = omega arith in
              let k : time_at s (from + 9 + j * 9) ≡ time_at s (from + (j + 1) * 9) = ap (time_at s) q in
              omega (arith, w.below (j + 1) (omega (arith, some_left)), k);
        }

  -- the first that is left is not behind
  left_is : t - start < minute → left_behind t (entries_in (w.i + w.m) (drop from₀ s)) ≡ w.i
  left_is h = omega (arith, w.left, none_left s t from w.m (omega (arith, w.starts)))

-- the window that is answered
pub moved_all : {s : List ℕ} (w : Window) {at t from start refusals : ℕ} → Moving s at t w.from from start refusals → t - start < minute
    → ◌≡◌ {A = Window} (record { from = from; start = start; refusals = refusals }) (moved_to s w at)
moved_all {s} w {at} {t} {from} {start} {refusals} m h =
    let n : (at - w.from) / 9 ≡ m.i + m.m = omega (arith, m.here, m.up) in
    let k : left_behind (time_at s at) (between s w.from at) ≡ m.i = ap₂ (λ x y. left_behind x (entries_in y (drop w.from s))) (sym m.time) n ∙ left_is m h in
    let d : drop m.i (between s w.from at) ≡ entries_in m.m (drop from s) =
    ap (λ y. drop m.i (entries_in y (drop w.from s))) n
    ∙ drop_entries m.i m.m (drop w.from s)
    ∙ ap (entries_in m.m) (drop-drop (m.i * 9) w.from s ∙ ap (λ j. drop j s) (sym m.here)) in
    three m.here (m.starts ∙ ap (time_at s) m.here) (m.counts ∙ ap refused_in (sym d)) ∙ ap (moved_by s w at) (sym k)
  where
    three : {a b c d e f : ℕ} → a ≡ b → c ≡ d → e ≡ f → ◌≡◌ {A = Window} (record { from = a; start = c; refusals = e }) (record { from = b; start = d; refusals = f })
    three p q r = λ i. record { from = p i; start = q i; refusals = r i }
