-- One pass with two ends finds the worst minute of a run whose times never fall. The invariant: the worst over the starts before the window, and the refusals of the
-- window, which are all that its start has. Assumes nothing.
use Prim.Native.Nat.{ℕ, zero, suc, ◌+◌, ◌-◌, ◌≤◌, ◌<◌}
use native.Mathlib.Nat.{add-zero, le_antisymm}
use native.Mathlib.Omega.{arith}
use native.Mathlib.Numerals.{add-one}
use mathlib.Core.Path.{◌≡◌, refl, sym, ap, subst, ◌∙◌}
use mathlib.Core.Bool.{Bool, true, false, cond, ◌&&◌, and-false, false≢true}
use mathlib.Core.List.{List, [], ◌∷◌, ◌++◌}
use mathlib.Core.Logic.{◌⊎◌, inl, inr, ⊎_elim}
use lib.ListN.{length, take, drop, get_or, length-drop, take-append-drop}
use lib.Seq.{get_or-take, get_or-drop, drop-drop, take-add, take-suc, drop_at, drop-cons, length-take-le}
use lib.Dec.{leb, ltb}
use borrow.Author.Tests.{leb-true, leb-false, ltb-true, ltb-false, le-leb, lt-leb, lt-ltb, le-ltb}
use Rattle.std.specs.Prelude.{Some}
use Rattle.std.proofs.lemmas.Bool.{cases_lt}
use Rattle.worst_minute.specs.Minute.{Verdict, is_refusal, minute, is_within, refusals_from, Minute, worst, time_of, IsWorst, rises_from}
use Rattle.worst_minute.specs.Steps.{refused_in, is_behind, left_behind, minute_in, or_more, counting, scan}
use Rattle.worst_minute.proofs.ReadLaws.{nobody}
use Rattle.worst_minute.proofs.MinuteLaws.{worst_only}

nothing_more : (lo n : ℕ) → n ≤ 0 → lo + n ≡ lo
nothing_more lo n h = omega arith

-- ---- refusals of parts

pub refusals_append : (t : ℕ) (a b : List Verdict) → refusals_from t (a ++ b) ≡ refusals_from t a + refusals_from t b
unfolding refusals_from
refusals_append t [] b = omega arith
refusals_append t (v ∷ a) b = by (is_within t v.time && is_refusal v) (refusals_append t a b)
  where
    by : (x : Bool) → refusals_from t (a ++ b) ≡ refusals_from t a + refusals_from t b → cond x (1 + refusals_from t (a ++ b)) (refusals_from t (a ++ b)) ≡ cond x (1 + refusals_from t a) (refusals_from t a) + refusals_from t b
    by true e = omega (arith, e)
    by false e = e

-- none where no time is within
none_within : (t : ℕ) (s : List Verdict) → ((i : ℕ) → i < length s → is_within t (time_of s i) ≡ false) → refusals_from t s ≡ 0
unfolding refusals_from
none_within t [] h = refl
none_within t (v ∷ s) h = rw (h 0 (omega arith)) (none_within t s (λ i l. h (suc i) (omega arith)))

-- all refusals where every time is
all_within : (t : ℕ) (s : List Verdict) → ((i : ℕ) → i < length s → is_within t (time_of s i) ≡ true) → refusals_from t s ≡ refused_in s
unfolding refusals_from refused_in
all_within t [] h = refl
all_within t (v ∷ s) h = rw (h 0 (omega arith), all_within t s (λ i l. h (suc i) (omega arith)))

-- never more than there are
few_within : (t : ℕ) (s : List Verdict) → refusals_from t s ≤ refused_in s
unfolding refusals_from refused_in
few_within t [] = omega arith
few_within t (v ∷ s) = by (is_within t v.time) (is_refusal v) (few_within t s)
  where
    by : (a b : Bool) → refusals_from t s ≤ refused_in s → cond (a && b) (1 + refusals_from t s) (refusals_from t s) ≤ cond b (1 + refused_in s) (refused_in s)
    by true true h = omega (arith, h)
    by true false h = h
    by false true h = omega (arith, h)
    by false false h = h

too_early : (t x : ℕ) → x < t → is_within t x ≡ false
too_early t x h = rw (lt-leb t x h)

too_late : (t x : ℕ) → minute ≤ x - t → is_within t x ≡ false
too_late t x h = ap (λ b. leb t x && b) (le-ltb (x - t) minute h) ∙ and-false (leb t x)

just_in : (t x : ℕ) → t ≤ x → x - t < minute → is_within t x ≡ true
just_in t x h l = rw (le-leb t x h, lt-ltb (x - t) minute l)

-- ---- times that never fall

-- each is at least the one before them, and at least each before it
rising : (last : ℕ) (vs : List Verdict) → rises_from last vs ≡ true → (i : ℕ) → i < length vs → last ≤ time_of vs i
unfolding rises_from
rising last [] r i h = absurd (omega arith)
rising last (v ∷ vs) r i h = by (leb last v.time) refl r i h (rising v.time vs)
  where
    by : (b : Bool) → leb last v.time ≡ b → (b && rises_from v.time vs) ≡ true → (i : ℕ) → i < suc (length vs) → (rises_from v.time vs ≡ true → (i : ℕ) → i < length vs → v.time ≤ time_of vs i) → last ≤ time_of (v ∷ vs) i
    by false e r i h next = absurd (false≢true r)
    by true e r zero h next = leb-true last v.time e
    by true e r (suc i) h next = let a : last ≤ v.time = leb-true last v.time e in let b : v.time ≤ time_of vs i = next r i (omega arith) in omega arith

pub ordered : (last : ℕ) (vs : List Verdict) → rises_from last vs ≡ true → (i j : ℕ) → i ≤ j → j < length vs → time_of vs i ≤ time_of vs j
unfolding rises_from
ordered last [] r i j h l = absurd (omega arith)
ordered last (v ∷ vs) r i j h l = by (leb last v.time) r i j h l (ordered v.time vs)
  where
    by : (b : Bool) → (b && rises_from v.time vs) ≡ true → (i j : ℕ) → i ≤ j → j < suc (length vs) → (rises_from v.time vs ≡ true → (i j : ℕ) → i ≤ j → j < length vs → time_of vs i ≤ time_of vs j)
        → time_of (v ∷ vs) i ≤ time_of (v ∷ vs) j
    by false r i j h l next = absurd (false≢true r)
    by true r zero zero h l next = omega arith
    by true r zero (suc j) h l next = rising v.time vs r j (omega arith)
    by true r (suc i) zero h l next = absurd (omega arith)
    by true r (suc i) (suc j) h l next = next r i j (omega arith) (omega arith)

-- ---- those that are left behind

pub left_short : (t : ℕ) (w : List Verdict) → left_behind t w ≤ length w
unfolding left_behind
left_short t [] = omega arith
left_short t (v ∷ w) = by (is_behind t v) (left_short t w)
  where
    by : (b : Bool) → left_behind t w ≤ length w → cond b (1 + left_behind t w) 0 ≤ suc (length w)
    by true h = omega (arith, h)
    by false h = omega arith

left_all : (t : ℕ) (w : List Verdict) (i : ℕ) → i < left_behind t w → minute ≤ t - time_of w i
unfolding left_behind
left_all t [] i h = absurd (omega arith)
left_all t (v ∷ w) i h = by (is_behind t v) refl i h (left_all t w)
  where
    by : (b : Bool) → leb minute (t - v.time) ≡ b → (i : ℕ) → i < cond b (1 + left_behind t w) 0 → ((i : ℕ) → i < left_behind t w → minute ≤ t - time_of w i) → minute ≤ t - time_of (v ∷ w) i
    by true e zero h next = leb-true minute (t - v.time) e
    by true e (suc i) h next = next i (omega arith)
    by false e i h next = absurd (omega arith)

left_next : (t : ℕ) (w : List Verdict) → left_behind t w < length w → t - time_of w (left_behind t w) < minute
unfolding left_behind
left_next t [] h = absurd (omega arith)
left_next t (v ∷ w) h = by (is_behind t v) refl h (left_next t w)
  where
    by : (b : Bool) → leb minute (t - v.time) ≡ b → cond b (1 + left_behind t w) 0 < suc (length w) → (left_behind t w < length w → t - time_of w (left_behind t w) < minute) → t - time_of (v ∷ w) (cond b (1 + left_behind t w) 0) < minute
    by true e h next = let k : 1 + left_behind t w ≡ suc (left_behind t w) = omega arith in subst (λ n. t - time_of (v ∷ w) n < minute) (sym k) (next (omega arith))
    by false e h next = leb-false minute (t - v.time) e

-- ---- the pass over a run whose times never fall

module _ (vs : List Verdict) (r : rises_from 0 vs ≡ true) where
  -- the verdicts from one to another
  abbrev win : ℕ → ℕ → List Verdict
  win lo k = take (k - lo) (drop lo vs)

  abbrev refusals : ℕ → ℕ
  refusals i = refusals_from (time_of vs i) vs

  module _ (lo k : ℕ) (a : lo ≤ k) (b : k ≤ length vs) where
    win_length : length (win lo k) ≡ k - lo
    win_length = length-take-le (k - lo) (drop lo vs) (simp length-drop (omega arith))

    win_time : (i : ℕ) → i < k - lo → time_of (win lo k) i ≡ time_of vs (lo + i)
    win_time i h = ap (λ (v : Verdict). v.time) (get_or-take (k - lo) (drop lo vs) i nobody h ∙ get_or-drop lo vs i nobody)

    parts : vs ≡ take lo vs ++ (win lo k ++ drop k vs)
    parts =
        let e : drop (k - lo) (drop lo vs) ≡ drop k vs = drop-drop (k - lo) lo vs ∙ ap (λ n. drop n vs) (same lo k a) in
        sym (ap (λ s. take lo vs ++ s) (ap (λ s. win lo k ++ s) (sym e) ∙ take-append-drop (k - lo) (drop lo vs)) ∙ take-append-drop lo vs)
      where
        same : (lo k : ℕ) → lo ≤ k → lo + (k - lo) ≡ k
        same lo k h = omega arith

    three_parts : (t : ℕ) → refusals_from t vs ≡ refusals_from t (take lo vs) + (refusals_from t (win lo k) + refusals_from t (drop k vs))
    three_parts t =
        ap (refusals_from t) parts
        ∙ refusals_append t (take lo vs) (win lo k ++ drop k vs)
        ∙ ap (λ n. refusals_from t (take lo vs) + n) (refusals_append t (win lo k) (drop k vs))

    before_none : (t : ℕ) → ((i : ℕ) → i < lo → time_of vs i < t) → refusals_from t (take lo vs) ≡ 0
    before_none t h = none_within t (take lo vs) each
      where
        each : (i : ℕ) → i < length (take lo vs) → is_within t (time_of (take lo vs) i) ≡ false
        each i l =
            let q : i < lo = omega (arith, l, length-take-le lo vs (omega arith)) in
            let e : time_of (take lo vs) i ≡ time_of vs i = ap (λ (v : Verdict). v.time) (get_or-take lo vs i nobody q) in
            too_early t (time_of (take lo vs) i) (omega (arith, e, h i q))

    -- the verdict at k, if there is one, is 60 s or more after t
    behind_none : (t : ℕ) → ((i : ℕ) → k ≤ i → i < length vs → minute ≤ time_of vs i - t) → refusals_from t (drop k vs) ≡ 0
    behind_none t h = none_within t (drop k vs) each
      where
        each : (i : ℕ) → i < length (drop k vs) → is_within t (time_of (drop k vs) i) ≡ false
        each i l =
            let q : k + i < length vs = omega (arith, l, length-drop k vs) in
            let e : time_of (drop k vs) i ≡ time_of vs (k + i) = ap (λ (v : Verdict). v.time) (get_or-drop k vs i nobody) in
            too_late t (time_of (drop k vs) i) (omega (arith, e, h (k + i) (omega arith) q))

  -- ---- the state between two verdicts

  -- the worst of the starts before the window, m: none has more, none that has as many is earlier, and it is one of them; where there are none, it is no refusal at the
  -- first verdict
  pub record Before (lo : ℕ) (m : Minute) : Type 0 where
    pub no_more : (i : ℕ) → i < lo → refusals i ≤ m.refusals
    pub no_earlier : (i : ℕ) → i < lo → refusals i ≡ m.refusals → m.start ≤ time_of vs i
    pub place : ℕ
    pub starts : m.start ≡ time_of vs place
    pub one_of : 0 < lo → (place < lo) × (m.refusals ≡ refusals place)
    pub at_first : lo ≡ 0 → (place ≡ 0) × (m.refusals ≡ 0)

  -- the window from lo up to k: its start is later than all before it, and its verdicts lie within 60 s of it
  pub record At (lo k : ℕ) : Type 0 where
    pub up : lo ≤ k
    pub short : k ≤ length vs
    pub there : lo < length vs
    pub fresh : (i : ℕ) → i < lo → time_of vs i < time_of vs lo
    pub within : (i : ℕ) → lo ≤ i → i < k → time_of vs i - time_of vs lo < minute

  in_order : (i j : ℕ) → i ≤ j → j < length vs → time_of vs i ≤ time_of vs j
  in_order i j h l = ordered 0 vs r i j h l

  module _ (lo k : ℕ) (w : At lo k) where
    -- no verdict from k on is within 60 s of a start
    abbrev Closed : ℕ → Type 0
    Closed t = (i : ℕ) → k ≤ i → i < length vs → minute ≤ time_of vs i - t

    abbrev closing : Minute
    closing = minute_in (win lo k)

    -- a start from the window's on has no more refusals than the window
    pub few : (i : ℕ) → lo ≤ i → i < length vs → Closed (time_of vs i) → refusals i ≤ refused_in (win lo k)
    few i h l c =
        let t = time_of vs i in
        let x = three_parts lo k w.up w.short t in
        let y = before_none lo k w.up w.short t (λ j q. omega (arith, w.fresh j q, in_order lo i h l)) in
        let z = behind_none lo k w.up w.short t c in
        omega (arith, x, y, z, few_within t (win lo k))

    -- the window's own start has as many
    pub exactly : Closed (time_of vs lo) → refusals lo ≡ refused_in (win lo k)
    exactly c =
        let t = time_of vs lo in
        let x = three_parts lo k w.up w.short t in
        let y = before_none lo k w.up w.short t w.fresh in
        let z = behind_none lo k w.up w.short t c in
        omega (arith, x, y, z, all_within t (win lo k) each)
      where
        each : (i : ℕ) → i < length (win lo k) → is_within (time_of vs lo) (time_of (win lo k) i) ≡ true
        each i l =
            let q : i < k - lo = omega (arith, l, win_length lo k w.up w.short) in
            let e : time_of (win lo k) i ≡ time_of vs (lo + i) = win_time lo k w.up w.short i q in
            just_in (time_of vs lo) (time_of (win lo k) i) (omega (arith, e, in_order lo (lo + i) (omega arith) (omega (arith, w.short)))) (omega (arith, e, w.within (lo + i) (omega arith) (omega arith)))

    -- the window is counted, and the starts up to another are passed
    module _ (m : Minute) (b : Before lo m) (next : ℕ) (more : lo < next) (fits : next ≤ length vs) (some_in : lo < k) (c : (i : ℕ) → lo ≤ i → i < next → Closed (time_of vs i)) where
      first_start : time_of (win lo k) 0 ≡ time_of vs lo
      first_start = win_time lo k w.up w.short 0 (omega (arith, some_in)) ∙ ap (time_of vs) (add-zero lo)

      own : refusals lo ≡ refused_in (win lo k)
      own = exactly (c lo (omega arith) more)

      not_after : b.place ≤ lo
      not_after = by lo refl
        where
          by : (n : ℕ) → lo ≡ n → b.place ≤ lo
          by zero e = omega (arith, (b.at_first e).0)
          by (suc n) e = omega (arith, (b.one_of (omega (arith, e))).0)

      -- it has more than the worst so far
      has_more : m.refusals < refused_in (win lo k) → Before next closing
      has_more h = record {
        no_more = λ i l. by_place i (λ q. omega (arith, b.no_more i q)) (λ q. few i q (omega (arith, fits)) (c i q l));
        no_earlier = λ i l e. by_start i e (λ q. absurd (omega (arith, b.no_more i q, e))) (λ q. omega (arith, first_start, in_order lo i q (omega (arith, fits))));
        place = lo;
        starts = first_start;
        one_of = λ _. (more, sym own);
        at_first = λ e. absurd (omega (arith, e));
      }
        where
          by_place : (i : ℕ) → (i < lo → refusals i ≤ refused_in (win lo k)) → (lo ≤ i → refusals i ≤ refused_in (win lo k)) → refusals i ≤ refused_in (win lo k)
          by_place i x y = ⊎_elim x y (cases_lt i lo)

          by_start : (i : ℕ) → refusals i ≡ refused_in (win lo k) → (i < lo → time_of (win lo k) 0 ≤ time_of vs i) → (lo ≤ i → time_of (win lo k) 0 ≤ time_of vs i) → time_of (win lo k) 0 ≤ time_of vs i
          by_start i e x y = ⊎_elim x y (cases_lt i lo)

      -- it has not
      has_no_more : refused_in (win lo k) ≤ m.refusals → Before next m
      has_no_more h = record {
        no_more = λ i l. ⊎_elim (λ q. b.no_more i q) (λ q. omega (arith, few i q (omega (arith, fits)) (c i q l))) (cases_lt i lo);
        no_earlier = λ i l e. ⊎_elim (λ q. b.no_earlier i q e) (λ q. omega (arith, b.starts, in_order b.place i (omega (arith, not_after)) (omega (arith, fits)))) (cases_lt i lo);
        place = b.place;
        starts = b.starts;
        one_of = λ _. (omega (arith, not_after), held lo refl);
        at_first = λ e. absurd (omega (arith, e));
      }
        where
          held : (n : ℕ) → lo ≡ n → m.refusals ≡ refusals b.place
          held zero e =
              let f = b.at_first e in
              let g : refusals b.place ≡ refusals lo = ap refusals (f.0 ∙ sym e) in
              omega (arith, f.1, g, own)
          held (suc n) e = (b.one_of (omega (arith, e))).1

      pub counted : Before next (or_more m closing)
      counted = by (ltb m.refusals (refused_in (win lo k))) refl
        where
          by : (x : Bool) → ltb m.refusals (refused_in (win lo k)) ≡ x → Before next (cond x closing m)
          by true e = has_more (ltb-true m.refusals (refused_in (win lo k)) e)
          by false e = has_no_more (ltb-false m.refusals (refused_in (win lo k)) e)

    -- ---- the verdict at k

    module _ (h : k < length vs) where
      abbrev left : ℕ
      left = left_behind (time_of vs k) (win lo k)

      left_fits : lo + left ≤ k
      left_fits = omega (arith, left_short (time_of vs k) (win lo k), win_length lo k w.up w.short, w.up)

      -- those that are left behind
      far : (i : ℕ) → lo ≤ i → i < lo + left → minute ≤ time_of vs k - time_of vs i
      far i a q =
          let x : i - lo < left = omega arith in
          let e : time_of (win lo k) (i - lo) ≡ time_of vs i = win_time lo k w.up w.short (i - lo) (omega (arith, left_fits)) ∙ ap (time_of vs) (plus lo i a) in
          omega (arith, left_all (time_of vs k) (win lo k) (i - lo) x, e)
        where
          plus : (lo i : ℕ) → lo ≤ i → lo + (i - lo) ≡ i
          plus lo i h = omega arith

      -- and the first that isn't
      near : time_of vs k - time_of vs (lo + left) < minute
      near = by (cases_lt (lo + left) k)
        where
          by : (lo + left < k) ⊎ (k ≤ lo + left) → time_of vs k - time_of vs (lo + left) < minute
          by (inl q) =
              let e : time_of (win lo k) left ≡ time_of vs (lo + left) = win_time lo k w.up w.short left (omega arith) in
              omega (arith, left_next (time_of vs k) (win lo k) (omega (arith, win_length lo k w.up w.short)), e)
          by (inr q) =
              let e : time_of vs (lo + left) ≡ time_of vs k = ap (time_of vs) (le_antisymm left_fits q) in
              omega (arith, e)

      closed : (i : ℕ) → lo ≤ i → i < lo + left → Closed (time_of vs i)
      closed i a q j x y = omega (arith, far i a q, in_order k j x y)

      new_start : (i : ℕ) → i < lo + left → time_of vs i < time_of vs (lo + left)
      new_start i q = by (cases_lt i lo) (cases_lt 0 left)
        where
          by : (i < lo) ⊎ (lo ≤ i) → (0 < left) ⊎ (left ≤ 0) → time_of vs i < time_of vs (lo + left)
          by (inl a) (inl b) = omega (arith, w.fresh i a, far lo (omega arith) (omega arith), near, in_order (lo + left) k left_fits h)
          by (inl a) (inr b) = let e : time_of vs (lo + left) ≡ time_of vs lo = ap (time_of vs) (nothing_more lo left b) in omega (arith, w.fresh i a, e)
          by (inr a) b = omega (arith, far i a q, near, in_order (lo + left) k left_fits h)

      pub next_at : At (lo + left) (k + 1)
      next_at = record {
        up = omega (arith, left_fits);
        short = omega arith;
        there = omega (arith, left_fits);
        fresh = new_start;
        within = λ i a q. omega (arith, near, in_order i k (omega arith) h);
      }

      pub next_before : (m : Minute) → Before lo m → Before (lo + left) (counting left (win lo k) m)
      next_before m b = by (cases_lt 0 left)
        where
          by : (0 < left) ⊎ (left ≤ 0) → Before (lo + left) (counting left (win lo k) m)
          by (inl a) = rw (lt-ltb 0 left a) (counted m b (lo + left) (omega arith) (omega (arith, left_fits)) (omega (arith, left_fits)) closed)
          by (inr a) = rw (le-ltb 0 left a, nothing_more lo left a) b

      next_window : drop left (win lo k) ++ (get_or vs k nobody ∷ []) ≡ win (lo + left) (k + 1)
      next_window =
          let m = k - lo - left in
          let e : k - lo ≡ left + m = omega (arith, left_fits) in
          let f : k + 1 - (lo + left) ≡ suc m = omega (arith, left_fits) in
          let l : length (take left (drop lo vs)) ≡ left = length-take-le left (drop lo vs) (simp length-drop (omega (arith, left_fits))) in
          let d : drop left (win lo k) ≡ take m (drop (lo + left) vs) =
          ap (λ n. drop left (take n (drop lo vs))) e
          ∙ ap (drop left) (take-add left m (drop lo vs))
          ∙ drop_at (take left (drop lo vs)) (take m (drop left (drop lo vs))) left l
          ∙ ap (take m) (drop-drop left lo vs) in
          let g : get_or (drop (lo + left) vs) m nobody ≡ get_or vs k nobody = get_or-drop (lo + left) vs m nobody ∙ ap (λ n. get_or vs n nobody) (omega (arith, left_fits)) in
          ap (λ x. x ++ (get_or vs k nobody ∷ [])) d
          ∙ ap (λ v. take m (drop (lo + left) vs) ++ (v ∷ [])) (sym g)
          ∙ sym (take-suc (drop (lo + left) vs) m nobody (simp length-drop (omega (arith, left_fits))))
          ∙ ap (λ n. take n (drop (lo + left) vs)) (sym f)

  -- ---- the whole pass

  -- where all starts are passed, the worst of them is that of the run
  all_passed : (m : Minute) → 0 < length vs → Before (length vs) m → IsWorst vs m
  all_passed m h b =
      let o = b.one_of h in
      record { place = b.place; inside = o.0; starts_there = b.starts; has = o.1 ∙ ap (λ t. refusals_from t vs) (sym b.starts); most = b.no_more; earliest = b.no_earlier }

  pub pass : (rest : List Verdict) (lo k : ℕ) (m : Minute) → drop k vs ≡ rest → At lo k → Before lo m → IsWorst vs (scan (win lo k) m rest)
  unfolding scan
  pass [] lo k m e w b =
      let n : length vs ≤ k = omega (arith, length-drop k vs, ap length e) in
      all_passed (or_more m (minute_in (win lo k))) (omega (arith, w.there))
      (counted lo k w m b (length vs) w.there (omega arith) (omega (arith, w.there)) (λ i x y j p q. absurd (omega arith)))
  pass (v ∷ rest) lo k m e w b =
      let h : k < length vs = omega (arith, length-drop k vs, ap length e) in
      let f : get_or vs k nobody ∷ drop (suc k) vs ≡ v ∷ rest = sym (drop-cons vs k nobody h) ∙ e in
      let g : get_or vs k nobody ≡ v = ap (λ l. get_or l 0 nobody) f in
      let d : drop (k + 1) vs ≡ rest = ap (λ n. drop n vs) (add-one k) ∙ ap (drop 1) f in
      let i = pass rest (lo + left lo k w h) (k + 1) (counting (left lo k w h) (win lo k) m) d (next_at lo k w h) (next_before lo k w h m b) in
      subst (λ (u : Verdict). IsWorst vs (scan (drop (left_behind u.time (win lo k)) (win lo k) ++ (u ∷ [])) (counting (left_behind u.time (win lo k)) (win lo k) m) rest)) g
      (subst (λ (s : List Verdict). IsWorst vs (scan s (counting (left lo k w h) (win lo k) m) rest)) (sym (next_window lo k w h)) i)

-- one pass over a run that isn't empty gives its worst minute
pub scan_worst : (v : Verdict) (vs : List Verdict) → rises_from 0 (v ∷ vs) ≡ true → worst (v ∷ vs) ≡ Some (scan [] (record { start = v.time; refusals = 0 }) (v ∷ vs))
scan_worst v vs r =
    worst_only v vs (scan [] (record { start = v.time; refusals = 0 }) (v ∷ vs))
    (pass (v ∷ vs) r (v ∷ vs) 0 0 (record { start = v.time; refusals = 0 }) refl
    (record { up = omega arith; short = omega arith; there = omega arith; fresh = λ i h. absurd (omega arith); within = λ i h l. absurd (omega arith) })
    (record { no_more = λ i h. absurd (omega arith); no_earlier = λ i h e. absurd (omega arith); place = 0; starts = refl; one_of = λ h. absurd (omega arith); at_first = λ e. (refl, refl) }))
