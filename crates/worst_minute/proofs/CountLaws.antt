-- The pass over the bytes of a run is the pass over its verdicts. Assumes nothing.
use Prim.Native.Nat.{ℕ, zero, suc, ◌+◌, ◌-◌, ◌*◌, ◌/◌, ◌≤◌, ◌<◌}
use native.Mathlib.Nat.{add-zero}
use native.Mathlib.Omega.{arith}
use mathlib.Core.Path.{◌≡◌, refl, sym, ap, ap₂, subst, ◌∙◌}
use mathlib.Core.Bool.{Bool, true, false, cond, ◌&&◌}
use mathlib.Core.List.{List, [], ◌∷◌, ◌++◌}
use mathlib.Core.Logic.{◌⊎◌, inl, inr}
use lib.ListN.{length, drop, get_or}
use lib.Seq.{drop-drop}
use lib.Dec.{leb}
use borrow.Author.Tests.{le-leb, lt-leb, lt-ltb, le-ltb}
use Rattle.std.specs.Prelude.{None, Some}
use Rattle.worst_minute.specs.Minute.{Verdict, is_refusal, minute, Minute, worst, time_of, rises_from}
use Rattle.worst_minute.specs.Layout.{entry_in, entries_in, is_sized, verdicts_in, decode_run}
use Rattle.worst_minute.specs.Steps.{refused_in, left_behind, or_more, counting, scan, time_at, between, Reaches, moved_by, moved_to}
use Rattle.worst_minute.specs.declared.counting.Window.{Window}
use Rattle.worst_minute.proofs.LayoutLaws.{length_entries, drop_entries}
use Rattle.worst_minute.proofs.ReadLaws.{sized, time_falls, is_run, rest_at, rises_next, none_left as all_read}
use Rattle.worst_minute.proofs.WindowLaws.{first_of_lem, one_left, none_left, is_refusal_lem, is_accepted}
use Rattle.worst_minute.proofs.ScanLaws.{left_short, scan_worst}
use Rattle.std.proofs.lemmas.Bool.{cases_lt}

-- ---- one more entry, one more refusal

snoc_entries : (m : ℕ) (s : List ℕ) → entries_in (suc m) s ≡ entries_in m s ++ (entry_in (drop (m * 9) s) ∷ [])
unfolding entries_in
snoc_entries zero s = refl
snoc_entries (suc m) s =
    let e : 9 + m * 9 ≡ suc m * 9 = omega arith in
    ap (λ l. entry_in s ∷ l) (snoc_entries m (drop 9 s) ∙ ap (λ t. entries_in m (drop 9 s) ++ (entry_in t ∷ [])) (drop-drop (m * 9) 9 s ∙ ap (λ n. drop n s) e))

refused_snoc : (vs : List Verdict) (v : Verdict) → refused_in (vs ++ (v ∷ [])) ≡ cond (is_refusal v) (refused_in vs + 1) (refused_in vs)
unfolding refused_in
refused_snoc [] v = refl
refused_snoc (u ∷ vs) v = ap (λ n. cond (is_refusal u) (1 + n) n) (refused_snoc vs v) ∙ by (is_refusal u) (is_refusal v)
  where
    by : (a b : Bool) → cond a (1 + cond b (refused_in vs + 1) (refused_in vs)) (cond b (refused_in vs + 1) (refused_in vs)) ≡ cond b (cond a (1 + refused_in vs) (refused_in vs) + 1) (cond a (1 + refused_in vs) (refused_in vs))
    by true true = omega arith
    by true false = refl
    by false true = refl
    by false false = refl

refused_short : (vs : List Verdict) → refused_in vs ≤ length vs
unfolding refused_in
refused_short [] = omega arith
refused_short (v ∷ vs) = by (is_refusal v) (refused_short vs)
  where
    by : (b : Bool) → refused_in vs ≤ length vs → cond b (1 + refused_in vs) (refused_in vs) ≤ suc (length vs)
    by true h = omega (arith, h)
    by false h = omega (arith, h)

-- ---- the state at the loop's test

-- no refusal, at the first verdict
abbrev pub nothing_yet : List ℕ → Minute
nothing_yet s = record { start = time_at s 0; refusals = 0 }

-- The entries before a place, k of them, are read, and the last has this time. The window begins at the entry lo; the pass goes on from it, from the worst so far
-- and the entries that are left.
pub record Counting (s : List ℕ) (w : Window) (best : Minute) (last at : ℕ) : Type 0 where
  pub k : ℕ
  pub lo : ℕ
  pub here : at ≡ k * 9
  pub within : at ≤ length s
  pub begins : w.from ≡ lo * 9
  pub up : lo ≤ k
  pub held : lo < length s / 9
  pub starts : w.start ≡ time_at s w.from
  pub counts : w.refusals ≡ refused_in (entries_in (k - lo) (drop w.from s))
  pub low : w.start ≤ last
  pub below : (j : ℕ) → lo ≤ j → j < k → time_at s (j * 9) ≤ last
  pub rises : rises_from 0 (verdicts_in s) ≡ rises_from last (drop k (verdicts_in s))
  pub passed : scan [] (nothing_yet s) (verdicts_in s) ≡ scan (entries_in (k - lo) (drop w.from s)) best (drop k (verdicts_in s))

-- The same with the window moved to where the entry at the place belongs to it, and before that entry is counted.
pub record Ready (s : List ℕ) (w : Window) (best : Minute) (at : ℕ) : Type 0 where
  pub k : ℕ
  pub lo : ℕ
  pub here : at ≡ k * 9
  pub begins : w.from ≡ lo * 9
  pub reach : Reaches s w at
  pub rises : rises_from 0 (verdicts_in s) ≡ rises_from (time_at s at) (drop (k + 1) (verdicts_in s))
  pub passed : scan [] (nothing_yet s) (verdicts_in s) ≡ scan (entries_in reach.count (drop w.from s) ++ (entry_in (drop at s) ∷ [])) best (drop (k + 1) (verdicts_in s))

module _ (s : List ℕ) (z : is_sized (length s) ≡ true) (full : 0 < length s) where
  whole : length s ≡ length s / 9 * 9
  whole = (sized (length s) z).0

  pub started : {first : ℕ} → first ≡ time_at s 0 → Counting s (record { from = 0; start = first; refusals = 0 }) (record { start = first; refusals = 0 }) first 0
  unfolding refused_in entries_in
  started {first} e = record {
    k = 0;
    lo = 0;
    here = refl;
    within = omega arith;
    begins = refl;
    up = omega arith;
    held = inside;
    starts = e;
    counts = refl;
    low = omega arith;
    below = λ j h l. absurd (omega arith);
    rises = rises_next s 0 inside 0 ∙ ap (λ b. b && rises_from (time_at s 0) (drop 1 (verdicts_in s))) same ∙ sym (rises_next s 0 inside first);
    passed = ap (λ n. scan [] (record { start = n; refusals = 0 }) (verdicts_in s)) (sym e);
  }
    where
      inside : 0 < length s / 9
      inside = omega (arith, whole)

      same : leb 0 (time_at s 0) ≡ leb first (time_at s 0)
      same = le-leb 0 (time_at s 0) (omega arith) ∙ sym (le-leb first (time_at s 0) (omega (arith, e)))

  module _ {w : Window} {best : Minute} {last at : ℕ} (r : Counting s w best last at) where
    -- ---- the entry at the place

    module _ (h : at < length s) {t : ℕ} (e : t ≡ time_at s at) where
      pub room : at + 9 ≤ length s
      room = omega (arith, whole, r.here)

      inside : r.k < length s / 9
      inside = omega (arith, whole, r.here)

      there : time_at s (r.k * 9) ≡ t
      there = ap (time_at s) (sym r.here) ∙ sym e

      pub falls : t < last → decode_run s ≡ None
      falls f = time_falls s z (r.rises ∙ rises_next s r.k inside last ∙ rw (there, lt-leb last t f))

      module _ (f : last ≤ t) where
        abbrev win : List Verdict
        win = entries_in (r.k - r.lo) (drop w.from s)

        pub reached : Reaches s w at
        reached = record {
          count = r.k - r.lo;
          up = omega (arith, r.here, r.begins, r.up);
          entry = room;
          starts = r.starts;
          counts = r.counts;
          below = λ i l. by i l (cases_lt (r.lo + i) r.k);
        }
          where
            place : (i : ℕ) → w.from + i * 9 ≡ (r.lo + i) * 9
            place i = omega (arith, r.begins)

            by : (i : ℕ) → i ≤ r.k - r.lo → (r.lo + i < r.k) ⊎ (r.k ≤ r.lo + i) → time_at s (w.from + i * 9) ≤ time_at s at
            by i l (inl q) = let x : time_at s (w.from + i * 9) ≡ time_at s ((r.lo + i) * 9) = ap (time_at s) (place i) in omega (arith, x, r.below (r.lo + i) (omega arith) q, e)
            by i l (inr q) =
                let y : w.from + i * 9 ≡ at = omega (arith, r.begins, r.here, r.up) in
                let x : time_at s (w.from + i * 9) ≡ time_at s at = ap (time_at s) y in
                omega (arith, x)

        rises_on : rises_from 0 (verdicts_in s) ≡ rises_from (time_at s at) (drop (r.k + 1) (verdicts_in s))
        rises_on = r.rises ∙ rises_next s r.k inside last ∙ rw (there, le-leb last t f, ← e)

        -- one step of the pass
        step : {left : ℕ} → left_behind t win ≡ left → scan [] (nothing_yet s) (verdicts_in s) ≡ scan (drop left win ++ (entry_in (drop at s) ∷ [])) (counting left win best) (drop (r.k + 1) (verdicts_in s))
        unfolding scan
        step {left} q =
            r.passed
            ∙ ap (scan win best) (rest_at s r.k inside)
            ∙ ap (λ n. scan (drop (left_behind (time_at s n) win) win ++ (entry_in (drop n s) ∷ [])) (counting (left_behind (time_at s n) win) win best) (drop (r.k + 1) (verdicts_in s))) (sym r.here)
            ∙ ap (λ n. scan (drop n win ++ (entry_in (drop at s) ∷ [])) (counting n win best) (drop (r.k + 1) (verdicts_in s))) (ap (λ x. left_behind x win) (sym e) ∙ q)

        -- it lies within 60 s of the window's start
        pub stays : t - w.start < minute → Ready s w best at
        unfolding reached
        stays d = record { k = r.k; lo = r.lo; here = r.here; begins = r.begins; reach = reached; rises = rises_on; passed = step (none_left s t w.from (r.k - r.lo) (omega (arith, r.starts))) }

        -- it does not: the window is counted, and moves
        module _ (d : minute ≤ t - w.start) where
          abbrev left : ℕ
          left = left_behind t win

          not_there : 0 < r.k - r.lo
          not_there = by (cases_lt r.lo r.k)
            where
              by : (r.lo < r.k) ⊎ (r.k ≤ r.lo) → 0 < r.k - r.lo
              by (inl q) = omega arith
              by (inr q) =
                  let x : w.from ≡ at = omega (arith, r.begins, r.here, r.up) in
                  let y : time_at s w.from ≡ time_at s at = ap (time_at s) x in
                  absurd (omega (arith, y, e, r.starts))

          some_behind : 0 < left
          some_behind = omega (arith, one_left s t w.from (r.k - r.lo) not_there (omega (arith, r.starts)))

          first_start : time_of win 0 ≡ w.start
          first_start = ap (λ l. time_of l 0) (first_of_lem (r.k - r.lo) w.from s not_there) ∙ sym r.starts

          counted : counting left win best ≡ or_more best (record { start = w.start; refusals = w.refusals })
          counted = rw (lt-ltb 0 left some_behind) (ap₂ (λ x y. or_more best (record { start = x; refusals = y })) first_start (sym r.counts))

          many : (at - w.from) / 9 ≡ r.k - r.lo
          many = omega (arith, r.here, r.begins, r.up)

          short : left ≤ r.k - r.lo
          short = omega (arith, left_short t win, length_entries (r.k - r.lo) (drop w.from s))

          -- those that stay
          abbrev from : ℕ
          from = w.from + left * 9

          rest : drop left win ≡ entries_in (r.k - r.lo - left) (drop from s)
          rest =
              let n : r.k - r.lo ≡ left + (r.k - r.lo - left) = omega (arith, short) in
              ap (λ m. drop left (entries_in m (drop w.from s))) n
              ∙ drop_entries left (r.k - r.lo - left) (drop w.from s)
              ∙ ap (entries_in (r.k - r.lo - left)) (drop-drop (left * 9) w.from s)

          to : moved_to s w at ≡ moved_by s w at left
          to = ap (moved_by s w at) (ap₂ (λ x y. left_behind x (entries_in y (drop w.from s))) (sym e) many)

          same_rest : drop left (between s w.from at) ≡ drop left win
          same_rest = ap (λ y. drop left (entries_in y (drop w.from s))) many

          ready : {b : Minute} → b ≡ counting left win best → Ready s (moved_by s w at left) b at
          unfolding reached
          ready {b} q = record {
            k = r.k;
            lo = r.lo + left;
            here = r.here;
            begins = omega (arith, r.begins);
            reach = record {
              count = r.k - r.lo - left;
              up = omega (arith, r.here, r.begins, r.up, short);
              entry = room;
              starts = refl;
              counts = ap refused_in (same_rest ∙ rest);
              below = λ i l.
                  let x : from + i * 9 ≡ w.from + (left + i) * 9 = omega arith in
                  let y : time_at s (from + i * 9) ≡ time_at s (w.from + (left + i) * 9) = ap (time_at s) x in
                  omega (arith, y, reached.below (left + i) (omega (arith, short)));
            };
            rises = rises_on;
            passed = step refl ∙ ap₂ (λ x y. scan (x ++ (entry_in (drop at s) ∷ [])) y (drop (r.k + 1) (verdicts_in s))) rest (sym q);
          }

          pub moved_on : {w' : Window} {b : Minute} → w' ≡ moved_to s w at → b ≡ or_more best (record { start = w.start; refusals = w.refusals }) → Ready s w' b at
          moved_on {w'} {b} p q = subst (λ (x : Window). Ready s x b at) (sym (p ∙ to)) (ready (q ∙ sym counted))

    -- ---- the end

    pub finished : length s ≤ at → (decode_run s ≡ Some (verdicts_in s)) × (worst (verdicts_in s) ≡ Some (or_more best (record { start = w.start; refusals = w.refusals })))
    unfolding rises_from scan
    finished h =
        let n : length s / 9 ≤ r.k = omega (arith, r.here) in
        let None : drop r.k (verdicts_in s) ≡ [] = all_read s r.k (omega (arith, r.here)) in
        let up : rises_from 0 (verdicts_in s) ≡ true = r.rises ∙ ap (rises_from last) None in
        let some_in : 0 < r.k - r.lo = omega (arith, r.held) in
        let x : time_of (entries_in (r.k - r.lo) (drop w.from s)) 0 ≡ w.start = ap (λ l. time_of l 0) (first_of_lem (r.k - r.lo) w.from s some_in) ∙ sym r.starts in
        let p : scan [] (nothing_yet s) (verdicts_in s) ≡ or_more best (record { start = w.start; refusals = w.refusals }) =
        r.passed ∙ ap (scan (entries_in (r.k - r.lo) (drop w.from s)) best) None ∙ ap₂ (λ y z. or_more best (record { start = y; refusals = z })) x (sym r.counts) in
        (is_run s z up, first_of_all up ∙ ap Some p)
      where
        first_of_all : rises_from 0 (verdicts_in s) ≡ true → worst (verdicts_in s) ≡ Some (scan [] (nothing_yet s) (verdicts_in s))
        first_of_all up =
            let e : verdicts_in s ≡ entry_in s ∷ entries_in (length s / 9 - 1) (drop 9 s) = first_of_lem (length s / 9) 0 s (omega (arith, whole)) in
            subst (λ l. rises_from 0 l ≡ true → worst l ≡ Some (scan [] (nothing_yet s) l)) (sym e) (scan_worst (entry_in s) (entries_in (length s / 9 - 1) (drop 9 s))) up

  -- ---- the entry is counted

  module _ {w : Window} {best : Minute} {at : ℕ} (r : Ready s w best at) where
    abbrev seen : List Verdict
    seen = entries_in r.reach.count (drop w.from s)

    up_to : r.lo + r.reach.count ≡ r.k
    up_to = omega (arith, r.here, r.begins, r.reach.up)

    with_it : entries_in (r.k + 1 - r.lo) (drop w.from s) ≡ seen ++ (entry_in (drop at s) ∷ [])
    with_it =
        let n : r.k + 1 - r.lo ≡ suc r.reach.count = omega (arith, up_to) in
        ap (λ m. entries_in m (drop w.from s)) n
        ∙ snoc_entries r.reach.count (drop w.from s)
        ∙ ap (λ x. seen ++ (entry_in x ∷ [])) (drop-drop (r.reach.count * 9) w.from s ∙ ap (λ m. drop m s) r.reach.up)

    pub few_so_far : w.refusals ≤ length s
    few_so_far = omega (arith, r.reach.counts, refused_short seen, length_entries r.reach.count (drop w.from s), r.reach.up, r.reach.entry)

    next : (n : ℕ) → n ≡ refused_in (seen ++ (entry_in (drop at s) ∷ [])) → {t : ℕ} → t ≡ time_at s at → Counting s (record { from = w.from; start = w.start; refusals = n }) best t (at + 9)
    next n c {t} e = record {
      k = r.k + 1;
      lo = r.lo;
      here = omega (arith, r.here);
      within = r.reach.entry;
      begins = r.begins;
      up = omega (arith, up_to);
      held = omega (arith, up_to, r.here, r.reach.entry, whole);
      starts = r.reach.starts;
      counts = c ∙ ap refused_in (sym with_it);
      low = let x : time_at s (w.from + 0 * 9) ≡ time_at s w.from = ap (time_at s) (add-zero w.from) in omega (arith, x, r.reach.below 0 (omega arith), r.reach.starts, e);
      below = λ j h l.
          let x : w.from + (j - r.lo) * 9 ≡ j * 9 = omega (arith, r.begins) in
          let y : time_at s (w.from + (j - r.lo) * 9) ≡ time_at s (j * 9) = ap (time_at s) x in
          omega (arith, y, r.reach.below (j - r.lo) (omega (arith, up_to)), e);
      rises = r.rises ∙ ap (λ x. rises_from x (drop (r.k + 1) (verdicts_in s))) (sym e);
      passed = r.passed ∙ ap (λ l. scan l best (drop (r.k + 1) (verdicts_in s))) (sym with_it);
    }

    pub a_refusal : (get_or s (at + 8) 0 ≡ 0 → ⊥) → {t : ℕ} → t ≡ time_at s at → Counting s (record { from = w.from; start = w.start; refusals = w.refusals + 1 }) best t (at + 9)
    a_refusal h e = next (w.refusals + 1) (ap (λ n. n + 1) r.reach.counts ∙ sym (refused_snoc seen (entry_in (drop at s)) ∙ ap (λ b. cond b (refused_in seen + 1) (refused_in seen)) (is_refusal_lem s at h))) e

    pub no_refusal : get_or s (at + 8) 0 ≡ 0 → {t : ℕ} → t ≡ time_at s at → Counting s w best t (at + 9)
    no_refusal h e = next w.refusals (r.reach.counts ∙ sym (refused_snoc seen (entry_in (drop at s)) ∙ ap (λ b. cond b (refused_in seen + 1) (refused_in seen)) (is_accepted s at h))) e

-- ---- the worst so far, in two numbers

same_minute : {a b c d : ℕ} → a ≡ b → c ≡ d → ◌≡◌ {A = Minute} (record { start = a; refusals = c }) (record { start = b; refusals = d })
same_minute p q = ap₂ (λ x y. record { start = x; refusals = y }) p q

module _ (best m : Minute) {most start : ℕ} where
  pub has_more : best.refusals < m.refusals → most ≡ m.refusals → start ≡ m.start → record { start = start; refusals = most } ≡ or_more best m
  has_more h p q = same_minute q p ∙ rw (lt-ltb best.refusals m.refusals h)

  pub has_no_more : m.refusals ≤ best.refusals → most ≡ best.refusals → start ≡ best.start → record { start = start; refusals = most } ≡ or_more best m
  has_no_more h p q = same_minute q p ∙ rw (le-ltb best.refusals m.refusals h)

pub ready_as : (s : List ℕ) {w w' : Window} (best : Minute) {most start at : ℕ} → Ready s w best at → w' ≡ w → most ≡ best.refusals → start ≡ best.start → Ready s w' (record { start = start; refusals = most }) at
ready_as s {w} {w'} best {most} {start} {at} r p q t = subst (λ (x : Window). Ready s x (record { start = start; refusals = most }) at) (sym p) (subst (λ (b : Minute). Ready s w b at) (sym (same_minute t q)) r)

pub counting_as : (s : List ℕ) {w w' : Window} {best : Minute} {last at : ℕ} → Counting s w best last at → w' ≡ w → Counting s w' best last at
counting_as s {w} {w'} {best} {last} {at} r p = subst (λ (x : Window). Counting s x best last at) (sym p) r

pub counting_with : (s : List ℕ) {w w' : Window} (best : Minute) {most start last at : ℕ} → Counting s w best last at → w' ≡ w → most ≡ best.refusals → start ≡ best.start → Counting s w' (record { start = start; refusals = most }) last at
counting_with s {w} {w'} best {most} {start} {last} {at} r p q t = subst (λ (b : Minute). Counting s w' b last at) (sym (same_minute t q)) (counting_as s r p)
