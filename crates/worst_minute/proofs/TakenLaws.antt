-- Times as taken, and the last 4,096: one verdict more. Assumes nothing.
use Prim.Native.Nat.{ℕ, zero, suc, ◌+◌, ◌-◌, ◌≤◌, ◌<◌, max}
use native.Mathlib.Omega.{arith}
use mathlib.Core.Path.{◌≡◌, refl, sym, ap, ap₂, ◌∙◌}
use mathlib.Core.Bool.{Bool, true, false, ◌&&◌, false≢true}
use mathlib.Core.List.{List, [], ◌∷◌, ◌++◌}
use lib.ListN.{length, drop, length-append, length-drop}
use lib.Seq.{drop-drop, drop-append-le}
use lib.Dec.{leb}
use borrow.Author.Tests.{le-leb, leb-true}
use Rattle.worst_minute.specs.Minute.{Verdict, taken_after, all_taken_after, taken, rises_from, last_ones, counted}
use Rattle.worst_minute.specs.Calls.{last_time, with_verdict}
use Rattle.worst_minute.proofs.LayoutLaws.{AllFit}

-- ---- one more verdict

-- it is taken after the last one
taken_snoc : (last : ℕ) (vs : List Verdict) (v : Verdict) → all_taken_after last (vs ++ (v ∷ [])) ≡ all_taken_after last vs ++ (taken_after (last_time last (all_taken_after last vs)) v ∷ [])
unfolding all_taken_after last_time
taken_snoc last [] v = refl
taken_snoc last (u ∷ vs) v = ap (λ l. taken_after last u ∷ l) (taken_snoc (max last u.time) vs v)

pub taken_one_more : (vs : List Verdict) (v : Verdict) → taken (vs ++ (v ∷ [])) ≡ taken vs ++ (taken_after (last_time 0 (taken vs)) v ∷ [])
unfolding all_taken_after last_time
taken_one_more [] v = ap (λ t. record { time = t; number = v.number } ∷ []) (from_zero v.time)
  where
    from_zero : (t : ℕ) → t ≡ max 0 t
    from_zero t = omega arith
taken_one_more (u ∷ vs) v = ap (λ l. u ∷ l) (taken_snoc u.time vs v)

-- the last time is that of the last ones
last_of_rest : (t n : ℕ) (vs : List Verdict) → n < length vs → last_time t (drop n vs) ≡ last_time t vs
unfolding last_time
last_of_rest t n [] h = absurd (omega arith)
last_of_rest t zero (v ∷ vs) h = refl
last_of_rest t (suc n) (v ∷ []) h = absurd (omega arith)
last_of_rest t (suc n) (v ∷ u ∷ vs) h = last_of_rest t n (u ∷ vs) (omega arith)

last_same : (vs : List Verdict) → last_time 0 (last_ones vs) ≡ last_time 0 vs
unfolding last_time
last_same [] = refl
last_same (v ∷ vs) = last_of_rest 0 (suc (length vs) - 4096) (v ∷ vs) (omega arith)

-- the last ones of the last ones and one more
last_one_more : (vs : List Verdict) (v : Verdict) → last_ones (vs ++ (v ∷ [])) ≡ last_ones (last_ones vs ++ (v ∷ []))
last_one_more vs v =
    let n = length vs in
    let k : length (vs ++ (v ∷ [])) ≡ n + 1 = length-append vs (v ∷ []) in
    let l : length (last_ones vs ++ (v ∷ [])) ≡ n - (n - 4096) + 1 = length-append (last_ones vs) (v ∷ []) ∙ ap (λ x. x + 1) (length-drop (n - 4096) vs) in
    let e : last_ones vs ++ (v ∷ []) ≡ drop (n - 4096) (vs ++ (v ∷ [])) = sym (drop-append-le (n - 4096) vs (v ∷ []) (omega arith)) in
    let f : n + 1 - 4096 ≡ n - 4096 + (n - (n - 4096) + 1 - 4096) = omega arith in
    ap (λ x. drop (x - 4096) (vs ++ (v ∷ []))) k
    ∙ ap (λ x. drop x (vs ++ (v ∷ []))) f
    ∙ sym (drop-drop (n - (n - 4096) + 1 - 4096) (n - 4096) (vs ++ (v ∷ [])))
    ∙ ap₂ (λ x y. drop (x - 4096) y) (sym l) (sym e)

-- a fresh count over one verdict more is the run with the verdict added
pub one_more : (vs : List Verdict) (v : Verdict) → counted (vs ++ (v ∷ [])) ≡ with_verdict v (counted vs)
one_more vs v =
    ap last_ones (taken_one_more vs v)
    ∙ last_one_more (taken vs) (taken_after (last_time 0 (taken vs)) v)
    ∙ ap (λ t. last_ones (counted vs ++ (taken_after t v ∷ []))) (sym (last_same (taken vs)))

-- ---- what counts is a run

pub few : (vs : List Verdict) → length (counted vs) ≤ 4096
few vs = simp length-drop (omega arith)

-- never fewer than before
pub no_fewer : (vs : List Verdict) (v : Verdict) → length (counted vs) ≤ length (counted (vs ++ (v ∷ [])))
no_fewer vs v =
    let a : length (taken (vs ++ (v ∷ []))) ≡ length (taken vs) + 1 = ap length (taken_one_more vs v) ∙ length-append (taken vs) (taken_after (last_time 0 (taken vs)) v ∷ []) in
    let b = length-drop (length (taken vs) - 4096) (taken vs) in
    let e = length-drop (length (taken (vs ++ (v ∷ []))) - 4096) (taken (vs ++ (v ∷ []))) in
    omega (arith, a, b, e)

rises_taken : (last : ℕ) (vs : List Verdict) → rises_from last (all_taken_after last vs) ≡ true
unfolding rises_from all_taken_after
rises_taken last [] = refl
rises_taken last (v ∷ vs) = let h : last ≤ max last v.time = omega arith in rw (le-leb last (max last v.time) h) (rises_taken (max last v.time) vs)

-- from any time that isn't later
rises_lower : (a b : ℕ) (vs : List Verdict) → a ≤ b → rises_from b vs ≡ true → rises_from a vs ≡ true
unfolding rises_from
rises_lower a b [] h r = refl
rises_lower a b (v ∷ vs) h r = by (leb b v.time) refl r
  where
    by : (x : Bool) → leb b v.time ≡ x → (x && rises_from v.time vs) ≡ true → (leb a v.time && rises_from v.time vs) ≡ true
    by true e r = let k : b ≤ v.time = leb-true b v.time e in rw (le-leb a v.time (omega arith)) r
    by false e r = absurd (false≢true r)

rises_rest : (last n : ℕ) (vs : List Verdict) → rises_from last vs ≡ true → rises_from last (drop n vs) ≡ true
unfolding rises_from
rises_rest last zero vs r = r
rises_rest last (suc n) [] r = refl
rises_rest last (suc n) (v ∷ vs) r = by (leb last v.time) refl r (rises_rest v.time n vs)
  where
    by : (x : Bool) → leb last v.time ≡ x → (x && rises_from v.time vs) ≡ true → (rises_from v.time vs ≡ true → rises_from v.time (drop n vs) ≡ true) → rises_from last (drop n vs) ≡ true
    by true e r next = rises_lower last v.time (drop n vs) (leb-true last v.time e) (next r)
    by false e r next = absurd (false≢true r)

pub rises_counted : (vs : List Verdict) → rises_from 0 (counted vs) ≡ true
unfolding rises_from
rises_counted vs = rises_rest 0 (length (taken vs) - 4096) (taken vs) (all vs)
  where
    all : (vs : List Verdict) → rises_from 0 (taken vs) ≡ true
    all [] = refl
    all (v ∷ vs) = rw (le-leb 0 v.time (omega arith)) (rises_taken v.time vs)

fit_taken : (last : ℕ) (vs : List Verdict) → last < 18446744073709551616 → AllFit vs → AllFit (all_taken_after last vs)
unfolding all_taken_after
fit_taken last [] h f = tt
fit_taken last (v ∷ vs) h f = let k : max last v.time < 18446744073709551616 = omega (arith, f.0) in (k, fit_taken (max last v.time) vs k f.1)

fit_rest : (n : ℕ) (vs : List Verdict) → AllFit vs → AllFit (drop n vs)
fit_rest zero vs f = f
fit_rest (suc n) [] f = tt
fit_rest (suc n) (v ∷ vs) f = fit_rest n vs f.1

pub fit_counted : (vs : List Verdict) → AllFit vs → AllFit (counted vs)
fit_counted vs f = fit_rest (length (taken vs) - 4096) (taken vs) (all vs f)
  where
    all : (vs : List Verdict) → AllFit vs → AllFit (taken vs)
    all [] f = tt
    all (v ∷ vs) f = (f.0, fit_taken v.time vs f.0 f.1)

pub fit_snoc : (vs : List Verdict) (v : Verdict) → AllFit vs → v.time < 18446744073709551616 → AllFit (vs ++ (v ∷ []))
fit_snoc [] v f h = (h, tt)
fit_snoc (u ∷ vs) v f h = (f.0, fit_snoc vs v f.1 h)
