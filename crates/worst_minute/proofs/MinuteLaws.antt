-- `worst` is what the request asks for: the most refusals over all starts, and the earliest start that has them; and nothing else is. Assumes nothing.
use Prim.Native.Nat.{ℕ, zero, suc, ◌≤◌, ◌<◌}
use native.Mathlib.Omega.{arith}
use mathlib.Core.Path.{◌≡◌, refl, sym, ap, ap₂, ◌∙◌}
use mathlib.Core.Bool.{Bool, true, false, cond, ◌&&◌, ◌||◌, false≢true}
use mathlib.Core.List.{List, [], ◌∷◌}
use lib.ListN.{length}
use lib.Dec.{ltb, eqb}
use borrow.Author.Tests.{ltb-true, ltb-false, eqb-true, eq-eqb}
use Rattle.std.specs.Prelude.{Some}
use Rattle.worst_minute.specs.Minute.{Verdict, refusals_from, Minute, minute_of, is_worse, worse_of, worst_at, worst, time_of, IsWorstAt, IsWorst}

-- ---- which of two is worse

worse_than : (m n : Minute) → is_worse n m ≡ true → (m.refusals ≤ n.refusals) × (m.refusals ≡ n.refusals → n.start ≤ m.start)
worse_than m n e = by (ltb m.refusals n.refusals) refl (eqb n.refusals m.refusals) refl (ltb n.start m.start) refl e
  where
    by : (a : Bool) → ltb m.refusals n.refusals ≡ a → (b : Bool) → eqb n.refusals m.refusals ≡ b → (d : Bool) → ltb n.start m.start ≡ d → (a || (b && d)) ≡ true
        → (m.refusals ≤ n.refusals) × (m.refusals ≡ n.refusals → n.start ≤ m.start)
    by true a b q d r e = let k : m.refusals < n.refusals = ltb-true m.refusals n.refusals a in (omega arith, λ h. absurd (omega (arith, h)))
    by false a true b true r e =
        let k : n.refusals ≡ m.refusals = eqb-true n.refusals m.refusals b in
        let l : n.start < m.start = ltb-true n.start m.start r in
        (omega arith, λ h. omega arith)
    by false a true b false r e = absurd (false≢true e)
    by false a false b d r e = absurd (false≢true e)

not_worse : (m n : Minute) → is_worse n m ≡ false → (n.refusals ≤ m.refusals) × (n.refusals ≡ m.refusals → m.start ≤ n.start)
not_worse m n e = by (ltb m.refusals n.refusals) refl (eqb n.refusals m.refusals) refl (ltb n.start m.start) refl e
  where
    by : (a : Bool) → ltb m.refusals n.refusals ≡ a → (b : Bool) → eqb n.refusals m.refusals ≡ b → (d : Bool) → ltb n.start m.start ≡ d → (a || (b && d)) ≡ false
        → (n.refusals ≤ m.refusals) × (n.refusals ≡ m.refusals → m.start ≤ n.start)
    by true a b q d r e = absurd (false≢true (sym e))
    by false a b q true r e =
        let k : n.refusals ≤ m.refusals = ltb-false m.refusals n.refusals a in
        (k, λ h. absurd (true_once b (sym q ∙ eq-eqb n.refusals m.refusals h) e))
      where
        true_once : (b : Bool) → b ≡ true → (false || (b && true)) ≡ false → ⊥
        true_once true p e = false≢true (sym e)
        true_once false p e = false≢true p
    by false a b q false r e =
        let k : n.refusals ≤ m.refusals = ltb-false m.refusals n.refusals a in
        let l : m.start ≤ n.start = ltb-false n.start m.start r in
        (k, λ h. l)

-- ---- the worst over starts

one_start : (run : List Verdict) (v : Verdict) → IsWorstAt run (v ∷ []) (minute_of run v)
one_start run v = record { place = 0; inside = omega arith; starts_there = refl; has = refl; most = only; earliest = alone }
  where
    only : (i : ℕ) → i < 1 → refusals_from (time_of (v ∷ []) i) run ≤ refusals_from v.time run
    only zero h = omega arith
    only (suc i) h = absurd (omega arith)

    alone : (i : ℕ) → i < 1 → refusals_from (time_of (v ∷ []) i) run ≡ refusals_from v.time run → v.time ≤ time_of (v ∷ []) i
    alone zero h e = omega arith
    alone (suc i) h e = absurd (omega arith)

module _ (run : List Verdict) (v : Verdict) (vs : List Verdict) (n : Minute) (w : IsWorstAt run vs n) where
  abbrev m : Minute
  m = minute_of run v

  the_others : (m.refusals ≤ n.refusals) × (m.refusals ≡ n.refusals → n.start ≤ m.start) → IsWorstAt run (v ∷ vs) n
  the_others k = record { place = suc w.place; inside = omega (arith, w.inside); starts_there = w.starts_there; has = w.has; most = more; earliest = first }
    where
      more : (i : ℕ) → i < suc (length vs) → refusals_from (time_of (v ∷ vs) i) run ≤ n.refusals
      more zero h = k.0
      more (suc i) h = w.most i (omega arith)

      first : (i : ℕ) → i < suc (length vs) → refusals_from (time_of (v ∷ vs) i) run ≡ n.refusals → n.start ≤ time_of (v ∷ vs) i
      first zero h e = k.1 e
      first (suc i) h e = w.earliest i (omega arith) e

  this_one : (n.refusals ≤ m.refusals) × (n.refusals ≡ m.refusals → m.start ≤ n.start) → IsWorstAt run (v ∷ vs) m
  this_one k = record { place = 0; inside = omega arith; starts_there = refl; has = refl; most = more; earliest = first }
    where
      more : (i : ℕ) → i < suc (length vs) → refusals_from (time_of (v ∷ vs) i) run ≤ m.refusals
      more zero h = omega arith
      more (suc i) h = omega (arith, w.most i (omega arith), k.0)

      first : (i : ℕ) → i < suc (length vs) → refusals_from (time_of (v ∷ vs) i) run ≡ m.refusals → m.start ≤ time_of (v ∷ vs) i
      first zero h e = omega arith
      first (suc i) h e =
          let l : refusals_from (time_of vs i) run ≤ n.refusals = w.most i (omega arith) in
          let q : n.refusals ≡ m.refusals = omega (arith, k.0, e) in
          let r : m.start ≤ n.start = k.1 q in
          let s : n.start ≤ time_of vs i = w.earliest i (omega arith) (e ∙ sym q) in
          omega arith

  worse_one : IsWorstAt run (v ∷ vs) (worse_of m (Some n))
  worse_one = by (is_worse n m) refl
    where
      by : (b : Bool) → is_worse n m ≡ b → IsWorstAt run (v ∷ vs) (cond b n m)
      by true e = the_others (worse_than m n e)
      by false e = this_one (not_worse m n e)

-- what was found over starts, and that it is the worst of them
pub record Found (run starts : List Verdict) : Type 0 where
  pub minute : Minute
  pub is : worst_at run starts ≡ Some minute
  pub worst_of_lem : IsWorstAt run starts minute

pub found : (run : List Verdict) (v : Verdict) (vs : List Verdict) → Found run (v ∷ vs)
unfolding worst_at
found run v [] = record { minute = minute_of run v; is = refl; worst_of_lem = one_start run v }
found run v (u ∷ us) = by (found run u us)
  where
    by : Found run (u ∷ us) → Found run (v ∷ u ∷ us)
    by f = record { minute = worse_of (minute_of run v) (Some f.minute); is = ap (λ o. Some (worse_of (minute_of run v) o)) f.is; worst_of_lem = worse_one run v (u ∷ us) f.minute f.worst_of_lem }

-- ---- no other minute is the worst

pub only_one : (run : List Verdict) (m n : Minute) → IsWorst run m → IsWorst run n → m ≡ n
only_one run m n a b =
    let p : refusals_from (time_of run a.place) run ≡ m.refusals = ap (λ t. refusals_from t run) (sym a.starts_there) ∙ sym a.has in
    let q : refusals_from (time_of run b.place) run ≡ n.refusals = ap (λ t. refusals_from t run) (sym b.starts_there) ∙ sym b.has in
    let r : m.refusals ≡ n.refusals = omega (arith, p, q, a.most b.place b.inside, b.most a.place a.inside) in
    let s : n.start ≤ time_of run a.place = b.earliest a.place a.inside (p ∙ r) in
    let t : m.start ≤ time_of run b.place = a.earliest b.place b.inside (q ∙ sym r) in
    let u : m.start ≡ n.start = omega (arith, s, t, a.starts_there, b.starts_there) in
    ap₂ (λ x y. record { start = x; refusals = y }) u r

-- the worst minute of a run that isn't empty is the one that the request asks for
pub worst_is : (v : Verdict) (vs : List Verdict) → Found (v ∷ vs) (v ∷ vs)
worst_is v vs = found (v ∷ vs) v vs

pub worst_only : (v : Verdict) (vs : List Verdict) (m : Minute) → IsWorst (v ∷ vs) m → worst (v ∷ vs) ≡ Some m
worst_only v vs m a = let f = worst_is v vs in f.is ∙ ap Some (only_one (v ∷ vs) f.minute m f.worst_of_lem a)
