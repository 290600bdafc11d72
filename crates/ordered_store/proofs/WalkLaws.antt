-- The walk over entries: what a turn gives, and the count so far. Assumes nothing.
use Prim.Native.Nat.{ℕ, ◌+◌, ◌≤◌, ◌<◌}
use native.Mathlib.Omega.{arith}
use mathlib.Core.Path.{◌≡◌, refl, sym, ap, subst, ◌∙◌}
use mathlib.Core.Bool.{Bool, true, false}
use mathlib.Core.List.{List}
use lib.ListN.{length, drop}
use Rattle.std.specs.Prelude.{ok_or, Err, None, Ok, Option, Result, Some}
use Rattle.limits.specs.declared.Refusal.{Refusal}
use Rattle.codec.specs.Codec.{Codec}
use Rattle.ordered_store.specs.Layout.{Layout, places_read}
use Rattle.ordered_store.specs.Order.{key_order, is_before}
use Rattle.ordered_store.specs.Steps.{goes_on, StepsEntry}
use Rattle.ordered_store.proofs.PlaceLaws.{Got}
use Rattle.ordered_store.proofs.CountLaws.{asked, Counting, nothing, first_broken, start, all_counted, next_broken, out_of_order, counted}

-- what is refused for want of a value has none
pub absent : {P : Type 0} (o : Option P) (x : Refusal) {cause : Refusal} {r : Result P Refusal} → r ≡ ok_or o x → r ≡ Err cause → o ≡ None
absent None x e h = refl
absent {P} (Some v) x {cause} e h =
    let q : ◌≡◌ {A = Result P Refusal} (Err cause) (Ok v) = sym h ∙ e in
    absurd (let z : ◌≡◌ {A = ℕ} 0 1 = cc in omega arith)

module _ {A P : Type 0} (F : Layout A P) (s : List ℕ) where
  -- a turn at a place
  pub record Given (at place : ℕ) (o : Option P) (t : List ℕ) (to : ℕ) : Type 0 where
    pub more : at < length s
    pub from : place ≡ at
    pub reads : places_read F.parts at (F.form.read (drop at s)) ≡ o
    pub same : t ≡ s
    pub ends : to ≡ goes_on F.parts s o

  pub given : {form : Codec A} {b t : List ℕ} {at place to : ℕ} {o : Option P} → form ≡ F.form → b ≡ s → StepsEntry F.parts form b at (Some (place, o)) t to → Given at place o t to
  given {form} {b} {t} {at} {place} {to} {o} f e w = record {
    more = subst (λ (x : List ℕ). at < length x) e w.0;
    from = w.1;
    reads = subst (λ (x : List ℕ). places_read F.parts at (F.form.read (drop at x)) ≡ o) e (subst (λ (x : Codec A). places_read F.parts at (x.read (drop at b)) ≡ o) f (sym w.2));
    same = w.3 ∙ e;
    ends = subst (λ (x : List ℕ). to ≡ goes_on F.parts x o) e w.4;
  }

  -- the last turn
  pub over_at : {b t : List ℕ} {at to : ℕ} → b ≡ s → StepsEntry F.parts F.form b at None t to → length s ≤ at
  over_at {b} {t} {at} e w = subst (λ (x : List ℕ). length x ≤ at) e w.0

  -- ---- the count so far: n entries up to a place, and the last of them

  abbrev pub SoFar : ℕ → Option P → ℕ → Type 0
  SoFar at None n = (at ≡ 0) × (n ≡ 0)
  SoFar at (Some p) n = Counting F s p n × (at ≡ F.parts.end_of p)

  -- nothing is read at the place
  pub broken : (at : ℕ) (last : Option P) (n : ℕ) → SoFar at last n → at < length s → places_read F.parts at (F.form.read (drop at s)) ≡ None → None ≡ asked F s
  broken at None n g h e = first_broken F s (subst (λ (k : ℕ). k < length s) g.0 h) (subst (λ (k : ℕ). places_read F.parts k (F.form.read (drop k s)) ≡ None) g.0 e)
  broken at (Some p) n g h e = next_broken F s p n g.0 (subst (λ (k : ℕ). k < length s) g.1 h) (subst (λ (k : ℕ). places_read F.parts k (F.form.read (drop k s)) ≡ None) g.1 e)

  -- the first entry
  pub first_counted : (at : ℕ) (last : Option P) (n : ℕ) → SoFar at last n → last ≡ None → at < length s → {p : P} → Got F s at p → Counting F s p (n + 1)
  first_counted at None n g q h {p} t =
      let z : n + 1 ≡ 1 = omega (arith, g.1) in
      subst (λ (k : ℕ). Counting F s p k) (sym z) (start F s (subst (λ (k : ℕ). k < length s) g.0 h) (subst (λ (k : ℕ). Got F s k p) g.0 t))
  first_counted at (Some l) n g q h t = absurd (let z : ◌≡◌ {A = ℕ} 0 1 = cc in omega arith)

  -- the last entry lies in the bytes
  pub last_is : (at : ℕ) (last : Option P) (n : ℕ) → SoFar at last n → {l : P} → last ≡ Some l → Counting F s l n × (at ≡ F.parts.end_of l)
  last_is at None n g q = absurd (let z : ◌≡◌ {A = ℕ} 0 1 = cc in omega arith)
  last_is at (Some p) n g {l} q = let e : p ≡ l = cc in subst (λ (x : P). Counting F s x n × (at ≡ F.parts.end_of x)) e g

  module _ {at n : ℕ} {l p : P} (g : Counting F s l n × (at ≡ F.parts.end_of l)) (h : at < length s) (t : Got F s at p) {r : Bool} (e : r ≡ is_before (key_order (F.parts.key_at s l) (F.parts.key_at s p))) where
    pub unordered : r ≡ false → None ≡ asked F s
    unordered = out_of_order F s l n g.0 (subst (λ (k : ℕ). k < length s) g.1 h) (subst (λ (k : ℕ). Got F s k p) g.1 t) e

    pub next_counted : r ≡ true → Counting F s p (n + 1)
    next_counted = counted F s l n g.0 (subst (λ (k : ℕ). k < length s) g.1 h) (subst (λ (k : ℕ). Got F s k p) g.1 t) e

  -- none is left
  pub counted_all : (at : ℕ) (last : Option P) (n : ℕ) → SoFar at last n → length s ≤ at → Some n ≡ asked F s
  counted_all at None n g h = ap Some g.1 ∙ nothing F s (omega (arith, g.0))
  counted_all at (Some p) n g h = all_counted F s p n g.0 (subst (λ (k : ℕ). length s ≤ k) g.1 h)
