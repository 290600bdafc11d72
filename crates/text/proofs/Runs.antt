-- How many bytes from the front on pass a test. Assumes nothing.
use Prim.Native.Nat.{ℕ, suc, ◌+◌, ◌-◌, ◌<◌, ◌≤◌}
use native.Mathlib.Nat.{add-zero, zero-add, add-suc, suc-add}
use native.Mathlib.Numerals.{add-one}
use native.Mathlib.Omega.{arith}
use mathlib.Core.Path.{◌≡◌, refl, sym, ap, ◌∙◌}
use mathlib.Core.Bool.{Bool, true, false, cond, ◌&&◌}
use mathlib.Core.List.{List, [], ◌∷◌}
use lib.ListN.{length, get_or, take, drop, drop_of_length-le, length-drop}
use lib.Seq.{drop-cons}
use lib.Dec.{eqb}
use borrow.Author.Tests.{eq-eqb, ne_eqb, eqb-true, eqb-false}
use Rattle.std.proofs.lemmas.List.{take_rest}
use Rattle.std.specs.Prelude.{None, Option, Some, MatchOption}
use Rattle.std.specs.Option.{unwrap_or}
use Rattle.text.specs.Text.{span, all}

-- a run from a place on: s are the bytes and i the index
module _ (p : ℕ → Bool) (s : List ℕ) (i : ℕ) where
  pub span_done : length s ≤ i → i + span p (drop i s) ≡ i
  unfolding span
  span_done h = rw (drop_of_length-le s h, add-zero i)

  pub span_stop : i < length s → p (get_or s i 0) ≡ false → i + span p (drop i s) ≡ i
  unfolding span
  span_stop h e = rw (drop-cons s i 0 h, e, add-zero i)

  pub span_next : i < length s → p (get_or s i 0) ≡ true → i + span p (drop i s) ≡ i + 1 + span p (drop (i + 1) s)
  unfolding span
  span_next h e = rw (drop-cons s i 0 h, e, add-one i, add-suc, suc-add)

-- the run of a test goes on past that of a stronger one
pub span_past : (p q : ℕ → Bool) → ((b : ℕ) → q b ≡ true → p b ≡ true) → (s : List ℕ) → span p s ≡ span q s + span p (drop (span q s) s)
unfolding span
span_past p q w [] = refl
span_past p q w (b ∷ s) = by (q b) refl (span_past p q w s)
  where
    by : (t : Bool) → q b ≡ t → span p s ≡ span q s + span p (drop (span q s) s)
        → cond (p b) (suc (span p s)) 0 ≡ cond t (suc (span q s)) 0 + span p (drop (cond t (suc (span q s)) 0) (b ∷ s))
    by true e more = rw (w b e, suc-add) (ap suc more)
    by false e more = sym (zero-add _)

-- a run is no longer than the bytes
pub span_le : (p : ℕ → Bool) (s : List ℕ) → span p s ≤ length s
unfolding span
span_le p [] = omega arith
span_le p (b ∷ s) = by (p b) (span_le p s)
  where
    by : (t : Bool) → span p s ≤ length s → cond t (suc (span p s)) 0 ≤ suc (length s)
    by true h = omega arith
    by false h = omega arith

suc_eqb : (a b : ℕ) → eqb (suc a) (suc b) ≡ eqb a b
suc_eqb a b = by (eqb a b) refl
  where
    by : (u : Bool) → eqb a b ≡ u → eqb (suc a) (suc b) ≡ eqb a b
    by true e = eq-eqb _ _ (ap suc (eqb-true a b e)) ∙ sym e
    by false e = ne_eqb _ _ (λ (q : suc a ≡ suc b). eqb-false a b e (omega arith)) ∙ sym e

-- the run is as long as the bytes exactly where every byte passes
pub all_span : (p : ℕ → Bool) (s : List ℕ) → eqb (span p s) (length s) ≡ all p s
unfolding span all
all_span p [] = refl
all_span p (b ∷ s) = by (p b) (all_span p s)
  where
    by : (t : Bool) → eqb (span p s) (length s) ≡ all p s → eqb (cond t (suc (span p s)) 0) (suc (length s)) ≡ (t && all p s)
    by true h = suc_eqb (span p s) (length s) ∙ h
    by false h = ne_eqb 0 (suc (length s)) (λ e. omega arith)

-- the part from a to the end
pub part_length : (s : List ℕ) (a : ℕ) → length (take (length s - a) (drop a s)) ≡ length s - a
part_length s a = ap length (take_rest s a) ∙ length-drop a s

-- where a byte was found, or else the length
pub place_or : (n len : ℕ) (o : Option ℕ) → MatchOption o (len ≡ n) (λ k. (k ≡ n) × (k < len)) → unwrap_or o len ≡ n
place_or n len None h = h
place_or n len (Some k) h = h.0

-- a run stops at the first byte that fails, and goes on past one that passes
pub span_hit : (p : ℕ → Bool) (b : ℕ) (s : List ℕ) → p b ≡ false → span p (b ∷ s) ≡ 0
unfolding span
span_hit p b s e = rw e

pub span_miss : (p : ℕ → Bool) (b : ℕ) (s : List ℕ) → p b ≡ true → span p (b ∷ s) ≡ span p s + 1
unfolding span
span_miss p b s e = rw e (omega arith)
