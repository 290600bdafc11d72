-- One line: the tests of `read_line`, one after another, and that a line ends within the bytes that it stands in.
-- Assumes nothing.
use Prim.Native.Nat.{ℕ, zero, suc, ◌+◌, ◌-◌, ◌≤◌, ◌<◌}
use native.Mathlib.Omega.{arith}
use mathlib.Core.Path.{◌≡◌, refl, sym, ap, ◌∙◌}
use mathlib.Core.Bool.{Bool, true, false, cond, ◌&&◌, and-false, false≢true}
use mathlib.Core.List.{List, [], ◌∷◌}
use lib.ListN.{length, get_or, take, drop, get_or-eq_default, length-drop}
use lib.Seq.{get_or-drop}
use lib.Dec.{eqb, ltb}
use borrow.Author.Tests.{eq-eqb, ne_eqb, lt-ltb, eqb-true}
use Rattle.std.proofs.lemmas.List.{take_rest}
use Rattle.std.specs.Prelude.{None, Option, Some}
use Rattle.limits.proofs.Laws.{some_pair}
use Rattle.text.specs.Text.{span, is_value}
use Rattle.msg.specs.Block.{name_length, value_length, line_at}

-- the line that stands first in s, where its name is n bytes and its value, if it has one, m
abbrev line_by : List ℕ → ℕ → ℕ → Option (ℕ × ℕ)
line_by s n m =
    cond (ltb 0 n && (eqb (get_or s n 0) 58 && (eqb (get_or s (n + 1 + m) 0) 13 && eqb (get_or s (n + 1 + m + 1) 0) 10)))
    (Some (n, m))
    None

-- n is what `name_length` answers
module _ (s : List ℕ) (n : ℕ) (hn : n ≡ name_length s) where
  by_name : line_at s ≡ line_by s n (span is_value (drop (n + 1) s))
  unfolding line_at
  by_name = rw (← hn)

  pub no_name : n ≡ 0 → line_at s ≡ None
  no_name h = by_name ∙ rw h

  pub no_colon : (get_or s n 0 ≡ 58 → ⊥) → line_at s ≡ None
  no_colon h = by_name ∙ simp (ne_eqb _ _ h, and-false)

  pub name_only : n ≡ length s → line_at s ≡ None
  name_only h = no_colon (λ e. omega (arith, get_or-eq_default s 0 {n = n} (omega arith)))

  -- m is what `value_length` answers of the part after the colon
  module _ (m : ℕ) (hm : m ≡ span is_value (take (length s - (n + 1)) (drop (n + 1) s))) where
    by_value : line_at s ≡ line_by s n m
    by_value = by_name ∙ rw (← take_rest s (n + 1), ← hm)

    part_at : (i : ℕ) → get_or (take (length s - (n + 1)) (drop (n + 1) s)) i 0 ≡ get_or s (n + 1 + i) 0
    part_at i = rw (take_rest s (n + 1), get_or-drop)

    pub no_cr : (get_or (take (length s - (n + 1)) (drop (n + 1) s)) m 0 ≡ 13 → ⊥) → line_at s ≡ None
    no_cr h = by_value ∙ simp (ne_eqb _ _ (rw part_at at h), and-false)

    part_lf : get_or (take (length s - (n + 1)) (drop (n + 1) s)) (m + 1) 0 ≡ get_or s (n + 1 + m + 1) 0
    part_lf = part_at (m + 1) ∙ ap (λ (k : ℕ). get_or s k 0) (omega arith)

    pub no_lf : (get_or (take (length s - (n + 1)) (drop (n + 1) s)) (m + 1) 0 ≡ 10 → ⊥) → line_at s ≡ None
    no_lf h = by_value ∙ simp (ne_eqb _ _ (rw part_lf at h), and-false)

    pub no_end : length s ≤ n + m + 2 → line_at s ≡ None
    no_end h = no_lf (λ e. omega (arith, part_lf, get_or-eq_default s 0 {n = n + 1 + m + 1} (omega arith)))

    pub is_line_lem : 0 < n → get_or s n 0 ≡ 58 → get_or (take (length s - (n + 1)) (drop (n + 1) s)) m 0 ≡ 13 → get_or (take (length s - (n + 1)) (drop (n + 1) s)) (m + 1) 0 ≡ 10 → line_at s ≡ Some (n, m)
    is_line_lem h x y z = by_value ∙ rw (lt-ltb 0 n h, eq-eqb _ _ x, eq-eqb _ _ (sym (part_at m) ∙ y), eq-eqb _ _ (sym part_lf ∙ z))

-- the last of four tests
fourth : (t u v w : Bool) → (t && (u && (v && w))) ≡ true → w ≡ true
fourth true true true w e = e
fourth true true false w e = absurd (false≢true e)
fourth true false v w e = absurd (false≢true e)
fourth false u v w e = absurd (false≢true e)

-- a line was picked
picked : (t : Bool) (n' m' n m : ℕ) → cond {A = Option (ℕ × ℕ)} t (Some (n', m')) None ≡ Some (n, m) → (t ≡ true) × (n' ≡ n) × (m' ≡ m)
picked true n' m' n m e = let q = some_pair e in (refl, q.0, q.1)
picked false n' m' n m e = absurd (let z : ◌≡◌ {A = ℕ} 0 1 = cc in omega arith)

-- what is not 0 stands within the list
get_or_within : (s : List ℕ) (k x : ℕ) → get_or s k 0 ≡ suc x → k < length s
get_or_within [] k x e = absurd (omega arith)
get_or_within (b ∷ s) zero x e = omega arith
get_or_within (b ∷ s) (suc k) x e = omega (arith, get_or_within s k x e)

-- a line ends within the bytes that it stands first in
pub line_length : (t : List ℕ) (n m : ℕ) → line_at t ≡ Some (n, m) → n + m + 3 ≤ length t
unfolding line_at
line_length t n m e =
    let t₁ : Bool = ltb 0 (name_length t) in
    let t₂ : Bool = eqb (get_or t (name_length t) 0) 58 in
    let t₃ : Bool = eqb (get_or t (name_length t + 1 + value_length t) 0) 13 in
    let t₄ : Bool = eqb (get_or t (name_length t + 1 + value_length t + 1) 0) 10 in
    let p = picked (t₁ && (t₂ && (t₃ && t₄))) (name_length t) (value_length t) n m e in
    omega (arith, get_or_within t (name_length t + 1 + value_length t + 1) 9 (eqb-true _ _ (fourth t₁ t₂ t₃ t₄ p.0)), p.1, p.2)

pub line_fits : (s : List ℕ) (at n m : ℕ) → at ≤ length s → line_at (take (length s - at) (drop at s)) ≡ Some (n, m) → at + (n + m + 3) ≤ length s
line_fits s at n m h e = omega (arith, line_length (drop at s) n m (rw take_rest at e), length-drop at s)
