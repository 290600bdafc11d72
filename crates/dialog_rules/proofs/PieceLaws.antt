-- Parts of a block: none is longer than the block, and the value of a line has only bytes that are allowed in values. Assumes nothing.
use Prim.Native.Nat.{ℕ, zero, suc, ◌+◌, ◌≤◌}
use native.Mathlib.Omega.{arith}
use mathlib.Core.Path.{◌≡◌, refl, subst}
use mathlib.Core.Bool.{Bool, true, false, cond, ◌&&◌}
use mathlib.Core.List.{List, [], ◌∷◌}
use lib.ListN.{length, get_or, take, drop, length-take, length-drop}
use lib.Dec.{ltb, eqb}
use Rattle.std.proofs.lemmas.Bool.{and_parts}
use Rattle.std.specs.Prelude.{None, Option, Some}
use Rattle.limits.proofs.Laws.{some_pair}
use Rattle.text.specs.Text.{is_value, span, all, blanks, text_end, trimmed, Piece}
use Rattle.msg.specs.Block.{name_length, value_length, line_at, HeaderLine, named, with_line, tail_of, lines_from, lines_of, first_named, all_named, value_of, value_named}
use Rattle.codec.proofs.CodecLaws.{GoodAll}

-- at most k bytes, each of them allowed in values
abbrev pub Bounded : ℕ → List ℕ → Type 0
Bounded k t = (length t ≤ k) × (all is_value t ≡ true)

-- ---- bytes that pass a test

-- the first bytes of a text that passes pass
pub all_take : (p : ℕ → Bool) (k : ℕ) (s : List ℕ) → all p s ≡ true → all p (take k s) ≡ true
unfolding all
all_take p zero s e = refl
all_take p (suc k) [] e = refl
all_take p (suc k) (b ∷ s) e = rw ((and_parts (p b) (all p s) e).0) (all_take p k s (and_parts (p b) (all p s) e).1)

-- the bytes after the first of a text that passes pass
pub all_drop : (p : ℕ → Bool) (k : ℕ) (s : List ℕ) → all p s ≡ true → all p (drop k s) ≡ true
unfolding all
all_drop p zero s e = e
all_drop p (suc k) [] e = refl
all_drop p (suc k) (b ∷ s) e = all_drop p k s (and_parts (p b) (all p s) e).1

-- a run passes
span_passes : (p : ℕ → Bool) (s : List ℕ) → all p (take (span p s) s) ≡ true
unfolding all span
span_passes p [] = refl
span_passes p (b ∷ s) = by (p b) refl (span_passes p s)
  where
    by : (t : Bool) → p b ≡ t → all p (take (span p s) s) ≡ true → all p (take (cond t (suc (span p s)) 0) (b ∷ s)) ≡ true
    by true e more = rw e more
    by false e more = refl

-- ---- parts of a text

-- the first bytes of a bounded text
pub take_bounded : (k n : ℕ) (s : List ℕ) → Bounded k s → Bounded k (take n s)
take_bounded k n s h = (omega (arith, h.0, length-take n s), all_take is_value n s h.1)

-- the bytes after the first of a bounded text
pub drop_bounded : (k n : ℕ) (s : List ℕ) → Bounded k s → Bounded k (drop n s)
drop_bounded k n s h = (omega (arith, h.0, length-drop n s), all_drop is_value n s h.1)

-- a bounded text without blanks at both ends
pub trimmed_bounded : (k : ℕ) (s : List ℕ) → Bounded k s → Bounded k (trimmed s)
unfolding trimmed
trimmed_bounded k s h = take_bounded k (text_end (drop (blanks s) s)) (drop (blanks s) s) (drop_bounded k (blanks s) s h)

-- ---- the lines

-- the name and the value of a line are the runs that stand there
line_runs : (t : Bool) (n' m' n m : ℕ) → ◌≡◌ {A = Option (ℕ × ℕ)} (cond t (Some (n', m')) None) (Some (n, m)) → (n' ≡ n) × (m' ≡ m)
line_runs true n' m' n m e = some_pair e
line_runs false n' m' n m e = absurd (let z : ◌≡◌ {A = ℕ} 0 1 = cc in omega arith)

-- the bytes of a line's value are allowed in values
value_passes : (s : List ℕ) (n m : ℕ) → line_at s ≡ Some (n, m) → all is_value (take m (drop (n + 1) s)) ≡ true
unfolding line_at
value_passes s n m e =
    let t : Bool = ltb 0 (name_length s) && (eqb (get_or s (name_length s) 0) 58 && (eqb (get_or s (name_length s + 1 + value_length s) 0) 13 && eqb (get_or s (name_length s + 1 + value_length s + 1) 0) 10)) in
    let p = line_runs t (name_length s) (value_length s) n m e in
    rw (← p.0, ← p.1) (span_passes is_value (drop (name_length s + 1) s))

-- a line whose value is bounded
abbrev pub BoundedLine : ℕ → HeaderLine → Type 0
BoundedLine k l = Bounded k l.value.text

-- the value of every line
lines_bounded : (k : ℕ) (s : List ℕ) (skip at : ℕ) → length s ≤ k → GoodAll (BoundedLine k) (lines_from skip at s)
unfolding lines_from
lines_bounded k [] skip at h = tt
lines_bounded k (b ∷ s) zero at h = by (line_at (b ∷ s)) refl (λ (j : ℕ). lines_bounded k s j (at + 1) (omega arith))
  where
    by : (l : Option (ℕ × ℕ)) → line_at (b ∷ s) ≡ l → ((j : ℕ) → GoodAll (BoundedLine k) (lines_from j (at + 1) s)) → GoodAll (BoundedLine k) (with_line l at (b ∷ s) (lines_from (tail_of l) (at + 1) s))
    by None e more = tt
    by (Some (n, m)) e more =
        let v : List ℕ = take m (drop (n + 1) (b ∷ s)) in
        let c : Bounded k v = (omega (arith, length-take m (drop (n + 1) (b ∷ s)), length-drop (n + 1) (b ∷ s)), value_passes (b ∷ s) n m e) in
        (trimmed_bounded k v c, more (n + m + 2))
lines_bounded k (b ∷ s) (suc skip) at h = lines_bounded k s skip (at + 1) (omega arith)

-- what holds of every line holds of the first of a name
first_of_lem : (P : HeaderLine → Type 0) (asked : List ℕ) (ls : List HeaderLine) (f : HeaderLine) → GoodAll P ls → first_named asked ls ≡ Some f → P f
unfolding first_named
first_of_lem P asked [] f h e = absurd (let z : ◌≡◌ {A = ℕ} 0 1 = cc in omega arith)
first_of_lem P asked (l ∷ ls) f h e = by (named asked l.name) e (first_of_lem P asked ls f h.1)
  where
    by : (t : Bool) → cond t (Some l) (first_named asked ls) ≡ Some f → (first_named asked ls ≡ Some f → P f) → P f
    by true e more = let q : l ≡ f = cc in subst P q h.0
    by false e more = more e

-- what holds of every line holds of those of a name
all_of : (P : HeaderLine → Type 0) (asked : List ℕ) (ls : List HeaderLine) → GoodAll P ls → GoodAll P (all_named asked ls)
unfolding all_named
all_of P asked [] h = tt
all_of P asked (l ∷ ls) h = by (named asked l.name) (all_of P asked ls h.1)
  where
    by : (t : Bool) → GoodAll P (all_named asked ls) → GoodAll P (cond t (l ∷ all_named asked ls) (all_named asked ls))
    by true more = (h.0, more)
    by false more = more

-- the value of a name in a block
pub value_bounded : (asked block : List ℕ) (p : Piece) → value_named asked block ≡ Some p → Bounded (length block) p.text
value_bounded asked block p e = by (first_named asked (lines_of block)) refl e
  where
    by : (o : Option HeaderLine) → first_named asked (lines_of block) ≡ o → value_of o ≡ Some p → Bounded (length block) p.text
    by None q e = absurd (let z : ◌≡◌ {A = ℕ} 0 1 = cc in omega arith)
    by (Some l) q e =
        let r : l.value ≡ p = cc in
        subst (λ (x : Piece). Bounded (length block) x.text) r (first_of_lem (BoundedLine (length block)) asked (lines_of block) l (lines_bounded (length block) block 0 0 (omega arith)) q)

-- the values of all lines of a name
pub values_bounded : (asked block : List ℕ) → GoodAll (BoundedLine (length block)) (all_named asked (lines_of block))
values_bounded asked block = all_of (BoundedLine (length block)) asked (lines_of block) (lines_bounded (length block) block 0 0 (omega arith))
