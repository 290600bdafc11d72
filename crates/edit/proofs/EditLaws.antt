-- Laws of lists that the in-place edits turn on. Assumes nothing.
use mathlib.Core.Path.{◌≡◌, sym, ap, ap₂, subst, ◌∙◌}
use mathlib.Core.List.{List, [], ◌++◌, append_assoc}
use Prim.Native.Nat.{ℕ, ◌+◌, ◌-◌, ◌≤◌}
use native.Mathlib.Nat.{add-zero, add_assoc}
use native.Mathlib.Omega.{arith}
use lib.ListN.{length, take, drop, length-append, length-drop, take-append-drop}
use lib.Seq.{length-take-le, take_at, drop_at, take-take, take-append-le, drop-append-add, drop-drop}
use Rattle.std.proofs.lemmas.List.{drop-take}
use Rattle.std.specs.List.{copy_within}
use Rattle.edit.specs.Edit.{put_at, over, spliced, tail_moved}

module _ (s piece : List ℕ) (used at old : ℕ) (a : at + old ≤ used) (b : used ≤ length s) (d : used - old + length piece ≤ length s) where
  -- the tail put where it goes, and then the piece put before it, make the spliced list over the front of the store
  pub replace_law : put_at at piece (tail_moved used at old (length piece) s) ≡ over (spliced at old piece (take used s)) s
  replace_law =
      let n = used - (at + old) in
      let t = take n (drop (at + old) s) in
      let k : length t ≡ n = length-take-le n (drop (at + old) s) (simp length-drop (omega arith)) in
      let u : used ≡ at + old + n = omega arith in
      let x : drop (at + old) (take used s) ≡ t = ap (λ (m : ℕ). drop (at + old) (take m s)) u ∙ drop-take (at + old) n s in
      let y : take at (take used s) ≡ take at s = take-take at used s (omega arith) in
      let z : length (take at s) ≡ at = length-take-le at s (omega arith) in
      let w : length (take (at + length piece) s) ≡ at + length piece = length-take-le (at + length piece) s (omega arith) in
      let v : take at (take (at + length piece) s) ≡ take at s = take-take at (at + length piece) s (omega arith) in
      rw (x, y, length-append, length-append, z, k, take-append-le at (take (at + length piece) s) (t ++ drop (at + length piece + n) s) (simp w (omega arith)), v, drop_at (take (at + length piece) s) (t ++ drop (at + length piece + n) s) (at + length piece) w, append_assoc, append_assoc, add_assoc)

-- ---- pieces written one after another

-- nothing written
pub put_nothing : (at : ℕ) (bytes : List ℕ) → put_at at [] bytes ≡ bytes
put_nothing at bytes = rw (add-zero, take-append-drop)

-- bytes put where they stand
pub put_same : (at n : ℕ) (bytes : List ℕ) → at + n ≤ length bytes → bytes ≡ put_at at (take n (drop at bytes)) bytes
put_same at n bytes h =
    let k : length (take n (drop at bytes)) ≡ n = length-take-le n (drop at bytes) (simp length-drop (omega arith)) in
    rw (k, ← drop-drop n at bytes, take-append-drop, take-append-drop)

-- a piece, and the next one after it
pub put_put : (at : ℕ) (a b bytes : List ℕ) → at ≤ length bytes → put_at (at + length a) b (put_at at a bytes) ≡ put_at at (a ++ b) bytes
put_put at a b bytes h =
    let p : List ℕ = take at bytes ++ a in
    let d : List ℕ = drop (at + length a) bytes in
    let z : length p ≡ at + length a = length-append (take at bytes) a ∙ ap (λ (n : ℕ). n + length a) (length-take-le at bytes h) in
    let w : put_at at a bytes ≡ p ++ d = sym (append_assoc (take at bytes) a d) in
    let x : take (at + length a) (p ++ d) ≡ p = take_at p d (at + length a) z in
    let y : drop (at + length a + length b) (p ++ d) ≡ drop (length b) d = ap (λ (n : ℕ). drop (n + length b) (p ++ d)) (sym z) ∙ drop-append-add p d (length b) in
    let k : at + length a + length b ≡ at + length (a ++ b) = omega (arith, length-append a b) in
    let v : drop (length b) d ≡ drop (at + length (a ++ b)) bytes = drop-drop (length b) (at + length a) bytes ∙ ap (λ (n : ℕ). drop n bytes) k in
    rw (w, x, y, v, append_assoc, append_assoc)

-- a piece put just before another
pub put_before : (at : ℕ) (a b bytes : List ℕ) → at + length a ≤ length bytes → put_at at a (put_at (at + length a) b bytes) ≡ put_at at (a ++ b) bytes
put_before at a b bytes h =
    let n : ℕ = at + length a in
    let d : List ℕ = drop (n + length b) bytes in
    let z : length (take n bytes) ≡ n = length-take-le n bytes h in
    let x : take at (take n bytes ++ (b ++ d)) ≡ take at bytes = take-append-le at (take n bytes) (b ++ d) (omega arith) ∙ take-take at n bytes (omega arith) in
    let y : drop n (take n bytes ++ (b ++ d)) ≡ b ++ d = drop_at (take n bytes) (b ++ d) n z in
    let k : n + length b ≡ at + length (a ++ b) = omega (arith, length-append a b) in
    rw (x, y, ← k, append_assoc a b d)

-- what is past the piece is what it was
pub drop_put : (to m : ℕ) (e s : List ℕ) → to ≤ length s → to + length e ≤ m → drop m (put_at to e s) ≡ drop m s
drop_put to m e s h l =
    let z : length (take to s ++ e) ≡ to + length e = length-append (take to s) e ∙ ap (λ (k : ℕ). k + length e) (length-take-le to s h) in
    let k : m ≡ length (take to s ++ e) + (m - (to + length e)) = omega arith in
    let j : to + length e + (m - (to + length e)) ≡ m = omega arith in
    ap (drop m) (sym (append_assoc (take to s) e (drop (to + length e) s)))
    ∙ ap (λ (i : ℕ). drop i ((take to s ++ e) ++ drop (to + length e) s)) k
    ∙ drop-append-add (take to s ++ e) (drop (to + length e) s) (m - (to + length e))
    ∙ drop-drop (m - (to + length e)) (to + length e) s
    ∙ ap (λ (i : ℕ). drop i s) j

-- ---- bytes moved to another place in two parts: first the part that the other would be written over

-- as many bytes as before
length_put : (at : ℕ) (a s : List ℕ) → at + length a ≤ length s → length (put_at at a s) ≡ length s
length_put at a s h = rw (length-append, length-append, length-drop, length-take-le at s (omega arith)) (omega arith)

-- std's `copy_within` of n bytes
copied : (s : List ℕ) (from to n : ℕ) → from + n ≤ length s → copy_within s from (from + n) to ≡ put_at to (take n (drop from s)) s
copied s from to n f =
    let k : from + n - from ≡ n = omega arith in
    let l : length (take n (drop from s)) ≡ n = length-take-le n (drop from s) (simp length-drop (omega arith)) in
    rw (k, l, append_assoc)

module _ (s : List ℕ) (from to h n : ℕ) (u : h ≤ n) (f : from + n ≤ length s) where
  -- the two parts are the whole
  both : take h (drop from s) ++ take (n - h) (drop (from + h) s) ≡ take n (drop from s)
  both =
      let k : n ≡ h + (n - h) = omega arith in
      ap (λ c. take h (drop from s) ++ take (n - h) c) (sym (drop-drop h from s))
      ∙ ap₂ (λ a b. a ++ b) (sym (take-take h n (drop from s) u)) (sym (drop-take h (n - h) (drop from s)) ∙ ap (λ j. drop h (take j (drop from s))) (sym k))
      ∙ take-append-drop h (take n (drop from s))

  low_length : length (take h (drop from s)) ≡ h
  low_length = length-take-le h (drop from s) (simp length-drop (omega arith))

  high_length : length (take (n - h) (drop (from + h) s)) ≡ n - h
  high_length = length-take-le (n - h) (drop (from + h) s) (simp length-drop (omega arith))

  -- down: the lowest bytes first
  pub low_first : to + n ≤ length s → to ≤ from → copy_within (copy_within s from (from + h) to) (from + h) (from + n) (to + h) ≡ put_at to (take n (drop from s)) s
  low_first t e =
      let a = take h (drop from s) in
      let r = put_at to a s in
      let k : from + n ≡ from + h + (n - h) = omega arith in
      let m : length r ≡ length s = length_put to a s (omega (arith, low_length)) in
      let d : drop (from + h) r ≡ drop (from + h) s = drop_put to (from + h) a s (omega arith) (omega (arith, low_length)) in
      ap (λ b. copy_within b (from + h) (from + n) (to + h)) (copied s from to h (omega arith))
      ∙ ap (λ j. copy_within r (from + h) j (to + h)) k
      ∙ copied r (from + h) (to + h) (n - h) (omega (arith, m))
      ∙ ap (λ c. put_at (to + h) (take (n - h) c) r) d
      ∙ ap (λ j. put_at (to + j) (take (n - h) (drop (from + h) s)) r) (sym low_length)
      ∙ put_put to a (take (n - h) (drop (from + h) s)) s (omega arith)
      ∙ ap (λ c. put_at to c s) both

  -- up: the highest first
  pub high_first : to + n ≤ length s → from ≤ to → copy_within (copy_within s (from + h) (from + n) (to + h)) from (from + h) to ≡ put_at to (take n (drop from s)) s
  high_first t e =
      let a = take h (drop from s) in
      let b = take (n - h) (drop (from + h) s) in
      let r = put_at (to + h) b s in
      let k : from + n ≡ from + h + (n - h) = omega arith in
      let m : length r ≡ length s = length_put (to + h) b s (omega (arith, high_length)) in
      let w : length (take (to + h) s) ≡ to + h = length-take-le (to + h) s (omega arith) in
      let c : take (from + h) r ≡ take (from + h) s = take-append-le (from + h) (take (to + h) s) (b ++ drop (to + h + length b) s) (omega (arith, w)) ∙ take-take (from + h) (to + h) s (omega arith) in
      let d : take h (drop from r) ≡ a = sym (drop-take from h r) ∙ ap (drop from) c ∙ drop-take from h s in
      ap (λ j. copy_within (copy_within s (from + h) j (to + h)) from (from + h) to) k
      ∙ ap (λ o. copy_within o from (from + h) to) (copied s (from + h) (to + h) (n - h) (omega arith))
      ∙ copied r from to h (omega (arith, m))
      ∙ ap (λ c. put_at to c r) d
      ∙ ap (λ j. put_at to a (put_at (to + j) b s)) (sym low_length)
      ∙ put_before to a b s (omega (arith, low_length))
      ∙ ap (λ c. put_at to c s) both

-- a piece was written at a place: the place after it, and the bytes after
abbrev pub Wrote : ℕ → List ℕ → List ℕ → ℕ → List ℕ → Type 0
Wrote at a bytes next after = (next ≡ at + length a) × (after ≡ put_at at a bytes)

pub wrote_then : (at : ℕ) (a b bytes : List ℕ) {m n : ℕ} {o₁ o₂ : List ℕ} → at ≤ length bytes → Wrote at a bytes m o₁ → Wrote m b o₁ n o₂ → Wrote at (a ++ b) bytes n o₂
wrote_then at a b bytes {m} {n} {o₁} {o₂} h p q = (
  omega (arith, p.0, q.0, length-append a b),
  q.1 ∙ ap (λ (k : ℕ). put_at k b o₁) p.0 ∙ ap (put_at (at + length a) b) p.1 ∙ put_put at a b bytes h,
)

-- the same piece by another name
pub wrote_as : (at : ℕ) (bytes : List ℕ) {m : ℕ} {a b o : List ℕ} → a ≡ b → Wrote at a bytes m o → Wrote at b bytes m o
wrote_as at bytes {m} {a} {b} {o} e w = subst (λ (s : List ℕ). Wrote at s bytes m o) e w

-- three pieces
pub wrote_three : (at : ℕ) (a b c bytes : List ℕ) {m n o : ℕ} {x y z : List ℕ} → at ≤ length bytes → Wrote at a bytes m x → Wrote m b x n y → Wrote n c y o z
    → Wrote at (a ++ (b ++ c)) bytes o z
wrote_three at a b c bytes {m} {n} {o} {x} {y} {z} h p q r =
    let w : Wrote at ((a ++ b) ++ c) bytes o z = wrote_then at (a ++ b) c bytes h (wrote_then at a b bytes h p q) r in
    rw (sym (append_assoc a b c)) w
