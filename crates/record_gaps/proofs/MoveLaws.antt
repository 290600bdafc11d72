-- Pieces put into a list one after another: which parts of the list they leave, and in which order they may come. Assumes nothing.
use mathlib.Core.Path.{◌≡◌, sym, ap, ◌∙◌}
use mathlib.Core.List.{List, ◌++◌, append_assoc}
use Prim.Native.Nat.{ℕ, ◌+◌, ◌-◌, ◌≤◌}
use native.Mathlib.Omega.{arith}
use lib.ListN.{length, take, drop, length-append, length-drop}
use lib.Seq.{length-take-le, take-take, take-append-le, drop-append-le, take-append-add}
use Rattle.edit.specs.Edit.{put_at}
use Rattle.std.proofs.lemmas.List.{drop-take}
use Rattle.edit.proofs.EditLaws.{drop_put}

-- the front of the list up to the end of the piece
front_length : (i : ℕ) (a s : List ℕ) → i ≤ length s → length (take i s ++ a) ≡ i + length a
front_length i a s h = length-append (take i s) a ∙ ap (λ (n : ℕ). n + length a) (length-take-le i s h)

-- what stands before the piece
pub take_put : (i j : ℕ) (a s : List ℕ) → i ≤ length s → j ≤ i → take j (put_at i a s) ≡ take j s
take_put i j a s h k =
    let n : j ≤ length (take i s) = omega (arith, k, length-take-le i s h) in
    take-append-le j (take i s) (a ++ drop (i + length a) s) n ∙ take-take j i s k

-- a part before the piece
pub part_put : (i j n : ℕ) (a s : List ℕ) → i ≤ length s → j + n ≤ i → take n (drop j (put_at i a s)) ≡ take n (drop j s)
part_put i j n a s h k =
    sym (drop-take j n (put_at i a s)) ∙ ap (drop j) (take_put i (j + n) a s h k) ∙ drop-take j n s

-- pieces apart from each other may come in either order
pub put_swap : (i j : ℕ) (a b s : List ℕ) → i + length a ≤ j → j ≤ length s → put_at j b (put_at i a s) ≡ put_at i a (put_at j b s)
put_swap i j a b s h k =
    let n = i + length a in
    let d = drop (j + length b) s in
    let l : i ≤ length s = omega (arith, h, k) in
    let x : drop (j + length b) (put_at i a s) ≡ d = drop_put i (j + length b) a s l (omega (arith, h)) in
    let y : take i (put_at j b s) ≡ take i s = take_put j i b s k (omega (arith, h)) in
    let z : drop n (put_at j b s) ≡ drop n (take j s) ++ (b ++ d) = drop-append-le n (take j s) (b ++ d) (omega (arith, h, length-take-le j s k)) in
    let m : j ≡ length (take i s ++ a) + (j - n) = omega (arith, h, front_length i a s l) in
    let q : n + (j - n) ≡ j = omega (arith, h) in
    let w : take j (put_at i a s) ≡ take i s ++ (a ++ drop n (take j s)) =
    ap (take j) (sym (append_assoc (take i s) a (drop n s)))
    ∙ ap (λ (e : ℕ). take e ((take i s ++ a) ++ drop n s)) m
    ∙ take-append-add (take i s ++ a) (drop n s) (j - n)
    ∙ append_assoc (take i s) a (take (j - n) (drop n s))
    ∙ ap (λ (e : List ℕ). take i s ++ (a ++ e)) (sym (drop-take n (j - n) s) ∙ ap (λ (e : ℕ). drop n (take e s)) q) in
    rw (x, y, z, w, append_assoc, append_assoc)

-- ---- two parts moved to their places

-- m bytes from `from` to `to`, n bytes from `behind` to `end`; x is the list after the first move
module _ (s : List ℕ) (from to m behind end n : ℕ) (a : from + m ≤ behind) (b : behind + n ≤ length s) (c : to + m ≤ end) (d : end + n ≤ length s) where
  between_length : length (take m (drop from s)) ≡ m
  between_length = length-take-le m (drop from s) (simp length-drop (omega (arith, a, b)))

  pub left_first : (x : List ℕ) → to ≤ from → x ≡ put_at to (take m (drop from s)) s → put_at end (take n (drop behind x)) x ≡ put_at to (take m (drop from s)) (put_at end (take n (drop behind s)) s)
  left_first x h e =
      let p = take m (drop from s) in
      ap (λ (l : List ℕ). put_at end (take n (drop behind l)) l) e
      ∙ ap (λ (l : List ℕ). put_at end (take n l) (put_at to p s)) (drop_put to behind p s (omega (arith, c, d)) (omega (arith, a, h, between_length)))
      ∙ put_swap to end p (take n (drop behind s)) s (omega (arith, c, between_length)) (omega (arith, d))

  pub right_first : (x : List ℕ) → from ≤ to → x ≡ put_at end (take n (drop behind s)) s → put_at to (take m (drop from x)) x ≡ put_at to (take m (drop from s)) (put_at end (take n (drop behind s)) s)
  right_first x h e =
      let p = take n (drop behind s) in
      ap (λ (l : List ℕ). put_at to (take m (drop from l)) l) e
      ∙ ap (λ (l : List ℕ). put_at to l (put_at end p s)) (part_put end from m p s (omega (arith, d)) (omega (arith, c, h)))
