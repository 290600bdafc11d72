-- Sections of a list put back around parts that were moved. Assumes nothing.
use mathlib.Core.Path.{◌≡◌, sym, ap, ◌∙◌}
use mathlib.Core.List.{List, ◌++◌, append_assoc}
use Prim.Native.Nat.{ℕ, ◌+◌, ◌≤◌}
use native.Mathlib.Omega.{arith}
use lib.ListN.{length, take, drop, length-append}
use lib.Seq.{length-take-le, take_at, drop_at}
use Rattle.edit.specs.Edit.{put_at, over}
use Rattle.edit.proofs.EditLaws.{put_put}
use Rattle.image_edit.proofs.CutLaws.{splice_cut}
use Rattle.edit.proofs.EditLaws.{put_before}

-- a section of a list, by its place and its length
pub part_at : (f m b : List ℕ) (i n : ℕ) {l : List ℕ} → l ≡ f ++ (m ++ b) → length f ≡ i → length m ≡ n → take n (drop i l) ≡ m
part_at f m b i n {l} e p q = ap (λ (x : List ℕ). take n (drop i x)) e ∙ ap (take n) (drop_at f (m ++ b) i p) ∙ take_at m b n q

-- a list with a piece put at a place reaches that place
reaches : (i k : ℕ) (r s : List ℕ) → i ≤ k → k ≤ length s → i ≤ length (put_at k r s)
reaches i k r s h l = omega (arith, h, length-take-le k s l, length-append (take k s) (r ++ drop (k + length r) s))

-- the last part r, the part m before it, then the section q between them and the section d before all
pub merged : (st i j k : ℕ) (d m q r s : List ℕ) → i ≡ st + length d → j ≡ i + length m → k ≡ j + length q → k ≤ length s
    → put_at st d (put_at j q (put_at i m (put_at k r s))) ≡ put_at st (d ++ ((m ++ q) ++ r)) s
merged st i j k d m q r s a b c h =
    let y = put_at k r s in
    let l : i ≤ length s = omega (arith, b, c, h) in
    let n : k ≡ i + length (m ++ q) = omega (arith, b, c, length-append m q) in
    ap (λ (x : ℕ). put_at st d (put_at x q (put_at i m y))) b
    ∙ ap (put_at st d) (put_put i m q y (reaches i k r s (omega (arith, b, c)) h))
    ∙ ap (λ (x : ℕ). put_at st d (put_at i (m ++ q) (put_at x r s))) n
    ∙ ap (put_at st d) (put_before i (m ++ q) r s (omega (arith, n, h)))
    ∙ ap (λ (x : ℕ). put_at st d (put_at x ((m ++ q) ++ r) s)) a
    ∙ put_before st d ((m ++ q) ++ r) s (omega (arith, a, l))

-- g before the section a, b after it, then w from st on: the section replaced by one as long
pub around : (g a a' b y w : List ℕ) (at st : ℕ) {s : List ℕ} → s ≡ g ++ (a ++ (b ++ y)) → length g ≡ at → length a ≡ length a' → st ≡ at + length a + length b
    → put_at at a' (put_at st w s) ≡ over (g ++ (a' ++ (b ++ w))) s
around g a a' b y w at st {s} e p q h =
    let d = drop (st + length w) s in
    let n : length (g ++ (a ++ b)) ≡ st = omega (arith, h, p, length-append g (a ++ b), length-append a b) in
    let t : take st s ≡ g ++ (a ++ b) = ap (take st) (e ∙ shape g a b y) ∙ take_at (g ++ (a ++ b)) y st n in
    let k : st + length w ≡ length (g ++ (a' ++ (b ++ w))) = omega (arith, h, p, q, length-append g (a' ++ (b ++ w)), length-append a' (b ++ w), length-append b w) in
    ap (λ (x : List ℕ). put_at at a' (x ++ (w ++ d))) t
    ∙ ap (put_at at a') (sym (shape g a b (w ++ d)))
    ∙ splice_cut g a a' (b ++ (w ++ d)) at (length a') p q
    ∙ last g a' b w d
    ∙ ap (λ (x : ℕ). (g ++ (a' ++ (b ++ w))) ++ drop x s) k
  where
    shape : (g a b y : List ℕ) → g ++ (a ++ (b ++ y)) ≡ (g ++ (a ++ b)) ++ y
    shape g a b y = simp append_assoc

    last : (g a b w d : List ℕ) → g ++ (a ++ (b ++ (w ++ d))) ≡ (g ++ (a ++ (b ++ w))) ++ d
    last g a b w d = simp append_assoc
