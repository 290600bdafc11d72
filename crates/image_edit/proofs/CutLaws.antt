-- A list cut into sections: some of them replaced, one edit after another, make the list of the new sections. Assumes nothing.
use mathlib.Core.Path.{◌≡◌, refl, sym, ap, ◌∙◌}
use mathlib.Core.List.{List, ◌++◌, append_assoc}
use Prim.Native.Nat.{ℕ, ◌+◌}
use native.Mathlib.Omega.{arith}
use lib.ListN.{length, drop, length-append}
use lib.Seq.{take_at, drop_at, drop-drop}
use Rattle.edit.specs.Edit.{over, put_at, spliced}

-- f before the section m, b after it
pub splice_cut : (f m m' b : List ℕ) (at n : ℕ) → length f ≡ at → length m ≡ n → spliced at n m' (f ++ (m ++ b)) ≡ f ++ (m' ++ b)
splice_cut f m m' b at n p q =
    let e : drop (at + n) (f ++ (m ++ b)) ≡ b = sym (drop-drop n at (f ++ (m ++ b))) ∙ ap (drop n) (drop_at f (m ++ b) at p) ∙ drop_at m b n q in
    rw (take_at f (m ++ b) at p, e)

-- a section of the used bytes, replaced by one as long: the bytes past the used ones stay
pub put_cut : (f m m' b s : List ℕ) (at : ℕ) → length f ≡ at → length m ≡ length m' → put_at at m' (over (f ++ (m ++ b)) s) ≡ over (f ++ (m' ++ b)) s
put_cut f m m' b s at p q =
    let y = drop (length (f ++ (m' ++ b))) s in
    let n : length (f ++ (m ++ b)) ≡ length (f ++ (m' ++ b)) = same_size f m m' b q in
    rw n (ap (put_at at m') (shape f m b y) ∙ splice_cut f m m' (b ++ y) at (length m') p q ∙ sym (shape f m' b y))
  where
    shape : (a b c d : List ℕ) → (a ++ (b ++ c)) ++ d ≡ a ++ (b ++ (c ++ d))
    shape a b c d = simp append_assoc

    same_size : (a b c d : List ℕ) → length b ≡ length c → length (a ++ (b ++ d)) ≡ length (a ++ (c ++ d))
    same_size a b c d h = simp length-append (omega arith)

-- ---- three sections: the first, the third and the fifth

module _ (g a a' b c c' d e e' f r s : List ℕ) (k m n : ℕ) (p : k ≡ length g) (q : length a ≡ length a') (v : m ≡ k + length a + length b) (w : length c ≡ length c') (x : n ≡ m + length c + length d) where
  pub three_edits : put_at k a' (put_at m c' (over (spliced n (length e) e' (g ++ ((a ++ (b ++ (c ++ (d ++ (e ++ f))))) ++ r))) s))
      ≡ over (g ++ ((a' ++ (b ++ (c' ++ (d ++ (e' ++ f))))) ++ r)) s
  three_edits =
      ap (λ (u : List ℕ). put_at k a' (put_at m c' (over (spliced n (length e) e' u) s))) (fifth g a b c d e f r)
      ∙ ap (λ (u : List ℕ). put_at k a' (put_at m c' (over u s))) (splice_cut (g ++ (a ++ (b ++ (c ++ d)))) e e' (f ++ r) n (length e) (simp length-append (omega arith)) refl)
      ∙ ap (λ (u : List ℕ). put_at k a' (put_at m c' (over u s))) (third g a b c d e' f r)
      ∙ ap (put_at k a') (put_cut (g ++ (a ++ b)) c c' (d ++ (e' ++ (f ++ r))) s m (simp length-append (omega arith)) w)
      ∙ ap (λ (u : List ℕ). put_at k a' (over u s)) (first g a b c' d e' f r)
      ∙ put_cut g a a' (b ++ (c' ++ (d ++ (e' ++ (f ++ r))))) s k (sym p) q
      ∙ ap (λ (u : List ℕ). over u s) (whole g a' b c' d e' f r)
    where
      fifth : (g a b c d e f r : List ℕ) → g ++ ((a ++ (b ++ (c ++ (d ++ (e ++ f))))) ++ r) ≡ (g ++ (a ++ (b ++ (c ++ d)))) ++ (e ++ (f ++ r))
      fifth g a b c d e f r = simp append_assoc

      third : (g a b c d e f r : List ℕ) → (g ++ (a ++ (b ++ (c ++ d)))) ++ (e ++ (f ++ r)) ≡ (g ++ (a ++ b)) ++ (c ++ (d ++ (e ++ (f ++ r))))
      third g a b c d e f r = simp append_assoc

      first : (g a b c d e f r : List ℕ) → (g ++ (a ++ b)) ++ (c ++ (d ++ (e ++ (f ++ r)))) ≡ g ++ (a ++ (b ++ (c ++ (d ++ (e ++ (f ++ r))))))
      first g a b c d e f r = simp append_assoc

      whole : (g a b c d e f r : List ℕ) → g ++ (a ++ (b ++ (c ++ (d ++ (e ++ (f ++ r)))))) ≡ g ++ ((a ++ (b ++ (c ++ (d ++ (e ++ f))))) ++ r)
      whole g a b c d e f r = simp append_assoc
