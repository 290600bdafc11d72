-- `merging::copy_at` meets its contract: after k turns k elements of the piece are pasted over the list. Assumes nothing.
use Prim.Native.Nat.{ℕ}
use native.Mathlib.Numerals.{add-one}
use native.Mathlib.Omega.{arith}
use mathlib.Core.Path.{◌≡◌, ap, ◌∙◌}
use mathlib.Core.List.{List, append_assoc}
use lib.ListN.{length, length-set}
use lib.Seq.{paste, paste-suc, take-length}
use Rattle.distinct.specs.Sorting.{put}
use Rattle.distinct.proofs.merging.copy_at.Goals as goal

-- all of a list pasted is the list put
paste_whole : (s : List ℕ) (at : ℕ) (t : List ℕ) → paste s at t (length t) ≡ put s at t
unfolding put
paste_whole s at t = rw (take-length, append_assoc)

pub loop-k-preserved : goal.loop-k-preserved
loop-k-preserved c =
    let k = c.loop-k.k in
    let a = c.args in (
      omega arith,
      (rw (c.loop-k.invariant.1.0, paste-suc a.out.now a.at a.piece.now k 0 (omega arith) (omega arith), ← add-one k), simp length-set c.loop-k.invariant.1.1),
    )

pub returns : goal.returns
returns c =
    let a = c.args in
    let e : c.loop-k.k ≡ length a.piece.now = omega arith in
    c.loop-k.invariant.1.0 ∙ ap (λ (k : ℕ). paste a.out.now a.at a.piece.now k) e ∙ paste_whole a.out.now a.at a.piece.now
