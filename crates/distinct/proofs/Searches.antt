-- A search by halves in places that ascend by their keys. Assumes nothing.
use Prim.Native.Nat.{ℕ, zero, suc, ◌+◌, ◌≤◌, ◌<◌}
use native.Mathlib.Numerals.{add-one}
use native.Mathlib.Omega.{arith}
use mathlib.Core.Path.{◌≡◌, refl, sym, ap, ◌∙◌}
use mathlib.Core.Bool.{Bool, true, false}
use mathlib.Core.List.{List, [], ◌∷◌}
use lib.ListN.{length, get_or, take, drop, drop_of_length-le}
use lib.Seq.{drop-cons}
use Rattle.text.specs.Text.{equal}
use Rattle.record.specs.Record.{bit_of}
use Rattle.ordered_store.specs.Order.{order}
use Rattle.std.specs.declared.cmp.Ordering.TheVariants.{Less, Equal, Greater}
use Rattle.ordered_store.proofs.OrderLaws.{flip, order_itself, order_equal, order_mirror, order_transitive}
use Rattle.distinct.specs.Keys.{key_at}
use Rattle.distinct.specs.Runs.{Sought}
use Rattle.distinct.specs.Sorting.{Ascending, tally}
use Rattle.distinct.proofs.Ascents.{below, tally_first, tally_split}
use Rattle.text.proofs.Sames.{equal_is}

module _ (s : List ℕ) where
  drop_ascending : (i : ℕ) (ps : List ℕ) → Ascending s ps → Ascending s (drop i ps)
  unfolding Ascending
  drop_ascending zero ps a = a
  drop_ascending (suc i) [] a = tt
  drop_ascending (suc i) (p ∷ []) a = drop_ascending i [] tt
  drop_ascending (suc i) (p ∷ q ∷ ps) a = drop_ascending i (q ∷ ps) a.1

  -- the first is less than each that follows
  first_less : (p : ℕ) (ps : List ℕ) (i : ℕ) → Ascending s (p ∷ ps) → i < length ps → order (key_at s p) (key_at s (get_or ps i 0)) ≡ Less
  unfolding Ascending
  first_less p [] i a l = absurd (omega arith)
  first_less p (q ∷ ps) zero a l = a.0
  first_less p (q ∷ ps) (suc i) a l = order_transitive (key_at s p) (key_at s q) (key_at s (get_or ps i 0)) a.0 (first_less q ps i a.1 (omega arith))

  less_other : (k : List ℕ) (p : ℕ) → order (key_at s p) k ≡ Less → bit_of (equal (key_at s p) k) ≡ 0
  less_other k p h = by (equal (key_at s p) k) refl
    where
      by : (t : Bool) → equal (key_at s p) k ≡ t → bit_of (equal (key_at s p) k) ≡ 0
      by true t = absurd (let e : Less ≡ Equal = sym h ∙ ap (λ (x : List ℕ). order x k) (equal_is (key_at s p) k t) ∙ order_itself k in let z : ◌≡◌ {A = ℕ} 0 1 = cc in omega arith)
      by false t = rw t

  -- a key above one of them stands nowhere up to it
  above : (k ps : List ℕ) (i : ℕ) → Ascending s ps → i < length ps → order (key_at s (get_or ps i 0)) k ≡ Less → tally s k (take (suc i) ps) ≡ 0
  unfolding Ascending tally
  above k [] i a l h = absurd (omega arith)
  above k (p ∷ ps) zero a l h = omega (arith, less_other k p h)
  above k (p ∷ []) (suc i) a l h = absurd (omega arith)
  above k (p ∷ q ∷ ps) (suc i) a l h =
      let t = order_transitive (key_at s p) (key_at s (get_or (q ∷ ps) i 0)) k (first_less p (q ∷ ps) i a (omega arith)) h in
      omega (arith, less_other k p t, above k (q ∷ ps) i a.1 (omega arith) h)

  -- the key stands neither before low nor from high on
  pub record Between (k ps : List ℕ) (low high : ℕ) : Type 0 where
    pub order : low ≤ high
    pub within : high ≤ length ps
    pub before : tally s k (take low ps) ≡ 0
    pub behind : tally s k (drop high ps) ≡ 0

  pub between_start : (k ps : List ℕ) → Between k ps 0 (length ps)
  unfolding tally
  between_start k ps = let e : drop (length ps) ps ≡ [] = drop_of_length-le ps (omega arith) in record { order = omega arith; within = omega arith; before = refl; behind = rw e refl }

  module _ (k ps : List ℕ) (low high : ℕ) (b : Between k ps low high) where
    -- nowhere
    pub between_end : high ≤ low → tally s k ps ≡ 0
    between_end h = let e : high ≡ low = omega (arith, b.order) in omega (arith, tally_split s k low ps, b.before, rw e at b.behind)

    module _ (x : Sought s ps) (i : ℕ) (l : low ≤ i) (r : i < high) where
      split : drop i ps ≡ get_or ps i 0 ∷ drop (i + 1) ps
      split = rw (add-one i) (drop-cons ps i 0 (omega (arith, b.within)))

      pub between_less : order (key_at s (get_or ps i 0)) k ≡ Less → Between k ps (i + 1) high
      between_less h = record { order = omega arith; within = b.within; before = rw (add-one i) (above k ps i x.ascending (omega (arith, b.within)) h); behind = b.behind }

      pub between_greater : order (key_at s (get_or ps i 0)) k ≡ Greater → Between k ps low i
      between_greater h =
          let m : order k (key_at s (get_or ps i 0)) ≡ Less = order_mirror (key_at s (get_or ps i 0)) k ∙ ap flip h in
          let a = drop_ascending i ps x.ascending in
          record { order = l; within = omega (arith, b.within); before = b.before; behind = rw split (below s k (get_or ps i 0) (drop (i + 1) ps) m (rw split at a)) }

      pub between_met : order (key_at s (get_or ps i 0)) k ≡ Equal → 1 ≤ tally s k ps
      between_met h = omega (arith, tally_split s k i ps, ap (tally s k) split, tally_first s (get_or ps i 0) k (drop (i + 1) ps) (order_equal (key_at s (get_or ps i 0)) k h))
