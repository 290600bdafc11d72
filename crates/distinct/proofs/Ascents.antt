-- Places by their keys: what a merge of two ascending runs keeps, and that no key stands twice in an ascending run. Assumes nothing.
use Prim.Native.Nat.{ℕ, zero, suc, ◌+◌, ◌≤◌, ◌<◌}
use native.Mathlib.Omega.{arith}
use mathlib.Core.Path.{◌≡◌, refl, sym, ap, subst, ◌∙◌}
use mathlib.Core.Bool.{Bool, true, false}
use mathlib.Core.List.{List, [], ◌∷◌, ◌++◌}
use lib.ListN.{length, get_or, take, drop, take-append-drop}
use Rattle.text.specs.Text.{equal}
use Rattle.record.specs.Record.{bit_of}
use Rattle.ordered_store.specs.Order.{order}
use Rattle.std.specs.declared.cmp.Ordering.TheVariants.{Less, Equal}
use Rattle.ordered_store.proofs.OrderLaws.{order_itself, order_transitive}
use Rattle.record_walk.specs.Walk.{At}
use Rattle.distinct.specs.Keys.{key_at}
use Rattle.distinct.specs.Sorting.{EachAt, Ascending, tally}
use Rattle.record.proofs.MapLaws.{bit_le}
use Rattle.text.proofs.Sames.{equal_same, equal_is}

module _ (s : List ℕ) where
  -- ---- each place

  pub each_append : (xs ys : List ℕ) → EachAt s xs → EachAt s ys → EachAt s (xs ++ ys)
  unfolding EachAt
  each_append [] ys h k = k
  each_append (x ∷ xs) ys h k = (h.0, each_append xs ys h.1 k)

  pub each_left : (xs ys : List ℕ) → EachAt s (xs ++ ys) → EachAt s xs
  unfolding EachAt
  each_left [] ys h = tt
  each_left (x ∷ xs) ys h = (h.0, each_left xs ys h.1)

  pub each_right : (xs ys : List ℕ) → EachAt s (xs ++ ys) → EachAt s ys
  unfolding EachAt
  each_right [] ys h = h
  each_right (x ∷ xs) ys h = each_right xs ys h.1

  pub each_one : (p : ℕ) → At s p → EachAt s (p ∷ [])
  unfolding EachAt
  each_one p h = (h, tt)

  pub each_at : (ps : List ℕ) (i : ℕ) → EachAt s ps → i < length ps → At s (get_or ps i 0)
  unfolding EachAt
  each_at [] i h l = absurd (omega arith)
  each_at (p ∷ ps) zero h l = h.0
  each_at (p ∷ ps) (suc i) h l = each_at ps i h.1 (omega arith)

  -- ---- how often a key stands

  pub tally_append : (k xs ys : List ℕ) → tally s k (xs ++ ys) ≡ tally s k xs + tally s k ys
  unfolding tally
  tally_append k [] ys = omega arith
  tally_append k (x ∷ xs) ys = let e = tally_append k xs ys in omega arith

  pub tally_split : (k : List ℕ) (i : ℕ) (xs : List ℕ) → tally s k (take i xs) + tally s k (drop i xs) ≡ tally s k xs
  tally_split k i xs = sym (tally_append k (take i xs) (drop i xs)) ∙ ap (tally s k) (take-append-drop i xs)

  -- ---- ascending runs

  -- a place that comes before the rest of one run goes to the end of what both have in front
  pub between : (zs : List ℕ) (x : ℕ) (xs : List ℕ) (y : ℕ) (ys : List ℕ) → Ascending s (zs ++ (x ∷ xs)) → Ascending s (zs ++ (y ∷ ys)) → order (key_at s x) (key_at s y) ≡ Less → Ascending s (zs ++ (x ∷ y ∷ ys))
  unfolding Ascending
  between [] x xs y ys h k l = (l, k)
  between (a ∷ []) x xs y ys h k l = (h.0, (l, k.1))
  between (a ∷ b ∷ zs) x xs y ys h k l = (h.0, between (b ∷ zs) x xs y ys h.1 k.1 l)

  -- a place has no key that is less than its own
  other : (k : List ℕ) (q : ℕ) → order k (key_at s q) ≡ Less → bit_of (equal (key_at s q) k) ≡ 0
  other k q h = by (equal (key_at s q) k) refl
    where
      by : (t : Bool) → equal (key_at s q) k ≡ t → bit_of (equal (key_at s q) k) ≡ 0
      by true t = absurd (let e : Less ≡ Equal = sym h ∙ ap (order k) (equal_is (key_at s q) k t) ∙ order_itself k in let z : ◌≡◌ {A = ℕ} 0 1 = cc in omega arith)
      by false t = rw t

  -- a key below the first of an ascending run stands nowhere in it
  pub below : (k : List ℕ) (q : ℕ) (ps : List ℕ) → order k (key_at s q) ≡ Less → Ascending s (q ∷ ps) → tally s k (q ∷ ps) ≡ 0
  unfolding tally Ascending
  below k q [] h a = omega (arith, other k q h)
  below k q (r ∷ ps) h a = omega (arith, other k q h, below k r ps (order_transitive k (key_at s q) (key_at s r) h a.0) a.1)

  -- no key stands twice in an ascending run
  pub once : (k ps : List ℕ) → Ascending s ps → tally s k ps ≤ 1
  unfolding tally Ascending
  once k [] a = omega arith
  once k (p ∷ []) a = omega (arith, bit_le (equal (key_at s p) k))
  once k (p ∷ q ∷ ps) a = by (equal (key_at s p) k) refl (once k (q ∷ ps) a.1)
    where
      by : (t : Bool) → equal (key_at s p) k ≡ t → tally s k (q ∷ ps) ≤ 1 → bit_of (equal (key_at s p) k) + tally s k (q ∷ ps) ≤ 1
      by true t more = rw t (omega (arith, below k q ps (rw (equal_is (key_at s p) k t) at a.0) a.1))
      by false t more = rw t (omega arith)

  -- the key of a place in front
  pub tally_first : (p : ℕ) (k ps : List ℕ) → key_at s p ≡ k → 1 ≤ tally s k (p ∷ ps)
  unfolding tally
  tally_first p k ps e = rw (e, equal_same k) (omega arith)

  -- of a part of a list
  pub each_take : (i : ℕ) (ps : List ℕ) → EachAt s ps → EachAt s (take i ps)
  each_take i ps h = each_left (take i ps) (drop i ps) (subst (EachAt s) (sym (take-append-drop i ps)) h)

  pub each_drop : (i : ℕ) (ps : List ℕ) → EachAt s ps → EachAt s (drop i ps)
  each_drop i ps h = each_right (take i ps) (drop i ps) (subst (EachAt s) (sym (take-append-drop i ps)) h)
