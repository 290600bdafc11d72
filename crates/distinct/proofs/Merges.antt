-- The turns and the end of a merge of two ascending runs of places. Assumes nothing.
use Prim.Native.Nat.{ℕ, suc, ◌+◌, ◌-◌, ◌≤◌, ◌<◌}
use native.Mathlib.Numerals.{add-one}
use native.Mathlib.Omega.{arith}
use mathlib.Core.Path.{◌≡◌, refl, sym, ap, subst, ◌∙◌}
use mathlib.Core.Logic.{◌⊎◌, inl, inr}
use mathlib.Core.List.{List, [], ◌∷◌, ◌++◌, append_assoc, append-nil}
use lib.ListN.{length, get_or, take, drop, set, length-append, length-drop, length-set, drop_of_length-le}
use lib.Seq.{take_all, drop-cons, get_or-take, take-suc-set, append_snoc, length-take-le, take_at, take-add, drop_at}
use Rattle.ordered_store.specs.Order.{order}
use Rattle.std.specs.declared.cmp.Ordering.TheVariants.{Less, Equal, Greater}
use Rattle.ordered_store.proofs.OrderLaws.{order_equal, order_mirror, flip}
use Rattle.distinct.specs.Keys.{key_at}
use Rattle.distinct.specs.Sorting.{EachAt, Ascending, tally, Sorted, Twice, put}
use Rattle.distinct.proofs.Ascents.{each_append, each_take, each_drop, each_one, each_at, tally_append, tally_split, between, tally_first}

pub part_length : (n i : ℕ) (l : List ℕ) → i + n ≤ length l → length (take n (drop i l)) ≡ n
part_length n i l h = length-take-le n (drop i l) (omega (arith, length-drop i l))

-- out begins with places that come before what is left of each run
pub record Merging (s ps : List ℕ) (mid : ℕ) (out : List ℕ) (i j : ℕ) : Type 0 where
  pub left : i ≤ mid
  pub right : mid ≤ j
  pub end : j ≤ length ps
  pub wide : length out ≡ length ps
  pub each : EachAt s (take (i + (j - mid)) out)
  pub first : Ascending s (take (i + (j - mid)) out ++ drop i (take mid ps))
  pub second : Ascending s (take (i + (j - mid)) out ++ drop j ps)
  pub kept : (k : List ℕ) → tally s k (take (i + (j - mid)) out) + (tally s k (drop i (take mid ps)) + tally s k (drop j ps)) ≡ tally s k ps

module _ (s ps : List ℕ) (mid : ℕ) (h : mid ≤ length ps) (whole : EachAt s ps) where
  pub begin : (out : List ℕ) → length out ≡ length ps → Ascending s (take mid ps) → Ascending s (drop mid ps) → Merging s ps mid out 0 mid
  unfolding tally EachAt
  begin out w a b =
      let z : 0 + (mid - mid) ≡ 0 = omega arith in
      record {
        left = omega arith;
        right = omega arith;
        end = h;
        wide = w;
        each = rw z tt;
        first = rw z a;
        second = rw z b;
        kept = λ k. rw z (omega (arith, tally_split s k mid ps));
      }

  module _ (out : List ℕ) (i j : ℕ) (m : Merging s ps mid out i j) (l : i < mid) (r : j < length ps) where
    abbrev k : ℕ
    k = i + (j - mid)

    pub room : k < length out
    room = omega (arith, m.left, m.right, m.wide)

    left_is : drop i (take mid ps) ≡ get_or ps i 0 ∷ drop (i + 1) (take mid ps)
    left_is = rw (add-one i, ← get_or-take mid ps i 0 l) (drop-cons (take mid ps) i 0 (omega (arith, length-take-le mid ps h)))

    right_is : drop j ps ≡ get_or ps j 0 ∷ drop (j + 1) ps
    right_is = rw (add-one j) (drop-cons ps j 0 r)

    -- one more place at the end of what is written
    longer : (x : ℕ) → take (suc k) (set out k x) ≡ take k out ++ (x ∷ [])
    longer x = take-suc-set out k x room

    pub turn_left : order (key_at s (get_or ps i 0)) (key_at s (get_or ps j 0)) ≡ Less → Merging s ps mid (set out k (get_or ps i 0)) (i + 1) j
    unfolding tally
    turn_left o =
        let x = get_or ps i 0 in
        let n : i + 1 + (j - mid) ≡ suc k = omega arith in
        let e : take (i + 1 + (j - mid)) (set out k x) ≡ take k out ++ (x ∷ []) = ap (λ (a : ℕ). take a (set out k x)) n ∙ longer x in
        let f = m.first in
        let g = m.second in
        record {
          left = omega arith;
          right = m.right;
          end = m.end;
          wide = length-set out k x ∙ m.wide;
          each = rw e (each_append s (take k out) (x ∷ []) m.each (each_one s x (each_at s ps i whole (omega arith))));
          first = rw (e, append_snoc (take k out) x (drop (i + 1) (take mid ps))) (rw left_is at f);
          second = rw (e, append_snoc (take k out) x (drop j ps), right_is) (between s (take k out) x (drop (i + 1) (take mid ps)) (get_or ps j 0) (drop (j + 1) ps) (rw left_is at f) (rw right_is at g) o);
          kept = λ q. rw e (omega (arith, m.kept q, tally_append s q (take k out) (x ∷ []), ap (tally s q) left_is));
        }

    pub turn_right : order (key_at s (get_or ps i 0)) (key_at s (get_or ps j 0)) ≡ Greater → Merging s ps mid (set out k (get_or ps j 0)) i (j + 1)
    unfolding tally
    turn_right o =
        let y = get_or ps j 0 in
        let n : i + (j + 1 - mid) ≡ suc k = omega (arith, m.right) in
        let e : take (i + (j + 1 - mid)) (set out k y) ≡ take k out ++ (y ∷ []) = ap (λ (a : ℕ). take a (set out k y)) n ∙ longer y in
        let f = m.first in
        let g = m.second in
        record {
          left = m.left;
          right = omega (arith, m.right);
          end = omega arith;
          wide = length-set out k y ∙ m.wide;
          each = rw e (each_append s (take k out) (y ∷ []) m.each (each_one s y (each_at s ps j whole r)));
          first = rw (e, append_snoc (take k out) y (drop i (take mid ps)), left_is) (between s (take k out) y (drop (j + 1) ps) (get_or ps i 0) (drop (i + 1) (take mid ps)) (rw right_is at g) (rw left_is at f) (order_mirror (key_at s (get_or ps i 0)) (key_at s y) ∙ ap flip o));
          second = rw (e, append_snoc (take k out) y (drop (j + 1) ps)) (rw right_is at g);
          kept = λ q. rw e (omega (arith, m.kept q, tally_append s q (take k out) (y ∷ []), ap (tally s q) right_is));
        }

    -- two equal keys
    pub met : order (key_at s (get_or ps i 0)) (key_at s (get_or ps j 0)) ≡ Equal → Twice s ps
    met o =
        let q = key_at s (get_or ps i 0) in
        let a = tally_first s (get_or ps i 0) q (drop (i + 1) (take mid ps)) refl in
        let b = tally_first s (get_or ps j 0) q (drop (j + 1) ps) (sym (order_equal q (key_at s (get_or ps j 0)) o)) in
        record { key = q; often = omega (arith, m.kept q, ap (tally s q) left_is, ap (tally s q) right_is) }

  -- ---- the end: what is left of the runs is copied, and one of the two has nothing left

  part_is : (i : ℕ) → i ≤ mid → take (mid - i) (drop i ps) ≡ drop i (take mid ps)
  part_is i l =
      let e : i + (mid - i) ≡ mid = omega arith in
      let n : length (take i ps) ≡ i = length-take-le i ps (omega arith) in
      sym (ap (λ (a : ℕ). drop i (take a ps)) (sym e) ∙ ap (drop i) (take-add i (mid - i) ps) ∙ drop_at (take i ps) (take (mid - i) (drop i ps)) i n)

  module _ (out : List ℕ) (i j : ℕ) (m : Merging s ps mid out i j) where
    abbrev written : List ℕ
    written = take (i + (j - mid)) out

    abbrev lefts : List ℕ
    lefts = drop i (take mid ps)

    abbrev rights : List ℕ
    rights = drop j ps

    written_length : length written ≡ i + (j - mid)
    written_length = length-take-le (i + (j - mid)) out (omega (arith, m.left, m.right, m.end, m.wide))

    lefts_length : length lefts ≡ mid - i
    lefts_length = omega (arith, length-drop i (take mid ps), length-take-le mid ps h)

    -- both copies make one list
    copied : put (put out (i + (j - mid)) lefts) j rights ≡ (written ++ lefts) ++ rights
    unfolding put
    copied =
        let a : i + (j - mid) + length lefts ≡ j = omega (arith, lefts_length, m.left, m.right) in
        let n : length (written ++ lefts) ≡ j = omega (arith, length-append written lefts, written_length, lefts_length, m.left, m.right) in
        let e : put out (i + (j - mid)) lefts ≡ (written ++ lefts) ++ drop j out = rw (a, append_assoc written lefts (drop j out)) in
        let w : length ((written ++ lefts) ++ drop j out) ≤ j + length rights = omega (arith, length-append (written ++ lefts) (drop j out), length-drop j out, length-drop j ps, m.wide) in
        rw (e, take_at (written ++ lefts) (drop j out) j n, drop_of_length-le ((written ++ lefts) ++ drop j out) w, append-nil rights)

    pub all_ascending : (mid ≤ i) ⊎ (length ps ≤ j) → Ascending s ((written ++ lefts) ++ rights)
    all_ascending (inl d) = let e : lefts ≡ [] = drop_of_length-le (take mid ps) {i = i} (omega (arith, length-take-le mid ps h)) in rw (e, append-nil written) m.second
    all_ascending (inr d) = let e : rights ≡ [] = drop_of_length-le ps d in rw (e, append-nil (written ++ lefts)) m.first

    pub ended : (mid ≤ i) ⊎ (length ps ≤ j) → Sorted s ps (put (put out (i + (j - mid)) (take (mid - i) (drop i ps))) j (take (length ps - j) (drop j ps)))
    ended d =
        let a : take (mid - i) (drop i ps) ≡ lefts = part_is i m.left in
        let b : take (length ps - j) (drop j ps) ≡ rights = take_all (length ps - j) rights (omega (arith, length-drop j ps)) in
        let e : put (put out (i + (j - mid)) (take (mid - i) (drop i ps))) j (take (length ps - j) (drop j ps)) ≡ (written ++ lefts) ++ rights = rw (a, b) copied in
        subst (Sorted s ps) (sym e) (record {
          each = each_append s (written ++ lefts) rights (each_append s written lefts m.each (each_drop s i (take mid ps) (each_take s mid ps whole))) (each_drop s j ps whole);
          ascending = all_ascending d;
          kept = λ q. omega (arith, tally_append s q (written ++ lefts) rights, tally_append s q written lefts, m.kept q);
        })

-- a list as long put over all of another
pub put_all : (ps sc : List ℕ) → length sc ≡ length ps → put ps 0 sc ≡ sc
unfolding put
put_all ps sc e =
    let n : length ps ≤ 0 + length sc = omega arith in
    rw (drop_of_length-le ps n, append-nil sc)
