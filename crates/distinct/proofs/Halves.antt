-- A list whose two halves are replaced one after the other, and what sorting the halves says of the whole. Assumes nothing.
use Prim.Native.Nat.{ℕ, ◌-◌, ◌≤◌, ◌<◌}
use native.Mathlib.Omega.{arith}
use mathlib.Core.Path.{◌≡◌, refl, sym, ap, subst, ◌∙◌}
use mathlib.Core.Bool.{Bool, true, false, true≢false, false≢true}
use mathlib.Core.List.{List, [], ◌∷◌, ◌++◌, append-nil}
use lib.ListN.{length, take, drop, length-append, length-drop, drop_of_length-le}
use lib.Seq.{take_all, take_at, drop_at, length-take-le}
use borrow.Rule.Slice.PartMut.{put_mid}
use Rattle.distinct.specs.Sorting.{EachAt, Ascending, tally, Runs, Sorted, Twice, SortedOr}
use Rattle.distinct.proofs.Ascents.{each_append, tally_append, tally_split}

-- ---- the two answers

pub as_sorted : (b : Bool) (s ps qs : List ℕ) → b ≡ true → SortedOr b s ps qs → Sorted s ps qs
as_sorted true s ps qs e h = h
as_sorted false s ps qs e h = absurd (false≢true e)

pub as_twice : (b : Bool) (s ps qs : List ℕ) → b ≡ false → SortedOr b s ps qs → Twice s ps
as_twice false s ps qs e h = h
as_twice true s ps qs e h = absurd (true≢false e)

-- a list with no two places is sorted
pub short : (s ps : List ℕ) → length ps < 2 → EachAt s ps → Sorted s ps ps
unfolding Ascending
short s [] h e = record { each = e; ascending = tt; kept = λ k. refl }
short s (p ∷ []) h e = record { each = e; ascending = tt; kept = λ k. refl }
short s (p ∷ q ∷ ps) h e = absurd (omega arith)

-- ---- the halves

module _ (ps : List ℕ) (mid : ℕ) (h : mid ≤ length ps) (qs : List ℕ) (e : length qs ≡ length (take mid ps)) where
  pub front_length : length qs ≡ mid
  front_length = e ∙ length-take-le mid ps h

  -- the list with its first half replaced
  abbrev pub half : List ℕ
  half = qs ++ drop mid ps

  pub half_length : length half ≡ length ps
  half_length = omega (arith, length-append qs (drop mid ps), front_length, length-drop mid ps)

  -- its second half
  abbrev pub back : List ℕ
  back = take (length half - mid) (drop mid half)

  pub back_is : back ≡ drop mid ps
  back_is =
      let f : drop mid half ≡ drop mid ps = drop_at qs (drop mid ps) mid front_length in
      rw f (take_all (length half - mid) (drop mid ps) (omega (arith, half_length, length-drop mid ps)))

  module _ (rs : List ℕ) (f : length rs ≡ length back) where
    -- both halves replaced
    pub both_are : put_mid mid (length half - mid) half rs ≡ qs ++ rs
    both_are =
        let a : take mid half ≡ qs = take_at qs (drop mid ps) mid front_length in
        let b : drop mid half ≡ drop mid ps = drop_at qs (drop mid ps) mid front_length in
        let n : length (drop mid ps) ≤ length half - mid = omega (arith, half_length, length-drop mid ps) in
        rw (a, b, drop_of_length-le (drop mid ps) n, append-nil rs)

    pub both_length : length (put_mid mid (length half - mid) half rs) ≡ length ps
    both_length = ap length both_are ∙ omega (arith, length-append qs rs, f, ap length back_is, front_length, length-drop mid ps)

    module _ (s : List ℕ) (x : Sorted s (take mid ps) qs) (y : Sorted s back rs) where
      pub runs : (out : List ℕ) → length out ≡ length ps → Runs s (put_mid mid (length half - mid) half rs) mid out
      runs out w = subst (λ (l : List ℕ). Runs s l mid out) (sym both_are) (record {
        each = each_append s qs rs x.each y.each;
        low = rw (take_at qs rs mid front_length) x.ascending;
        high = rw (drop_at qs rs mid front_length) y.ascending;
        within = omega (arith, length-append qs rs, front_length);
        wide = w ∙ sym both_length ∙ ap length both_are;
      })

      -- each key stands as often as it did
      kept_all : (k : List ℕ) → tally s k (put_mid mid (length half - mid) half rs) ≡ tally s k ps
      kept_all k = ap (tally s k) both_are ∙ omega (arith, tally_append s k qs rs, x.kept k, y.kept k, ap (tally s k) back_is, tally_split s k mid ps)

      pub whole : (b : Bool) (out : List ℕ) → SortedOr b s (put_mid mid (length half - mid) half rs) out → SortedOr b s ps out
      whole true out z = record { each = z.each; ascending = z.ascending; kept = λ k. z.kept k ∙ kept_all k }
      whole false out z = record { key = z.key; often = omega (arith, z.often, kept_all z.key) }

  -- a key twice in the second half
  pub twice_back : (s : List ℕ) → Twice s back → Twice s ps
  twice_back s z = record { key = z.key; often = omega (arith, z.often, ap (tally s z.key) back_is, tally_split s z.key mid ps) }

pub twice_front : (s ps : List ℕ) (mid : ℕ) → Twice s (take mid ps) → Twice s ps
twice_front s ps mid z = record { key = z.key; often = omega (arith, z.often, tally_split s z.key mid ps) }
