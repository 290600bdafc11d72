-- A key stands as often as it does in a run and after it: the turns of the walks, and what each says of all records. Assumes nothing.
use Prim.Native.Nat.{ℕ, zero, suc, ◌+◌, ◌≤◌, ◌<◌}
use native.Mathlib.Numerals.{add-one}
use native.Mathlib.Omega.{arith}
use mathlib.Core.Path.{◌≡◌, refl, sym, ap, ◌∙◌}
use mathlib.Core.Bool.{Bool, true, false, true≢false}
use mathlib.Core.List.{List, [], ◌∷◌, ◌++◌}
use lib.ListN.{length, take, set, length-set}
use lib.Seq.{take-suc-set}
use Rattle.text.specs.Text.{equal}
use Rattle.record.specs.Record.{Record, bit_of}
use Rattle.record.specs.Store.{distinct, decode_all}
use Rattle.codec.proofs.CodecLaws.{Bytes}
use Rattle.record.proofs.StoreLaws.{EachFormed}
use Rattle.record_walk.specs.Walk.{end_at}
use Rattle.record_walk.proofs.Walks.{from_end}
use Rattle.distinct.specs.Distinct.{Whole, is_distinct}
use Rattle.distinct.specs.Keys.{key_at}
use Rattle.distinct.specs.Marks.{Marked, Stands}
use Rattle.distinct.specs.Pairs.{WholeFrom}
use Rattle.distinct.specs.Runs.{count, held, Gathered, Alone, NotAlone, AloneOr, Shared, ApartOr}
use Rattle.distinct.specs.Sorting.{EachAt, tally, Sorted}
use Rattle.distinct.specs.declared.runs.Run.{Run}
use Rattle.distinct.proofs.Alones.{Step, step, step_whole, distinct_given}
use Rattle.distinct.proofs.Ascents.{each_append, each_one, once, tally_append}
use Rattle.distinct.proofs.Counts.{all_once, some_twice}
use Rattle.distinct.proofs.Walks.{key_next, each_formed}
use Rattle.text.proofs.Sames.{equal_same, equal_is}

-- no key twice
distinct_once : (rs : List Record) → EachFormed rs → distinct rs ≡ true → (k : List ℕ) → count k rs ≤ 1
distinct_once rs w e k = by (count k rs) refl
  where
    by : (n : ℕ) → count k rs ≡ n → count k rs ≤ 1
    by zero q = omega arith
    by (suc zero) q = omega arith
    by (suc (suc n)) q = absurd (true≢false (sym e ∙ some_twice rs w k (omega arith)))

module _ (s : List ℕ) (b : Bytes s) where
  -- ---- how many are left

  -- the first that is left, and those after it
  pub held_step : (k : List ℕ) (at : ℕ) → Step s b at → held s k at ≡ bit_of (equal (key_at s at) k) + held s k (end_at s at)
  unfolding held count
  held_step k at n = rw (n.all, n.next.others, key_next s b at n.rec n.others n.next)

  pub held_end : (k : List ℕ) (at : ℕ) → length s ≤ at → WholeFrom s at → held s k at ≡ 0
  unfolding held count
  held_end k at h w = rw (w.are, from_end s b at w.records h w.are)

  -- ---- all records

  -- whether all records are distinct is whether no key stands twice among those from a place on
  pub record Rest (at : ℕ) : Type 0 where
    pub whole : WholeFrom s at
    pub there : is_distinct s ≡ true → (k : List ℕ) → held s k at ≤ 1
    pub back : ((k : List ℕ) → held s k at ≤ 1) → is_distinct s ≡ true

  pub rest_start : Whole s → Rest 0
  unfolding held decode_all
  rest_start w =
      let same : is_distinct s ≡ distinct w.0 = rw w.1 (distinct_given w.0) in
      let f = each_formed s b w.0 0 w.1 in
      record {
        whole = record { records = w.0; are = w.1 };
        there = λ e k. rw w.1 (distinct_once w.0 f (sym same ∙ e) k);
        back = λ h. same ∙ all_once w.0 f (λ k. rw w.1 at (h k));
      }

  pub rest_end : (at : ℕ) → length s ≤ at → Rest at → is_distinct s ≡ true
  rest_end at h r = r.back (λ k. omega (arith, held_end k at h r.whole))

  module _ (at : ℕ) (r : Rest at) (ps : List ℕ) (run : Run) (g : Gathered s at ps run) where
    pub rest_met : NotAlone s (take run.count ps) run.end → is_distinct s ≡ false
    rest_met n = by (is_distinct s) refl
      where
        by : (t : Bool) → is_distinct s ≡ t → is_distinct s ≡ false
        by true t = absurd (omega (arith, r.there t n.key, g.kept n.key, n.often))
        by false t = t

    pub rest_next : Alone s (take run.count ps) run.end → Rest run.end
    rest_next a = record {
      whole = g.others;
      there = λ e k. omega (arith, r.there e k, g.kept k);
      back = λ h. r.back (λ k. one h k (tally s k (take run.count ps)) refl);
    }
      where
        one : ((k : List ℕ) → held s k run.end ≤ 1) → (k : List ℕ) (n : ℕ) → tally s k (take run.count ps) ≡ n → held s k at ≤ 1
        one h k zero e = omega (arith, h k, g.kept k)
        one h k (suc n) e = omega (arith, a.once k, a.apart k (omega arith), g.kept k)

  -- ---- a run

  -- so many of its records are in the table
  pub record Gathering (from : ℕ) (ps : List ℕ) (n at : ℕ) : Type 0 where
    pub within : n ≤ length ps
    pub each : EachAt s (take n ps)
    pub kept : (k : List ℕ) → held s k from ≡ tally s k (take n ps) + held s k at
    pub others : WholeFrom s at
    pub moves : from + n ≤ at
    pub begins : n ≡ 0 → at ≡ from

  pub gather_start : (from : ℕ) (ps : List ℕ) → WholeFrom s from → Gathering from ps 0 from
  unfolding EachAt tally
  gather_start from ps w = record { within = omega arith; each = tt; kept = λ k. omega arith; others = w; moves = omega arith; begins = λ e. refl }

  pub gather_next : (from : ℕ) (ps : List ℕ) (n at : ℕ) → Gathering from ps n at → n < length ps → at < length s → Gathering from (set ps n at) (n + 1) (end_at s at)
  unfolding tally
  gather_next from ps n at g l h =
      let t = step s b at h g.others in
      let e : take (n + 1) (set ps n at) ≡ take n ps ++ (at ∷ []) = rw (add-one n) (take-suc-set ps n at l) in
      record {
        within = omega (arith, length-set ps n at);
        each = rw e (each_append s (take n ps) (at ∷ []) g.each (each_one s at t.next.here));
        kept = λ k. rw e (omega (arith, g.kept k, tally_append s k (take n ps) (at ∷ []), held_step k at t));
        others = step_whole s b at t;
        moves = omega (arith, g.moves, t.next.moves);
        begins = λ e. absurd (omega arith);
      }

  pub gather_end : (from : ℕ) (ps : List ℕ) (n at : ℕ) → Gathering from ps n at → 0 < n → Gathered s from ps (record { count = n; end = at })
  gather_end from ps n at g h = record { some = h; within = g.within; each = g.each; kept = g.kept; others = g.others; moves = omega (arith, g.moves) }

  -- ---- those after a run

  -- none of those before a place has a key of the run
  pub record Passed (ps : List ℕ) (from q : ℕ) : Type 0 where
    pub whole : WholeFrom s q
    pub left : (k : List ℕ) → 1 ≤ tally s k ps → held s k from ≡ held s k q
    pub fewer : (k : List ℕ) → held s k q ≤ held s k from

  pub passed_start : (ps : List ℕ) (from : ℕ) → WholeFrom s from → Passed ps from from
  passed_start ps from w = record { whole = w; left = λ k h. refl; fewer = λ k. omega arith }

  module _ (ps : List ℕ) (from q : ℕ) (p : Passed ps from q) where
    pub passed_end : length s ≤ q → (k : List ℕ) → 1 ≤ tally s k ps → held s k from ≡ 0
    passed_end h k l = p.left k l ∙ held_end k q h p.whole

    module _ (h : q < length s) where
      pub passed_met : 1 ≤ tally s (key_at s q) ps → Shared s ps from
      passed_met l =
          let e : held s (key_at s q) q ≡ 1 + held s (key_at s q) (end_at s q) = held_step (key_at s q) q (step s b q h p.whole) ∙ rw (equal_same (key_at s q)) in
          record { key = key_at s q; here = l; there = omega (arith, p.fewer (key_at s q)) }

      pub passed_next : tally s (key_at s q) ps ≡ 0 → Passed ps from (end_at s q)
      passed_next z =
          let t = step s b q h p.whole in
          record {
            whole = step_whole s b q t;
            left = λ k l. omega (arith, p.left k l, held_step k q t, differs k l (equal (key_at s q) k) refl);
            fewer = λ k. omega (arith, p.fewer k, held_step k q t);
          }
        where
          differs : (k : List ℕ) → 1 ≤ tally s k ps → (t : Bool) → equal (key_at s q) k ≡ t → bit_of (equal (key_at s q) k) ≡ 0
          differs k l true t = absurd (omega (arith, ap (λ (x : List ℕ). tally s x ps) (equal_is (key_at s q) k t)))
          differs k l false t = rw t

-- a key that is not marked isn't one of the run's
pub unmarked : (s ms ps k : List ℕ) → Marked s ms ps → (Stands ms k → ⊥) → tally s k ps ≡ 0
unmarked s ms ps k m h = by (tally s k ps) refl
  where
    by : (n : ℕ) → tally s k ps ≡ n → tally s k ps ≡ 0
    by zero e = e
    by (suc n) e = absurd (h (m k (omega arith)))

-- ---- the sorted run

module _ (s ps qs : List ℕ) (x : Sorted s ps qs) where
  pub sorted_once : (k : List ℕ) → tally s k ps ≤ 1
  sorted_once k = omega (arith, once s k qs x.ascending, x.kept k)

  pub sorted_last : (b : Bytes s) (end : ℕ) → length s ≤ end → WholeFrom s end → Alone s ps end
  sorted_last b end h w = record { once = sorted_once; apart = λ k l. held_end s b k end h w }

  pub sorted_apart : (t : Bool) (end : ℕ) → ApartOr t s qs end → AloneOr t s ps end
  sorted_apart true end a = record { once = sorted_once; apart = λ k l. a k (omega (arith, l, x.kept k)) }
  sorted_apart false end a = record { key = a.key; often = omega (arith, a.here, a.there, x.kept a.key) }
