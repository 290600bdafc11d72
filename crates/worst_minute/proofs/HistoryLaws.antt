-- After every list of calls from an empty run, what the run holds, and every answer, are those of a fresh count over the times as taken. Assumes nothing.
use Prim.Native.Nat.{ℕ, ◌+◌, ◌-◌, ◌≤◌, ◌<◌}
use native.Mathlib.Omega.{arith}
use mathlib.Core.Path.{◌≡◌, refl, sym, ap, ap₂, subst, ◌∙◌}
use mathlib.Core.Bool.{Bool, true, false}
use mathlib.Core.List.{List, [], ◌∷◌, ◌++◌, append_assoc}
use lib.ListN.{length, take, drop, length-append, length-drop, take-append-drop}
use lib.Seq.{take-take, take-append_seam, drop-append_seam, drop-append-le, drop-drop, length-take-le}
use lib.Dec.{ltb}
use borrow.Author.Tests.{ltb-true, ltb-false, le-ltb}
use Rattle.std.specs.Prelude.{None, Ok, Some}
use Rattle.limits.specs.Outcome.{and_then, or_refuse, cause_if, refuse_by, refuse_if}
use Rattle.limits.specs.declared.Refusal.TheVariants.{BadStore, NoRoom}
use Rattle.edit.specs.Edit.{over}
use Rattle.output.specs.Output.{fitted, leaves}
use Rattle.worst_minute.specs.Minute.{Verdict, worst, counted}
use Rattle.worst_minute.specs.Layout.{encode_run, decode_run}
use Rattle.worst_minute.specs.Calls.{read_run, with_verdict, added, worst_in}
use Rattle.worst_minute.specs.History.{Call, add, ask, size_of, decide, with_given, verdicts, answers, all_given, EachRoomy, World, Left, used_after, nothing_asked, lent_to, lending, world, run_answers, Typed, EachSent, Follows}
use Rattle.worst_minute.proofs.LayoutLaws.{AllFit, length_run, decode_encode}
use Rattle.worst_minute.proofs.TakenLaws.{one_more, few, no_fewer, rises_counted, fit_counted, fit_snoc}
use Rattle.worst_minute.proofs.CallLaws.{read_over, read_within}

-- 18, as one test
fitted_is : (n : ℕ) (s : List ℕ) → fitted n s ≡ refuse_if (ltb n (length s)) NoRoom (Ok s)
fitted_is n s = by (ltb n (length s))
  where
    by : (b : Bool) → refuse_by (cause_if b NoRoom) (Ok s) ≡ refuse_if b NoRoom (Ok s)
    by true = refl
    by false = refl

-- ---- the run between two calls

-- its used bytes are those of what counts of the verdicts given; those past them were never written
pub record Stands (m : List ℕ) (w : World) (vs : List Verdict) : Type 0 where
  pub room : length w.memory ≡ length m
  pub used_is : w.used ≡ size_of (counted vs)
  pub within : w.used ≤ length m
  pub front : take w.used w.memory ≡ encode_run (counted vs)
  pub rest : drop w.used w.memory ≡ drop w.used m
  pub fit : AllFit vs

module _ (m : List ℕ) (w : World) (vs : List Verdict) (s : Stands m w vs) (lent : ℕ) (fits : lent ≤ length m) where
  abbrev lent_bytes : List ℕ
  lent_bytes = take lent w.memory

  lent_length : length lent_bytes ≡ lent
  lent_length = length-take-le lent w.memory (omega (arith, s.room, fits))

  -- it is over the lent bytes, or read as what counts
  pub reading : read_run lent_bytes w.used ≡ refuse_if (ltb lent (size_of (counted vs))) BadStore (Ok (counted vs))
  reading = by (ltb lent (size_of (counted vs))) refl
    where
      by : (b : Bool) → ltb lent (size_of (counted vs)) ≡ b → read_run lent_bytes w.used ≡ refuse_if b BadStore (Ok (counted vs))
      by true e = let h : lent < size_of (counted vs) = ltb-true lent (size_of (counted vs)) e in read_over lent_bytes w.used (omega (arith, lent_length, s.used_is))
      by false e =
          let h : size_of (counted vs) ≤ lent = ltb-false lent (size_of (counted vs)) e in
          let d : decode_run (take w.used lent_bytes) ≡ Some (counted vs) =
          ap decode_run (take-take w.used lent w.memory (omega (arith, s.used_is)) ∙ s.front) ∙ decode_encode (counted vs) (fit_counted vs s.fit) (few vs) (rises_counted vs) in
          read_within lent_bytes w.used (omega (arith, lent_length, s.used_is)) ∙ ap (or_refuse BadStore) d

  pub worst_is : worst_in lent_bytes w.used ≡ decide (ask lent) vs
  unfolding worst_in decide
  worst_is = ap (λ o. and_then o (λ us. Ok (worst us))) reading ∙ by (ltb lent (size_of (counted vs)))
    where
      by : (b : Bool) → and_then (refuse_if b BadStore (Ok (counted vs))) (λ us. Ok (worst us)) ≡ refuse_if b BadStore (Ok (worst (counted vs)))
      by true = refl
      by false = refl

  -- the run with one verdict more is that of a fresh count
  module _ (v : Verdict) where
    abbrev next : List Verdict
    next = counted (vs ++ (v ∷ []))

    next_size : length (encode_run next) ≡ size_of next
    next_size = length_run next

    pub added_is : added v lent_bytes w.used ≡ refuse_if (ltb lent (size_of (counted vs))) BadStore (refuse_if (ltb lent (size_of next)) NoRoom (Ok (encode_run next)))
    unfolding added
    added_is =
        ap (λ o. and_then o (λ us. fitted (length lent_bytes) (encode_run (with_verdict v us)))) reading
        ∙ by (ltb lent (size_of (counted vs)))
        ∙ ap (λ x. refuse_if (ltb lent (size_of (counted vs))) BadStore (fitted (length lent_bytes) (encode_run x))) (sym (one_more vs v))
        ∙ ap (refuse_if (ltb lent (size_of (counted vs))) BadStore) (fitted_is (length lent_bytes) (encode_run next))
        ∙ ap₂ (λ x y. refuse_if (ltb lent (size_of (counted vs))) BadStore (refuse_if (ltb x y) NoRoom (Ok (encode_run next)))) lent_length next_size
      where
        by : (b : Bool) → and_then (refuse_if b BadStore (Ok (counted vs))) (λ us. fitted (length lent_bytes) (encode_run (with_verdict v us))) ≡ refuse_if b BadStore (fitted (length lent_bytes) (encode_run (with_verdict v (counted vs))))
        by true = refl
        by false = refl

    pub answer_is : nothing_asked (added v lent_bytes w.used) ≡ decide (add lent v) vs
    unfolding decide
    answer_is = ap nothing_asked added_is ∙ by (ltb lent (size_of (counted vs))) (ltb lent (size_of next))
      where
        by : (a b : Bool) → nothing_asked (refuse_if a BadStore (refuse_if b NoRoom (Ok (encode_run next)))) ≡ refuse_if a BadStore (refuse_if b NoRoom (Ok None))
        by true b = refl
        by false true = refl
        by false false = refl

-- ---- one call

-- a refused call keeps all
same_world : (m : List ℕ) (w : World) (vs : List Verdict) → Stands m w vs → (lent : ℕ) → Stands m (record { memory = take lent w.memory ++ drop lent w.memory; used = w.used }) vs
same_world m w vs s lent =
    let e : take lent w.memory ++ drop lent w.memory ≡ w.memory = take-append-drop lent w.memory in
    record { room = ap length e ∙ s.room; used_is = s.used_is; within = s.within; front = ap (take w.used) e ∙ s.front; rest = ap (drop w.used) e ∙ s.rest; fit = s.fit }

-- what is past a place is past each later one
rest_later : (a b : ℕ) (s m : List ℕ) → a ≤ b → drop a s ≡ drop a m → drop b s ≡ drop b m
rest_later a b s m h e =
    let k : a + (b - a) ≡ b = omega arith in
    ap (λ n. drop n s) (sym k) ∙ sym (drop-drop (b - a) a s) ∙ ap (drop (b - a)) e ∙ drop-drop (b - a) a m ∙ ap (λ n. drop n m) k

-- an accepted one leaves the new run over the front of the lent bytes
new_world : (m : List ℕ) (w : World) (vs : List Verdict) → Stands m w vs → (lent : ℕ) → lent ≤ length m → (v : Verdict) → v.time < 18446744073709551616 → size_of (counted (vs ++ (v ∷ []))) ≤ lent
    → Stands m (record { memory = over (encode_run (counted (vs ++ (v ∷ [])))) (take lent w.memory) ++ drop lent w.memory; used = length (encode_run (counted (vs ++ (v ∷ [])))) }) (vs ++ (v ∷ []))
new_world m w vs s lent fits v t h =
    let new : List ℕ = encode_run (counted (vs ++ (v ∷ []))) in
    let size : length new ≡ size_of (counted (vs ++ (v ∷ []))) = length_run (counted (vs ++ (v ∷ []))) in
    let long : length (take lent w.memory) ≡ lent = length-take-le lent w.memory (omega (arith, s.room, fits)) in
    let split : over new (take lent w.memory) ++ drop lent w.memory ≡ new ++ (drop (length new) (take lent w.memory) ++ drop lent w.memory) =
    append_assoc new (drop (length new) (take lent w.memory)) (drop lent w.memory) in
    let past : drop (length new) w.memory ≡ drop (length new) m = rest_later w.used (length new) w.memory m (omega (arith, s.used_is, size, no_fewer vs v)) s.rest in
    record {
      room = ap length split ∙ simp (length-append, length-drop) (omega (arith, long, s.room, size, fits));
      used_is = size;
      within = omega (arith, size, fits);
      front = ap (take (length new)) split ∙ take-append_seam new (drop (length new) (take lent w.memory) ++ drop lent w.memory);
      rest =
          ap (drop (length new)) split
          ∙ drop-append_seam new (drop (length new) (take lent w.memory) ++ drop lent w.memory)
          ∙ sym (drop-append-le (length new) (take lent w.memory) (drop lent w.memory) (omega (arith, long, size)))
          ∙ ap (drop (length new)) (take-append-drop lent w.memory)
          ∙ past;
      fit = fit_snoc vs v s.fit t;
    }

module _ (m : List ℕ) (w : World) (vs : List Verdict) (s : Stands m w vs) where
  abbrev after : Call → Left → World
  after c l = record { memory = l.bytes ++ drop (lent_to c) w.memory; used = l.used }

  pub same_answer : (c : Call) → lent_to c ≤ length m → (lending c w).answer ≡ decide c vs
  same_answer (add lent v) h = answer_is m w vs s lent h v
  same_answer (ask lent) h = worst_is m w vs s lent h

  pub stands_next : (c : Call) → lent_to c ≤ length m → Typed c → Stands m (after c (lending c w)) (with_given c (decide c vs) vs)
  unfolding decide
  stands_next (ask lent) h t = same_world m w vs s lent
  stands_next (add lent v) h t =
      subst (λ o. Stands m (record { memory = leaves o (take lent w.memory) ++ drop lent w.memory; used = used_after o w.used }) (with_given (add lent v) (decide (add lent v) vs) vs)) (sym (added_is m w vs s lent h v))
      (by (ltb lent (size_of (counted vs))) (ltb lent (size_of (counted (vs ++ (v ∷ []))))) refl)
    where
      by : (a b : Bool) → ltb lent (size_of (counted (vs ++ (v ∷ [])))) ≡ b
          → (let o = refuse_if a BadStore (refuse_if b NoRoom (Ok (encode_run (counted (vs ++ (v ∷ [])))))) in
          Stands m (record { memory = leaves o (take lent w.memory) ++ drop lent w.memory; used = used_after o w.used }) (with_given (add lent v) (refuse_if a BadStore (refuse_if b NoRoom (Ok None))) vs))
      by true b e = same_world m w vs s lent
      by false true e = same_world m w vs s lent
      by false false e = new_world m w vs s lent h v t (ltb-false lent (size_of (counted (vs ++ (v ∷ [])))) e)

-- ---- every list of calls

module _ (m : List ℕ) where
  pub stands : (cs : List Call) → EachSent m cs → Stands m (world m cs) (verdicts cs)
  unfolding world verdicts encode_run
  stands [] s = record { room = refl; used_is = refl; within = omega arith; front = refl; rest = refl; fit = tt }
  stands (c ∷ cs) s = stands_next m (world m cs) (verdicts cs) (stands cs s.1) c s.0.0 s.0.1

  same_answers : (cs : List Call) → EachSent m cs → run_answers m cs ≡ answers cs
  unfolding run_answers answers
  same_answers [] s = refl
  same_answers (c ∷ cs) s = ap₂ (λ x y. x ∷ y) (same_answer m (world m cs) (verdicts cs) (stands cs s.1) c s.0.0) (same_answers cs s.1)

  -- the run follows the verdicts given, after every list of calls
  pub follows : (cs : List Call) → EachSent m cs → Follows m cs
  follows cs s = let k = stands cs s in record { holds = k.front; used_is = k.used_is; rest = k.rest; answers_are = same_answers cs s }

-- ---- calls that are lent enough

-- such an add is not refused
never_refused : (lent : ℕ) (v : Verdict) (vs : List Verdict) → 36864 ≤ lent → decide (add lent v) vs ≡ Ok None
unfolding decide
never_refused lent v vs h =
    let a : ltb lent (size_of (counted vs)) ≡ false = le-ltb lent (size_of (counted vs)) (omega (arith, few vs)) in
    let b : ltb lent (size_of (counted (vs ++ (v ∷ [])))) ≡ false = le-ltb lent (size_of (counted (vs ++ (v ∷ [])))) (omega (arith, few (vs ++ (v ∷ [])))) in
    rw (a, b)

-- what counts is then of all verdicts that were given
pub roomy : (cs : List Call) → EachRoomy cs → verdicts cs ≡ all_given cs
unfolding verdicts all_given
roomy [] r = refl
roomy (add lent v ∷ cs) r = ap (λ o. with_given (add lent v) o (verdicts cs)) (never_refused lent v (verdicts cs) r.0) ∙ ap (λ vs. vs ++ (v ∷ [])) (roomy cs r.1)
roomy (ask lent ∷ cs) r = roomy cs r.1
