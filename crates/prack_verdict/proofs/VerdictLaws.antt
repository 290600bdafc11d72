-- A PRACK held against a list, as the first entry of its RSeq decides it: the causes in their order, and the body that is left. Assumes nothing.
use Prim.Native.Nat.{ℕ}
use native.Mathlib.Omega.{arith}
use mathlib.Core.Path.{◌≡◌, sym, ap, subst, ◌∙◌}
use mathlib.Core.Bool.{Bool, true, false, not}
use mathlib.Core.List.{List}
use lib.Dec.{eqb}
use borrow.Author.Tests.{eq-eqb, ne_eqb}
use Rattle.std.specs.Prelude.{Err, None, Ok, Option, Result, Some}
use Rattle.limits.specs.Limits.{LimitSet}
use Rattle.limits.specs.Outcome.{refuse_if, and_then, or_refuse}
use Rattle.limits.specs.declared.Refusal.{Refusal}
use Rattle.limits.specs.declared.Refusal.TheVariants.{InvalidRAck, NoPendingList, UnknownRSeq, RAckCSeqMismatch, RAckMethodMismatch, DuplicatePrack}
use Rattle.rack.specs.declared.RAck.{RAck}
use Rattle.prack_body.specs.Lists.{Pending, Tracked, first_of_rseq, marked, with_list}
use Rattle.prack_body.specs.Body.{Holds}
use Rattle.prack_list.specs.Steps.{place_from, position_at, position_in}
use Rattle.prack_list.proofs.FindLaws.{FoundIn}
use Rattle.prack_verdict.specs.Verdict.{matched, judged, marked_by, verdict_of}

-- ---- the causes

-- 19
pub no_rack_lem : (o : Option RAck) (list : Option (List Pending)) → o ≡ None → judged o list ≡ Err InvalidRAck
unfolding judged
no_rack_lem o list e = rw e

module _ (o : Option RAck) (list : Option (List Pending)) (k : RAck) (e : o ≡ Some k) where
  -- 20, 21
  pub no_entry : {cause : Refusal} → position_in k.rseq list ≡ Err cause → judged o list ≡ Err cause
  unfolding judged
  no_entry {cause} q = ap (λ (x : Option RAck). and_then (or_refuse InvalidRAck x) (λ j. and_then (or_refuse NoPendingList list) (λ ps. and_then (or_refuse UnknownRSeq (first_of_rseq j.rseq ps)) (λ p. matched j p)))) e ∙ by list q
    where
      some : (at : ℕ) (f : Option Pending) → position_at at f ≡ Err cause → and_then (or_refuse UnknownRSeq f) (λ p. matched k p) ≡ Err cause
      some at None q = cc
      some at (Some p) q = absurd (let z : ◌≡◌ {A = ℕ} 0 1 = cc in omega arith)

      by : (l : Option (List Pending)) → position_in k.rseq l ≡ Err cause → and_then (or_refuse NoPendingList l) (λ ps. and_then (or_refuse UnknownRSeq (first_of_rseq k.rseq ps)) (λ p. matched k p)) ≡ Err cause
      by None q = cc
      by (Some ps) q = some (place_from 10 k.rseq ps) (first_of_rseq k.rseq ps) q

  module _ {place c m : ℕ} {a : Bool} (w : FoundIn k.rseq list place c m a) where
    entry_decides : judged o list ≡ refuse_if (not (eqb c k.cseq)) RAckCSeqMismatch (refuse_if (not (eqb m k.method)) RAckMethodMismatch (refuse_if a DuplicatePrack (Ok k)))
    unfolding judged
    entry_decides = rw (e, w.stands, w.first, w.same_cseq, w.same_method, w.same_flag)

    -- 22
    pub other_cseq : (c ≡ k.cseq → ⊥) → judged o list ≡ Err RAckCSeqMismatch
    other_cseq d = entry_decides ∙ rw (ne_eqb c k.cseq d)

    module _ (q : c ≡ k.cseq) where
      -- 23
      pub other_method : (m ≡ k.method → ⊥) → judged o list ≡ Err RAckMethodMismatch
      other_method d = entry_decides ∙ rw (eq-eqb c k.cseq q, ne_eqb m k.method d)

      module _ (r : m ≡ k.method) where
        -- 24
        pub repeated : a ≡ true → judged o list ≡ Err DuplicatePrack
        repeated d = entry_decides ∙ rw (eq-eqb c k.cseq q, eq-eqb m k.method r, d)

        pub accepted : a ≡ false → judged o list ≡ Ok k
        accepted d = entry_decides ∙ rw (eq-eqb c k.cseq q, eq-eqb m k.method r, d)

-- ---- what the code answers and leaves

-- r is answered, and the body becomes `after`
abbrev pub Judges : Option RAck → List ℕ → ℕ → Result RAck Refusal → List ℕ → Type 0
Judges o body n r after =
    ((L : LimitSet) (t : Tracked) → Holds L body n t → r ≡ verdict_of (judged o t.list))
    × ((L : LimitSet) (t : Tracked) → Holds L body n t → Holds L after n (with_list (marked_by (judged o t.list) t.list) t))

module _ (o : Option RAck) (body : List ℕ) (n : ℕ) where
  -- a refusal keeps the body
  pub keeps : {cause : Refusal} → ((L : LimitSet) (t : Tracked) → Holds L body n t → judged o t.list ≡ Err cause) → Judges o body n (Err cause) body
  keeps {cause} j = (
    λ L t h. sym (ap verdict_of (j L t h)),
    λ L t h. subst (λ (v : Result RAck Refusal). Holds L body n (with_list (marked_by v t.list) t)) (sym (j L t h)) h,
  )

  -- an accepted PRACK marks the entry
  pub marks : {k : RAck} {after : List ℕ}
      → ((L : LimitSet) (t : Tracked) → Holds L body n t → (judged o t.list ≡ Ok k) × ((ps : List Pending) × ((t.list ≡ Some ps) × Holds L after n (with_list (Some (marked k.rseq ps)) t))))
      → Judges o body n (Ok k) after
  marks {k} {after} j = (
    λ L t h. sym (ap verdict_of (j L t h).0),
    λ L t h.
        subst (λ (v : Result RAck Refusal). Holds L after n (with_list (marked_by v t.list) t)) (sym (j L t h).0)
        (subst (λ (l : Option (List Pending)). Holds L after n (with_list (marked_by (Ok k) l) t)) (sym (j L t h).1.1.0) (j L t h).1.1.1),
  )
