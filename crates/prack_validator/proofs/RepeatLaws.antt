-- A PRACK that was accepted, sent again (RFC 3262 section 3): until a cleanup is due the entry that it acknowledged stands, the first of its RSeq, so that it is
-- refused with 24. Assumes nothing.
use Prim.Native.Nat.{ℕ}
use native.Mathlib.Omega.{arith}
use mathlib.Core.Path.{◌≡◌, refl, sym, ap, subst, ◌∙◌}
use mathlib.Core.Bool.{Bool, true, false, cond, not}
use mathlib.Core.List.{List, [], ◌∷◌}
use lib.Dec.{eqb}
use borrow.Author.Tests.{eqb-true}
use Rattle.std.specs.Prelude.{Err, None, Ok, Option, Result, Some}
use Rattle.limits.specs.Limits.{LimitSet}
use Rattle.limits.specs.Outcome.{refuse_if, and_then, or_refuse}
use Rattle.limits.specs.declared.Refusal.{Refusal}
use Rattle.limits.specs.declared.Refusal.TheVariants.{UnknownRSeq, RAckCSeqMismatch, RAckMethodMismatch, DuplicatePrack}
use Rattle.rack.specs.declared.RAck.{RAck}
use Rattle.ordered_store.specs.Entries.{Key, entry_of, set_entry}
use Rattle.ordered_store.specs.Run.{Decided}
use Rattle.ordered_store.specs.History.{Call, decide, after, answer_of, content}
use Rattle.ordered_store.proofs.EntryLaws.{set_found, found_key}
use Rattle.ordered_store.proofs.HistoryLaws.{accepted}
use Rattle.prack_body.specs.Lists.{Pending, Tracked, is_due, cleaned, cleaned_list, first_of_rseq, acknowledge, marked}
use Rattle.prack_body.specs.Layout.{tracked_form}
use Rattle.prack_entries.specs.Entries.{key_of_text, key_of, held_for, clean_for}
use Rattle.prack_verdict.specs.Verdict.{rack_in, matched, judged, marked_by}
use Rattle.prack_validator.specs.Validator.{Action, Value, rack, rack_value, judged_for, marked_for, judge, calls}
use Rattle.prack_validator.specs.History.{held, answer_to, sent, Repeats}

-- of a list in which an entry is marked, that entry is still the first of its RSeq
first_marked : (r : ℕ) (ps : List Pending) (p : Pending) → first_of_rseq r ps ≡ Some p → first_of_rseq r (marked r ps) ≡ Some (acknowledge p)
unfolding first_of_rseq marked
first_marked r [] p e = absurd (let z : ◌≡◌ {A = ℕ} 0 1 = cc in omega arith)
first_marked r (q ∷ ps) p e = by (eqb q.rseq r) refl e (first_marked r ps p)
  where
    by : (t : Bool) → eqb q.rseq r ≡ t → cond t (Some q) (first_of_rseq r ps) ≡ Some p → (first_of_rseq r ps ≡ Some p → first_of_rseq r (marked r ps) ≡ Some (acknowledge p))
        → first_of_rseq r (cond t (acknowledge q ∷ ps) (q ∷ marked r ps)) ≡ Some (acknowledge p)
    by true h e more = ap (λ (t : Bool). cond t (Some (acknowledge q)) (first_of_rseq r ps)) h ∙ (let z : q ≡ p = cc in ap (λ (x : Pending). Some (acknowledge x)) z)
    by false h e more = ap (λ (t : Bool). cond t (Some q) (first_of_rseq r (marked r ps))) h ∙ more e

-- what it says that a PRACK was accepted
record Accepts (o : Option RAck) (list : Option (List Pending)) (k : RAck) : Type 0 where
  reads : o ≡ Some k
  entries : List Pending
  stands : list ≡ Some entries
  entry : Pending
  first : first_of_rseq k.rseq entries ≡ Some entry
  same_cseq : entry.cseq ≡ k.cseq
  same_method : entry.method ≡ k.method

accepts : (o : Option RAck) (list : Option (List Pending)) (k : RAck) → judged o list ≡ Ok k → Accepts o list k
unfolding judged
accepts None list k e = absurd (let z : ◌≡◌ {A = ℕ} 0 1 = cc in omega arith)
accepts (Some j) None k e = absurd (let z : ◌≡◌ {A = ℕ} 0 1 = cc in omega arith)
accepts (Some j) (Some ps) k e = by (first_of_rseq j.rseq ps) refl e
  where
    last : (p : Pending) → first_of_rseq j.rseq ps ≡ Some p → (c : Bool) → eqb p.cseq j.cseq ≡ c → (m : Bool) → eqb p.method j.method ≡ m → (a : Bool)
        → refuse_if (not c) RAckCSeqMismatch (refuse_if (not m) RAckMethodMismatch (refuse_if a DuplicatePrack (Ok j))) ≡ Ok k → Accepts (Some j) (Some ps) k
    last p q false hc m hm a e = absurd (let z : ◌≡◌ {A = ℕ} 0 1 = cc in omega arith)
    last p q true hc false hm a e = absurd (let z : ◌≡◌ {A = ℕ} 0 1 = cc in omega arith)
    last p q true hc true hm true e = absurd (let z : ◌≡◌ {A = ℕ} 0 1 = cc in omega arith)
    last p q true hc true hm false e =
        let z : j ≡ k = cc in
        record {
          reads = ap Some z;
          entries = ps;
          stands = refl;
          entry = p;
          first = ap (λ (x : RAck). first_of_rseq x.rseq ps) (sym z) ∙ q;
          same_cseq = eqb-true p.cseq j.cseq hc ∙ ap (λ (x : RAck). x.cseq) z;
          same_method = eqb-true p.method j.method hm ∙ ap (λ (x : RAck). x.method) z;
        }

    by : (f : Option Pending) → first_of_rseq j.rseq ps ≡ f → and_then (or_refuse UnknownRSeq f) (λ p. matched j p) ≡ Ok k → Accepts (Some j) (Some ps) k
    by None q e = absurd (let z : ◌≡◌ {A = ℕ} 0 1 = cc in omega arith)
    by (Some p) q e = last p q (eqb p.cseq j.cseq) refl (eqb p.method j.method) refl p.acknowledged e

module _ (L : LimitSet) (id : List ℕ) (ts : List Tracked) where
  -- what is held for a text after the cleanup has that text
  clean_key : (time : ℕ) → key_of (clean_for L time id ts) ≡ key_of_text id
  unfolding cleaned
  clean_key time = by (held_for id ts) refl
    where
      due : (t : Tracked) (b : Bool) → key_of (cond b (record { id = t.id; cleaned_at = time; list = cleaned_list L time t.list }) t) ≡ key_of t
      due t true = refl
      due t false = refl

      by : (o : Option Tracked) → held_for id ts ≡ o → key_of (cleaned L time id o) ≡ key_of_text id
      by None e = refl
      by (Some t) e = due t (is_due L time t) ∙ found_key key_of (key_of_text id) ts t e

  module _ (block : List ℕ) (time : ℕ) where
    -- what is held for the text is what the PRACK left
    held_then : held_for id (set_entry key_of (marked_for L id block time ts) ts) ≡ Some (marked_for L id block time ts)
    held_then = ap (λ (q : Key). entry_of key_of q (set_entry key_of (marked_for L id block time ts) ts)) (sym (clean_key time)) ∙ set_found key_of (marked_for L id block time ts) ts

  module _ (block : List ℕ) (time later : ℕ) (k : RAck) (h : judged_for L id block time ts ≡ Ok k) (u : is_due L later (marked_for L id block time ts) ≡ false) where
    abbrev now : Tracked
    now = marked_for L id block time ts

    abbrev then : List Tracked
    then = set_entry key_of (marked_for L id block time ts) ts

    clean_then : clean_for L later id then ≡ now
    unfolding cleaned
    clean_then = ap (cleaned L later id) (held_then block time) ∙ ap (λ (b : Bool). cond b (record { id = now.id; cleaned_at = later; list = cleaned_list L later now.list }) now) u

    pub accepted_repeats : Repeats L id block later (set_entry key_of (marked_for L id block time ts) ts)
    accepted_repeats =
        let a = accepts (rack_in block) (clean_for L time id ts).list k h in
        record {
          list = marked k.rseq a.entries;
          stands = ap (λ (t : Tracked). t.list) clean_then ∙ ap (λ v. marked_by v (clean_for L time id ts).list) h ∙ ap (marked_by (Ok k)) a.stands;
          rack = k;
          reads = a.reads;
          entry = acknowledge a.entry;
          first = first_marked k.rseq a.entries a.entry a.first;
          acknowledged = refl;
          same_cseq = a.same_cseq;
          same_method = a.same_method;
        }

-- ---- as calls

given_rack : (o : Result RAck Refusal) (k : RAck) → rack_value o ≡ Ok (rack k) → o ≡ Ok k
given_rack (Err cause) k e = absurd (let z : ◌≡◌ {A = ℕ} 0 1 = cc in omega arith)
given_rack (Ok j) k e = cc

module _ (L : LimitSet) (cs : List (Call Action)) (lent : ℕ) (id block : List ℕ) (time later : ℕ) (k : RAck) (t : Tracked) where
  abbrev call : Call Action
  call = sent lent id block time

  abbrev ts : List Tracked
  ts = held L cs

  abbrev changed : List Tracked
  changed = set_entry key_of (marked_for L id block time ts) ts

  -- what is held after an accepted PRACK, and its verdict
  left_by : answer_to L call cs ≡ Ok (rack k) → (held L (call ∷ cs) ≡ changed) × (judged_for L id block time ts ≡ Ok k)
  unfolding content judge
  left_by e = by (decide (tracked_form L) key_of (calls L) call ts) refl e
    where
      by : (o : Result (Decided Tracked Value) Refusal) → decide (tracked_form L) key_of (calls L) call ts ≡ o → answer_of (tracked_form L) key_of (calls L) o ≡ Ok (rack k)
          → (held L (call ∷ cs) ≡ changed) × (judged_for L id block time ts ≡ Ok k)
      by (Err cause) q e = absurd (let z : ◌≡◌ {A = ℕ} 0 1 = cc in omega arith)
      by (Ok d) q e =
          let a = accepted (tracked_form L) key_of (calls L) call ts d q in
          let entries : changed ≡ d.entries = cc in
          let answer : rack_value (judged_for L id block time ts) ≡ d.answer = cc in
          (ap (λ o. after (tracked_form L) key_of (calls L) o ts) q ∙ sym entries, given_rack (judged_for L id block time ts) k (answer ∙ e))

  pub repeats_later : answer_to L call cs ≡ Ok (rack k) → held_for id (held L (call ∷ cs)) ≡ Some t → is_due L later t ≡ false → Repeats L id block later (held L (call ∷ cs))
  repeats_later e h u =
      let w = left_by e in
      let one : Some t ≡ Some (marked_for L id block time ts) = sym h ∙ ap (held_for id) w.0 ∙ held_then L id ts block time in
      let same : t ≡ marked_for L id block time ts = cc in
      subst (Repeats L id block later) (sym w.0) (accepted_repeats L id ts block time later k w.1 (ap (is_due L later) (sym same) ∙ u))
