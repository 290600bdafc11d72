-- Every list of calls on a PRACK store that began empty: the used bytes are those of the lists that the definitions give, every answer is the one over them, each
-- list has at most as many entries as the set allows, and a PRACK for an acknowledged entry is refused with 24. Assumes nothing.
use Prim.Native.Nat.{ℕ, ◌+◌, ◌-◌, ◌≤◌, ◌<◌}
use native.Mathlib.Omega.{arith}
use mathlib.Core.Path.{◌≡◌, refl, sym, ap, ap₂, subst, ◌∙◌}
use mathlib.Core.Bool.{Bool, true, false, cond, not, ◌&&◌}
use mathlib.Core.List.{List, [], ◌∷◌, ◌++◌}
use lib.ListN.{length, drop, length-append, length-drop}
use lib.Dec.{ltb, eqb}
use borrow.Author.Tests.{le-leb, leb-true, ltb-false, le-ltb, eq-eqb}
use Rattle.std.specs.Prelude.{Err, None, Ok, Option, Result, Some}
use Rattle.limits.specs.Limits.{LimitSet}
use Rattle.limits.specs.Settings.{in_bounds, limits_in}
use Rattle.limits.specs.declared.settings.Settings.{Settings}
use Rattle.limits.specs.Outcome.{or_else, cause_if, refuse_if, and_then, or_refuse}
use Rattle.limits.specs.declared.Refusal.{Refusal}
use Rattle.limits.specs.declared.Refusal.TheVariants.{TextTooLong, Malformed, InvalidMethod, UnknownRSeq, RAckCSeqMismatch, RAckMethodMismatch, DuplicatePrack}
use Rattle.text.specs.Answers.{length_cause}
use Rattle.msg.specs.Block.{is_block, block_cause}
use Rattle.methods.specs.Methods.{is_method, method_cause}
use Rattle.output.specs.Output.{fitted}
use Rattle.rack.specs.declared.RAck.{RAck}
use Rattle.codec.proofs.CodecLaws.{GoodAll, Exact}
use Rattle.ordered_store.specs.Entries.{Key, ascending, entry_of, set_entry}
use Rattle.ordered_store.specs.Run.{Decided}
use Rattle.ordered_store.specs.History.{Call, EachSent, EachTyped, content, Follows, lending}
use Rattle.ordered_store.proofs.EntryLaws.{set_ascends, without_ascends, set_good, without_good, found_good, found_key, set_again}
use Rattle.ordered_store.proofs.HistoryLaws.{each_typed, Sound, Keeps, Stands, same_answer, settled, sound, stands, follows}
use Rattle.prack_body.specs.Lists.{Pending, Tracked, stays, staying, cleaned_list, is_due, cleaned, entries_of, pushed, pending_of, registered, first_of_rseq, marked, is_other, without_pracked, open_in, with_list}
use Rattle.prack_body.specs.Layout.{tracked_form, PendingFormed, AllFormed, is_short, ListFormed, TrackedFormed, open_bytes}
use Rattle.prack_body.proofs.LayoutLaws.{tracked_exact}
use Rattle.prack_body.proofs.BodyLaws.{formed_from, staying_formed, staying_short}
use Rattle.prack_list.proofs.PushLaws.{more_formed}
use Rattle.prack_list.proofs.FindLaws.{marked_formed, marked_many}
use Rattle.prack_entries.specs.Entries.{key_of_text, key_of, held_for, clean_for}
use Rattle.prack_entries.proofs.PlaceLaws.{filled}
use Rattle.prack_verdict.specs.Verdict.{matched, judged, marked_by}
use Rattle.prack_validator.specs.Validator.{Action, register, validate, is_pracked, get_pending, remove_dialog, remove_pracked, Value, written, action_cause, rack_value, deciding, judged_for, marked_for, pruned, judge, Typed, calls}
use Rattle.prack_validator.specs.History.{held, store, Repeats, Sendable, PrackHistory}
use Rattle.prack_validator.proofs.OperationLaws.{pending_bounds}
use Rattle.prack_validator.proofs.RepeatLaws.{repeats_later}

module _ (settings : Settings) (permitted : in_bounds settings ≡ true) where
  abbrev L : LimitSet
  L = limits_in settings

  abbrev pub Good : Tracked → Type 0
  Good = TrackedFormed L

  -- what is held has bytes where it is formed, and is read back
  pub held_exact : Exact (tracked_form L) Good
  held_exact = tracked_exact L (omega (arith, (pending_bounds settings permitted).1))

  -- ---- each step keeps what is held well formed

  -- a text that is taken is short
  short : (id : List ℕ) → length_cause L id ≡ None → length id < 65536
  short id e = by (ltb 8192 (length id)) refl e
    where
      by : (t : Bool) → ltb 8192 (length id) ≡ t → cause_if t TextTooLong ≡ None → length id < 65536
      by true p q = absurd (let z : ◌≡◌ {A = ℕ} 0 1 = cc in omega arith)
      by false p q = omega (arith, ltb-false 8192 (length id) p)

  -- a method that is taken is one
  known : (m : ℕ) → method_cause m ≡ None → is_method m ≡ true
  known m e = by (is_method m) refl e
    where
      by : (t : Bool) → is_method m ≡ t → method_cause m ≡ None → is_method m ≡ true
      by true p q = p
      by false p q = absurd (let r : Some InvalidMethod ≡ None = sym (ap (λ t. cause_if (not t) InvalidMethod) p) ∙ q in let z : ◌≡◌ {A = ℕ} 0 1 = cc in omega arith)

  few : (ps : List Pending) → is_short L ps ≡ true → length ps ≤ L.pending
  few ps e = leb-true (length ps) L.pending e

  kept_formed : (test : Pending → Bool) (ps : List Pending) → ListFormed L (Some ps) → ListFormed L (Some (staying test ps))
  kept_formed test ps f = (staying_formed test ps f.0, le-leb (length (staying test ps)) L.pending (omega (arith, staying_short test ps, few ps f.1)))

  clean_list : (time : ℕ) (o : Option (List Pending)) → ListFormed L o → ListFormed L (cleaned_list L time o)
  clean_list time None f = tt
  clean_list time (Some ps) f = kept_formed (stays L time) ps f

  pruned_list : (r : ℕ) (o : Option (List Pending)) → ListFormed L o → ListFormed L (without_pracked r o)
  pruned_list r None f = tt
  pruned_list r (Some ps) f = kept_formed (is_other r) ps f

  marked_list : (v : Result RAck Refusal) (o : Option (List Pending)) → ListFormed L o → ListFormed L (marked_by v o)
  marked_list (Err cause) o f = f
  marked_list (Ok k) None f = tt
  marked_list (Ok k) (Some ps) f = (marked_formed k.rseq ps f.0, le-leb (length (marked k.rseq ps)) L.pending (omega (arith, marked_many k.rseq ps, few ps f.1)))

  entries_formed : (o : Option (List Pending)) → ListFormed L o → AllFormed (entries_of o)
  entries_formed None f = tt
  entries_formed (Some ps) f = f.0

  pushed_list : (p : Pending) (o : Option (List Pending)) → PendingFormed p → ListFormed L o → ListFormed L (Some (pushed L p (entries_of o)))
  unfolding pushed
  pushed_list p o g f =
      let ps : List Pending = entries_of o in
      let kept : List Pending = drop (length ps + 1 - L.pending) ps in
      (more_formed kept p (formed_from (length ps + 1 - L.pending) ps (entries_formed o f)) g, le-leb (length (kept ++ (p ∷ []))) L.pending (omega (arith, (pending_bounds settings permitted).0, length-append kept (p ∷ []), length-drop (length ps + 1 - L.pending) ps)))

  with_list_lem : (t : Tracked) (o : Option (List Pending)) → Good t → ListFormed L o → Good (with_list o t)
  with_list_lem t o g f = record { id_short = g.id_short; time_fits = g.time_fits; list_formed = f }

  -- after the cleanup of a call
  cleaned_good : (time : ℕ) (id : List ℕ) (ts : List Tracked) → time < 18446744073709551616 → length id < 65536 → GoodAll Good ts → Good (clean_for L time id ts)
  unfolding cleaned
  cleaned_good time id ts h l g = by (held_for id ts) refl
    where
      due : (t : Tracked) → Good t → (b : Bool) → Good (cond b (record { id = t.id; cleaned_at = time; list = cleaned_list L time t.list }) t)
      due t f true = record { id_short = f.id_short; time_fits = h; list_formed = clean_list time t.list f.list_formed }
      due t f false = f

      by : (o : Option Tracked) → held_for id ts ≡ o → Good (cleaned L time id o)
      by None e = record { id_short = l; time_fits = h; list_formed = tt }
      by (Some t) e = due t (found_good key_of Good (key_of_text id) ts t g e) (is_due L time t)

  -- ---- each call keeps well-formed, ascending entries so

  set_sound : (t : Tracked) (ts : List Tracked) → Good t → Sound key_of Good ts → Sound key_of Good (set_entry key_of t ts)
  set_sound t ts g s = (set_good key_of Good t ts g s.0, set_ascends key_of t ts s.1)

  -- what was decided
  decided : {ts : List Tracked} {a : Result Value Refusal} {d : Decided Tracked Value} → deciding ts a ≡ Ok d → ts ≡ d.entries
  decided {ts} {a} {d} e = let k : record { entries = ts; answer = a } ≡ d = cc in ap (λ (x : Decided Tracked Value). x.entries) k

  first_none : (a b : Option Refusal) → or_else a b ≡ None → (a ≡ None) × (b ≡ None)
  first_none None b e = (refl, e)
  first_none (Some x) b e = absurd (let z : ◌≡◌ {A = ℕ} 0 1 = cc in omega arith)

  action_keeps : (a : Action) (ts : List Tracked) (d : Decided Tracked Value) → Typed a → action_cause L a ≡ None → judge L a ts ≡ Ok d → Sound key_of Good ts → Sound key_of Good d.entries
  unfolding action_cause judge
  action_keeps (register id rseq cseq method code time) ts d n c j s =
      let p : Pending = pending_of rseq cseq method code time in
      let k = first_none (length_cause L id) (method_cause method) c in
      let t : Tracked = clean_for L time id ts in
      let g : Good t = cleaned_good time id ts n.1.1.1 (short id k.0) s.0 in
      let f : PendingFormed p = record { rseq_fits = n.0; cseq_fits = n.1.0; method_known = known method k.1; code_fits = n.1.1.0; time_fits = n.1.1.1 } in
      subst (Sound key_of Good) (decided j)
      (set_sound (registered L p t) ts (with_list_lem t (Some (pushed L p (entries_of t.list))) g (pushed_list p t.list f g.list_formed)) s)
  action_keeps (validate id block time) ts d n c j s =
      let t : Tracked = clean_for L time id ts in
      let g : Good t = cleaned_good time id ts n (short id (first_none (length_cause L id) _ c).0) s.0 in
      subst (Sound key_of Good) (decided j)
      (set_sound (marked_for L id block time ts) ts (with_list_lem t _ g (marked_list (judged_for L id block time ts) t.list g.list_formed)) s)
  action_keeps (is_pracked id r) ts d n c j s = subst (Sound key_of Good) (decided j) s
  action_keeps (get_pending id time room) ts d n c j s = by (fitted room (open_bytes (open_in t.list))) j
    where
      t : Tracked
      t = clean_for L time id ts

      by : (o : Result (List ℕ) Refusal) → and_then o (λ bytes. deciding (set_entry key_of t ts) (Ok (written bytes))) ≡ Ok d → Sound key_of Good d.entries
      by (Err cause) e = absurd (let z : ◌≡◌ {A = ℕ} 0 1 = cc in omega arith)
      by (Ok bytes) e = subst (Sound key_of Good) (decided e) (set_sound t ts (cleaned_good time id ts n (short id c) s.0) s)
  action_keeps (remove_dialog id) ts d n c j s =
      subst (Sound key_of Good) (decided j) (without_good key_of Good (key_of_text id) ts s.0, without_ascends key_of (key_of_text id) ts s.1)
  action_keeps (remove_pracked id r) ts d n c j s = subst (Sound key_of Good) (decided j) (by (held_for id ts) refl)
    where
      by : (o : Option Tracked) → held_for id ts ≡ o → Sound key_of Good (pruned r o ts)
      by None e = s
      by (Some t) e =
          let g : Good t = found_good key_of Good (key_of_text id) ts t s.0 e in
          set_sound (with_list (without_pracked r t.list) t) ts (with_list_lem t (without_pracked r t.list) g (pruned_list r t.list g.list_formed)) s

  pub keeps : Keeps key_of Good (calls L)
  keeps = action_keeps

  -- ---- every list of calls

  -- the store follows the lists, for every list of calls each lent at most the memory
  pub prack_follows : (m : List ℕ) (cs : List (Call Action)) → EachSent (calls L) m cs → Follows (tracked_form L) key_of (calls L) m cs
  prack_follows m cs s = follows (tracked_form L) key_of (calls L) Good held_exact (filled L) keeps m cs s

  -- after every list of calls, what is held is well formed and in ascending order of its texts
  pub held_sound : (cs : List (Call Action)) → EachTyped (calls L) cs → Sound key_of Good (content (tracked_form L) key_of (calls L) cs)
  held_sound cs s = sound (tracked_form L) key_of (calls L) Good held_exact (filled L) keeps cs s

  -- ---- each list has at most as many entries as the set allows

  module _ (cs : List (Call Action)) (s : EachTyped (calls L) cs) where
    at_most : (id : List ℕ) (t : Tracked) (ps : List Pending) → held_for id (held L cs) ≡ Some t → t.list ≡ Some ps → length ps ≤ L.pending
    at_most id t ps e l =
        let g : Good t = found_good key_of Good (key_of_text id) (held L cs) t (held_sound cs s).0 e in
        few ps (subst (ListFormed L) l g.list_formed).1

  -- ---- a PRACK that acknowledges again

  -- the first entry of an RSeq among those that a test leaves passes it
  passed : (test : Pending → Bool) (r : ℕ) (ps : List Pending) (p : Pending) → first_of_rseq r (staying test ps) ≡ Some p → test p ≡ true
  unfolding first_of_rseq staying
  passed test r [] p e = absurd (let z : ◌≡◌ {A = ℕ} 0 1 = cc in omega arith)
  passed test r (q ∷ ps) p e = by (test q) refl e (passed test r ps p)
    where
      here : (t : Bool) → test q ≡ true → cond t (Some q) (first_of_rseq r (staying test ps)) ≡ Some p → (first_of_rseq r (staying test ps) ≡ Some p → test p ≡ true) → test p ≡ true
      here true h e more = let z : q ≡ p = cc in subst (λ x. test x ≡ true) z h
      here false h e more = more e

      by : (t : Bool) → test q ≡ t → first_of_rseq r (cond t (q ∷ staying test ps) (staying test ps)) ≡ Some p → (first_of_rseq r (staying test ps) ≡ Some p → test p ≡ true) → test p ≡ true
      by true h e more = here (eqb q.rseq r) h e more
      by false h e more = more e

  -- an entry that a cleanup leaves isn't acknowledged
  not_both : (a b : Bool) → a ≡ true → (not a && b) ≡ true → ⊥
  not_both true b e f = let z : ◌≡◌ {A = ℕ} 0 1 = cc in omega arith
  not_both false b e f = let z : ◌≡◌ {A = ℕ} 0 1 = cc in omega arith

  module _ (id block : List ℕ) (time : ℕ) (ts : List Tracked) (w : Repeats L id block time ts) where
    -- what is held is as it was: no cleanup was due, since it would have dropped the entry
    pub record Undue : Type 0 where
      pub t : Tracked
      pub is : held_for id ts ≡ Some t
      pub clean : clean_for L time id ts ≡ t

    undue : Undue
    unfolding cleaned
    undue = by (held_for id ts) refl w.stands
      where
        gone : (o : Option (List Pending)) → cleaned_list L time o ≡ Some w.list → ⊥
        gone None e = let z : ◌≡◌ {A = ℕ} 0 1 = cc in omega arith
        gone (Some ps) e =
            let z : staying (stays L time) ps ≡ w.list = cc in
            not_both w.entry.acknowledged _ w.acknowledged (passed (stays L time) w.rack.rseq ps w.entry (ap (first_of_rseq w.rack.rseq) z ∙ w.first))

        due : (t : Tracked) → held_for id ts ≡ Some t → (b : Bool) → is_due L time t ≡ b
            → (cond b (record { id = t.id; cleaned_at = time; list = cleaned_list L time t.list }) t).list ≡ Some w.list → Undue
        due t e true b l = absurd (gone t.list l)
        due t e false b l = record {
          t = t;
          is = e;
          clean = ap (cleaned L time id) e ∙ ap (λ (x : Bool). cond x (record { id = t.id; cleaned_at = time; list = cleaned_list L time t.list }) t) b;
        }

        by : (o : Option Tracked) → held_for id ts ≡ o → (cleaned L time id o).list ≡ Some w.list → Undue
        by None e l = absurd (let z : ◌≡◌ {A = ℕ} 0 1 = cc in omega arith)
        by (Some t) e l = due t e (is_due L time t) refl l

    -- the verdict
    duplicate : judged_for L id block time ts ≡ Err DuplicatePrack
    unfolding judged
    duplicate =
        ap₂ judged w.reads w.stands
        ∙ ap (λ o. and_then (or_refuse UnknownRSeq o) (λ p. matched w.rack p)) w.first
        ∙ ap (λ (t : Bool). refuse_if (not t) RAckCSeqMismatch (refuse_if (not (eqb w.entry.method w.rack.method)) RAckMethodMismatch (refuse_if w.entry.acknowledged DuplicatePrack (Ok w.rack)))) (eq-eqb w.entry.cseq w.rack.cseq w.same_cseq)
        ∙ ap (λ (t : Bool). refuse_if (not t) RAckMethodMismatch (refuse_if w.entry.acknowledged DuplicatePrack (Ok w.rack))) (eq-eqb w.entry.method w.rack.method w.same_method)
        ∙ ap (λ (t : Bool). refuse_if t DuplicatePrack (Ok w.rack)) w.acknowledged

    -- and nothing changes
    unchanged : ascending key_of ts ≡ true → set_entry key_of (marked_for L id block time ts) ts ≡ ts
    unchanged up =
        let u = undue in
        let k : key_of u.t ≡ key_of_text id = found_key key_of (key_of_text id) ts u.t u.is in
        let same : marked_for L id block time ts ≡ u.t =
        ap (λ v. with_list (marked_by v (clean_for L time id ts).list) (clean_for L time id ts)) duplicate ∙ ap (λ (x : Tracked). with_list x.list x) u.clean in
        ap (λ (x : Tracked). set_entry key_of x ts) same ∙ set_again key_of u.t ts up (ap (λ (q : Key). entry_of key_of q ts) k ∙ u.is)

    decided_so : ascending key_of ts ≡ true → judge L (validate id block time) ts ≡ deciding ts (Err DuplicatePrack)
    unfolding judge
    decided_so up = ap₂ (λ (x : List Tracked) (v : Result RAck Refusal). deciding x (rack_value v)) (unchanged up) duplicate

  -- the arguments are taken
  taken : (id block : List ℕ) (time : ℕ) → length id ≤ 8192 → length block ≤ 8192 → is_block block ≡ true → action_cause L (validate id block time) ≡ None
  unfolding action_cause block_cause
  taken id block time a b f =
      ap (λ (t : Bool). or_else (cause_if t TextTooLong) (or_else (length_cause L block) (cause_if (not (is_block block)) Malformed))) (le-ltb 8192 (length id) a)
      ∙ ap (λ (t : Bool). or_else (cause_if t TextTooLong) (cause_if (not (is_block block)) Malformed)) (le-ltb 8192 (length block) b)
      ∙ ap (λ (t : Bool). cause_if (not t) Malformed) f

  -- ---- the claim

  pub prack_history : (m : List ℕ) (cs : List (Call Action)) → EachSent (calls L) m cs → PrackHistory L m cs
  prack_history m cs s = record {
    follows = prack_follows m cs s;
    few = at_most cs typed;
    repeated = λ lent id block time ok w. by lent id block time ok w;
    repeats = λ lent id block time later k t e h u. repeats_later L cs lent id block time later k t e h u;
  }
    where
      typed : EachTyped (calls L) cs
      typed = each_typed (calls L) m cs s

      ts : List Tracked
      ts = held L cs

      f : Stands (tracked_form L) key_of (calls L) m (store L m cs) (held L cs)
      f = stands (tracked_form L) key_of (calls L) Good held_exact (filled L) keeps m cs s

      by : (lent : ℕ) (id block : List ℕ) (time : ℕ) → Sendable L m lent (store L m cs).used id block → Repeats L id block time (held L cs)
          → (lending (tracked_form L) key_of (calls L) (record { lent = lent; action = validate id block time }) (store L m cs)).answer ≡ Err DuplicatePrack
      by lent id block time ok w =
          same_answer (tracked_form L) key_of (calls L) Good held_exact (filled L) m (record { lent = lent; action = validate id block time }) (store L m cs) (held L cs) (held_sound cs typed) f ok.lends
          ∙ settled (tracked_form L) key_of (calls L) (record { lent = lent; action = validate id block time }) (held L cs) (record { entries = held L cs; answer = Err DuplicatePrack })
          (taken id block time ok.text_fits ok.block_fits ok.formed) (omega (arith, ok.holds, f.used_is)) (decided_so id block time (held L cs) w (held_sound cs typed).1) (omega (arith, ok.holds, f.used_is))
