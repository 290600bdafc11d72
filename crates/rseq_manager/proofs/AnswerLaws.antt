-- What each call answers, by what its steps answered: the last step of every operation. Assumes nothing.
use Prim.Native.Nat.{ℕ, ◌+◌, ◌-◌, ◌≤◌, ◌<◌}
use native.Mathlib.Omega.{arith}
use mathlib.Core.Path.{◌≡◌, refl, sym, ap, ap₂, subst, ◌∙◌}
use mathlib.Core.Logic.{inl, inr}
use mathlib.Core.Bool.{Bool, true, false}
use mathlib.Core.List.{List, []}
use lib.ListN.{length, take}
use lib.Dec.{ltb}
use borrow.Author.Tests.{ltb-false}
use Rattle.std.specs.Option.{ok_or}
use Rattle.std.specs.Prelude.{MatchResult, Err, None, Ok, Option, Result, Some}
use Rattle.limits.specs.Limits.{rust_limits}
use Rattle.limits.specs.Outcome.{cause_if, or_else, check_of}
use Rattle.limits.specs.declared.Refusal.{Refusal}
use Rattle.limits.proofs.Laws.{passed, stopped}
use Rattle.limits.specs.declared.Refusal.TheVariants.{BadStore, NotFound, TextTooLong}
use Rattle.text.specs.Answers.{length_cause}
use Rattle.edit.specs.Edit.{over, put_at, spliced}
use Rattle.output.specs.Output.{fitted, leaves}
use Rattle.codec.specs.Codec.{four}
use Rattle.codec.proofs.CodecLaws.{Bytes}
use Rattle.ordered_store.specs.Answers.{written_in, used_written}
use Rattle.ordered_store.specs.Entries.{decode_entries}
use Rattle.ordered_store.specs.Places.{count_of}
use Rattle.ordered_store.specs.Run.{Left}
use Rattle.ordered_store.proofs.SlotLaws.{not_read}
use Rattle.dialog_id.specs.Ident.{Ident, ident_cause}
use Rattle.rseq_entries.specs.Entries.{key_of_ident, Entry, key_of, entry_form}
use Rattle.rseq_manager.specs.RSeq.{first_number, next_number, next, current, remove, len, action_cause, numbered, judge, ran}
use Rattle.rseq_manager.specs.Answers.{numbered_in, used_after, numbered_from, current_of, counted_of}
use Rattle.rseq_entries.specs.Places.{slot_for}
use Rattle.rseq_entries.specs.declared.entries.EntryAt.{EntryAt}
use Rattle.rseq_entries.proofs.SlotLaws.{holds, lacks, unreadable}
use Rattle.rseq_manager.proofs.OperationLaws.{accepted, by_arguments, by_store, by_keeping, current_held, current_free, remove_held, remove_free, next_held, next_free, left_by}

-- ---- the arguments

none_first : (o p : Option Refusal) → or_else o p ≡ None → (o ≡ None) × (p ≡ None)
none_first None p e = (refl, e)
none_first (Some x) p e = absurd (let z : ◌≡◌ {A = ℕ} 0 1 = cc in omega arith)

short : (t : List ℕ) → length_cause rust_limits t ≡ None → length t < 65536
short t e = by (ltb 8192 (length t)) refl e
  where
    by : (b : Bool) → ltb 8192 (length t) ≡ b → cause_if b TextTooLong ≡ None → length t < 65536
    by true q e = absurd (let z : ◌≡◌ {A = ℕ} 0 1 = cc in omega arith)
    by false q e = omega (arith, ltb-false 8192 (length t) q)

-- the texts of an identifier that is taken have an image
pub shorts : (i : Ident) → ident_cause rust_limits i ≡ None → (length i.call_id < 65536) × (length i.local_tag < 65536) × (length i.remote_tag < 65536)
shorts i e =
    let p = none_first (length_cause rust_limits i.call_id) (or_else (length_cause rust_limits i.local_tag) (length_cause rust_limits i.remote_tag)) e in
    let q = none_first (length_cause rust_limits i.local_tag) (length_cause rust_limits i.remote_tag) p.1 in
    (short i.call_id p.0, short i.local_tag q.0, short i.remote_tag q.1)

-- the causes of a call are its identifier's
module _ (i : Ident) (n : ℕ) {o : Option Refusal} (e : ident_cause rust_limits i ≡ o) where
  next_cause : action_cause rust_limits (next i n) ≡ o
  unfolding action_cause
  next_cause = e

  current_cause : action_cause rust_limits (current i) ≡ o
  unfolding action_cause
  current_cause = e

  remove_cause : action_cause rust_limits (remove i) ≡ o
  unfolding action_cause
  remove_cause = e

len_cause : action_cause rust_limits len ≡ None
unfolding action_cause
len_cause = refl

-- ---- what is left, as each call answers it

abbrev DoneNext : ℕ → Left ℕ → Result (ℕ × ℕ) Refusal → List ℕ → Type 0
DoneNext used l r after = (r ≡ numbered_in l) × ((after ≡ l.bytes) × (used_after r used ≡ l.used))

abbrev DoneRemove : ℕ → Left ℕ → Result ℕ Refusal → List ℕ → Type 0
DoneRemove used l r after = (r ≡ written_in l) × ((after ≡ l.bytes) × (used_written r used ≡ l.used))

abbrev DoneCurrent : List ℕ → ℕ → Left ℕ → Result ℕ Refusal → Type 0
DoneCurrent bytes used l r = (r ≡ current_of l.answer) × ((bytes ≡ l.bytes) × (used ≡ l.used))

abbrev DoneLen : List ℕ → ℕ → Left ℕ → Result ℕ Refusal → Type 0
DoneLen bytes used l r = (r ≡ counted_of l.answer) × ((bytes ≡ l.bytes) × (used ≡ l.used))

-- ---- what is absent is refused

pub refused_by : {P : Type 0} (o : Option P) (x : Refusal) {cause : Refusal} {r : Result P Refusal} → r ≡ ok_or o x → r ≡ Err cause → cause ≡ x
refused_by None x e w = cc
refused_by {P} (Some v) x {cause} e w =
    let q : ◌≡◌ {A = Result P Refusal} (Err cause) (Ok v) = sym w ∙ e in
    absurd (let z : ◌≡◌ {A = ℕ} 0 1 = cc in omega arith)

module _ (i : Ident) (bytes : List ℕ) (used : ℕ) (b : Bytes bytes) where
  -- ---- next_rseq

  module _ (n : ℕ) where
    abbrev next_left : Left ℕ
    next_left = ran rust_limits (next i n) bytes used

    pub next_refused : {x : Refusal} → check_of (ident_cause rust_limits i) ≡ Err x → DoneNext used next_left (Err x) bytes
    next_refused {x} e =
        subst (λ (l : Left ℕ). DoneNext used l (Err x) bytes) (sym (by_arguments rust_limits bytes used (next i n) (next_cause i n (stopped (ident_cause rust_limits i) e)))) (refl, (refl, refl))

    module _ (p : check_of (ident_cause rust_limits i) ≡ Ok tt) where
      next_clear : action_cause rust_limits (next i n) ≡ None
      next_clear = next_cause i n (passed (ident_cause rust_limits i) p)

      pub next_broken : {x : Refusal} → slot_for (key_of_ident i) bytes used ≡ Err x → DoneNext used next_left (Err x) bytes
      next_broken {x} s =
          let u = unreadable (key_of_ident i) bytes used s in
          subst (λ (l : Left ℕ). DoneNext used l (Err x) bytes) (sym (by_store rust_limits bytes used (next i n) next_clear (key_of_ident i) u.1)) (ap Err u.0, (refl, refl))

      -- a held number: its four bytes
      pub next_raised : {p : EntryAt} {m : ℕ} {after : List ℕ} → slot_for (key_of_ident i) bytes used ≡ Ok (Ok p) → m ≡ next_number p.number
          → after ≡ put_at (p.end - 4) (four.write m) bytes → DoneNext used next_left (Ok (m, used)) after
      next_raised {p} {m} {after} s q w =
          let e : next_left ≡ accepted after used m =
          next_held bytes used b i (holds (key_of_ident i) bytes used s) rust_limits n next_clear
          ∙ ap₂ (λ (x : List ℕ) (k : ℕ). accepted x used k) (sym (w ∙ ap (λ (k : ℕ). put_at (p.end - 4) (four.write k) bytes) q)) (sym q) in
          subst (λ (l : Left ℕ). DoneNext used l (Ok (m, used)) after) (sym e) (refl, (refl, refl))

      -- a new one
      pub next_new : {at m : ℕ} {r : Result (ℕ × ℕ) Refusal} {after : List ℕ} → slot_for (key_of_ident i) bytes used ≡ Ok (Err at) → m ≡ first_number n
          → (r ≡ numbered_from m (fitted (length bytes) (spliced at 0 (entry_form.write (numbered i m)) (take used bytes))))
          × (after ≡ leaves (fitted (length bytes) (spliced at 0 (entry_form.write (numbered i m)) (take used bytes))) bytes)
          → DoneNext used next_left r after
      next_new {at} {m} {r} {after} s q w =
          let f = lacks (key_of_ident i) bytes used s in
          let e : next_left ≡ left_by bytes used b i f rust_limits m (fitted (length bytes) (spliced at 0 (entry_form.write (numbered i m)) (take used bytes))) =
          next_free bytes used b i f rust_limits n next_clear
          ∙ ap (λ (k : ℕ). left_by bytes used b i f rust_limits k (fitted (length bytes) (spliced at 0 (entry_form.write (numbered i k)) (take used bytes)))) (sym q) in
          subst (λ (l : Left ℕ). DoneNext used l r after) (sym e) (by (fitted (length bytes) (spliced at 0 (entry_form.write (numbered i m)) (take used bytes))) w)
        where
          by : (o : Result (List ℕ) Refusal) → (r ≡ numbered_from m o) × (after ≡ leaves o bytes) → DoneNext used (left_by bytes used b i (lacks (key_of_ident i) bytes used s) rust_limits m o) r after
          by (Err cause) w = (w.0, (w.1, ap (λ (x : Result (ℕ × ℕ) Refusal). used_after x used) w.0))
          by (Ok t) w = (w.0, (w.1, ap (λ (x : Result (ℕ × ℕ) Refusal). used_after x used) w.0))

  -- ---- current_rseq

  abbrev current_left : Left ℕ
  current_left = ran rust_limits (current i) bytes used

  pub current_refused : {x : Refusal} → check_of (ident_cause rust_limits i) ≡ Err x → DoneCurrent bytes used current_left (Err x)
  current_refused {x} e =
      subst (λ (l : Left ℕ). DoneCurrent bytes used l (Err x)) (sym (by_arguments rust_limits bytes used (current i) (current_cause i 0 (stopped (ident_cause rust_limits i) e)))) (refl, (refl, refl))

  module _ (p : check_of (ident_cause rust_limits i) ≡ Ok tt) where
    current_clear : action_cause rust_limits (current i) ≡ None
    current_clear = current_cause i 0 (passed (ident_cause rust_limits i) p)

    pub current_broken : {x : Refusal} → slot_for (key_of_ident i) bytes used ≡ Err x → DoneCurrent bytes used current_left (Err x)
    current_broken {x} s =
        let u = unreadable (key_of_ident i) bytes used s in
        subst (λ (l : Left ℕ). DoneCurrent bytes used l (Err x)) (sym (by_store rust_limits bytes used (current i) current_clear (key_of_ident i) u.1)) (ap Err u.0, (refl, refl))

    pub current_is : {p : EntryAt} → slot_for (key_of_ident i) bytes used ≡ Ok (Ok p) → DoneCurrent bytes used current_left (Ok p.number)
    current_is {p} s =
        subst (λ (l : Left ℕ). DoneCurrent bytes used l (Ok p.number)) (sym (current_held bytes used b i (holds (key_of_ident i) bytes used s) rust_limits current_clear)) (refl, (refl, refl))

    -- 15
    pub current_none : {at : ℕ} → slot_for (key_of_ident i) bytes used ≡ Ok (Err at) → DoneCurrent bytes used current_left (Err NotFound)
    current_none s =
        subst (λ (l : Left ℕ). DoneCurrent bytes used l (Err NotFound)) (sym (current_free bytes used b i (lacks (key_of_ident i) bytes used s) rust_limits current_clear)) (refl, (refl, refl))

    -- the slot asked for its entry
    pub current_held_there : (s : Result EntryAt ℕ) → slot_for (key_of_ident i) bytes used ≡ Ok s → {m : Result EntryAt Refusal} {e : EntryAt} → MatchResult s (λ x. m ≡ Ok x) (λ _. m ≡ Err NotFound) → m ≡ Ok e
        → DoneCurrent bytes used current_left (Ok e.number)
    current_held_there (Ok x) q {m} {e} n w = let z : x ≡ e = cc in subst (λ (y : EntryAt). DoneCurrent bytes used current_left (Ok y.number)) z (current_is q)
    current_held_there (Err at) q n w = absurd (let z : ◌≡◌ {A = ℕ} 0 1 = cc in omega arith)

    pub current_lacking : (s : Result EntryAt ℕ) → slot_for (key_of_ident i) bytes used ≡ Ok s → {m : Result EntryAt Refusal} {x : Refusal} → MatchResult s (λ e. m ≡ Ok e) (λ _. m ≡ Err NotFound) → m ≡ Err x
        → DoneCurrent bytes used current_left (Err x)
    current_lacking (Ok e) q n w = absurd (let z : ◌≡◌ {A = ℕ} 0 1 = cc in omega arith)
    current_lacking (Err at) q {m} {x} n w = let z : NotFound ≡ x = cc in subst (λ (y : Refusal). DoneCurrent bytes used current_left (Err y)) z (current_none q)

  -- ---- remove

  abbrev remove_left : Left ℕ
  remove_left = ran rust_limits (remove i) bytes used

  pub remove_refused : {x : Refusal} → check_of (ident_cause rust_limits i) ≡ Err x → DoneRemove used remove_left (Err x) bytes
  remove_refused {x} e =
      subst (λ (l : Left ℕ). DoneRemove used l (Err x) bytes) (sym (by_arguments rust_limits bytes used (remove i) (remove_cause i 0 (stopped (ident_cause rust_limits i) e)))) (refl, (refl, refl))

  module _ (p : check_of (ident_cause rust_limits i) ≡ Ok tt) where
    remove_clear : action_cause rust_limits (remove i) ≡ None
    remove_clear = remove_cause i 0 (passed (ident_cause rust_limits i) p)

    pub remove_broken : {x : Refusal} → slot_for (key_of_ident i) bytes used ≡ Err x → DoneRemove used remove_left (Err x) bytes
    remove_broken {x} s =
        let u = unreadable (key_of_ident i) bytes used s in
        subst (λ (l : Left ℕ). DoneRemove used l (Err x) bytes) (sym (by_store rust_limits bytes used (remove i) remove_clear (key_of_ident i) u.1)) (ap Err u.0, (refl, refl))

    -- its bytes cut out
    pub remove_cut : {p : EntryAt} {n : ℕ} {after : List ℕ} → slot_for (key_of_ident i) bytes used ≡ Ok (Ok p) → n ≡ used - (p.end - (p.id.call_id.start - 2)) + 0
        → after ≡ over (spliced (p.id.call_id.start - 2) (p.end - (p.id.call_id.start - 2)) [] (take used bytes)) bytes → DoneRemove used remove_left (Ok n) after
    remove_cut {p} {n} {after} s q w =
        let e : remove_left ≡ accepted after n 0 =
        remove_held bytes used b i (holds (key_of_ident i) bytes used s) rust_limits remove_clear ∙ ap₂ (λ (x : List ℕ) (k : ℕ). accepted x k 0) (sym w) (sym q) in
        subst (λ (l : Left ℕ). DoneRemove used l (Ok n) after) (sym e) (refl, (refl, refl))

    -- nothing to remove
    pub remove_nothing : {at : ℕ} → slot_for (key_of_ident i) bytes used ≡ Ok (Err at) → DoneRemove used remove_left (Ok used) bytes
    remove_nothing s =
        subst (λ (l : Left ℕ). DoneRemove used l (Ok used) bytes) (sym (remove_free bytes used b i (lacks (key_of_ident i) bytes used s) rust_limits remove_clear)) (refl, (refl, refl))

-- ---- len

module _ (bytes : List ℕ) (used : ℕ) where
  abbrev len_left : Left ℕ
  len_left = ran rust_limits len bytes used

  pub len_over : length bytes < used → DoneLen bytes used len_left (Err BadStore)
  len_over h = subst (λ (l : Left ℕ). DoneLen bytes used l (Err BadStore)) (sym (by_store rust_limits bytes used len len_cause [] (inl h))) (refl, (refl, refl))

  module _ (h : used ≤ length bytes) where
    pub len_broken : count_of (decode_entries entry_form key_of (take used bytes)) ≡ None → DoneLen bytes used len_left (Err BadStore)
    len_broken e =
        subst (λ (l : Left ℕ). DoneLen bytes used l (Err BadStore)) (sym (by_store rust_limits bytes used len len_cause [] (inr (h, not_read entry_form key_of (take used bytes) e)))) (refl, (refl, refl))

    pub len_is : Bytes bytes → {n : ℕ} → count_of (decode_entries entry_form key_of (take used bytes)) ≡ Some n → DoneLen bytes used len_left (Ok n)
    unfolding judge
    len_is b {n} e = by (decode_entries entry_form key_of (take used bytes)) refl e
      where
        by : (o : Option (List Entry)) → decode_entries entry_form key_of (take used bytes) ≡ o → count_of o ≡ Some n → DoneLen bytes used len_left (Ok n)
        by None q e = absurd (let z : ◌≡◌ {A = ℕ} 0 1 = cc in omega arith)
        by (Some es) q e =
            let k : length es ≡ n = cc in
            subst (λ (l : Left ℕ). DoneLen bytes used l (Ok n)) (sym (by_keeping rust_limits bytes used len len_cause b h es q (length es) refl ∙ ap (accepted bytes used) k)) (refl, (refl, refl))

    -- read, or not
    pub len_read : Bytes bytes → (o : Option ℕ) → o ≡ count_of (decode_entries entry_form key_of (take used bytes)) → {r : Result ℕ Refusal} → r ≡ ok_or o BadStore → DoneLen bytes used len_left r
    len_read b None e q = subst (DoneLen bytes used len_left) (sym q) (len_broken (sym e))
    len_read b (Some n) e q = subst (DoneLen bytes used len_left) (sym q) (len_is b (sym e))
