-- What each call leaves, by the slot of its text: the ways out that all calls share, and what each call decides over the entries. Assumes nothing.
use Prim.Native.Nat.{ℕ, ◌+◌, ◌-◌, ◌≤◌, ◌<◌}
use native.Mathlib.Omega.{arith}
use mathlib.Core.Path.{◌≡◌, refl, sym, ap, ap₂, subst, ◌∙◌}
use mathlib.Core.Logic.{⊎_elim}
use mathlib.Core.Bool.{Bool, true, false, cond, not}
use mathlib.Core.List.{List, [], ◌++◌}
use lib.ListN.{length, take, drop, length-append, length-drop, take-append-drop}
use lib.Seq.{length-take-le, take_all, take_at, take-append-le, drop-append-le}
use lib.Dec.{leb, ltb}
use borrow.Author.Tests.{lt-ltb, le-ltb, leb-true, ltb-true, ltb-false}
use Rattle.std.specs.Prelude.{Err, None, Ok, Option, Result, Some}
use Rattle.std.proofs.lemmas.Bool.{and_parts}
use Rattle.limits.specs.Limits.{LimitSet}
use Rattle.limits.specs.Settings.{from_to, in_bounds, limits_in}
use Rattle.limits.specs.declared.settings.Settings.{Settings}
use Rattle.limits.specs.Outcome.{cause_if, or_else, refuse_by}
use Rattle.limits.specs.declared.Refusal.{Refusal}
use Rattle.limits.specs.declared.Refusal.TheVariants.{NoRoom, TextTooLong, InvalidMethod}
use Rattle.text.specs.Answers.{too_long, length_cause}
use Rattle.msg.specs.Block.{block_cause}
use Rattle.methods.specs.Methods.{is_method, method_cause}
use Rattle.edit.specs.Edit.{over, put_at}
use Rattle.output.specs.Output.{fitted}
use Rattle.codec.proofs.CodecLaws.{Bytes, bytes_take}
use Rattle.ordered_store.specs.Entries.{set_entry, without_entry}
use Rattle.ordered_store.specs.Run.{Left}
use Rattle.ordered_store.proofs.RunLaws.{kept_with, way_arguments, way_over, way_unread, way_judged, way_full, way_taken}
use Rattle.prack_body.specs.Lists.{Pending, Tracked, cleaned, cleaned_list, is_due, entries_of, first_of_rseq, is_acknowledged, pending_of, registered, open_in}
use Rattle.prack_body.specs.Layout.{tracked_form, open_bytes}
use Rattle.prack_body.specs.Body.{most_pending, Holds}
use Rattle.prack_list.specs.Steps.{place_from, position_at, position_in}
use Rattle.prack_body.specs.declared.TrackedAt.{TrackedAt}
use Rattle.prack_list.specs.declared.finding.PendingAt.{PendingAt}
use Rattle.prack_body.proofs.BodyLaws.{loaded}
use Rattle.prack_list.proofs.FindLaws.{position_found}
use Rattle.prack_entries.specs.Entries.{key_of_text, key_of, encode_tracked, held_for, clean_for}
use Rattle.prack_entries.specs.Places.{slot_for, Sought}
use Rattle.prack_entries.proofs.SlotLaws.{unreadable, was, Found, found, lacking}
use Rattle.prack_validator.specs.Validator.{Action, register, validate, is_pracked, get_pending, remove_dialog, remove_pracked, Value, no_value, flag, written, action_cause, list_of, marked_for, judged_for, rack_value, deciding, pruned, judge, ran}

-- ---- the set

-- a list may have an entry in each permitted set, and no more than a body has room for
pub pending_bounds : (settings : Settings) → in_bounds settings ≡ true → (1 ≤ settings.pending) × (settings.pending ≤ most_pending)
pending_bounds settings e =
    let later = (and_parts (from_to 1 65535 settings.cseq_jump) _ e).1 in
    let pending = and_parts (leb 1 settings.pending) (leb settings.pending 32) (and_parts (from_to 1 32 settings.pending) _ later).0 in
    (leb-true 1 settings.pending pending.0, leb-true settings.pending 32 pending.1)

-- ---- the arguments

abbrev id_of : Action → List ℕ
id_of (register id rseq cseq method code time) = id
id_of (validate id block time) = id
id_of (is_pracked id r) = id
id_of (get_pending id time room) = id
id_of (remove_dialog id) = id
id_of (remove_pracked id r) = id

-- the causes after 1 of the text
abbrev rest_of : LimitSet → Action → Option Refusal
rest_of L (register id rseq cseq method code time) = method_cause method
rest_of L (validate id block time) = block_cause L block
rest_of L (is_pracked id r) = None
rest_of L (get_pending id time room) = None
rest_of L (remove_dialog id) = None
rest_of L (remove_pracked id r) = None

or_none : (o : Option Refusal) → o ≡ or_else o None
or_none None = refl
or_none (Some cause) = refl

causes : (L : LimitSet) (a : Action) → action_cause L a ≡ or_else (length_cause L (id_of a)) (rest_of L a)
unfolding action_cause
causes L (register id rseq cseq method code time) = refl
causes L (validate id block time) = refl
causes L (is_pracked id r) = or_none (length_cause L id)
causes L (get_pending id time room) = or_none (length_cause L id)
causes L (remove_dialog id) = or_none (length_cause L id)
causes L (remove_pracked id r) = or_none (length_cause L id)

-- 1
pub long_cause_lem : (L : LimitSet) (a : Action) → too_long L (id_of a) ≡ true → action_cause L a ≡ Some TextTooLong
long_cause_lem L a e = causes L a ∙ ap (λ (t : Bool). or_else (cause_if t TextTooLong) (rest_of L a)) e

pub rest_cause : (L : LimitSet) (a : Action) → too_long L (id_of a) ≡ false → action_cause L a ≡ rest_of L a
rest_cause L a e = causes L a ∙ ap (λ (t : Bool). or_else (cause_if t TextTooLong) (rest_of L a)) e

-- a text that is taken has an image
pub short : (settings : Settings) (id : List ℕ) → too_long (limits_in settings) id ≡ false → length id < 65536
short settings id e = omega (arith, ltb-false 8192 (length id) e)

-- 28
pub method_cause_lem : (m : ℕ) (t : Bool) → is_method m ≡ t → method_cause m ≡ cause_if (not t) InvalidMethod
method_cause_lem m t e = ap (λ (b : Bool). cause_if (not b) InvalidMethod) e

-- ---- the ways out

-- what is left: the lent bytes, the used length, the answer
abbrev pub leaving : List ℕ → ℕ → Result Value Refusal → Left Value
leaving bytes used v = record { bytes = bytes; used = used; answer = v }

-- what is left where the store with the change fits, and where it doesn't
abbrev pub left_by : List ℕ → ℕ → Result Value Refusal → Result (List ℕ) Refusal → Left Value
left_by bytes used v (Err cause) = kept_with bytes used cause
left_by bytes used v (Ok x) = leaving (over x bytes) (length x) v

-- the used bytes over themselves
over_itself : (s : List ℕ) (used : ℕ) → used ≤ length s → over (take used s) s ≡ s
over_itself s used h = ap (λ (n : ℕ). take used s ++ drop n s) (length-take-le used s h) ∙ take-append-drop used s

module _ (L : LimitSet) (bytes : List ℕ) (used : ℕ) (a : Action) where
  abbrev left : Left Value
  left = ran L a bytes used

  pub by_arguments : {cause : Refusal} → action_cause L a ≡ Some cause → left ≡ kept_with bytes used cause
  by_arguments {cause} e = way_arguments (tracked_form L) key_of (action_cause L a) (judge L a) bytes used cause e

  module _ (clear : action_cause L a ≡ None) where
    -- 3
    pub by_store : (id : List ℕ) {cause : Refusal} → slot_for L id bytes used ≡ Err cause → left ≡ kept_with bytes used cause
    by_store id {cause} e =
        let u = unreadable L id bytes used e in
        ⊎_elim (λ h. way_over (tracked_form L) key_of (action_cause L a) (judge L a) bytes used clear h)
        (λ h. way_unread (tracked_form L) key_of (action_cause L a) (judge L a) bytes used clear h.0 h.1) u.1
        ∙ ap (kept_with bytes used) (sym u.0)

    module _ {id : List ℕ} {slot : Result TrackedAt ℕ} (s : Sought L id bytes used slot) where
      -- the call's own cause over what is held
      pub by_cause : {cause : Refusal} → judge L a s.list ≡ Err cause → left ≡ kept_with bytes used cause
      by_cause {cause} j = way_judged (tracked_form L) key_of (action_cause L a) (judge L a) bytes used clear s.within s.list s.are cause j

      module _ (ts : List Tracked) (v : Result Value Refusal) (j : judge L a s.list ≡ deciding ts v) where
        -- what is held becomes `ts`, whose bytes fit
        pub by_changing : {x : List ℕ} {n : ℕ} → encode_tracked L ts ≡ x → length (encode_tracked L ts) ≡ n → n ≤ length bytes → left ≡ leaving (over x bytes) n v
        by_changing e l h =
            way_taken (tracked_form L) key_of (action_cause L a) (judge L a) bytes used clear s.within s.list s.are (record { entries = ts; answer = v }) j (omega (arith, l, h))
            ∙ ap₂ (λ (y : List ℕ) (m : ℕ). leaving (over y bytes) m v) e l

        -- it stays: so does every byte
        pub by_keeping : Bytes bytes → ts ≡ s.list → left ≡ leaving bytes used v
        by_keeping b e =
            let w = was L bytes used b s.within s.list s.are in
            by_changing (ap (encode_tracked L) e ∙ w.0) (ap (λ (l : List Tracked). length (encode_tracked L l)) e ∙ w.1) s.within
            ∙ ap (λ (y : List ℕ). leaving y used v) (over_itself bytes used s.within)

        -- 18, or taken
        pub by_fitting : left ≡ left_by bytes used v (fitted (length bytes) (encode_tracked L ts))
        by_fitting = by (ltb (length bytes) (length (encode_tracked L ts))) refl
          where
            by : (t : Bool) → ltb (length bytes) (length (encode_tracked L ts)) ≡ t → left ≡ left_by bytes used v (refuse_by (cause_if t NoRoom) (Ok (encode_tracked L ts)))
            by true q =
                way_full (tracked_form L) key_of (action_cause L a) (judge L a) bytes used clear s.within s.list s.are (record { entries = ts; answer = v }) j
                (ltb-true (length bytes) (length (encode_tracked L ts)) q)
            by false q = by_changing refl refl (ltb-false (length bytes) (length (encode_tracked L ts)) q)

-- ---- what each call decides

module _ (L : LimitSet) (id : List ℕ) (ts : List Tracked) where
  pub register_decides : (rseq cseq method code time : ℕ)
      → judge L (register id rseq cseq method code time) ts ≡ deciding (set_entry key_of (registered L (pending_of rseq cseq method code time) (clean_for L time id ts)) ts) (Ok no_value)
  unfolding judge
  register_decides rseq cseq method code time = refl

  pub validate_decides : (block : List ℕ) (time : ℕ)
      → judge L (validate id block time) ts ≡ deciding (set_entry key_of (marked_for L id block time ts) ts) (rack_value (judged_for L id block time ts))
  unfolding judge
  validate_decides block time = refl

  -- 18 where the output has no room
  pub pending_refuses : (time room : ℕ) → room < length (open_bytes (open_in (clean_for L time id ts).list)) → judge L (get_pending id time room) ts ≡ Err NoRoom
  unfolding judge
  pending_refuses time room h = rw (lt-ltb room (length (open_bytes (open_in (clean_for L time id ts).list))) h)

  pub pending_decides : (time room : ℕ) → length (open_bytes (open_in (clean_for L time id ts).list)) ≤ room
      → judge L (get_pending id time room) ts ≡ deciding (set_entry key_of (clean_for L time id ts) ts) (Ok (written (open_bytes (open_in (clean_for L time id ts).list))))
  unfolding judge
  pending_decides time room h = rw (le-ltb room (length (open_bytes (open_in (clean_for L time id ts).list))) h)

  -- the flag of the first entry of the RSeq
  pub pracked_decides : (r : ℕ) (o : Option Tracked) → held_for id ts ≡ o → judge L (is_pracked id r) ts ≡ deciding ts (Ok (flag (is_acknowledged (first_of_rseq r (entries_of (list_of o))))))
  unfolding judge
  pracked_decides r o e = ap (λ (x : Option Tracked). deciding ts (Ok (flag (is_acknowledged (first_of_rseq r (entries_of (list_of x))))))) e

  pub dialog_decides : judge L (remove_dialog id) ts ≡ deciding (without_entry key_of (key_of_text id) ts) (Ok no_value)
  unfolding judge
  dialog_decides = refl

  pub pruning_decides : (r : ℕ) (o : Option Tracked) → held_for id ts ≡ o → judge L (remove_pracked id r) ts ≡ deciding (pruned r o ts) (Ok no_value)
  unfolding judge
  pruning_decides r o e = ap (λ (x : Option Tracked). deciding (pruned r x ts) (Ok no_value)) e

-- ---- the first entry of an RSeq, by its position

module _ (r : ℕ) (o : Option (List Pending)) where
  pub at_flag : {e : PendingAt} → Ok e ≡ position_in r o → is_acknowledged (first_of_rseq r (entries_of o)) ≡ e.acknowledged
  at_flag e = let w = position_found r o e in ap (λ (x : Option (List Pending)). is_acknowledged (first_of_rseq r (entries_of x))) w.stands ∙ ap is_acknowledged w.first ∙ sym w.same_flag

-- none, with or without a list
pub no_flag : (r : ℕ) (o : Option (List Pending)) {cause : Refusal} → Err cause ≡ position_in r o → is_acknowledged (first_of_rseq r (entries_of o)) ≡ false
unfolding first_of_rseq
no_flag r None e = refl
no_flag r (Some ps) {cause} e = by (first_of_rseq r ps) e
  where
    by : (f : Option Pending) → Err cause ≡ position_at (place_from 10 r ps) f → is_acknowledged f ≡ false
    by None q = refl
    by (Some p) q = absurd (let z : ◌≡◌ {A = ℕ} 0 1 = cc in omega arith)

-- ---- the text of what is held

cleaned_id : (L : LimitSet) (time : ℕ) (id : List ℕ) (o : Option Tracked) → ((t : Tracked) → o ≡ Some t → t.id ≡ id) → (cleaned L time id o).id ≡ id
unfolding cleaned
cleaned_id L time id None f = refl
cleaned_id L time id (Some t) f = by (is_due L time t)
  where
    by : (b : Bool) → (cond b (record { id = t.id; cleaned_at = time; list = cleaned_list L time t.list }) t).id ≡ id
    by true = f t refl
    by false = f t refl

held_id : {L : LimitSet} {id bytes : List ℕ} {used : ℕ} → Bytes bytes → (slot : Result TrackedAt ℕ) (s : Sought L id bytes used slot) (t : Tracked) → held_for id s.list ≡ Some t → t.id ≡ id
held_id {L} {id} {bytes} {used} b (Ok p) s t e = let w = found id bytes used p b s in let q : w.t ≡ t = same_held w.is e in ap (λ (x : Tracked). x.id) (sym q) ∙ w.same
  where
    same_held : {x y : Tracked} → held_for id s.list ≡ Some x → held_for id s.list ≡ Some y → x ≡ y
    same_held f g = let z = sym f ∙ g in cc
held_id {L} {id} {bytes} {used} b (Err at) s t e = absurd (let z = sym (lacking id bytes used at b s).0 ∙ e in let y : ◌≡◌ {A = ℕ} 0 1 = cc in omega arith)

-- the text of what is held after a cleanup is the one that was asked for
pub clean_id : {L : LimitSet} {id bytes : List ℕ} {used : ℕ} {slot : Result TrackedAt ℕ} → Bytes bytes → (s : Sought L id bytes used slot) (time : ℕ) → (clean_for L time id s.list).id ≡ id
clean_id {L} {id} {bytes} {used} {slot} b s time = cleaned_id L time id (held_for id s.list) (held_id b slot s)

-- ---- a dialog removed

-- the bytes of what is held are cut out
pub cut_length_lem : {L : LimitSet} {id bytes : List ℕ} {used : ℕ} {p : TrackedAt} {ts : List Tracked} → used ≤ length bytes → (w : Found L id bytes used p ts)
    → length (encode_tracked L (without_entry key_of (key_of_text id) ts)) ≡ used - (p.end - (p.id.start - 2)) + 0
cut_length_lem {L} {id} {bytes} {used} {p} h w =
    let at : ℕ = p.id.start - 2 in
    let l : length (take used bytes) ≡ used = length-take-le used bytes h in
    ap length w.without
    ∙ omega (arith, length-append (take at (take used bytes)) (drop (at + (p.end - at)) (take used bytes)), l, length-take-le at (take used bytes) (omega (arith, l, w.text_inside, w.end_within)), length-drop (at + (p.end - at)) (take used bytes), w.start_past, w.text_inside, w.end_within)

-- ---- what is held, where it lies

-- a part of the used bytes
part_used : (s : List ℕ) (used from n : ℕ) → used ≤ length s → from + n ≤ used → take n (drop from s) ≡ take n (drop from (take used s))
part_used s used from n h k =
    let l : length (take used s) ≡ used = length-take-le used s h in
    ap (λ (x : List ℕ). take n (drop from x)) (sym (take-append-drop used s))
    ∙ ap (take n) (drop-append-le from (take used s) (drop used s) (omega (arith, l, k)))
    ∙ take-append-le n (drop from (take used s)) (drop used s) (omega (arith, l, k, length-drop from (take used s)))

-- the bytes behind its text are its body
pub body_there : {L : LimitSet} {id bytes : List ℕ} {used : ℕ} {p : TrackedAt} {ts : List Tracked} → Bytes bytes → used ≤ length bytes → (w : Found L id bytes used p ts)
    → Holds L (take (p.end - (p.id.start + p.id.length)) (drop (p.id.start + p.id.length) bytes)) (p.end - (p.id.start + p.id.length)) w.t
body_there {L} {id} {bytes} {used} {p} b h w =
    let from : ℕ = p.id.start + p.id.length in
    let n : ℕ = p.end - from in
    let x : List ℕ = take n (drop from (take used bytes)) in
    let l : length x ≡ n = length-take-le n (drop from (take used bytes)) (omega (arith, length-drop from (take used bytes), length-take-le used bytes h, w.text_inside, w.end_within)) in
    let e : take n (drop from bytes) ≡ x = part_used bytes used from n h (omega (arith, w.text_inside, w.end_within)) in
    let g : Holds L (put_at 0 x []) n w.t = loaded L (take used bytes) (bytes_take used bytes b) w.stands [] refl in
    record { formed = g.formed; long = g.long; are = ap (take n) e ∙ take_all n x (omega (arith, l)) ∙ sym (take_at x (drop (0 + length x) []) n l) ∙ g.are }

pub body_alone : {L : LimitSet} {id bytes : List ℕ} {used : ℕ} {p : TrackedAt} {ts : List Tracked} → Bytes bytes → used ≤ length bytes → (w : Found L id bytes used p ts)
    → Holds L (take (p.end - (p.id.start + p.id.length)) (drop (p.id.start + p.id.length) bytes)) (length (take (p.end - (p.id.start + p.id.length)) (drop (p.id.start + p.id.length) bytes))) w.t
body_alone {L} {id} {bytes} {used} {p} b h w =
    let n : ℕ = p.end - (p.id.start + p.id.length) in
    let s : List ℕ = drop (p.id.start + p.id.length) bytes in
    let l : length (take n s) ≡ n = length-take-le n s (omega (arith, length-drop (p.id.start + p.id.length) bytes, w.text_inside, w.end_within, h)) in
    subst (λ (k : ℕ). Holds L (take n s) k w.t) (sym l) (body_there b h w)
