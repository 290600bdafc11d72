-- The book keeps the rules of specs/Rules.antt: each kind of call is taken, refused and answered as they say. Assumes nothing.
use Prim.Native.Nat.{ℕ, ◌+◌, ◌-◌, ◌≤◌, ◌<◌}
use native.Mathlib.Omega.{arith}
use native.Mathlib.Nat.{le_trans}
use mathlib.Core.Path.{◌≡◌, refl, sym, ap, subst, ◌∙◌}
use mathlib.Core.Logic.{◌≢◌}
use mathlib.Core.Bool.{Bool, true, false, cond, not, ◌&&◌, ◌||◌, false≢true}
use mathlib.Core.List.{List, [], ◌∷◌, ◌++◌}
use lib.ListN.{length}
use lib.Dec.{leb, ltb, eqb}
use borrow.Author.Tests.{leb-true, ltb-true, eq-eqb, ne_eqb, eqb-true, eqb-false, le-ltb, lt-ltb, ltb-false, le-leb, lt-leb}
use Rattle.std.proofs.lemmas.Bool.{and_parts}
use Rattle.std.specs.Prelude.{Err, None, Ok, Option, Result, Some}
use Rattle.limits.specs.Limits.{LimitSet}
use Rattle.limits.specs.Outcome.{number_in, cause_if, or_else, refuse_by, refuse_if, and_then, or_refuse}
use Rattle.limits.specs.Refusal.{number_of, least_of}
use Rattle.limits.specs.declared.Refusal.{Refusal}
use Rattle.limits.specs.declared.Refusal.TheVariants.{TextTooLong, Malformed, BadStore, MissingHeader, InvalidStatus, InvalidUri, UriTooLong, RouteSetTooLarge, CSeqZero, CSeqTooLarge, InvalidCSeq, CSeqJumpTooLarge, SessionExpiresTooSmall, SessionExpiresTooLarge, NotFound, TooManyDialogs, TooManyEarlyDialogs, NoRoom, InvalidRAck, NoPendingList, UnknownRSeq, RAckCSeqMismatch, RAckMethodMismatch, DuplicatePrack, IdentifierEmpty, IdentifierTooLong, ControlCharacters, InvalidMethod, SettingOutOfBounds}
use Rattle.limits.proofs.Laws.{number_positive}
use Rattle.text.specs.Text.{equal}
use Rattle.text.specs.Answers.{length_cause}
use Rattle.msg.specs.Block.{lines_after, is_block, block_cause}
use Rattle.output.specs.Output.{fitted}
use Rattle.prack_headers.specs.Sequence.{cseq_number}
use Rattle.record.specs.Record.{State, early, confirmed, terminated, Record, Numbers, WellFormed, image}
use Rattle.headers.specs.SessionExpires.{Interval, expires_named}
use Rattle.record.specs.Changes.{with_numbers}
use Rattle.record.specs.Rules.{Kind, ack, other, with_remote, with_ack, with_seconds, ack_step, request_step, confirmed_state, confirm_step, interval_step}
use Rattle.dialog_rules.specs.OneImage.{only_one, one_record}
use Rattle.dialog_rules.specs.Updates.{kind_of, retargeted, request_update, is_success, confirms, interval_from, response_update, interval_update}
use Rattle.dialog_rules.proofs.StepLaws.{given_same, never_given, past_test}
use Rattle.dialog_rules.proofs.RefusalLaws.{passed_test, both_given}
use Rattle.dialog_rules.proofs.UpdateLaws.{Kept, response_kept, response_routes}
use Rattle.dialog_id.specs.Ident.{Ident, ident_cause}
use Rattle.book.specs.Calls.{Update, request, response, terminate, local_number, interval, Reading, get, find_by_request, find_by_call_id, count, all_ids, Call, put, update, remove, sweep, read, lent, image_in, Value, no_value, number, image_at, written}
use Rattle.book.specs.Book.{Book, Contents, size, ident_of, is_of, first_place, named_in, name_of, find, find_named, place, amend, others, living, keep, is_early, is_full, is_crowded, update_cause, reading_cause, cause_in, argument_cause, revised, told_by, place_of, place_named, reply, Change, set, alter, only, unchanged, apply, Taken, taking, judge, fitting, decide, after, answer_of}
use Rattle.book.specs.Returned.{lent_after}
use Rattle.book.specs.Trace.{All, stage}
use Rattle.book.specs.History.{InWindow, Returned}
use Rattle.book.specs.Rules.{Has, Names, Of, NoneOf, own, holding, those, ended, numbered, lasting, Confirming, Answered, id_texts, is_early_other, Free, AtRemote, texts_in, texts_asked, texts_of, block_in, block_asked, block_of, Admitted, Done, TakenIf, CallRules}
use Rattle.book.proofs.BookLaws.{Distinct}
use Rattle.book.proofs.WindowLaws.{no_refusal, window_taken, taken_window}
use Rattle.book.proofs.ChangeLaws.{bytes_of, full_off, crowded_off, accepted}
use Rattle.book.proofs.IdentLaws.{same_ident_lem}
use Rattle.book.proofs.SentenceLaws.{new_last, fits_taken, only_size}
use Rattle.book.proofs.ThoseLaws.{has_ident, none_found, none_before, found_there, names_ident, none_named, amended, placed_again, dropped, swept_those, early_others_lem, place_behind, place_nowhere, not_held, all_unequal, ids_same, is_ack, is_other_lem, image_given, no_image, value_given, least_given_lem, lent_kept}
use Rattle.text.proofs.Sames.{equal_same}

-- ---- from the verdict to what the caller sees

-- the caller saw the book's verdict on this call
pub record Saw (L : LimitSet) (x : Contents) (c : Call) (e : Returned) (held : Contents) : Type 0 where
  pub number_is : e.number ≡ number_in (answer_of (decide L c x))
  pub held_is : held ≡ after (decide L c x) x
  pub left_is : e.left ≡ lent_after (answer_of (decide L c x)) e.lent

-- only 13 gives a value
least_none : (cause : Refusal) → number_of cause ≢ 13 → least_of cause ≡ None
least_none (SessionExpiresTooSmall least) n = absurd (n refl)
least_none TextTooLong n = refl
least_none Malformed n = refl
least_none BadStore n = refl
least_none MissingHeader n = refl
least_none InvalidStatus n = refl
least_none InvalidUri n = refl
least_none UriTooLong n = refl
least_none RouteSetTooLarge n = refl
least_none CSeqZero n = refl
least_none CSeqTooLarge n = refl
least_none InvalidCSeq n = refl
least_none CSeqJumpTooLarge n = refl
least_none SessionExpiresTooLarge n = refl
least_none NotFound n = refl
least_none TooManyDialogs n = refl
least_none TooManyEarlyDialogs n = refl
least_none NoRoom n = refl
least_none InvalidRAck n = refl
least_none NoPendingList n = refl
least_none UnknownRSeq n = refl
least_none RAckCSeqMismatch n = refl
least_none RAckMethodMismatch n = refl
least_none DuplicatePrack n = refl
least_none IdentifierEmpty n = refl
least_none IdentifierTooLong n = refl
least_none ControlCharacters n = refl
least_none InvalidMethod n = refl
least_none SettingOutOfBounds n = refl

module _ (L : LimitSet) (x : Contents) (c : Call) (e : Returned) (held : Contents) (s : Saw L x c e held) where
  saw_refused : (cause : Refusal) → decide L c x ≡ Err cause → e.number ≡ number_of cause
  saw_refused cause d = s.number_is ∙ ap (λ v. number_in (answer_of v)) d

  saw_given : (t : Taken) → decide L c x ≡ Ok t → Done e held (apply t.change x) t.value
  saw_given t d = record {
    returns_0 = s.number_is ∙ ap (λ v. number_in (answer_of v)) d;
    holds = s.held_is ∙ ap (λ v. after v x) d;
    gives = s.left_is ∙ (ap (λ v. lent_after (answer_of v) e.lent) d ∙ value_given t.value e.lent);
  }

  zero_given : e.number ≡ 0 → (t : Taken) × (decide L c x ≡ Ok t)
  zero_given z = by (decide L c x) refl
    where
      by : (v : Result Taken Refusal) → decide L c x ≡ v → (t : Taken) × (decide L c x ≡ Ok t)
      by (Err cause) d = absurd (let p = number_positive cause in let q = saw_refused cause d in omega (arith, p, q, z))
      by (Ok t) d = (t, d)

  not_zero : {X : Type 0} → e.number ≢ 0 → ((cause : Refusal) → decide L c x ≡ Err cause → X) → X
  not_zero {X} n f = by (decide L c x) refl
    where
      by : (v : Result Taken Refusal) → decide L c x ≡ v → X
      by (Err cause) d = f cause d
      by (Ok t) d = absurd (n (saw_given t d).returns_0)

  saw_keeps : e.number ≢ 0 → held ≡ x
  saw_keeps n = not_zero n (λ cause d. s.held_is ∙ ap (λ v. after v x) d)

  saw_gives_none : e.number ≢ 0 → e.number ≢ 13 → e.left ≡ e.lent
  saw_gives_none n m = not_zero n (λ cause d.
      s.left_is ∙ (ap (λ v. lent_after (answer_of v) e.lent) d ∙ lent_kept cause e.lent (least_none cause (λ q. m (saw_refused cause d ∙ q)))))

  module _ (a : argument_cause L c ≡ None) (h : size x ≤ lent c) where
    judged : decide L c x ≡ and_then (judge L c x.records) (λ t. fitting (lent c) x t)
    unfolding decide
    judged =
        ap (λ o. refuse_by o (refuse_if (ltb (lent c) (size x)) BadStore (and_then (judge L c x.records) (λ t. fitting (lent c) x t)))) a
        ∙ no_refusal (ltb (lent c) (size x)) BadStore _ (le-ltb (lent c) (size x) h)

    judged_refused : (cause : Refusal) → judge L c x.records ≡ Err cause → decide L c x ≡ Err cause
    judged_refused cause j = judged ∙ ap (λ v. and_then v (λ t. fitting (lent c) x t)) j

    refused_number : (cause : Refusal) → judge L c x.records ≡ Err cause → e.number ≡ number_of cause
    refused_number cause j = saw_refused cause (judged_refused cause j)

    judged_full : (t : Taken) → judge L c x.records ≡ Ok t → lent c < size (apply t.change x) → decide L c x ≡ Err NoRoom
    unfolding fitting
    judged_full t j f =
        judged
        ∙ (ap (λ v. and_then v (λ y. fitting (lent c) x y)) j
        ∙ ap (λ p. refuse_if p NoRoom (Ok t)) (lt-ltb (lent c) (size (apply t.change x)) f))

    -- a call whose result fits
    done : (d : Change) (v : Value) (now : Contents) → apply d x ≡ now → judge L c x.records ≡ taking d v → size now ≤ lent c → Done e held now v
    done d v now q j f =
        subst (λ y. Done e held y v) q
        (saw_given (record { change = d; value = v }) (fits_taken L c x (record { change = d; value = v }) a h j (subst (λ y. size y ≤ lent c) (sym q) f)))

    taken_if : (Condition : Type 0) (d : Change) (v : Value) (now : Contents) → apply d x ≡ now → (Condition → judge L c x.records ≡ taking d v) → ((t : Taken) → judge L c x.records ≡ Ok t → Condition)
        → TakenIf (lent c) e held Condition now v
    taken_if Condition d v now q to from = record {
      taken = λ f. (condition, λ k. (done d v now q (to k) f).returns_0);
      no_room = λ f k. saw_refused NoRoom (judged_full (record { change = d; value = v }) (to k) (subst (λ y. lent c < size y) (sym q) f));
      done = λ z. ends z (to (condition z));
    }
      where
        condition : e.number ≡ 0 → Condition
        condition z = let g = zero_given z in from g.0 (accepted L c x g.0 g.1).judged

        ends : e.number ≡ 0 → judge L c x.records ≡ taking d v → Done e held now v
        ends z j =
            let g = zero_given z in
            let same : g.0 ≡ record { change = d; value = v } = given_same (sym (accepted L c x g.0 g.1).judged ∙ j) in
            subst (λ y. Done e held y v) q (subst (λ (t : Taken). Done e held (apply t.change x) t.value) same (saw_given g.0 g.1))

-- ---- the arguments

-- 1 of the first text that is too long
abbrev long_cause : LimitSet → List (List ℕ) → Option Refusal
long_cause L [] = None
long_cause L (t ∷ ts) = or_else (length_cause L t) (long_cause L ts)

abbrev malformed : List ℕ → Option Refusal
malformed block = cause_if (not (is_block block)) Malformed

else_again : (a b c : Option Refusal) → or_else a (or_else b c) ≡ or_else (or_else a b) c
else_again None b c = refl
else_again (Some x) b c = refl

else_none : (a : Option Refusal) → or_else a None ≡ a
else_none None = refl
else_none (Some x) = refl

named_cause : (L : LimitSet) (i : Ident) → ident_cause L i ≡ or_else (long_cause L (i.call_id ∷ i.local_tag ∷ i.remote_tag ∷ [])) None
named_cause L i =
    ap (λ o. or_else (length_cause L i.call_id) (or_else (length_cause L i.local_tag) o)) (sym (else_none (length_cause L i.remote_tag))) ∙ sym (else_none _)

update_causes : (L : LimitSet) (u : Update) → update_cause L u ≡ or_else (long_cause L (texts_in u)) (malformed (block_in u))
unfolding update_cause block_cause lines_after
update_causes L (request method block) =
    ap (λ o. or_else (length_cause L method) (or_else o (malformed block))) (sym (else_none (length_cause L block))) ∙ else_again (length_cause L method) (or_else (length_cause L block) None) (malformed block)
update_causes L (response id status block) =
    by (length_cause L id.call_id) (length_cause L id.local_tag) (length_cause L id.remote_tag) (length_cause L block) (malformed block)
  where
    by : (p q r s t : Option Refusal) → or_else (or_else p (or_else q r)) (or_else s t) ≡ or_else (or_else p (or_else q (or_else r (or_else s None)))) t
    by None None None s t = ap (λ o. or_else o t) (sym (else_none s))
    by None None (Some x) s t = refl
    by None (Some x) r s t = refl
    by (Some x) q r s t = refl
update_causes L (terminate id) = named_cause L id
update_causes L (local_number id) = named_cause L id
update_causes L (interval id s) = named_cause L id

reading_causes : (L : LimitSet) (q : Reading) → reading_cause L q ≡ or_else (long_cause L (texts_asked q)) (malformed (block_asked q))
unfolding reading_cause block_cause lines_after
reading_causes L (get id) = named_cause L id
reading_causes L (find_by_request block) = ap (λ o. or_else o (malformed block)) (sym (else_none (length_cause L block)))
reading_causes L (find_by_call_id t) = sym (else_none (or_else (length_cause L t) None) ∙ else_none (length_cause L t))
reading_causes L count = refl
reading_causes L (all_ids room) = refl

-- 3 of a put's image
abbrev image_cause : Call → Option Refusal
image_cause (put n s) = cause_in (one_record s)
image_cause (update n u) = None
image_cause (remove n id) = None
image_cause (sweep n) = None
image_cause (read n q) = None

-- 1 of the texts, then 2 of the block, then 3 of the image
argument_causes : (L : LimitSet) (c : Call) → argument_cause L c ≡ or_else (or_else (long_cause L (texts_of c)) (malformed (block_of c))) (image_cause c)
unfolding argument_cause lines_after
argument_causes L (put n s) = refl
argument_causes L (update n u) = update_causes L u ∙ sym (else_none _)
argument_causes L (remove n id) = named_cause L id ∙ sym (else_none _)
argument_causes L (sweep n) = refl
argument_causes L (read n q) = reading_causes L q ∙ sym (else_none _)

none_long : (L : LimitSet) (ts : List (List ℕ)) → All (λ t. length t ≤ L.text) ts → long_cause L ts ≡ None
none_long L [] a = refl
none_long L (t ∷ ts) a = rw (le-ltb L.text (length t) a.0) (none_long L ts a.1)

one_long : (L : LimitSet) (before rest : List (List ℕ)) (t : List ℕ) → L.text < length t → long_cause L (before ++ (t ∷ rest)) ≡ Some TextTooLong
one_long L [] rest t h = rw (lt-ltb L.text (length t) h)
one_long L (x ∷ before) rest t h = by (ltb L.text (length x)) (one_long L before rest t h)
  where
    by : (p : Bool) → long_cause L (before ++ (t ∷ rest)) ≡ Some TextTooLong → or_else (cause_if p TextTooLong) (long_cause L (before ++ (t ∷ rest))) ≡ Some TextTooLong
    by true ih = refl
    by false ih = ih

-- with no cause of 1 and 2, that of the image is left
image_left : (L : LimitSet) (c : Call) → All (λ t. length t ≤ L.text) (texts_of c) → is_block (block_of c) ≡ true → argument_cause L c ≡ image_cause c
image_left L c a f =
    argument_causes L c
    ∙ (ap (λ o. or_else (or_else o (malformed (block_of c))) (image_cause c)) (none_long L (texts_of c) a) ∙ ap (λ p. or_else (cause_if (not p) Malformed) (image_cause c)) f)

admits : (L : LimitSet) (x : Contents) (c : Call) → Admitted L x c → image_cause c ≡ None → argument_cause L c ≡ None
admits L x c k i = image_left L c k.fits k.formed ∙ i

-- what a bad image is refused with
image_three : (s : List ℕ) (cause : Refusal) → cause_in (one_record s) ≡ Some cause → cause ≡ BadStore
unfolding one_record
image_three s cause e = by (only_one (image.read s)) e
  where
    by : (o : Option Record) → cause_in (or_refuse BadStore o) ≡ Some cause → cause ≡ BadStore
    by None q = sym (same q)
      where
        same : {p q : Refusal} → Some p ≡ Some q → p ≡ q
        same e = cc
    by (Some r) q = absurd (let z : ◌≡◌ {A = ℕ} 0 1 = cc in omega arith)

image_bad : (c : Call) (cause : Refusal) → image_cause c ≡ Some cause → cause ≡ BadStore
image_bad (put n s) cause e = image_three s cause e
image_bad (update n u) cause e = absurd (let z : ◌≡◌ {A = ℕ} 0 1 = cc in omega arith)
image_bad (remove n id) cause e = absurd (let z : ◌≡◌ {A = ℕ} 0 1 = cc in omega arith)
image_bad (sweep n) cause e = absurd (let z : ◌≡◌ {A = ℕ} 0 1 = cc in omega arith)
image_bad (read n q) cause e = absurd (let z : ◌≡◌ {A = ℕ} 0 1 = cc in omega arith)

-- ---- put

module _ (L : LimitSet) (b : Book) (n : ℕ) (s : List ℕ) where
  abbrev on_record : Record → Result Taken Refusal
  on_record r = refuse_if (is_full L b) TooManyDialogs (refuse_if (is_crowded L r b) TooManyEarlyDialogs (taking (set r) no_value))

  put_read : (r : Record) → one_record s ≡ Ok r → judge L (put n s) b ≡ on_record r
  unfolding judge
  put_read r w = ap (λ o. and_then o on_record) w

  not_full : length b < L.dialogs → is_full L b ≡ false
  unfolding is_full
  not_full f = lt-leb L.dialogs (length b) f

  not_crowded : (r : Record) → Free L r b → is_crowded L r b ≡ false
  unfolding is_crowded
  not_crowded r f = ap (λ k. is_early r.numbers.state && leb L.early_per_call_id k) (early_others_lem r b) ∙ by r.numbers.state refl
    where
      by : (s : State) → r.numbers.state ≡ s → is_early s && leb L.early_per_call_id (length (those (is_early_other r) b)) ≡ false
      by early q = lt-leb L.early_per_call_id (length (those (is_early_other r) b)) (f.few_early q)
      by confirmed q = refl
      by terminated q = refl

  crowded : (r : Record) → r.numbers.state ≡ early → L.early_per_call_id ≤ length (those (is_early_other r) b) → is_crowded L r b ≡ true
  unfolding is_crowded
  crowded r q h = rw (q, early_others_lem r b) (le-leb L.early_per_call_id (length (those (is_early_other r) b)) h)

  put_free : (r : Record) → one_record s ≡ Ok r → Free L r b → judge L (put n s) b ≡ taking (set r) no_value
  put_free r w f =
      put_read r w
      ∙ (no_refusal (is_full L b) TooManyDialogs _ (not_full f.few) ∙ no_refusal (is_crowded L r b) TooManyEarlyDialogs _ (not_crowded r f))

  free_put : (r : Record) → one_record s ≡ Ok r → (t : Taken) → judge L (put n s) b ≡ Ok t → Free L r b
  free_put r w t j =
      let k : on_record r ≡ Ok t = sym (put_read r w) ∙ j in
      let rest = refuse_if (is_crowded L r b) TooManyEarlyDialogs (taking (set r) no_value) in
      record {
        few = full_off L b (passed_test (is_full L b) TooManyDialogs rest k);
        few_early = λ q. subst (λ x. x < L.early_per_call_id) (early_others_lem r b)
            (crowded_off L r b (passed_test (is_crowded L r b) TooManyEarlyDialogs (taking (set r) no_value) (past_test (is_full L b) TooManyDialogs rest k)) (ap is_early q));
      }

  put_full : (r : Record) → one_record s ≡ Ok r → L.dialogs ≤ length b → judge L (put n s) b ≡ Err TooManyDialogs
  unfolding is_full
  put_full r w h = put_read r w ∙ ap (λ t. refuse_if t TooManyDialogs (refuse_if (is_crowded L r b) TooManyEarlyDialogs (taking (set r) no_value))) (le-leb L.dialogs (length b) h)

  put_crowded : (r : Record) → one_record s ≡ Ok r → length b < L.dialogs → r.numbers.state ≡ early → L.early_per_call_id ≤ length (those (is_early_other r) b)
      → judge L (put n s) b ≡ Err TooManyEarlyDialogs
  put_crowded r w f q h =
      put_read r w
      ∙ (no_refusal (is_full L b) TooManyDialogs _ (not_full f) ∙ ap (λ t. refuse_if t TooManyEarlyDialogs (taking (set r) no_value)) (crowded r q h))

-- ---- updates

module _ (L : LimitSet) (b : Book) (n : ℕ) (u : Update) where
  abbrev on_found : Option Record → Result Taken Refusal
  on_found o = and_then (or_refuse NotFound o) (λ r. and_then (revised L u r) (λ now. taking (alter now) (told_by u now)))

  update_unfound : find_named (name_of u) b ≡ None → judge L (update n u) b ≡ Err NotFound
  unfolding judge
  update_unfound f = ap on_found f

  update_found : (r : Record) → find_named (name_of u) b ≡ Some r → judge L (update n u) b ≡ and_then (revised L u r) (λ now. taking (alter now) (told_by u now))
  unfolding judge
  update_found r f = ap on_found f

  update_given : (r now : Record) → find_named (name_of u) b ≡ Some r → revised L u r ≡ Ok now → judge L (update n u) b ≡ taking (alter now) (told_by u now)
  update_given r now f v = update_found r f ∙ ap (λ o. and_then o (λ x. taking (alter x) (told_by u x))) v

  update_refused : (r : Record) (cause : Refusal) → find_named (name_of u) b ≡ Some r → revised L u r ≡ Err cause → judge L (update n u) b ≡ Err cause
  update_refused r cause f v = update_found r f ∙ ap (λ o. and_then o (λ x. taking (alter x) (told_by u x))) v

  -- what an accepted update made of its record
  given_update : (r : Record) → find_named (name_of u) b ≡ Some r → (t : Taken) → judge L (update n u) b ≡ Ok t → (now : Record) × (revised L u r ≡ Ok now)
  given_update r f t j = let k = both_given (revised L u r) (λ now. taking (alter now) (told_by u now)) (sym (update_found r f) ∙ j) in (k.0, k.1)

-- ---- requests

module _ (L : LimitSet) (block : List ℕ) (n : ℕ) (r : Record) (reads : cseq_number block ≡ Some n) where
  abbrev on_step : Result Numbers Refusal → Result Record Refusal
  on_step o = and_then o (λ x. Ok (retargeted block (with_numbers x r)))

  request_stepped : (kind : Kind) → request_update L kind block r ≡ on_step (request_step L kind n r.numbers)
  unfolding request_update
  request_stepped kind = ap (λ o. and_then (or_refuse MissingHeader o) (λ x. on_step (request_step L kind x r.numbers))) reads

  -- the step of a taken request, at this number
  step_of : (kind : Kind) (now : Record) → request_update L kind block r ≡ Ok now → (y : Numbers) × (request_step L kind n r.numbers ≡ Ok y)
  step_of kind now e = let k = both_given (request_step L kind n r.numbers) (λ x. Ok (retargeted block (with_numbers x r))) (sym (request_stepped kind) ∙ e) in (k.0, k.1)

  equals_taken : AtRemote r.numbers.remote n → request_step L ack n r.numbers ≡ Ok (with_ack n r.numbers)
  unfolding request_step
  equals_taken q =
      no_refusal (eqb n 0) CSeqZero _ (ne_eqb n 0 q.nonzero)
      ∙ no_refusal (not (eqb n r.numbers.remote) || eqb r.numbers.remote 0) InvalidCSeq _ tests
    where
      tests : (not (eqb n r.numbers.remote) || eqb r.numbers.remote 0) ≡ false
      tests = rw (eq-eqb n r.numbers.remote q.same, ne_eqb r.numbers.remote 0 (λ z. q.nonzero (q.same ∙ z)))

  taken_equals : (y : Numbers) → request_step L ack n r.numbers ≡ Ok y → AtRemote r.numbers.remote n
  unfolding request_step
  taken_equals y e =
      let k : ack_step n r.numbers ≡ Ok y = past_test (eqb n 0) CSeqZero (ack_step n r.numbers) e in
      record {
        nonzero = eqb-false n 0 (passed_test (eqb n 0) CSeqZero (ack_step n r.numbers) e);
        same = by (eqb n r.numbers.remote) refl (passed_test (not (eqb n r.numbers.remote) || eqb r.numbers.remote 0) InvalidCSeq (Ok (with_ack n r.numbers)) k);
      }
    where
      by : (t : Bool) → eqb n r.numbers.remote ≡ t → (not t || eqb r.numbers.remote 0) ≡ false → n ≡ r.numbers.remote
      by true q h = eqb-true n r.numbers.remote q
      by false q h = absurd (let z : ◌≡◌ {A = ℕ} 0 1 = cc in omega arith)

  -- the refusals of a number
  zero_step : (kind : Kind) → n ≡ 0 → request_step L kind n r.numbers ≡ Err CSeqZero
  unfolding request_step
  zero_step kind z = rw (eq-eqb n 0 z)

  large_step : 0 < n → L.cseq < n → request_step L other n r.numbers ≡ Err CSeqTooLarge
  unfolding request_step
  large_step p h = rw (ne_eqb n 0 (λ z. omega (arith, p, z)), lt-ltb L.cseq n h)

  low_step : 0 < n → n ≤ L.cseq → n ≤ r.numbers.remote → request_step L other n r.numbers ≡ Err InvalidCSeq
  unfolding request_step
  low_step p s h =
      rw (ne_eqb n 0 (λ z. omega (arith, p, z)), le-ltb L.cseq n s, ne_eqb r.numbers.remote 0 (λ z. omega (arith, p, h, z)), le-leb n r.numbers.remote h)

  far_step : n ≤ L.cseq → 0 < r.numbers.remote → r.numbers.remote + L.cseq_jump < n → request_step L other n r.numbers ≡ Err CSeqJumpTooLarge
  unfolding request_step
  far_step s p h =
      rw (
        ne_eqb n 0 (λ z. omega (arith, h, z)),
        le-ltb L.cseq n s,
        ne_eqb r.numbers.remote 0 (λ z. omega (arith, p, z)),
        lt-leb n r.numbers.remote (omega (arith, h)),
        lt-ltb L.cseq_jump (n - r.numbers.remote) (omega (arith, h)),
      )

  unequal_step : 0 < n → n ≢ r.numbers.remote → request_step L ack n r.numbers ≡ Err InvalidCSeq
  unfolding request_step
  unequal_step p h = rw (ne_eqb n 0 (λ z. omega (arith, p, z)), ne_eqb n r.numbers.remote h)

-- ---- intervals

module _ (L : LimitSet) (s : ℕ) (r : Record) where
  interval_in_lem : (L.min_expires ≤ s) × (s ≤ L.max_expires) → interval_update L s r ≡ Ok (lasting s r)
  unfolding interval_step
  interval_in_lem w = rw (le-ltb s L.min_expires w.0, le-ltb L.max_expires s w.1)

  interval_short : s < L.min_expires → interval_update L s r ≡ Err (SessionExpiresTooSmall L.min_expires)
  unfolding interval_step
  interval_short h = rw (lt-ltb s L.min_expires h)

  interval_long : L.min_expires ≤ s → L.max_expires < s → interval_update L s r ≡ Err SessionExpiresTooLarge
  unfolding interval_step
  interval_long l h = rw (le-ltb s L.min_expires l, lt-ltb L.max_expires s h)

  interval_out : (now : Record) → interval_update L s r ≡ Ok now → (L.min_expires ≤ s) × (s ≤ L.max_expires)
  unfolding interval_step
  interval_out now e = by (ltb s L.min_expires) (ltb L.max_expires s) refl refl e
    where
      by : (p q : Bool) → ltb s L.min_expires ≡ p → ltb L.max_expires s ≡ q
          → and_then (refuse_by (or_else (cause_if p (SessionExpiresTooSmall L.min_expires)) (cause_if q SessionExpiresTooLarge)) (Ok (with_seconds s r.numbers))) (λ x. Ok (with_numbers x r)) ≡ Ok now
          → (L.min_expires ≤ s) × (s ≤ L.max_expires)
      by true q ep eq h = absurd (never_given h)
      by false true ep eq h = absurd (never_given h)
      by false false ep eq h = (ltb-false s L.min_expires ep, ltb-false L.max_expires s eq)

-- ---- responses

-- a 2xx, as the definition tests it
success_test : (status : ℕ) → (200 ≤ status) × (status < 300) → is_success status ≡ true
success_test status w = rw (le-leb 200 status w.0, lt-ltb status 300 w.1)

response_answered : (L : LimitSet) (status : ℕ) (block : List ℕ) (r : Record) → Answered status r (response_update L status block r)
unfolding response_update
response_answered L status block r = record {
  same_id = record { call_id = k.call_id; local_tag = k.local_tag; remote_tag = k.remote_tag };
  same_numbers = numbers (is_success status) (expires_named block);
  confirms = λ c. by_success (is_success status) (success_test status c.success) (expires_named block) c.was_early;
  keeps_state = λ n. by_state (is_success status) refl (expires_named block) r.numbers.state refl n;
  keeps_routes = λ n. response_routes L status block r (not_confirming n);
}
  where
    k : Kept r (response_update L status block r)
    k = response_kept L status block r

    numbers : (p : Bool) (o : Option Interval) →
        ((cond p (confirm_step (interval_from o r.numbers)) (interval_from o r.numbers)).local ≡ r.numbers.local)
        × (((cond p (confirm_step (interval_from o r.numbers)) (interval_from o r.numbers)).remote ≡ r.numbers.remote)
        × ((cond p (confirm_step (interval_from o r.numbers)) (interval_from o r.numbers)).last_ack ≡ r.numbers.last_ack))
    numbers true None = (refl, (refl, refl))
    numbers true (Some i) = (refl, (refl, refl))
    numbers false None = (refl, (refl, refl))
    numbers false (Some i) = (refl, (refl, refl))

    by_success : (p : Bool) → p ≡ true → (o : Option Interval) → r.numbers.state ≡ early → (cond p (confirm_step (interval_from o r.numbers)) (interval_from o r.numbers)).state ≡ confirmed
    by_success true q None e = ap confirmed_state e
    by_success true q (Some i) e = ap confirmed_state e
    by_success false q o e = absurd (false≢true q)

    success_is : is_success status ≡ true → (200 ≤ status) × (status < 300)
    success_is q = let z = and_parts (leb 200 status) (ltb status 300) q in (leb-true 200 status z.0, ltb-true status 300 z.1)

    -- a state that a confirmation doesn't change, or no 2xx
    by_state : (p : Bool) → is_success status ≡ p → (o : Option Interval) (s : State) → r.numbers.state ≡ s → (Confirming status r → ⊥)
        → (cond p (confirm_step (interval_from o r.numbers)) (interval_from o r.numbers)).state ≡ r.numbers.state
    by_state false q None s e n = refl
    by_state false q (Some i) s e n = refl
    by_state true q o early e n = absurd (n (record { success = success_is q; was_early = e }))
    by_state true q None confirmed e n = ap confirmed_state e ∙ sym e
    by_state true q (Some i) confirmed e n = ap confirmed_state e ∙ sym e
    by_state true q None terminated e n = ap confirmed_state e ∙ sym e
    by_state true q (Some i) terminated e n = ap confirmed_state e ∙ sym e

    not_confirming : (Confirming status r → ⊥) → confirms status r.numbers.state ≡ false
    not_confirming n = by r.numbers.state refl (is_success status) refl
      where
        by : (s : State) → r.numbers.state ≡ s → (p : Bool) → is_success status ≡ p → confirms status s ≡ false
        by early e true q = absurd (n (record { success = success_is q; was_early = e }))
        by early e false q = q
        by confirmed e p q = refl
        by terminated e p q = refl

-- ---- the rules

module _ (L : LimitSet) (x : Contents) (d : Distinct x.records) (e : Returned) (bytes : All (λ y. y < 256) (image_in e.call)) (held : Contents) (s : Saw L x e.call e held) where
  abbrev b : Book
  b = x.records

  at_call : (c : Call) → e.call ≡ c → Saw L x c e held
  at_call c q = subst (λ y. Saw L x y e held) q s

  -- the verdict refuses, or takes what fits
  turned_back : (c : Call) (cause : Refusal) → e.call ≡ c → Admitted L x c → image_cause c ≡ None → judge L c b ≡ Err cause → e.number ≡ number_of cause
  turned_back c cause q k i j = refused_number L x c e held (at_call c q) (admits L x c k i) k.lends cause j

  taken_whole : (c : Call) (y : Change) (v : Value) (now : Contents) → e.call ≡ c → Admitted L x c → image_cause c ≡ None → apply y x ≡ now → judge L c b ≡ taking y v → size now ≤ lent c → Done e held now v
  taken_whole c y v now q k i a j f = done L x c e held (at_call c q) (admits L x c k i) k.lends y v now a j f

  -- ---- 1, 2, 3

  opened : (o : Option Refusal) → argument_cause L e.call ≡ o
      → decide L e.call x ≡ refuse_by o (refuse_if (ltb (lent e.call) (size x)) BadStore (and_then (judge L e.call b) (λ t. fitting (lent e.call) x t)))
  unfolding decide
  opened o q = ap (λ y. refuse_by y (refuse_if (ltb (lent e.call) (size x)) BadStore (and_then (judge L e.call b) (λ t. fitting (lent e.call) x t)))) q

  argument_number : (cause : Refusal) → argument_cause L e.call ≡ Some cause → e.number ≡ number_of cause
  argument_number cause a = saw_refused L x e.call e held s cause (opened (Some cause) a)

  too_long : (before rest : List (List ℕ)) (t : List ℕ) → texts_of e.call ≡ before ++ (t ∷ rest) → L.text < length t → e.number ≡ 1
  too_long before rest t q h =
      argument_number TextTooLong
      (argument_causes L e.call ∙ ap (λ o. or_else (or_else o (malformed (block_of e.call))) (image_cause e.call)) (ap (long_cause L) q ∙ one_long L before rest t h))

  not_formed : All (λ t. length t ≤ L.text) (texts_of e.call) → is_block (block_of e.call) ≡ false → e.number ≡ 2
  not_formed a f =
      argument_number Malformed
      (argument_causes L e.call
      ∙ (ap (λ o. or_else (or_else o (malformed (block_of e.call))) (image_cause e.call)) (none_long L (texts_of e.call) a) ∙ ap (λ p. or_else (cause_if (not p) Malformed) (image_cause e.call)) f))

  -- a bad image and a used length over the lent have the same number
  not_lent : All (λ t. length t ≤ L.text) (texts_of e.call) → is_block (block_of e.call) ≡ true → lent e.call < size x → e.number ≡ 3
  not_lent a f h = by (image_cause e.call) refl
    where
      by : (o : Option Refusal) → image_cause e.call ≡ o → e.number ≡ 3
      by None i =
          saw_refused L x e.call e held s BadStore
          (opened None (image_left L e.call a f ∙ i)
          ∙ ap (λ p. refuse_if p BadStore (and_then (judge L e.call b) (λ t. fitting (lent e.call) x t))) (lt-ltb (lent e.call) (size x) h))
      by (Some cause) i = argument_number cause (image_left L e.call a f ∙ i) ∙ ap number_of (image_bad e.call cause i)

  -- ---- puts

  module _ (n : ℕ) (i : List ℕ) (r : Record) (q : e.call ≡ put n i) (k : Admitted L x (put n i)) (w : WellFormed r) (is : i ≡ image.write r) where
    abbrev one : one_record i ≡ Ok r
    one = image_given i r w is

    puts : (now : Book) → place r b ≡ now → TakenIf n e held (Free L r b) (holding now) no_value
    puts now p =
        taken_if L x (put n i) e held (at_call (put n i) q) (admits L x (put n i) k (ap cause_in one)) k.lends (Free L r b) (set r) no_value (holding now) (ap holding p)
        (put_free L b n i r one) (free_put L b n i r one)

    puts_not : (cause : Refusal) → judge L (put n i) b ≡ Err cause → e.number ≡ number_of cause
    puts_not cause j = turned_back (put n i) cause q k (ap cause_in one) j

  put_bad : (n : ℕ) (i : List ℕ) → e.call ≡ put n i → Admitted L x (put n i) → ((r : Record) → WellFormed r → i ≢ image.write r) → e.number ≡ 3
  put_bad n i q k w =
      let z = no_image i (bytes_of i (subst (λ c. All (λ y. y < 256) (image_in c)) q bytes)) w in
      let j : cause_in (one_record i) ≡ Some z.0 = ap cause_in z.1 in
      argument_number z.0 (ap (argument_cause L) q ∙ (image_left L (put n i) k.fits k.formed ∙ j)) ∙ ap number_of (image_three i z.0 j)

  -- ---- updates and readings

  -- an update of a record that stands in the store
  changes : (n : ℕ) (u : Update) (r : Record) (front rest : Book) (Condition : Type 0) (now : Record) → e.call ≡ update n u → Admitted L x (update n u) → b ≡ front ++ (r ∷ rest)
      → name_of u ≡ Some (ident_of r) → ident_of r ≡ ident_of now → (Condition → revised L u r ≡ Ok now) → ((y : Record) → revised L u r ≡ Ok y → Condition)
      → TakenIf n e held Condition (holding (front ++ (now ∷ rest))) (told_by u now)
  changes n u r front rest Condition now q k w f same to from =
      taken_if L x (update n u) e held (at_call (update n u) q) (admits L x (update n u) k refl) k.lends Condition (alter now) (told_by u now) (holding (front ++ (now ∷ rest)))
      (ap holding (ap (amend now) w ∙ amended front rest r (subst Distinct w d) now same))
      (λ c. update_given L b n u r now (stands u r front rest w f) (to c)) (λ t j. let g = given_update L b n u r (stands u r front rest w f) t j in from g.0 g.1)
    where
      stands : (v : Update) (y : Record) (front rest : Book) → b ≡ front ++ (y ∷ rest) → name_of v ≡ Some (ident_of y) → find_named (name_of v) b ≡ Some y
      stands v y front rest w f = ap (λ o. find_named o b) f ∙ (ap (find (ident_of y)) w ∙ found_there front rest y (subst Distinct w d))

  -- one that is refused
  turns_back : (n : ℕ) (u : Update) (r : Record) (front rest : Book) (cause : Refusal) → e.call ≡ update n u → Admitted L x (update n u) → b ≡ front ++ (r ∷ rest)
      → name_of u ≡ Some (ident_of r) → revised L u r ≡ Err cause → e.number ≡ number_of cause
  turns_back n u r front rest cause q k w f v =
      turned_back (update n u) cause q k refl
      (update_refused L b n u r cause (ap (λ o. find_named o b) f ∙ (ap (find (ident_of r)) w ∙ found_there front rest r (subst Distinct w d))) v)

  -- a record's identifier is the one named
  named : (id : Ident) (r : Record) → Has id r → Some id ≡ Some (ident_of r)
  named id r h = ap Some (sym (has_ident id r h))

  update_not_found : (n : ℕ) (u : Update) → e.call ≡ update n u → Admitted L x (update n u) → NoneOf (Of u) b → e.number ≡ 15
  update_not_found n u q k a = turned_back (update n u) NotFound q k refl (update_unfound L b n u (by u a))
    where
      by : (v : Update) → NoneOf (Of v) b → find_named (name_of v) b ≡ None
      by (request method block) h = none_named block b h
      by (response id status block) h = none_found id b h
      by (terminate id) h = none_found id b h
      by (local_number id) h = none_found id b h
      by (interval id t) h = none_found id b h

  -- a reading that is answered, and one that is refused
  answers : (n : ℕ) (q : Reading) (v : Value) → e.call ≡ read n q → Admitted L x (read n q) → reply q b ≡ Ok v → Done e held x v
  unfolding judge
  answers n q v p k w = taken_whole (read n q) unchanged v x p k refl refl (ap (λ o. and_then o (λ y. taking unchanged y)) w) k.lends

  answers_not : (n : ℕ) (q : Reading) (cause : Refusal) → e.call ≡ read n q → Admitted L x (read n q) → reply q b ≡ Err cause → e.number ≡ number_of cause
  unfolding judge
  answers_not n q cause p k w = turned_back (read n q) cause p k refl (ap (λ o. and_then o (λ y. taking unchanged y)) w)

  -- ---- requests

  module _ (n : ℕ) (method block : List ℕ) (cseq : ℕ) (r : Record) (front rest : Book) (q : e.call ≡ update n (request method block)) (k : Admitted L x (update n (request method block)))
      (w : b ≡ front ++ (r ∷ rest)) (f : Names block r) (c : cseq_number block ≡ Some cseq) where
    stepped : (kind : Kind) → kind_of method ≡ kind → revised L (request method block) r ≡ on_step L block cseq r c (request_step L kind cseq r.numbers)
    unfolding revised
    stepped kind o = ap (λ y. request_update L y block r) o ∙ request_stepped L block cseq r c kind

    step_refused : (kind : Kind) (cause : Refusal) → kind_of method ≡ kind → request_step L kind cseq r.numbers ≡ Err cause → e.number ≡ number_of cause
    step_refused kind cause o v = turns_back n (request method block) r front rest cause q k w (names_ident block r f) (stepped kind o ∙ ap (on_step L block cseq r c) v)

    step_taken_if : (kind : Kind) (Condition : Type 0) (y : Numbers) → kind_of method ≡ kind → (Condition → request_step L kind cseq r.numbers ≡ Ok y)
        → ((z : Numbers) → request_step L kind cseq r.numbers ≡ Ok z → Condition)
        → TakenIf n e held Condition (holding (front ++ (retargeted block (with_numbers y r) ∷ rest))) no_value
    step_taken_if kind Condition y o to from =
        changes n (request method block) r front rest Condition (retargeted block (with_numbers y r)) q k w (names_ident block r f) refl (λ h. stepped kind o ∙ ap (on_step L block cseq r c) (to h))
        (λ z v. let g = both_given (request_step L kind cseq r.numbers) (λ u. Ok (retargeted block (with_numbers u r))) (sym (stepped kind o) ∙ v) in from g.0 g.1)

    zero : cseq ≡ 0 → e.number ≡ 9
    zero z = by (kind_of method) refl
      where
        by : (kind : Kind) → kind_of method ≡ kind → e.number ≡ 9
        by ack o = step_refused ack CSeqZero o (zero_step L block cseq r c ack z)
        by other o = step_refused other CSeqZero o (zero_step L block cseq r c other z)

  request_unread : (n : ℕ) (method block : List ℕ) (r : Record) (front rest : Book) → e.call ≡ update n (request method block) → Admitted L x (update n (request method block))
      → b ≡ front ++ (r ∷ rest) → Names block r → cseq_number block ≡ None → e.number ≡ 4
  unfolding revised request_update
  request_unread n method block r front rest q k w f z =
      turns_back n (request method block) r front rest MissingHeader q k w (names_ident block r f)
      (ap (λ o. and_then (or_refuse MissingHeader o) (λ y. and_then (request_step L (kind_of method) y r.numbers) (λ u. Ok (retargeted block (with_numbers u r))))) z)

  -- ---- look-ups

  lies : (test : Record → Bool) (front rest : Book) (r : Record) → b ≡ front ++ (r ∷ rest) → All (λ y. test y ≡ false) front → test r ≡ true
      → place_of test first_place b ≡ Some (image_at (size (holding front)) (length (image.write r)))
  lies test front rest r w a i =
      ap (place_of test first_place) w ∙ (place_behind test first_place front rest r a i ∙ ap (λ k. Some (image_at k (length (image.write r)))) (omega arith))

  lies_own : (id : Ident) (front rest : Book) (r : Record) → b ≡ front ++ (r ∷ rest) → ident_of r ≡ id → place_of (is_of id) first_place b ≡ Some (image_at (size (holding front)) (length (image.write r)))
  lies_own id front rest r w i =
      lies (is_of id) front rest r w (not_held id front (subst (λ j. find j front ≡ None) i (none_before front rest r (subst Distinct w d)))) (same_ident_lem (ident_of r) id i)

  unnamed : (o : Option Ident) → find_named o b ≡ None → place_named o b ≡ None
  unnamed None f = refl
  unnamed (Some i) f = place_nowhere (is_of i) first_place b (not_held i b f)

  pub rules : CallRules L x e held
  unfolding revised judge reply
  rules = record {
    refused_keeps = saw_keeps L x e.call e held s;
    refused_gives = saw_gives_none L x e.call e held s;
    long_1 = too_long;
    malformed_2 = not_formed;
    unlent_3 = not_lent;
    put_new = λ n i r q k w is a. puts n i r q k w is (b ++ (r ∷ [])) (new_last r b (none_found (own r) b a));
    put_again = λ n i r was front rest q k w is p h. puts n i r q k w is (front ++ (r ∷ rest)) (ap (place r) p ∙ placed_again front rest was (subst Distinct p d) r (has_ident (own r) was h));
    put_3 = put_bad;
    put_16 = λ n i r q k w is f. puts_not n i r q k w is TooManyDialogs (put_full L b n i r (image_given i r w is) f);
    put_17 = λ n i r q k w is f t m. puts_not n i r q k w is TooManyEarlyDialogs (put_crowded L b n i r (image_given i r w is) f t m);
    request_rule = λ n method block cseq r front rest q k w f c o.
        step_taken_if n method block cseq r front rest q k w f c other (InWindow L r.numbers.remote cseq) (with_remote cseq r.numbers) (is_other_lem method o) (window_taken L cseq r.numbers) (λ y v. (taken_window L cseq r.numbers y v).0);
    ack_rule = λ n method block cseq r front rest q k w f c o.
        step_taken_if n method block cseq r front rest q k w f c ack (AtRemote r.numbers.remote cseq) (with_ack cseq r.numbers) (is_ack method o) (equals_taken L block cseq r c) (taken_equals L block cseq r c);
    request_4 = request_unread;
    request_9 = λ n method block r front rest q k w f c. zero n method block 0 r front rest q k w f c refl;
    request_10 = λ n method block cseq r front rest q k w f c o p h. step_refused n method block cseq r front rest q k w f c other CSeqTooLarge (is_other_lem method o) (large_step L block cseq r c p h);
    request_11 = λ n method block cseq r front rest q k w f c o p m h. step_refused n method block cseq r front rest q k w f c other InvalidCSeq (is_other_lem method o) (low_step L block cseq r c p m h);
    request_12 = λ n method block cseq r front rest q k w f c o m p h. step_refused n method block cseq r front rest q k w f c other CSeqJumpTooLarge (is_other_lem method o) (far_step L block cseq r c m p h);
    ack_11 = λ n method block cseq r front rest q k w f c o p h. step_refused n method block cseq r front rest q k w f c ack InvalidCSeq (is_ack method o) (unequal_step L block cseq r c p h);
    response_rule = λ n id status block r front rest q k w h.
        let a = response_answered L status block r in
        (changes n (response id status block) r front rest (Unit {0}) (response_update L status block r) q k w (named id r h) (sym (has_ident (own r) (response_update L status block r) a.same_id)) (λ u. refl) (λ y v. tt), a);
    terminate_rule = λ n id r front rest q k w h. changes n (terminate id) r front rest (Unit {0}) (ended r) q k w (named id r h) refl (λ u. refl) (λ y v. tt);
    local_rule = λ n id r front rest q k w h. changes n (local_number id) r front rest (Unit {0}) (numbered r) q k w (named id r h) refl (λ u. refl) (λ y v. tt);
    interval_rule = λ n id t r front rest q k w h.
        changes n (interval id t) r front rest ((L.min_expires ≤ t) × (t ≤ L.max_expires)) (lasting t r) q k w (named id r h) refl (interval_in_lem L t r) (interval_out L t r);
    interval_13 = λ n id t r front rest q k w h l.
        let c = update n (interval id t) in
        let least = SessionExpiresTooSmall L.min_expires in
        let g = at_call c q in
        let f : find id b ≡ Some r = subst (λ j. find j b ≡ Some r) (has_ident id r h) (ap (find (ident_of r)) w ∙ found_there front rest r (subst Distinct w d)) in
        let v = judged_refused L x c e held g (admits L x c k refl) k.lends least (update_refused L b n (interval id t) r least f (interval_short L t r l)) in
        (saw_refused L x c e held g least v, g.left_is ∙ (ap (λ y. lent_after (answer_of y) e.lent) v ∙ least_given_lem L.min_expires e.lent));
    interval_14 = λ n id t r front rest q k w h l m. turns_back n (interval id t) r front rest SessionExpiresTooLarge q k w (named id r h) (interval_long L t r l m);
    update_15 = update_not_found;
    remove_rule = λ n id r front rest q k w h.
        let f : find id b ≡ Some r = subst (λ j. find j b ≡ Some r) (has_ident id r h) (ap (find (ident_of r)) w ∙ found_there front rest r (subst Distinct w d)) in
        let p : keep (others id) b ≡ front ++ rest = ap (keep (others id)) w ∙ dropped front rest r (subst Distinct w d) id (has_ident id r h) in
        taken_whole (remove n id) (only (others id)) no_value (holding (front ++ rest)) q k refl (ap holding p)
        (ap (λ o. and_then (or_refuse NotFound o) (λ y. taking (only (others id)) no_value)) f)
        (subst (λ y. size (holding y) ≤ n) p (le_trans (only_size (others id) x) k.lends));
    remove_15 = λ n id q k a. turned_back (remove n id) NotFound q k refl (ap (λ o. and_then (or_refuse NotFound o) (λ y. taking (only (others id)) no_value)) (none_found id b a));
    sweep_rule = λ n q k.
        taken_whole (sweep n) (only living) no_value (holding (those (λ y. ltb (stage y.numbers.state) 3) b)) q k refl (ap holding (swept_those b)) refl
        (subst (λ y. size (holding y) ≤ n) (swept_those b) (le_trans (only_size living x) k.lends));
    get_rule = λ n id r front rest q k w h. answers n (get id) _ q k (ap (or_refuse NotFound) (lies_own id front rest r w (has_ident id r h)));
    get_15 = λ n id q k a. answers_not n (get id) NotFound q k (ap (or_refuse NotFound) (place_nowhere (is_of id) first_place b (not_held id b (none_found id b a))));
    find_by_request_rule = λ n block r front rest q k w f.
        answers n (find_by_request block) _ q k (ap (λ o. or_refuse NotFound (place_named o b)) (names_ident block r f) ∙ ap (or_refuse NotFound) (lies_own (ident_of r) front rest r w refl));
    find_by_request_15 = λ n block q k a. answers_not n (find_by_request block) NotFound q k (ap (or_refuse NotFound) (unnamed (named_in block) (none_named block b a)));
    find_by_call_id_rule = λ n t r front rest q k w a i.
        answers n (find_by_call_id t) _ q k
        (ap (or_refuse NotFound) (lies (λ y. equal y.call_id t) front rest r w (all_unequal t front a) (ap (λ y. equal y t) i ∙ equal_same t)));
    find_by_call_id_15 = λ n t q k a.
        answers_not n (find_by_call_id t) NotFound q k (ap (or_refuse NotFound) (place_nowhere (λ y. equal y.call_id t) first_place b (all_unequal t b a)));
    count_rule = λ n q k. answers n count (number (length b)) q k refl;
    all_ids_rule = λ n room q k f.
        answers n (all_ids room) (written (id_texts b)) q k (ap (λ y. and_then (fitted room y) (λ z. Ok (written z))) (ids_same b) ∙ rw (le-ltb room (length (id_texts b)) f));
    all_ids_18 = λ n room q k f.
        answers_not n (all_ids room) NoRoom q k (ap (λ y. and_then (fitted room y) (λ z. Ok (written z))) (ids_same b) ∙ rw (lt-ltb room (length (id_texts b)) f));
  }
