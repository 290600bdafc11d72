-- `get_pending` meets its contract: what is held is cleaned, the output's room is measured, then the store and the output are written. Assumes nothing.
use Rattle.std.proofs.Common.{◌≡◌, ◌≤◌, ℕ, List, Err, None, Ok, Result, sym, ap, ◌∙◌, arith, rules, length}
use Rattle.std.proofs.result.Match.{err_is}
use Rattle.limits.specs.Limits.{LimitSet}
use Rattle.limits.specs.Settings.{limits_in}
use Rattle.text.proofs.Lengths.{length_passed, length_stopped}
use Rattle.limits.specs.declared.Refusal.{Refusal}
use Rattle.output.specs.Output.{fitted}
use Rattle.codec.proofs.CodecLaws.{Bytes, bytes_all}
use Rattle.ordered_store.specs.Entries.{set_entry}
use Rattle.prack_body.specs.Lists.{Tracked, open_in}
use Rattle.prack_body.specs.Layout.{open_bytes}
use Rattle.prack_body.specs.Body.{Holds}
use Rattle.prack_body.proofs.BodyLaws.{alone}
use Rattle.prack_body.specs.declared.TrackedAt.{TrackedAt}
use Rattle.prack_entries.specs.Entries.{key_of, encode_tracked, clean_for}
use Rattle.prack_entries.specs.Places.{Sought}
use Rattle.prack_entries.proofs.SlotLaws.{sought, cut}
use Rattle.prack_validator.specs.Validator.{get_pending, written, action_cause, ran}
use Rattle.prack_validator.specs.Answers.{used_listed}
use Rattle.prack_validator.proofs.OperationLaws.{pending_bounds, long_cause_lem, rest_cause, short, left_by, by_arguments, by_store, by_cause, by_fitting, pending_refuses, pending_decides, clean_id}
use Rattle.prack_validator.proofs.AnswerLaws.{listed_kept, listed_taken, set_taken, set_refused}
use Rattle.prack_validator.proofs.get_pending.Goals as goal
use Rattle.prack_validator.proofs.get_pending.Goals.{After-clean_copy-n, After-find, After-open_size, In_ok-slot}

-- what is held after the cleanup, what waits there, and the store with it
module _ (L : LimitSet) (id bytes : List ℕ) (time used room : ℕ) {slot : Result TrackedAt ℕ} (s : Sought L id bytes used slot) where
  abbrev clean : Tracked
  clean = clean_for L time id s.list

  abbrev waiting : List ℕ
  waiting = open_bytes (open_in clean.list)

  abbrev stored : Result (List ℕ) Refusal
  stored = fitted (length bytes) (encode_tracked L (set_entry key_of clean s.list))

  settled : action_cause L (get_pending id time room) ≡ None → length waiting ≤ room → ran L (get_pending id time room) bytes used ≡ left_by bytes used (Ok (written waiting)) stored
  settled clear h = by_fitting L bytes used (get_pending id time room) clear s (set_entry key_of clean s.list) (Ok (written waiting)) (pending_decides L id s.list time room h)

known : (c : In_ok-slot) → Bytes c.args.bytes.now
known c = bytes_all c.args.bytes.now (λ n. search rules)

clear : (c : After-find) → action_cause (limits_in c.args.settings) (get_pending c.args.id.now c.args.time (length c.args.out.now)) ≡ None
clear c = rest_cause (limits_in c.args.settings) (get_pending c.args.id.now c.args.time (length c.args.out.now)) (length_passed (limits_in c.args.settings) c.args.id.now (sym c.check_length.ensures ∙ c.in_ok-check_length.was))

-- the bytes are a store's
abbrev S : (c : In_ok-slot) → Sought (limits_in c.args.settings) c.args.id.now c.args.bytes.now c.args.used c.in_ok-slot.slot
S c = sought (limits_in c.args.settings) c.args.id.now c.args.bytes.now c.args.used c.in_ok-slot.slot (sym c.find.ensures ∙ c.in_ok-slot.was)

same : (c : In_ok-slot) → (clean_for (limits_in c.args.settings) c.args.time c.args.id.now (S c).list).id ≡ c.args.id.now
same c = clean_id (known c) (S c) c.args.time

copied : (c : After-clean_copy-n) (s : Sought (limits_in c.args.settings) c.args.id.now c.args.bytes.now c.args.used c.in_ok-slot.slot) → Holds (limits_in c.args.settings) c.clean_copy-n.new.body c.clean_copy-n.result (clean_for (limits_in c.args.settings) c.args.time c.args.id.now s.list)
copied c s = c.clean_copy-n.ensures.by_index c.args.id.now (cut s) (short c.args.settings c.args.id.now (length_passed (limits_in c.args.settings) c.args.id.now (sym c.check_length.ensures ∙ c.in_ok-check_length.was)))

size : (c : After-open_size) (s : Sought (limits_in c.args.settings) c.args.id.now c.args.bytes.now c.args.used c.in_ok-slot.slot) → c.open_size.result ≡ length (open_bytes (open_in (clean_for (limits_in c.args.settings) c.args.time c.args.id.now s.list).list))
size c s = c.open_size.ensures (limits_in c.args.settings) (clean_for (limits_in c.args.settings) c.args.time c.args.id.now s.list) (alone (c.clean_copy-n.ensures.by_index c.args.id.now (cut s) (short c.args.settings c.args.id.now (length_passed (limits_in c.args.settings) c.args.id.now (sym c.check_length.ensures ∙ c.in_ok-check_length.was)))))

pub returns-in_err-check_length : goal.returns-in_err-check_length
returns-in_err-check_length c =
    let q = length_stopped (limits_in c.args.settings) c.args.id.now (sym c.check_length.ensures ∙ c.in_err-check_length.was) in
    let e = err_is c.from_residual.result _ c.from_residual.ensures.1 ∙ ap Err q.1 in
    let a = get_pending c.args.id.now c.args.time (length c.args.out.now) in
    let old : _ × (_ × (_ × _)) = listed_kept c.args.bytes.now c.args.used (by_arguments (limits_in c.args.settings) c.args.bytes.now c.args.used a (long_cause_lem (limits_in c.args.settings) a q.0)) c.args.out.now in
    record { value = e ∙ old.0; bytes_after = old.1.0; used_value = ap (λ (r : Result (ℕ × ℕ) Refusal). used_listed r c.args.used) e ∙ old.1.1.0; out_after = old.1.1.1 }

pub returns-in_err-slot : goal.returns-in_err-slot
returns-in_err-slot c =
    let a = get_pending c.args.id.now c.args.time (length c.args.out.now) in
    let e = err_is c.from_residual-in_err-slot.result _ c.from_residual-in_err-slot.ensures.1 in
    let old : _ × (_ × (_ × _)) = listed_kept c.args.bytes.now c.args.used (by_store (limits_in c.args.settings) c.args.bytes.now c.args.used a (clear (goal.at.returns-in_err-slot c).After-find) c.args.id.now (sym c.find.ensures ∙ c.in_err-slot.was)) c.args.out.now in
    record { value = e ∙ old.0; bytes_after = old.1.0; used_value = ap (λ (r : Result (ℕ × ℕ) Refusal). used_listed r c.args.used) e ∙ old.1.1.0; out_after = old.1.1.1 }

pub clean_copy-n-requires : goal.clean_copy-n-requires
clean_copy-n-requires c = record {
  pending = (pending_bounds c.args.settings c.requires.permitted).1;
  room = (omega arith, (c.args.id.now, cut (S (goal.at.clean_copy-n-requires c).In_ok-slot)));
}

pub set-requires : goal.set-requires
set-requires c = (
  short c.args.settings c.args.id.now (length_passed (limits_in c.args.settings) c.args.id.now (sym c.check_length.ensures ∙ c.in_ok-check_length.was)),
  (search rules, (limits_in c.args.settings, S (goal.at.set-requires c).In_ok-slot)),
)

pub returns-then-out-open_size : goal.returns-then-out-open_size
returns-then-out-open_size c =
    let a = get_pending c.args.id.now c.args.time (length c.args.out.now) in
    let s = S (goal.at.returns-then-out-open_size c).In_ok-slot in
    let old : _ × (_ × (_ × _)) = listed_kept c.args.bytes.now c.args.used (by_cause (limits_in c.args.settings) c.args.bytes.now c.args.used a (clear (goal.at.returns-then-out-open_size c).After-find) s
    (pending_refuses (limits_in c.args.settings) c.args.id.now s.list c.args.time (length c.args.out.now) (omega (arith, c.if-out-open_size.true, size (goal.at.returns-then-out-open_size c).After-open_size s)))) c.args.out.now in
    record { value = old.0; bytes_after = old.1.0; used_value = old.1.1.0; out_after = old.1.1.1 }

pub open_bytes-requires : goal.open_bytes-requires
open_bytes-requires c =
    let s = S (goal.at.open_bytes-requires c).In_ok-slot in (
      limits_in c.args.settings,
      clean_for (limits_in c.args.settings) c.args.time c.args.id.now s.list,
      (alone (copied (goal.at.open_bytes-requires c).After-clean_copy-n s), omega (arith, c.if-out-open_size.false, size (goal.at.open_bytes-requires c).After-open_size s)),
    )

pub returns-in_err-after : goal.returns-in_err-after
returns-in_err-after c =
    let s = S (goal.at.returns-in_err-after c).In_ok-slot in
    let t = clean_for (limits_in c.args.settings) c.args.time c.args.id.now s.list in
    let i = same (goal.at.returns-in_err-after c).In_ok-slot in
    let b = (copied (goal.at.returns-in_err-after c).After-clean_copy-n s).are in
    let e = err_is c.from_residual-in_err-after.result _ c.from_residual-in_err-after.ensures.1 in
    let h : length (open_bytes (open_in (clean_for (limits_in c.args.settings) c.args.time c.args.id.now s.list).list)) ≤ length c.args.out.now = omega (arith, c.if-out-open_size.false, size (goal.at.returns-in_err-after c).After-open_size s) in
    let old : _ × (_ × (_ × _)) = listed_kept c.set.new.bytes c.args.used (set_refused c.args.bytes.now c.args.used (Ok (written (open_bytes (open_in t.list))))
    (stored (limits_in c.args.settings) c.args.id.now c.args.bytes.now c.args.time c.args.used (length c.args.out.now) s)
    (settled (limits_in c.args.settings) c.args.id.now c.args.bytes.now c.args.time c.args.used (length c.args.out.now) s (clear (goal.at.returns-in_err-after c).After-find) h)
    (c.set.ensures.value (limits_in c.args.settings) s t i b) (c.set.ensures.bytes_after (limits_in c.args.settings) s t i b) c.in_err-after.was) c.args.out.now in
    record { value = e ∙ old.0; bytes_after = old.1.0; used_value = ap (λ (r : Result (ℕ × ℕ) Refusal). used_listed r c.args.used) e ∙ old.1.1.0; out_after = old.1.1.1 }

pub returns : goal.returns
returns c =
    let s = S (goal.at.returns c).In_ok-slot in
    let t = clean_for (limits_in c.args.settings) c.args.time c.args.id.now s.list in
    let i = same (goal.at.returns c).In_ok-slot in
    let k = copied (goal.at.returns c).After-clean_copy-n s in
    let h : length (open_bytes (open_in (clean_for (limits_in c.args.settings) c.args.time c.args.id.now s.list).list)) ≤ length c.args.out.now = omega (arith, c.if-out-open_size.false, size (goal.at.returns c).After-open_size s) in
    let old : _ × (_ × (_ × _)) = listed_taken c.args.bytes.now c.args.used c.args.out.now (set_taken c.args.bytes.now c.args.used (Ok (written (open_bytes (open_in t.list))))
    (stored (limits_in c.args.settings) c.args.id.now c.args.bytes.now c.args.time c.args.used (length c.args.out.now) s)
    (settled (limits_in c.args.settings) c.args.id.now c.args.bytes.now c.args.time c.args.used (length c.args.out.now) s (clear (goal.at.returns c).After-find) h)
    (c.set.ensures.value (limits_in c.args.settings) s t i k.are) (c.set.ensures.bytes_after (limits_in c.args.settings) s t i k.are) c.in_ok-after.was) (c.open_bytes.ensures (limits_in c.args.settings) t (alone k)) in
    record { value = old.0; bytes_after = old.1.0; used_value = old.1.1.0; out_after = old.1.1.1 }
