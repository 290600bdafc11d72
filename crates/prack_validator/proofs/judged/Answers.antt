-- `judged` meets its contract: what is held is cleaned, the PRACK held against it, and the store written, whatever the verdict. Assumes nothing.
use Rattle.std.proofs.Common.{◌≡◌, ℕ, List, Err, None, Result, sym, ap, ◌∙◌, arith, rules, false, ◌++◌, length, take, drop}
use Rattle.std.proofs.lemmas.List.{length-take}
use Rattle.std.proofs.result.Match.{err_is}
use Rattle.limits.specs.Limits.{LimitSet}
use Rattle.limits.specs.Settings.{limits_in}
use Rattle.text.proofs.Lengths.{length_passed, length_stopped}
use Rattle.limits.specs.declared.Refusal.{Refusal}
use Rattle.limits.proofs.Laws.{passed, stopped}
use Rattle.text.specs.Answers.{too_long}
use Rattle.msg.specs.Block.{block_cause}
use Rattle.output.specs.Output.{fitted}
use Rattle.codec.proofs.CodecLaws.{Bytes, bytes_all}
use Rattle.rack.specs.declared.RAck.{RAck}
use Rattle.ordered_store.specs.Entries.{set_entry}
use Rattle.prack_body.specs.Lists.{Tracked}
use Rattle.prack_body.specs.Body.{body_of, Holds}
use Rattle.prack_body.proofs.BodyLaws.{alone, put_back}
use Rattle.prack_body.specs.declared.TrackedAt.{TrackedAt}
use Rattle.prack_entries.specs.Entries.{key_of, encode_tracked, clean_for}
use Rattle.prack_entries.specs.Places.{Sought}
use Rattle.prack_entries.proofs.SlotLaws.{sought, cut}
use Rattle.prack_validator.specs.Validator.{validate, action_cause, judged_for, marked_for, rack_value, ran}
use Rattle.prack_validator.specs.Answers.{validated_or}
use Rattle.prack_validator.specs.declared.Validated.{Validated}
use Rattle.prack_validator.proofs.OperationLaws.{pending_bounds, long_cause_lem, rest_cause, short, left_by, by_arguments, by_store, by_fitting, validate_decides, clean_id}
use Rattle.prack_validator.proofs.AnswerLaws.{validated_kept, validated_taken, set_taken, set_refused}
use Rattle.prack_validator.proofs.judged.Goals as goal
use Rattle.prack_validator.proofs.judged.Goals.{After-clean_copy-n, After-hold_against-verdict, In_ok-check_block, In_ok-slot}

-- what is held, with the response marked that the PRACK acknowledges: the store with it
module _ (L : LimitSet) (id block bytes : List ℕ) (time used : ℕ) {slot : Result TrackedAt ℕ} (s : Sought L id bytes used slot) where
  abbrev marked : Tracked
  marked = marked_for L id block time s.list

  abbrev verdict : Result RAck Refusal
  verdict = judged_for L id block time s.list

  abbrev stored : Result (List ℕ) Refusal
  stored = fitted (length bytes) (encode_tracked L (set_entry key_of marked s.list))

  settled : action_cause L (validate id block time) ≡ None → ran L (validate id block time) bytes used ≡ left_by bytes used (rack_value verdict) stored
  settled clear = by_fitting L bytes used (validate id block time) clear s (set_entry key_of marked s.list) (rack_value verdict) (validate_decides L id s.list block time)

known : (c : In_ok-slot) → Bytes c.args.bytes.now
known c = bytes_all c.args.bytes.now (λ n. search rules)

not_long : (c : In_ok-check_block) → too_long (limits_in c.args.settings) c.args.id.now ≡ false
not_long c = length_passed (limits_in c.args.settings) c.args.id.now (sym c.check_length.ensures ∙ c.in_ok-check_length.was)

clear : (c : In_ok-check_block) → action_cause (limits_in c.args.settings) (validate c.args.id.now c.args.block.now c.args.time) ≡ None
unfolding block_cause
clear c = rest_cause (limits_in c.args.settings) (validate c.args.id.now c.args.block.now c.args.time) (not_long c) ∙ passed (block_cause (limits_in c.args.settings) c.args.block.now) (sym c.check_block.ensures ∙ c.in_ok-check_block.was)

-- the bytes are a store's
abbrev S : (c : In_ok-slot) → Sought (limits_in c.args.settings) c.args.id.now c.args.bytes.now c.args.used c.in_ok-slot.slot
S c = sought (limits_in c.args.settings) c.args.id.now c.args.bytes.now c.args.used c.in_ok-slot.slot (sym c.find.ensures ∙ c.in_ok-slot.was)

same : (c : In_ok-slot) → (marked (limits_in c.args.settings) c.args.id.now c.args.block.now c.args.bytes.now c.args.time c.args.used (S c)).id ≡ c.args.id.now
same c = clean_id (known c) (S c) c.args.time

copied : (c : After-clean_copy-n) (s : Sought (limits_in c.args.settings) c.args.id.now c.args.bytes.now c.args.used c.in_ok-slot.slot) → Holds (limits_in c.args.settings) c.clean_copy-n.new.body c.clean_copy-n.result (clean_for (limits_in c.args.settings) c.args.time c.args.id.now s.list)
copied c s = c.clean_copy-n.ensures.by_index c.args.id.now (cut s) (short c.args.settings c.args.id.now (length_passed (limits_in c.args.settings) c.args.id.now (sym c.check_length.ensures ∙ c.in_ok-check_length.was)))

pub returns-in_err-check_length : goal.returns-in_err-check_length
returns-in_err-check_length c =
    let q = length_stopped (limits_in c.args.settings) c.args.id.now (sym c.check_length.ensures ∙ c.in_err-check_length.was) in
    let e = err_is c.from_residual.result _ c.from_residual.ensures.1 ∙ ap Err q.1 in
    let a = validate c.args.id.now c.args.block.now c.args.time in
    let old : _ × _ = validated_kept c.args.bytes.now c.args.used (by_arguments (limits_in c.args.settings) c.args.bytes.now c.args.used a (long_cause_lem (limits_in c.args.settings) a q.0)) in
    record { value = ap (λ (r : Result Validated Refusal). validated_or r c.args.used) e ∙ old.0; bytes_after = old.1 }

pub returns-in_err-check_block : goal.returns-in_err-check_block
unfolding block_cause
returns-in_err-check_block c =
    let a = validate c.args.id.now c.args.block.now c.args.time in
    let e = err_is c.from_residual-in_err-check_block.result _ c.from_residual-in_err-check_block.ensures.1 in
    let old : _ × _ = validated_kept c.args.bytes.now c.args.used (by_arguments (limits_in c.args.settings) c.args.bytes.now c.args.used a
    (rest_cause (limits_in c.args.settings) a (length_passed (limits_in c.args.settings) c.args.id.now (sym c.check_length.ensures ∙ c.in_ok-check_length.was)) ∙ stopped (block_cause (limits_in c.args.settings) c.args.block.now) (sym c.check_block.ensures ∙ c.in_err-check_block.was))) in
    record { value = ap (λ (r : Result Validated Refusal). validated_or r c.args.used) e ∙ old.0; bytes_after = old.1 }

pub returns-in_err-slot : goal.returns-in_err-slot
returns-in_err-slot c =
    let a = validate c.args.id.now c.args.block.now c.args.time in
    let e = err_is c.from_residual-in_err-slot.result _ c.from_residual-in_err-slot.ensures.1 in
    let old : _ × _ = validated_kept c.args.bytes.now c.args.used (by_store (limits_in c.args.settings) c.args.bytes.now c.args.used a (clear (goal.at.returns-in_err-slot c).In_ok-check_block) c.args.id.now (sym c.find.ensures ∙ c.in_err-slot.was)) in
    record { value = ap (λ (r : Result Validated Refusal). validated_or r c.args.used) e ∙ old.0; bytes_after = old.1 }

pub clean_copy-n-requires : goal.clean_copy-n-requires
clean_copy-n-requires c = record {
  pending = (pending_bounds c.args.settings c.requires.permitted).1;
  room = (omega arith, (c.args.id.now, cut (S (goal.at.clean_copy-n-requires c).In_ok-slot)));
}

pub set-requires : goal.set-requires
set-requires c = (
  short c.args.settings c.args.id.now (length_passed (limits_in c.args.settings) c.args.id.now (sym c.check_length.ensures ∙ c.in_ok-check_length.was)),
  (omega (arith, length-take c.clean_copy-n.result (c.hold_against-verdict.new.body ++ drop c.clean_copy-n.result c.clean_copy-n.new.body), c.clean_copy-n.ensures.lower_bound.1), (limits_in c.args.settings, S (goal.at.set-requires c).In_ok-slot)),
)

pub hold_against-verdict-requires : goal.hold_against-verdict-requires
hold_against-verdict-requires c =
    let s = S (goal.at.hold_against-verdict-requires c).In_ok-slot in
    (limits_in c.args.settings, clean_for (limits_in c.args.settings) c.args.time c.args.id.now s.list, alone (copied (goal.at.hold_against-verdict-requires c).After-clean_copy-n s))

-- what is held now is the marked body
changed : (c : After-hold_against-verdict) (s : Sought (limits_in c.args.settings) c.args.id.now c.args.bytes.now c.args.used c.in_ok-slot.slot)
    → take c.clean_copy-n.result (c.hold_against-verdict.new.body ++ drop c.clean_copy-n.result c.clean_copy-n.new.body) ≡ body_of (limits_in c.args.settings) (marked (limits_in c.args.settings) c.args.id.now c.args.block.now c.args.bytes.now c.args.time c.args.used s)
changed c s =
    let h = c.clean_copy-n.ensures.by_index c.args.id.now (cut s) (short c.args.settings c.args.id.now (length_passed (limits_in c.args.settings) c.args.id.now (sym c.check_length.ensures ∙ c.in_ok-check_length.was))) in
    put_back (drop c.clean_copy-n.result c.clean_copy-n.new.body) h (c.hold_against-verdict.ensures.holds (limits_in c.args.settings) (clean_for (limits_in c.args.settings) c.args.time c.args.id.now s.list) (alone h)) c.hold_against-verdict.auto.body

pub returns-in_err-kept : goal.returns-in_err-kept
returns-in_err-kept c =
    let s = S (goal.at.returns-in_err-kept c).In_ok-slot in
    let m = marked (limits_in c.args.settings) c.args.id.now c.args.block.now c.args.bytes.now c.args.time c.args.used s in
    let i = same (goal.at.returns-in_err-kept c).In_ok-slot in
    let b = changed (goal.at.returns-in_err-kept c).After-hold_against-verdict s in
    let e = err_is c.from_residual-in_err-kept.result _ c.from_residual-in_err-kept.ensures.1 in
    let old : _ × _ = validated_kept c.set.new.bytes c.args.used (set_refused c.args.bytes.now c.args.used (rack_value (verdict (limits_in c.args.settings) c.args.id.now c.args.block.now c.args.bytes.now c.args.time c.args.used s))
    (stored (limits_in c.args.settings) c.args.id.now c.args.block.now c.args.bytes.now c.args.time c.args.used s)
    (settled (limits_in c.args.settings) c.args.id.now c.args.block.now c.args.bytes.now c.args.time c.args.used s (clear (goal.at.returns-in_err-kept c).In_ok-check_block))
    (c.set.ensures.value (limits_in c.args.settings) s m i b) (c.set.ensures.bytes_after (limits_in c.args.settings) s m i b) c.in_err-kept.was) in
    record { value = ap (λ (r : Result Validated Refusal). validated_or r c.args.used) e ∙ old.0; bytes_after = old.1 }

pub returns : goal.returns
returns c =
    let s = S (goal.at.returns c).In_ok-slot in
    let m = marked (limits_in c.args.settings) c.args.id.now c.args.block.now c.args.bytes.now c.args.time c.args.used s in
    let i = same (goal.at.returns c).In_ok-slot in
    let b = changed (goal.at.returns c).After-hold_against-verdict s in
    let h = copied (goal.at.returns c).After-clean_copy-n s in
    let v = verdict (limits_in c.args.settings) c.args.id.now c.args.block.now c.args.bytes.now c.args.time c.args.used s in
    let old : _ × _ = validated_taken c.args.bytes.now c.args.used v (set_taken c.args.bytes.now c.args.used (rack_value v)
    (stored (limits_in c.args.settings) c.args.id.now c.args.block.now c.args.bytes.now c.args.time c.args.used s)
    (settled (limits_in c.args.settings) c.args.id.now c.args.block.now c.args.bytes.now c.args.time c.args.used s (clear (goal.at.returns c).In_ok-check_block))
    (c.set.ensures.value (limits_in c.args.settings) s m i b) (c.set.ensures.bytes_after (limits_in c.args.settings) s m i b) c.in_ok-kept.was)
    (c.hold_against-verdict.ensures.value (limits_in c.args.settings) (clean_for (limits_in c.args.settings) c.args.time c.args.id.now s.list) (alone h)) in
    record { value = old.0; bytes_after = old.1 }
