-- `register` meets its contract: what is held is cleaned, the response pushed, and the store written. Assumes nothing.
use Rattle.std.proofs.Common.{◌≡◌, ℕ, List, Err, None, Ok, Result, sym, ap, ◌∙◌, arith, rules, true, false, length}
use lib.Seq.{length-take-le}
use Rattle.std.proofs.lemmas.List.{length-take}
use Rattle.std.proofs.result.Match.{err_is}
use Rattle.limits.specs.Settings.{limits_in}
use Rattle.text.proofs.Lengths.{length_passed, length_stopped}
use Rattle.limits.specs.declared.Refusal.{Refusal}
use Rattle.output.specs.Output.{fitted}
use Rattle.codec.proofs.CodecLaws.{Bytes, bytes_all}
use Rattle.ordered_store.specs.Answers.{used_written}
use Rattle.ordered_store.specs.Entries.{set_entry}
use Rattle.prack_body.specs.Lists.{Tracked, registered}
use Rattle.prack_body.specs.Body.{Holds}
use Rattle.prack_body.proofs.BodyLaws.{holds_within}
use Rattle.prack_list.specs.Steps.{pending_in}
use Rattle.prack_entries.specs.Entries.{key_of, encode_tracked, clean_for}
use Rattle.prack_entries.specs.Places.{Sought}
use Rattle.prack_entries.proofs.SlotLaws.{sought, cut}
use Rattle.prack_list.specs.declared.pushing.Provisional.{Provisional}
use Rattle.prack_validator.specs.Validator.{Action, register, no_value, action_cause}
use Rattle.prack_validator.proofs.OperationLaws.{pending_bounds, long_cause_lem, rest_cause, short, method_cause_lem, by_arguments, by_store, by_fitting, register_decides, clean_id}
use Rattle.prack_validator.proofs.AnswerLaws.{written_kept, written_set}
use Rattle.prack_validator.proofs.register.Goals as goal
use Rattle.prack_validator.proofs.register.Goals.{After-push-m, Else-not-is_method, In_ok-slot}

abbrev act : List ℕ → Provisional → Action
act id r = register id r.rseq r.cseq r.method r.code r.time

known : (c : In_ok-slot) → Bytes c.args.bytes.now
known c = bytes_all c.args.bytes.now (λ n. search rules)

clear : (c : Else-not-is_method) → action_cause (limits_in c.args.settings) (act c.args.id.now c.args.response) ≡ None
clear c =
    rest_cause (limits_in c.args.settings) (act c.args.id.now c.args.response) (length_passed (limits_in c.args.settings) c.args.id.now (sym c.check_length.ensures ∙ c.in_ok-check_length.was))
    ∙ method_cause_lem c.args.response.method true (sym c.is_method.ensures ∙ c.if-not-is_method.false)

-- the bytes are a store's
abbrev S : (c : In_ok-slot) → Sought (limits_in c.args.settings) c.args.id.now c.args.bytes.now c.args.used c.in_ok-slot.slot
S c = sought (limits_in c.args.settings) c.args.id.now c.args.bytes.now c.args.used c.in_ok-slot.slot (sym c.find.ensures ∙ c.in_ok-slot.was)

-- what is held with the response
abbrev held : (c : In_ok-slot) → Tracked
held c = registered (limits_in c.args.settings) (pending_in c.args.response) (clean_for (limits_in c.args.settings) c.args.response.time c.args.id.now (S c).list)

same : (c : In_ok-slot) → (held c).id ≡ c.args.id.now
same c = clean_id (known c) (S c) c.args.response.time

pushed : (c : After-push-m) (s : Sought (limits_in c.args.settings) c.args.id.now c.args.bytes.now c.args.used c.in_ok-slot.slot)
    → Holds (limits_in c.args.settings) c.push-m.new.body c.push-m.result (registered (limits_in c.args.settings) (pending_in c.args.response) (clean_for (limits_in c.args.settings) c.args.response.time c.args.id.now s.list))
pushed c s = c.push-m.ensures (clean_for (limits_in c.args.settings) c.args.response.time c.args.id.now s.list) (c.clean_copy-n.ensures.by_index c.args.id.now (cut s) (short c.args.settings c.args.id.now (length_passed (limits_in c.args.settings) c.args.id.now (sym c.check_length.ensures ∙ c.in_ok-check_length.was))))

pub returns-in_err-check_length : goal.returns-in_err-check_length
returns-in_err-check_length c =
    let q = length_stopped (limits_in c.args.settings) c.args.id.now (sym c.check_length.ensures ∙ c.in_err-check_length.was) in
    let e = err_is c.from_residual.result _ c.from_residual.ensures.1 ∙ ap Err q.1 in
    let a = act c.args.id.now c.args.response in
    let old : _ × (_ × _) = written_kept c.args.bytes.now c.args.used (by_arguments (limits_in c.args.settings) c.args.bytes.now c.args.used a (long_cause_lem (limits_in c.args.settings) a q.0)) in
    record { value = e ∙ old.0; bytes_after = old.1.0; used_value = ap (λ (r : Result ℕ Refusal). used_written r c.args.used) e ∙ old.1.1 }

pub returns-then-not-is_method : goal.returns-then-not-is_method
returns-then-not-is_method c =
    let a = act c.args.id.now c.args.response in
    let old : _ × (_ × _) = written_kept c.args.bytes.now c.args.used (by_arguments (limits_in c.args.settings) c.args.bytes.now c.args.used a
    (rest_cause (limits_in c.args.settings) a (length_passed (limits_in c.args.settings) c.args.id.now (sym c.check_length.ensures ∙ c.in_ok-check_length.was)) ∙ method_cause_lem c.args.response.method false (sym c.is_method.ensures ∙ c.if-not-is_method.true))) in
    record { value = old.0; bytes_after = old.1.0; used_value = old.1.1 }

pub returns-in_err-slot : goal.returns-in_err-slot
returns-in_err-slot c =
    let a = act c.args.id.now c.args.response in
    let e = err_is c.from_residual-in_err-slot.result _ c.from_residual-in_err-slot.ensures.1 in
    let old : _ × (_ × _) = written_kept c.args.bytes.now c.args.used (by_store (limits_in c.args.settings) c.args.bytes.now c.args.used a (clear (goal.at.returns-in_err-slot c).Else-not-is_method) c.args.id.now (sym c.find.ensures ∙ c.in_err-slot.was)) in
    record { value = e ∙ old.0; bytes_after = old.1.0; used_value = ap (λ (r : Result ℕ Refusal). used_written r c.args.used) e ∙ old.1.1 }

pub clean_copy-n-requires : goal.clean_copy-n-requires
clean_copy-n-requires c = record {
  pending = (pending_bounds c.args.settings c.requires.permitted).1;
  room = (omega arith, (c.args.id.now, cut (S (goal.at.clean_copy-n-requires c).In_ok-slot)));
}

pub set-requires : goal.set-requires
set-requires c = (
  short c.args.settings c.args.id.now (length_passed (limits_in c.args.settings) c.args.id.now (sym c.check_length.ensures ∙ c.in_ok-check_length.was)),
  (omega (arith, length-take c.push-m.result c.push-m.new.body, c.push-m.auto.body, c.clean_copy-n.auto.body), (limits_in c.args.settings, S (goal.at.set-requires c).In_ok-slot)),
)

pub slice_bounds-body-end : goal.slice_bounds-body-end
slice_bounds-body-end c = holds_within (pushed (goal.at.slice_bounds-body-end c).After-push-m (S (goal.at.slice_bounds-body-end c).In_ok-slot))

pub slice_bounds-set-end : goal.slice_bounds-set-end
slice_bounds-set-end c = sym (length-take-le c.push-m.result c.push-m.new.body (holds_within (pushed (goal.at.slice_bounds-set-end c).After-push-m (S (goal.at.slice_bounds-set-end c).In_ok-slot))))

pub returns : goal.returns
returns c =
    let s = S (goal.at.returns c).In_ok-slot in
    let t = held (goal.at.returns c).In_ok-slot in
    let i = same (goal.at.returns c).In_ok-slot in
    let b = (pushed (goal.at.returns c).After-push-m s).are in
    let r = c.args.response in
    let old : _ × (_ × _) = written_set c.args.bytes.now c.args.used no_value (fitted (length c.args.bytes.now) (encode_tracked (limits_in c.args.settings) (set_entry key_of t s.list)))
    (by_fitting (limits_in c.args.settings) c.args.bytes.now c.args.used (act c.args.id.now r) (clear (goal.at.returns c).Else-not-is_method) s (set_entry key_of t s.list) (Ok no_value) (register_decides (limits_in c.args.settings) c.args.id.now s.list r.rseq r.cseq r.method r.code r.time))
    (c.set.ensures.value (limits_in c.args.settings) s t i b) (c.set.ensures.bytes_after (limits_in c.args.settings) s t i b) in
    record { value = old.0; bytes_after = old.1.0; used_value = old.1.1 }
