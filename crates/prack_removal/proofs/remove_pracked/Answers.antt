-- `remove_pracked` meets its contract: the acknowledged entries of the RSeq go from what is held, or nothing is changed. Assumes nothing.
use Rattle.std.proofs.Common.{◌≡◌, ℕ, List, Err, None, Ok, Result, Some, refl, sym, ap, ◌∙◌, arith, rules, length}
use lib.Seq.{length-take-le}
use Rattle.std.proofs.lemmas.List.{length-take}
use Rattle.std.proofs.result.Match.{err_is}
use Rattle.limits.specs.Settings.{limits_in}
use Rattle.text.proofs.Lengths.{length_passed, length_stopped}
use Rattle.limits.specs.declared.Refusal.{Refusal}
use Rattle.output.specs.Output.{fitted}
use Rattle.codec.proofs.CodecLaws.{Bytes, bytes_all}
use Rattle.ordered_store.specs.Answers.{used_written}
use Rattle.ordered_store.specs.Entries.{set_entry}
use Rattle.prack_body.specs.Lists.{Tracked, with_list, without_pracked}
use Rattle.prack_body.specs.Body.{Holds}
use Rattle.prack_body.proofs.BodyLaws.{holds_size, holds_within}
use Rattle.prack_entries.specs.Entries.{key_of, encode_tracked}
use Rattle.prack_entries.specs.Places.{Sought}
use Rattle.prack_entries.proofs.SlotLaws.{sought, Found, found, lacking}
use Rattle.prack_validator.specs.Validator.{remove_pracked, no_value, action_cause}
use Rattle.prack_validator.proofs.OperationLaws.{pending_bounds, long_cause_lem, rest_cause, short, by_arguments, by_store, by_fitting, by_keeping, pruning_decides}
use Rattle.prack_validator.proofs.AnswerLaws.{written_kept, written_taken, written_set}
use Rattle.prack_removal.proofs.remove_pracked.Goals as goal
use Rattle.prack_removal.proofs.remove_pracked.Goals.{After-find, After-load-n, After-prune-m, In-Ok}

known : (c : After-find) → Bytes c.args.bytes.now
known c = bytes_all c.args.bytes.now (λ n. search rules)

clear : (c : After-find) → action_cause (limits_in c.args.settings) (remove_pracked c.args.id.now c.args.rseq) ≡ None
clear c = rest_cause (limits_in c.args.settings) (remove_pracked c.args.id.now c.args.rseq) (length_passed (limits_in c.args.settings) c.args.id.now (sym c.check_length.ensures ∙ c.in_ok-check_length.was))

S : (c : In-Ok) → Sought (limits_in c.args.settings) c.args.id.now c.args.bytes.now c.args.used (Ok c.in-Ok.t)
S c = sought (limits_in c.args.settings) c.args.id.now c.args.bytes.now c.args.used (Ok c.in-Ok.t) (sym c.find.ensures ∙ c.in_ok-slot.was ∙ ap Ok c.in-Ok.is)

F : (c : In-Ok) → Found (limits_in c.args.settings) c.args.id.now c.args.bytes.now c.args.used c.in-Ok.t (S c).list
F c = found c.args.id.now c.args.bytes.now c.args.used c.in-Ok.t (bytes_all c.args.bytes.now (λ n. search rules)) (S c)

loaded : (c : After-load-n) {ts : List Tracked} (f : Found (limits_in c.args.settings) c.args.id.now c.args.bytes.now c.args.used c.in-Ok.t ts) → Holds (limits_in c.args.settings) c.load-n.new.body c.load-n.result f.t
loaded c f = c.load-n.ensures.holds (limits_in c.args.settings) f.t f.stands

pruned : (c : After-prune-m) {ts : List Tracked} (f : Found (limits_in c.args.settings) c.args.id.now c.args.bytes.now c.args.used c.in-Ok.t ts) → Holds (limits_in c.args.settings) c.prune-m.new.body c.prune-m.result (with_list (without_pracked c.args.rseq f.t.list) f.t)
pruned c f = c.prune-m.ensures (limits_in c.args.settings) f.t (c.load-n.ensures.holds (limits_in c.args.settings) f.t f.stands)

pub returns-in_err-check_length : goal.returns-in_err-check_length
returns-in_err-check_length c =
    let q = length_stopped (limits_in c.args.settings) c.args.id.now (sym c.check_length.ensures ∙ c.in_err-check_length.was) in
    let e = err_is c.from_residual.result _ c.from_residual.ensures.1 ∙ ap Err q.1 in
    let a = remove_pracked c.args.id.now c.args.rseq in
    let old : _ × (_ × _) = written_kept c.args.bytes.now c.args.used (by_arguments (limits_in c.args.settings) c.args.bytes.now c.args.used a (long_cause_lem (limits_in c.args.settings) a q.0)) in
    record { value = e ∙ old.0; bytes_after = old.1.0; used_value = ap (λ (r : Result ℕ Refusal). used_written r c.args.used) e ∙ old.1.1 }

pub returns-in_err-slot : goal.returns-in_err-slot
returns-in_err-slot c =
    let a = remove_pracked c.args.id.now c.args.rseq in
    let e = err_is c.from_residual-in_err-slot.result _ c.from_residual-in_err-slot.ensures.1 in
    let old : _ × (_ × _) = written_kept c.args.bytes.now c.args.used (by_store (limits_in c.args.settings) c.args.bytes.now c.args.used a (clear (goal.at.returns-in_err-slot c).After-find) c.args.id.now (sym c.find.ensures ∙ c.in_err-slot.was)) in
    record { value = e ∙ old.0; bytes_after = old.1.0; used_value = ap (λ (r : Result ℕ Refusal). used_written r c.args.used) e ∙ old.1.1 }

pub load-n-requires : goal.load-n-requires
load-n-requires c =
    let i = (goal.at.load-n-requires c).In-Ok in
    ((F i).text_inside, omega (arith, (F i).end_within, length-take-le c.args.used c.args.bytes.now (S i).within), omega (arith, (F i).body_short (pending_bounds c.args.settings c.requires.permitted).1))

pub prune-m-requires : goal.prune-m-requires
prune-m-requires c =
    let n = holds_size (loaded (goal.at.prune-m-requires c).After-load-n (F (goal.at.prune-m-requires c).In-Ok)) (pending_bounds c.args.settings c.requires.permitted).1 in
    (n.0, (n.1, omega (arith, c.load-n.auto.body)))

pub set-requires : goal.set-requires
set-requires c = (
  short c.args.settings c.args.id.now (length_passed (limits_in c.args.settings) c.args.id.now (sym c.check_length.ensures ∙ c.in_ok-check_length.was)),
  (omega (arith, length-take c.prune-m.result c.prune-m.new.body, c.prune-m.auto.body, c.load-n.auto.body), (limits_in c.args.settings, S (goal.at.set-requires c).In-Ok)),
)

pub slice_bounds-body-end : goal.slice_bounds-body-end
slice_bounds-body-end c = holds_within (pruned (goal.at.slice_bounds-body-end c).After-prune-m (F (goal.at.slice_bounds-body-end c).In-Ok))

pub slice_bounds-set-end : goal.slice_bounds-set-end
slice_bounds-set-end c = sym (length-take-le c.prune-m.result c.prune-m.new.body (holds_within (pruned (goal.at.slice_bounds-set-end c).After-prune-m (F (goal.at.slice_bounds-set-end c).In-Ok))))

pub returns-in-Ok : goal.returns-in-Ok
returns-in-Ok c =
    let a = remove_pracked c.args.id.now c.args.rseq in
    let i = (goal.at.returns-in-Ok c).In-Ok in
    let s = S i in
    let f = F i in
    let t = with_list (without_pracked c.args.rseq f.t.list) f.t in
    let p = (pruned (goal.at.returns-in-Ok c).After-prune-m f).are in
    let old : _ × (_ × _) = written_set c.args.bytes.now c.args.used no_value (fitted (length c.args.bytes.now) (encode_tracked (limits_in c.args.settings) (set_entry key_of t s.list)))
    (by_fitting (limits_in c.args.settings) c.args.bytes.now c.args.used a (clear (goal.at.returns-in-Ok c).After-find) s (set_entry key_of t s.list) (Ok no_value) (pruning_decides (limits_in c.args.settings) c.args.id.now s.list c.args.rseq (Some f.t) f.is))
    (c.set.ensures.value (limits_in c.args.settings) s t f.same p) (c.set.ensures.bytes_after (limits_in c.args.settings) s t f.same p) in
    record { value = old.0; bytes_after = old.1.0; used_value = old.1.1 }

pub returns-in-Err : goal.returns-in-Err
returns-in-Err c =
    let a = remove_pracked c.args.id.now c.args.rseq in
    let w = sought (limits_in c.args.settings) c.args.id.now c.args.bytes.now c.args.used (Err c.in-Err.field-0) (sym c.find.ensures ∙ c.in_ok-slot.was ∙ ap Ok c.in-Err.is) in
    let b = known (goal.at.returns-in-Err c).After-find in
    let old : _ × (_ × _) = written_taken c.args.bytes.now c.args.used (by_keeping (limits_in c.args.settings) c.args.bytes.now c.args.used a (clear (goal.at.returns-in-Err c).After-find) w w.list (Ok no_value)
    (pruning_decides (limits_in c.args.settings) c.args.id.now w.list c.args.rseq None (lacking c.args.id.now c.args.bytes.now c.args.used c.in-Err.field-0 b w).0) b refl) in
    record { value = old.0; bytes_after = old.1.0; used_value = old.1.1 }
