-- `remove_dialog` meets its contract: the bytes of what is held are cut out, or nothing is changed. Assumes nothing.
use Rattle.std.proofs.Common.{◌≡◌, ◌-◌, ◌≤◌, ℕ, List, Err, None, Ok, Result, sym, ap, ◌∙◌, arith, rules}
use Rattle.std.proofs.result.Match.{err_is}
use Rattle.limits.specs.Settings.{limits_in}
use Rattle.text.proofs.Lengths.{length_passed, length_stopped}
use Rattle.limits.specs.declared.Refusal.{Refusal}
use Rattle.codec.proofs.CodecLaws.{Bytes, bytes_all}
use Rattle.ordered_store.specs.Answers.{used_written}
use Rattle.ordered_store.specs.Entries.{without_entry}
use Rattle.prack_entries.specs.Entries.{key_of_text, key_of}
use Rattle.prack_entries.specs.Places.{Sought}
use Rattle.prack_entries.proofs.SlotLaws.{sought, Found, found, lacking}
use Rattle.prack_validator.specs.Validator.{remove_dialog, no_value, action_cause}
use Rattle.prack_validator.proofs.OperationLaws.{leaving, long_cause_lem, rest_cause, by_arguments, by_store, by_changing, by_keeping, dialog_decides, cut_length_lem}
use Rattle.prack_validator.proofs.AnswerLaws.{written_kept, written_taken}
use Rattle.prack_removal.proofs.remove_dialog.Goals as goal
use Rattle.prack_removal.proofs.remove_dialog.Goals.{After-find, In-Ok}

known : (c : After-find) → Bytes c.args.bytes.now
known c = bytes_all c.args.bytes.now (λ n. search rules)

clear : (c : After-find) → action_cause (limits_in c.args.settings) (remove_dialog c.args.id.now) ≡ None
clear c = rest_cause (limits_in c.args.settings) (remove_dialog c.args.id.now) (length_passed (limits_in c.args.settings) c.args.id.now (sym c.check_length.ensures ∙ c.in_ok-check_length.was))

S : (c : In-Ok) → Sought (limits_in c.args.settings) c.args.id.now c.args.bytes.now c.args.used (Ok c.in-Ok.t)
S c = sought (limits_in c.args.settings) c.args.id.now c.args.bytes.now c.args.used (Ok c.in-Ok.t) (sym c.find.ensures ∙ c.in_ok-t.was ∙ ap Ok c.in-Ok.is)

F : (c : In-Ok) → Found (limits_in c.args.settings) c.args.id.now c.args.bytes.now c.args.used c.in-Ok.t (S c).list
F c = found c.args.id.now c.args.bytes.now c.args.used c.in-Ok.t (bytes_all c.args.bytes.now (λ n. search rules)) (S c)

pub returns-in_err-check_length : goal.returns-in_err-check_length
returns-in_err-check_length c =
    let q = length_stopped (limits_in c.args.settings) c.args.id.now (sym c.check_length.ensures ∙ c.in_err-check_length.was) in
    let e = err_is c.from_residual.result _ c.from_residual.ensures.1 ∙ ap Err q.1 in
    let a = remove_dialog c.args.id.now in
    let old : _ × (_ × _) = written_kept c.args.bytes.now c.args.used (by_arguments (limits_in c.args.settings) c.args.bytes.now c.args.used a (long_cause_lem (limits_in c.args.settings) a q.0)) in
    record { value = e ∙ old.0; bytes_after = old.1.0; used_value = ap (λ (r : Result ℕ Refusal). used_written r c.args.used) e ∙ old.1.1 }

pub returns-in_err-t : goal.returns-in_err-t
returns-in_err-t c =
    let e = err_is c.from_residual-in_err-t.result _ c.from_residual-in_err-t.ensures.1 in
    let old : _ × (_ × _) = written_kept c.args.bytes.now c.args.used (by_store (limits_in c.args.settings) c.args.bytes.now c.args.used (remove_dialog c.args.id.now) (clear (goal.at.returns-in_err-t c).After-find) c.args.id.now (sym c.find.ensures ∙ c.in_err-t.was)) in
    record { value = e ∙ old.0; bytes_after = old.1.0; used_value = ap (λ (r : Result ℕ Refusal). used_written r c.args.used) e ∙ old.1.1 }

pub replace-requires : goal.replace-requires
replace-requires c =
    let i = (goal.at.replace-requires c).In-Ok in
    let f = F i in
    let a : c.in-Ok.t.id.start - 2 ≤ c.in-Ok.t.end = omega (arith, f.text_inside) in
    (omega (arith, a, f.end_within), (S i).within, omega (arith, a, f.end_within, (S i).within))

pub returns-in-Ok : goal.returns-in-Ok
returns-in-Ok c =
    let i = (goal.at.returns-in-Ok c).In-Ok in
    let w = c.replace.ensures in
    let s = S i in
    let f = F i in
    let l = cut_length_lem s.within f in
    let old : _ × (_ × _) = written_taken c.args.bytes.now c.args.used (by_changing (limits_in c.args.settings) c.args.bytes.now c.args.used (remove_dialog c.args.id.now) (clear (goal.at.returns-in-Ok c).After-find) s
    (without_entry key_of (key_of_text c.args.id.now) s.list) (Ok no_value) (dialog_decides (limits_in c.args.settings) c.args.id.now s.list) f.without (l ∙ sym w.value) (omega (arith, w.value, s.within, f.end_within))
    ∙ ap (λ (x : List ℕ). leaving x c.replace.result (Ok no_value)) (sym w.bytes_after)) in
    record { value = old.0; bytes_after = old.1.0; used_value = old.1.1 }

pub returns-in-Err : goal.returns-in-Err
returns-in-Err c =
    let w = sought (limits_in c.args.settings) c.args.id.now c.args.bytes.now c.args.used (Err c.in-Err.field-0) (sym c.find.ensures ∙ c.in_ok-t.was ∙ ap Ok c.in-Err.is) in
    let b = known (goal.at.returns-in-Err c).After-find in
    let old : _ × (_ × _) = written_taken c.args.bytes.now c.args.used (by_keeping (limits_in c.args.settings) c.args.bytes.now c.args.used (remove_dialog c.args.id.now) (clear (goal.at.returns-in-Err c).After-find) w
    (without_entry key_of (key_of_text c.args.id.now) w.list) (Ok no_value) (dialog_decides (limits_in c.args.settings) c.args.id.now w.list) b (lacking c.args.id.now c.args.bytes.now c.args.used c.in-Err.field-0 b w).1.0) in
    record { value = old.0; bytes_after = old.1.0; used_value = old.1.1 }
