-- `rseq_manager::remove` meets its contract: the entry cut out, or nothing changed. Assumes nothing.
use Rattle.std.proofs.Common.{ℕ, ◌≡◌, rules, Ok, Result, sym, ap, ◌∙◌, arith}
use Rattle.std.proofs.result.Match.{err_is}
use Rattle.limits.specs.declared.Refusal.{Refusal}
use Rattle.codec.proofs.CodecLaws.{Bytes, bytes_all}
use Rattle.ordered_store.specs.Answers.{used_written}
use Rattle.dialog_id.specs.IdTexts.{ident_of}
use Rattle.rseq_entries.specs.Entries.{key_of_ident}
use Rattle.rseq_entries.specs.Places.{slot_for}
use Rattle.rseq_entries.proofs.SlotLaws.{holds}
use Rattle.rseq_manager.proofs.OperationLaws.{end_within, number_within}
use Rattle.rseq_manager.proofs.AnswerLaws.{remove_refused, remove_broken, remove_cut, remove_nothing}
use Rattle.rseq_manager.proofs.remove.Goals as goal
use Rattle.rseq_manager.proofs.remove.Goals.{After-check_lengths, In-Ok}

known : (c : After-check_lengths) → Bytes c.args.bytes.now
known c = bytes_all c.args.bytes.now (λ n. search rules)

-- a number is held
slot : (c : In-Ok) → slot_for (key_of_ident (ident_of c.args.id)) c.args.bytes.now c.args.used ≡ Ok (Ok c.in-Ok.e)
slot c = sym c.find.ensures ∙ c.in_ok-e.was ∙ ap Ok c.in-Ok.is

pub returns-in_err-check_lengths : goal.returns-in_err-check_lengths
returns-in_err-check_lengths c =
    let old : _ × (_ × _) = remove_refused (ident_of c.args.id) c.args.bytes.now c.args.used (known (goal.at.returns-in_err-check_lengths c).After-check_lengths) (sym c.check_lengths.ensures ∙ c.in_err-check_lengths.was) in
    let e = err_is c.from_residual.result _ c.from_residual.ensures.1 in
    record { value = e ∙ old.0; bytes_after = old.1.0; used_value = ap (λ (r : Result ℕ Refusal). used_written r c.args.used) e ∙ old.1.1 }

pub returns-in_err-e : goal.returns-in_err-e
returns-in_err-e c =
    let old : _ × (_ × _) = remove_broken (ident_of c.args.id) c.args.bytes.now c.args.used (known (goal.at.returns-in_err-e c).After-check_lengths) (sym c.check_lengths.ensures ∙ c.in_ok-check_lengths.was) (sym c.find.ensures ∙ c.in_err-e.was) in
    let e = err_is c.from_residual-in_err-e.result _ c.from_residual-in_err-e.ensures.1 in
    record { value = e ∙ old.0; bytes_after = old.1.0; used_value = ap (λ (r : Result ℕ Refusal). used_written r c.args.used) e ∙ old.1.1 }

pub replace-requires : goal.replace-requires
replace-requires c =
    let b = known (goal.at.replace-requires c).After-check_lengths in
    let w = holds (key_of_ident (ident_of c.args.id)) c.args.bytes.now c.args.used (slot (goal.at.replace-requires c).In-Ok) in
    let n = number_within c.args.bytes.now c.args.used b (ident_of c.args.id) w in
    let e = end_within c.args.bytes.now c.args.used b (ident_of c.args.id) w in
    (omega (arith, n, e), w.among.within, omega (arith, n, e, w.among.within))

pub returns-in-Ok : goal.returns-in-Ok
returns-in-Ok c =
    let old : _ × (_ × _) = remove_cut (ident_of c.args.id) c.args.bytes.now c.args.used (known (goal.at.returns-in-Ok c).After-check_lengths) (sym c.check_lengths.ensures ∙ c.in_ok-check_lengths.was) (slot (goal.at.returns-in-Ok c).In-Ok) c.replace.ensures.value c.replace.ensures.bytes_after in
    record { value = old.0; bytes_after = old.1.0; used_value = old.1.1 }

pub returns-in-Err : goal.returns-in-Err
returns-in-Err c =
    let old : _ × (_ × _) = remove_nothing (ident_of c.args.id) c.args.bytes.now c.args.used (known (goal.at.returns-in-Err c).After-check_lengths) (sym c.check_lengths.ensures ∙ c.in_ok-check_lengths.was) (sym c.find.ensures ∙ c.in_ok-e.was ∙ ap Ok c.in-Err.is) in
    record { value = old.0; bytes_after = old.1.0; used_value = old.1.1 }
