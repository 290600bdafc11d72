-- `rseq_manager::next_rseq` meets its contract: a held number is raised in its place, a new one put in at its place. Assumes nothing.
use Rattle.std.proofs.Common.{ℕ, ◌≡◌, rules, Ok, Err, Result, sym, ap, ◌∙◌, arith}
use Rattle.std.proofs.result.Match.{err_is}
use Rattle.limits.specs.declared.Refusal.{Refusal}
use Rattle.codec.proofs.CodecLaws.{Bytes, bytes_all}
use Rattle.dialog_id.specs.IdTexts.{ident_of}
use Rattle.rseq_entries.specs.Entries.{key_of_ident}
use Rattle.rseq_entries.specs.Places.{slot_for}
use Rattle.rseq_entries.proofs.SlotLaws.{holds, lacks}
use Rattle.rseq_manager.specs.Answers.{used_after}
use Rattle.rseq_manager.proofs.OperationLaws.{end_within, number_within, place_within}
use Rattle.rseq_manager.proofs.AnswerLaws.{next_refused, next_broken, next_raised, next_new}
use Rattle.rseq_manager.proofs.next_rseq.Goals as goal
use Rattle.rseq_manager.proofs.next_rseq.Goals.{After-check_lengths, In-Err, In-Ok}

known : (c : After-check_lengths) → Bytes c.args.bytes.now
known c = bytes_all c.args.bytes.now (λ n. search rules)

-- a number is held
slot : (c : In-Ok) → slot_for (key_of_ident (ident_of c.args.id)) c.args.bytes.now c.args.used ≡ Ok (Ok c.in-Ok.e)
slot c = sym c.find.ensures ∙ c.in_ok-e.was ∙ ap Ok c.in-Ok.is

-- none is
gap : (c : In-Err) → slot_for (key_of_ident (ident_of c.args.id)) c.args.bytes.now c.args.used ≡ Ok (Err c.in-Err.at)
gap c = sym c.find.ensures ∙ c.in_ok-e.was ∙ ap Ok c.in-Err.is

pub returns-in_err-check_lengths : goal.returns-in_err-check_lengths
returns-in_err-check_lengths c =
    let old : _ × (_ × _) = next_refused (ident_of c.args.id) c.args.bytes.now c.args.used (known (goal.at.returns-in_err-check_lengths c).After-check_lengths) c.args.n (sym c.check_lengths.ensures ∙ c.in_err-check_lengths.was) in
    let e = err_is c.from_residual.result _ c.from_residual.ensures.1 in
    record { value = e ∙ old.0; bytes_after = old.1.0; used_value = ap (λ (r : Result (ℕ × ℕ) Refusal). used_after r c.args.used) e ∙ old.1.1 }

pub returns-in_err-e : goal.returns-in_err-e
returns-in_err-e c =
    let old : _ × (_ × _) = next_broken (ident_of c.args.id) c.args.bytes.now c.args.used (known (goal.at.returns-in_err-e c).After-check_lengths) c.args.n (sym c.check_lengths.ensures ∙ c.in_ok-check_lengths.was) (sym c.find.ensures ∙ c.in_err-e.was) in
    let e = err_is c.from_residual-in_err-e.result _ c.from_residual-in_err-e.ensures.1 in
    record { value = e ∙ old.0; bytes_after = old.1.0; used_value = ap (λ (r : Result (ℕ × ℕ) Refusal). used_after r c.args.used) e ∙ old.1.1 }

pub write_four-requires : goal.write_four-requires
write_four-requires c =
    let b = known (goal.at.write_four-requires c).After-check_lengths in
    let w = holds (key_of_ident (ident_of c.args.id)) c.args.bytes.now c.args.used (slot (goal.at.write_four-requires c).In-Ok) in
    omega (arith, number_within c.args.bytes.now c.args.used b (ident_of c.args.id) w, end_within c.args.bytes.now c.args.used b (ident_of c.args.id) w, w.among.within)

pub insert-requires-clause-at_le_used : goal.insert-requires-clause-at_le_used
insert-requires-clause-at_le_used c =
    let w = lacks (key_of_ident (ident_of c.args.id)) c.args.bytes.now c.args.used (gap (goal.at.insert-requires-clause-at_le_used c).In-Err) in
    (place_within c.args.bytes.now c.args.used (known (goal.at.insert-requires-clause-at_le_used c).After-check_lengths) (ident_of c.args.id) w, w.within)

pub returns-in-Ok : goal.returns-in-Ok
returns-in-Ok c =
    let old : _ × (_ × _) = next_raised (ident_of c.args.id) c.args.bytes.now c.args.used (known (goal.at.returns-in-Ok c).After-check_lengths) c.args.n (sym c.check_lengths.ensures ∙ c.in_ok-check_lengths.was) (slot (goal.at.returns-in-Ok c).In-Ok) c.raised-m.ensures c.write_four.ensures.out_after in
    record { value = old.0; bytes_after = old.1.0; used_value = old.1.1 }

pub returns-in-Err : goal.returns-in-Err
returns-in-Err c =
    let old : _ × (_ × _) = next_new (ident_of c.args.id) c.args.bytes.now c.args.used (known (goal.at.returns-in-Err c).After-check_lengths) c.args.n (sym c.check_lengths.ensures ∙ c.in_ok-check_lengths.was) (gap (goal.at.returns-in-Err c).In-Err) c.first_number.ensures (c.insert.ensures.value, c.insert.ensures.bytes_after) in
    record { value = old.0; bytes_after = old.1.0; used_value = old.1.1 }
