-- `rseq_manager::current_rseq` meets its contract. Assumes nothing.
use Rattle.std.proofs.Common.{◌≡◌, Err, Ok, sym, ◌∙◌, rules}
use Rattle.std.specs.Prelude.{MatchResult}
use Rattle.std.proofs.result.Match.{err_is}
use Rattle.limits.specs.declared.Refusal.TheVariants.{NotFound}
use Rattle.codec.proofs.CodecLaws.{bytes_all}
use Rattle.dialog_id.specs.IdTexts.{ident_of}
use Rattle.rseq_manager.proofs.AnswerLaws.{current_refused, current_broken, current_held_there, current_lacking}
use Rattle.rseq_manager.proofs.current_rseq.Goals as goal

pub returns-in_err-check_lengths : goal.returns-in_err-check_lengths
returns-in_err-check_lengths c =
    let old : _ × (_ × _) = current_refused (ident_of c.args.id) c.args.bytes.now c.args.used (bytes_all c.args.bytes.now (λ i. (c.type_inv.bytes i).fits)) (sym c.check_lengths.ensures ∙ c.in_err-check_lengths.was) in
    record { value = err_is c.from_residual.result _ c.from_residual.ensures.1 ∙ old.0; bytes_value = old.1.0; used_value = old.1.1 }

pub returns-in_err-find : goal.returns-in_err-find
returns-in_err-find c =
    let old : _ × (_ × _) = current_broken (ident_of c.args.id) c.args.bytes.now c.args.used (bytes_all c.args.bytes.now (λ i. (c.type_inv.bytes i).fits)) (sym c.check_lengths.ensures ∙ c.in_ok-check_lengths.was) (sym c.find.ensures ∙ c.in_err-find.was) in
    record { value = err_is c.from_residual-in_err-find.result _ c.from_residual-in_err-find.ensures.1 ∙ old.0; bytes_value = old.1.0; used_value = old.1.1 }

pub returns-in_err-entry : goal.returns-in_err-entry
returns-in_err-entry c =
    let s = c.args.bytes.now in
    let m : MatchResult c.in_ok-find.field-0 (λ x. c.map_err.result ≡ Ok x) (λ _. c.map_err.result ≡ Err NotFound) = search rules in
    let old : _ × (_ × _) = current_lacking (ident_of c.args.id) s c.args.used (bytes_all s (λ i. (c.type_inv.bytes i).fits)) (sym c.check_lengths.ensures ∙ c.in_ok-check_lengths.was) c.in_ok-find.field-0 (sym c.find.ensures ∙ c.in_ok-find.was) m c.in_err-entry.was in
    record { value = err_is c.from_residual-in_err-entry.result _ c.from_residual-in_err-entry.ensures.1 ∙ old.0; bytes_value = old.1.0; used_value = old.1.1 }

pub returns : goal.returns
returns c =
    let s = c.args.bytes.now in
    let m : MatchResult c.in_ok-find.field-0 (λ x. c.map_err.result ≡ Ok x) (λ _. c.map_err.result ≡ Err NotFound) = search rules in
    let old : _ × (_ × _) = current_held_there (ident_of c.args.id) s c.args.used (bytes_all s (λ i. (c.type_inv.bytes i).fits)) (sym c.check_lengths.ensures ∙ c.in_ok-check_lengths.was) c.in_ok-find.field-0 (sym c.find.ensures ∙ c.in_ok-find.was) m c.in_ok-entry.was in
    record { value = old.0; bytes_value = old.1.0; used_value = old.1.1 }
