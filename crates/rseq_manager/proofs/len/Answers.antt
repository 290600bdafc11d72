-- `rseq_manager::len` meets its contract. Assumes nothing.
use Rattle.std.proofs.Common.{◌≡◌, ◌≤◌, ◌<◌, Err, arith, length, take, ap, ◌∙◌}
use Rattle.std.proofs.lemmas.Grind.{common_steps}
use Rattle.std.proofs.result.Match.{err_is}
use Rattle.codec.proofs.CodecLaws.{bytes_all}
use Rattle.rseq_entries.specs.Entries.{key_of, entry_form}
use Rattle.ordered_store.specs.Entries.{decode_entries}
use Rattle.ordered_store.specs.Places.{count_of}
use Rattle.limits.specs.declared.Refusal.TheVariants.{BadStore}
use Rattle.rseq_manager.proofs.AnswerLaws.{refused_by, len_over, len_read}
use Rattle.rseq_manager.proofs.len.Goals as goal

pub returns-in_err-held : goal.returns-in_err-held
returns-in_err-held c =
    let e = err_is c.from_residual.result _ c.from_residual.ensures.1 in
    let h : length c.args.bytes.now < c.args.used = grind (arith, common_steps) in
    let x = refused_by c.get.result BadStore c.ok_or.ensures.value c.in_err-held.was in
    let old : _ × (_ × _) = len_over c.args.bytes.now c.args.used h in
    record { value = e ∙ ap Err x ∙ old.0; bytes_value = old.1.0; used_value = old.1.1 }

pub returns : goal.returns
returns c =
    let h : c.args.used ≤ length c.args.bytes.now = grind (arith, common_steps) in
    let k : c.in_ok-held.held.now ≡ take c.args.used c.args.bytes.now = grind (arith, common_steps) in
    let old : _ × (_ × _) = len_read c.args.bytes.now c.args.used h (bytes_all c.args.bytes.now (λ i. (c.type_inv.bytes i).fits)) c.count_entries.result (c.count_entries.ensures ∙ ap (λ s. count_of (decode_entries entry_form key_of s)) k) c.ok_or-2.ensures.value in
    record { value = old.0; bytes_value = old.1.0; used_value = old.1.1 }
