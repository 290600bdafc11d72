-- `calls::next_local_cseq` meets its contract: 1, 3, 15, then the step on the record in its place. Assumes nothing.
use mathlib.Core.Path.{ap, ◌∙◌}
use Rattle.std.proofs.result.Match.{err_is}
use Rattle.std.specs.Prelude.{ℕ, Result}
use Rattle.limits.specs.declared.Refusal.{Refusal}
use Rattle.codec.proofs.CodecLaws.{bytes_all}
use Rattle.dialog_id.specs.Ident.{Ident, ident}
use Rattle.store_entries.specs.Entries.{used_raised}
use Rattle.store_updates.proofs.CallLaws.{raises, call_refused, raise_not, raise_done}
use Rattle.store_updates.proofs.calls.next_local_cseq.Goals as goal
use Rattle.store_updates.proofs.calls.next_local_cseq.Goals.{Start}

abbrev name : Start → Ident
name c = ident c.args.id.call_id.now c.args.id.local_tag.now c.args.id.remote_tag.now

pub returns : goal.returns
returns c =
    let t = raise_done (name (goal.at.returns c).Start) c.args.bytes.now c.args.used c.find_record.ensures.value c.in_ok-p.was (bytes_all c.args.bytes.now (λ i. (c.slice_known-1.given i).fits)) (c.local_at.ensures.value, c.local_at.ensures.bytes_after) in
    record { value = t.0; bytes_after = t.1.0; used_value = t.1.1 }

pub returns-in_err-p : goal.returns-in_err-p
returns-in_err-p c =
    let e = err_is c.from_residual.result _ c.from_residual.ensures.1 in
    let t = raise_not (name (goal.at.returns-in_err-p c).Start) c.args.bytes.now c.args.used (call_refused (raises (name (goal.at.returns-in_err-p c).Start)) c.args.bytes.now c.args.used c.find_record.ensures.value c.in_err-p.was) in
    record { value = e ∙ t.0; bytes_after = t.1.0; used_value = ap (λ (r : Result (ℕ × ℕ) Refusal). used_raised r c.args.used) e ∙ t.1.1 }
