-- `calls::response` meets its contract: 1, 2, 3, 15, then the step on the record in its place. Assumes nothing.
use mathlib.Core.Path.{◌≡◌, refl, sym, ap, ◌∙◌}
use Rattle.std.proofs.result.Match.{err_is}
use Rattle.std.specs.Prelude.{ℕ, None, Result}
use Rattle.limits.specs.declared.Refusal.{Refusal}
use Rattle.limits.specs.Limits.{rust_limits}
use Rattle.limits.proofs.Laws.{passed, stopped}
use Rattle.msg.specs.Block.{block_cause}
use Rattle.codec.proofs.CodecLaws.{bytes_all}
use Rattle.dialog_updates.proofs.BlockLaws.{short_block}
use Rattle.dialog_id.specs.Ident.{Ident, ident, ident_cause}
use Rattle.book.specs.Book.{revised}
use Rattle.store_entries.specs.Entries.{used_after}
use Rattle.store_updates.proofs.CallLaws.{responds, found_long, found_other, found_then, call_refused, call_done}
use Rattle.store_updates.proofs.calls.response.Goals as goal
use Rattle.store_updates.proofs.calls.response.Goals.{In_ok-check_lengths, In_ok-check_block, Start}

abbrev name : Start → Ident
name c = ident c.args.id.call_id.now c.args.id.local_tag.now c.args.id.remote_tag.now

-- no text is too long
clear : (c : In_ok-check_lengths) → let i = c.args.id in ident_cause rust_limits (ident i.call_id.now i.local_tag.now i.remote_tag.now) ≡ None
clear c = let i = c.args.id in passed (ident_cause rust_limits (ident i.call_id.now i.local_tag.now i.remote_tag.now)) (sym c.check_lengths.ensures ∙ c.in_ok-check_lengths.was)

-- the block passed its check
checked : (c : In_ok-check_block) → block_cause rust_limits c.args.response.block.now ≡ None
checked c = passed (block_cause rust_limits c.args.response.block.now) (sym c.check_block.ensures ∙ c.in_ok-check_block.was)

pub response_at-requires-clause-block_bound : goal.response_at-requires-clause-block_bound
response_at-requires-clause-block_bound c = short_block rust_limits c.args.response.block.now (sym c.check_block.ensures ∙ c.in_ok-check_block.was)

pub returns : goal.returns
unfolding revised
returns c =
    let n = name (goal.at.returns c).Start in
    let o = block_cause rust_limits c.args.response.block.now in
    let t = call_done (responds n c.args.response.status c.args.response.block.now) c.args.bytes.now c.args.used (found_then n o c.args.bytes.now c.args.used (clear (goal.at.returns c).In_ok-check_lengths) (checked (goal.at.returns c).In_ok-check_block) c.locate.ensures.value) c.in_ok-p.was (bytes_all c.args.bytes.now (λ i. (c.slice_known-1.given i).fits)) (c.response_at.ensures.value, c.response_at.ensures.bytes_after) in
    record { value = t.0; bytes_after = t.1.0; used_value = t.1.1 }

pub returns-in_err-check_lengths : goal.returns-in_err-check_lengths
returns-in_err-check_lengths c =
    let n = name (goal.at.returns-in_err-check_lengths c).Start in
    let o = block_cause rust_limits c.args.response.block.now in
    let e = err_is c.from_residual.result _ c.from_residual.ensures.1 in
    let t = call_refused (responds n c.args.response.status c.args.response.block.now) c.args.bytes.now c.args.used (found_long n o c.args.bytes.now c.args.used (stopped (ident_cause rust_limits n) (sym c.check_lengths.ensures ∙ c.in_err-check_lengths.was))) refl in
    record { value = e ∙ t.0; bytes_after = t.1.0; used_value = ap (λ (r : Result ℕ Refusal). used_after r c.args.used) e ∙ t.1.1 }

pub returns-in_err-check_block : goal.returns-in_err-check_block
returns-in_err-check_block c =
    let n = name (goal.at.returns-in_err-check_block c).Start in
    let o = block_cause rust_limits c.args.response.block.now in
    let e = err_is c.from_residual-in_err-check_block.result _ c.from_residual-in_err-check_block.ensures.1 in
    let t = call_refused (responds n c.args.response.status c.args.response.block.now) c.args.bytes.now c.args.used (found_other n o c.args.bytes.now c.args.used (clear (goal.at.returns-in_err-check_block c).In_ok-check_lengths) (stopped o (sym c.check_block.ensures ∙ c.in_err-check_block.was))) refl in
    record { value = e ∙ t.0; bytes_after = t.1.0; used_value = ap (λ (r : Result ℕ Refusal). used_after r c.args.used) e ∙ t.1.1 }

pub returns-in_err-p : goal.returns-in_err-p
returns-in_err-p c =
    let n = name (goal.at.returns-in_err-p c).Start in
    let o = block_cause rust_limits c.args.response.block.now in
    let e = err_is c.from_residual-in_err-p.result _ c.from_residual-in_err-p.ensures.1 in
    let t = call_refused (responds n c.args.response.status c.args.response.block.now) c.args.bytes.now c.args.used (found_then n o c.args.bytes.now c.args.used (clear (goal.at.returns-in_err-p c).In_ok-check_lengths) (checked (goal.at.returns-in_err-p c).In_ok-check_block) c.locate.ensures.value) c.in_err-p.was in
    record { value = e ∙ t.0; bytes_after = t.1.0; used_value = ap (λ (r : Result ℕ Refusal). used_after r c.args.used) e ∙ t.1.1 }
