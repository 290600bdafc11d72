-- `store_requests::request` meets its contract: 1, 2, 3, 15, then the step on the record in its place. Assumes nothing.
use mathlib.Core.Path.{◌≡◌, sym, ap, subst, ◌∙◌}
use mathlib.Core.Bool.{false}
use Rattle.std.proofs.result.Match.{err_is}
use Rattle.std.specs.Prelude.{ℕ, Err, None, Ok, Result}
use Rattle.limits.specs.Settings.{limits_in}
use Rattle.text.proofs.Lengths.{length_passed, length_stopped}
use Rattle.limits.specs.Outcome.{check_of}
use Rattle.limits.specs.declared.Refusal.{Refusal}
use Rattle.text.specs.Answers.{too_long}
use Rattle.msg.specs.Block.{block_cause, lines_of}
use Rattle.msg.specs.Table.{table_of}
use Rattle.msg.specs.declared.table.HeaderTable.{HeaderTable}
use Rattle.msg.proofs.TableLaws.{headers_read, headers_bad}
use Rattle.codec.proofs.CodecLaws.{bytes_all}
use Rattle.dialog_updates.proofs.BlockLaws.{short_block}
use Rattle.store_entries.specs.Entries.{used_after, Ready}
use Rattle.store_requests.proofs.RequestLaws.{request_long, request_bad, request_turned, request_done}
use Rattle.store_requests.proofs.request.Goals as goal
use Rattle.store_requests.proofs.request.Goals.{In_ok-t}

-- the method is short, and the block was read
short : (c : In_ok-t) → too_long (limits_in c.args.settings) c.args.request.method.now ≡ false
short c = length_passed (limits_in c.args.settings) c.args.request.method.now (sym c.check_length.ensures ∙ c.in_ok-check_length.was)

read : (c : In_ok-t) → (block_cause (limits_in c.args.settings) c.args.request.block.now ≡ None) × (c.in_ok-t.t ≡ table_of (lines_of c.args.request.block.now))
unfolding block_cause
read c = headers_read (block_cause (limits_in c.args.settings) c.args.request.block.now) (table_of (lines_of c.args.request.block.now)) c.in_ok-t.t (sym c.read_headers.ensures ∙ c.in_ok-t.was)

good : (c : In_ok-t) → block_cause (limits_in c.args.settings) c.args.request.block.now ≡ None
good c = (read c).0

checked : (c : In_ok-t) → check_of (block_cause (limits_in c.args.settings) c.args.request.block.now) ≡ Ok tt
checked c = ap check_of (good c)

table : (c : In_ok-t) → c.in_ok-t.t ≡ table_of (lines_of c.args.request.block.now)
table c = (read c).1

pub returns-in_err-check_length : goal.returns-in_err-check_length
returns-in_err-check_length c =
    let a = c.args in
    let q = length_stopped (limits_in c.args.settings) c.args.request.method.now (sym c.check_length.ensures ∙ c.in_err-check_length.was) in
    let e = err_is c.from_residual.result _ c.from_residual.ensures.1 ∙ ap Err q.1 in
    let t = request_long a.settings a.request.method.now a.request.block.now a.bytes.now a.used q.0 in
    record { value = e ∙ t.0; bytes_after = t.1.0; used_value = ap (λ (r : Result ℕ Refusal). used_after r a.used) e ∙ t.1.1 }

pub request_by-requires-clause-stands : goal.request_by-requires-clause-stands
request_by-requires-clause-stands c = subst (Ready c.args.bytes.now) c.in_ok-p.was c.locate_named.ensures.ready

pub request_by-requires-clause-block_value : goal.request_by-requires-clause-block_value
request_by-requires-clause-block_value c =
    let a = c.args in
    (short_block (limits_in c.args.settings) a.request.block.now (checked (goal.at.request_by-requires-clause-block_value c).In_ok-t), ap (λ (x : HeaderTable). x.cseq) (table (goal.at.request_by-requires-clause-block_value c).In_ok-t), ap (λ (x : HeaderTable). x.contact) (table (goal.at.request_by-requires-clause-block_value c).In_ok-t))

pub returns : goal.returns
returns c =
    let a = c.args in
    let t = request_done a.settings a.request.method.now a.request.block.now a.bytes.now a.used (short (goal.at.returns c).In_ok-t) (good (goal.at.returns c).In_ok-t) (bytes_all a.bytes.now (λ i. (c.slice_known-1.given i).fits)) c.in_ok-p.p (sym c.in_ok-p.was ∙ c.locate_named.ensures.value) c.request_by.result c.request_by.new.bytes (c.request_by.ensures.value, c.request_by.ensures.bytes_after) in
    record { value = t.0; bytes_after = t.1.0; used_value = t.1.1 }

pub returns-in_err-p : goal.returns-in_err-p
returns-in_err-p c =
    let a = c.args in
    let e = err_is c.from_residual-in_err-p.result _ c.from_residual-in_err-p.ensures.1 in
    let t = request_turned a.settings a.request.method.now a.request.block.now a.bytes.now a.used (short (goal.at.returns-in_err-p c).In_ok-t) (good (goal.at.returns-in_err-p c).In_ok-t) (sym c.in_err-p.was ∙ c.locate_named.ensures.value) in
    record { value = e ∙ t.0; bytes_after = t.1.0; used_value = ap (λ (r : Result ℕ Refusal). used_after r a.used) e ∙ t.1.1 }

pub returns-in_err-t : goal.returns-in_err-t
unfolding block_cause
returns-in_err-t c =
    let a = c.args in
    let e = err_is c.from_residual-in_err-t.result _ c.from_residual-in_err-t.ensures.1 in
    let t = request_bad a.settings a.request.method.now a.request.block.now a.bytes.now a.used (length_passed (limits_in c.args.settings) c.args.request.method.now (sym c.check_length.ensures ∙ c.in_ok-check_length.was)) (headers_bad (block_cause (limits_in c.args.settings) a.request.block.now) _ _ (sym c.read_headers.ensures ∙ c.in_err-t.was)) in
    record { value = e ∙ t.0; bytes_after = t.1.0; used_value = ap (λ (r : Result ℕ Refusal). used_after r a.used) e ∙ t.1.1 }
