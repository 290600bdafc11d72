-- `lookups::find_by_call_id` meets its contract: 1, 3, then the first place in the store. Assumes nothing.
use mathlib.Core.Path.{◌≡◌, sym, ap, subst, ◌∙◌}
use mathlib.Core.Bool.{true, false}
use lib.ListN.{length}
use Rattle.std.proofs.result.Match.{err_is}
use Rattle.std.specs.Prelude.{Err, None, Ok}
use Rattle.limits.specs.Limits.{rust_limits}
use Rattle.text.proofs.Lengths.{length_passed, length_stopped}
use Rattle.codec.proofs.CodecLaws.{bytes_all}
use Rattle.book.specs.Calls.{find_by_call_id}
use Rattle.book.specs.Book.{reading_cause}
use Rattle.store.specs.Counting.{ReadAs}
use Rattle.dialog_manager.specs.Search.{of_call_id}
use Rattle.dialog_manager.specs.Lookups.{answer_in}
use Rattle.dialog_manager.proofs.LookupLaws.{Kept, kept_by, of_used, arguments_refuse, store_refuses, replies, call_cause, call_reply}
use Rattle.dialog_manager.proofs.lookups.find_by_call_id.Goals as goal
use Rattle.dialog_manager.proofs.lookups.find_by_call_id.Goals.{In_ok-check_length, In_ok-held}

-- the text is not too long
clear : (c : In_ok-check_length) → reading_cause rust_limits (find_by_call_id c.args.call_id.now) ≡ None
clear c = call_cause rust_limits c.args.call_id.now false (length_passed rust_limits c.args.call_id.now (sym c.check_length.ensures ∙ c.in_ok-check_length.was))

-- the store was read
opened : (c : In_ok-held) → ReadAs c.args.bytes.now c.args.used (Ok c.in_ok-held.held)
opened c = subst (ReadAs c.args.bytes.now c.args.used) c.in_ok-held.was c.read.ensures

store : (c : In_ok-held) → Kept c.args.bytes.now c.args.used
store c = kept_by c.args.bytes.now c.args.used c.in_ok-held.held (opened c)

pub returns-in_err-check_length : goal.returns-in_err-check_length
returns-in_err-check_length c =
    let a = c.args in
    let q = length_stopped rust_limits a.call_id.now (sym c.check_length.ensures ∙ c.in_err-check_length.was) in
    ap answer_in (err_is c.from_residual.result _ c.from_residual.ensures.1 ∙ ap Err q.1) ∙ arguments_refuse rust_limits (length a.bytes.now) (find_by_call_id a.call_id.now) a.bytes.now a.used (bytes_all a.bytes.now (λ i. (c.type_inv.bytes i).fits)) (call_cause rust_limits a.call_id.now true q.0)

pub returns-in_err-held : goal.returns-in_err-held
returns-in_err-held c =
    let a = c.args in
    ap answer_in (err_is c.from_residual-in_err-held.result _ c.from_residual-in_err-held.ensures.1) ∙ store_refuses rust_limits (length a.bytes.now) (find_by_call_id a.call_id.now) a.bytes.now a.used (bytes_all a.bytes.now (λ i. (c.type_inv.bytes i).fits)) (clear (goal.at.returns-in_err-held c).In_ok-check_length) (subst (ReadAs a.bytes.now a.used) c.in_err-held.was c.read.ensures)

pub returns : goal.returns
returns c =
    let a = c.args in
    replies rust_limits (length a.bytes.now) (find_by_call_id a.call_id.now) a.bytes.now a.used (bytes_all a.bytes.now (λ i. (c.type_inv.bytes i).fits)) (clear (goal.at.returns c).In_ok-check_length) (store (goal.at.returns c).In_ok-held) (answer_in c.place.result)
    (c.place.ensures ∙ of_used (of_call_id a.call_id.now) a.bytes.now a.used c.in_ok-held.held (opened (goal.at.returns c).In_ok-held) ∙ call_reply a.bytes.now a.used (store (goal.at.returns c).In_ok-held) a.call_id.now)
