-- `lookups::get` meets its contract: 1, 3, then the place in the store. Assumes nothing.
use mathlib.Core.Path.{◌≡◌, sym, ap, subst, ◌∙◌}
use lib.ListN.{length}
use Rattle.std.proofs.result.Match.{err_is}
use Rattle.std.specs.Prelude.{None, Ok}
use Rattle.limits.specs.Limits.{rust_limits}
use Rattle.limits.proofs.Laws.{passed, stopped}
use Rattle.codec.proofs.CodecLaws.{bytes_all}
use Rattle.dialog_id.specs.Ident.{ident, ident_cause}
use Rattle.book.specs.Book.{reading_cause}
use Rattle.store.specs.Counting.{ReadAs}
use Rattle.dialog_manager.specs.Search.{named}
use Rattle.dialog_manager.specs.Lookups.{getting, answer_in}
use Rattle.dialog_manager.proofs.LookupLaws.{Kept, kept_by, of_used, arguments_refuse, store_refuses, replies, get_cause, get_reply}
use Rattle.dialog_manager.proofs.lookups.get.Goals as goal
use Rattle.dialog_manager.proofs.lookups.get.Goals.{In_ok-held, In_ok-check_lengths}

-- no text is too long
clear : (c : In_ok-check_lengths) → reading_cause rust_limits (getting c.args.id.call_id.now c.args.id.local_tag.now c.args.id.remote_tag.now) ≡ None
clear c =
    let a = c.args in
    get_cause rust_limits a.id.call_id.now a.id.local_tag.now a.id.remote_tag.now
    ∙ passed (ident_cause rust_limits (ident a.id.call_id.now a.id.local_tag.now a.id.remote_tag.now)) (sym c.check_lengths.ensures ∙ c.in_ok-check_lengths.was)

-- the store was read
opened : (c : In_ok-held) → ReadAs c.args.bytes.now c.args.used (Ok c.in_ok-held.held)
opened c = subst (ReadAs c.args.bytes.now c.args.used) c.in_ok-held.was c.read.ensures

store : (c : In_ok-held) → Kept c.args.bytes.now c.args.used
store c = kept_by c.args.bytes.now c.args.used c.in_ok-held.held (opened c)

pub returns-in_err-check_lengths : goal.returns-in_err-check_lengths
returns-in_err-check_lengths c =
    let a = c.args in
    let q = getting a.id.call_id.now a.id.local_tag.now a.id.remote_tag.now in
    ap answer_in (err_is c.from_residual.result _ c.from_residual.ensures.1) ∙ arguments_refuse rust_limits (length a.bytes.now) q a.bytes.now a.used (bytes_all a.bytes.now (λ i. (c.type_inv.bytes i).fits))
    (get_cause rust_limits a.id.call_id.now a.id.local_tag.now a.id.remote_tag.now ∙ stopped (ident_cause rust_limits (ident a.id.call_id.now a.id.local_tag.now a.id.remote_tag.now)) (sym c.check_lengths.ensures ∙ c.in_err-check_lengths.was))

pub returns-in_err-held : goal.returns-in_err-held
returns-in_err-held c =
    let a = c.args in
    let q = getting a.id.call_id.now a.id.local_tag.now a.id.remote_tag.now in
    ap answer_in (err_is c.from_residual-in_err-held.result _ c.from_residual-in_err-held.ensures.1) ∙ store_refuses rust_limits (length a.bytes.now) q a.bytes.now a.used (bytes_all a.bytes.now (λ i. (c.type_inv.bytes i).fits)) (clear (goal.at.returns-in_err-held c).In_ok-check_lengths) (subst (ReadAs a.bytes.now a.used) c.in_err-held.was c.read.ensures)

pub returns : goal.returns
returns c =
    let a = c.args in
    let q = getting a.id.call_id.now a.id.local_tag.now a.id.remote_tag.now in
    replies rust_limits (length a.bytes.now) q a.bytes.now a.used (bytes_all a.bytes.now (λ i. (c.type_inv.bytes i).fits)) (clear (goal.at.returns c).In_ok-check_lengths) (store (goal.at.returns c).In_ok-held) (answer_in c.place.result)
    (c.place.ensures ∙ of_used (named a.id.call_id.now a.id.local_tag.now a.id.remote_tag.now) a.bytes.now a.used c.in_ok-held.held (opened (goal.at.returns c).In_ok-held) ∙ get_reply a.bytes.now a.used (store (goal.at.returns c).In_ok-held) a.id.call_id.now a.id.local_tag.now a.id.remote_tag.now)
