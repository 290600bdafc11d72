-- `lookups::find_by_request` meets its contract: 1, 2, 3, then the place of the identifier that the request names. Assumes nothing.
use mathlib.Core.Path.{◌≡◌, sym, ap, subst, ◌∙◌}
use lib.ListN.{length}
use Rattle.std.proofs.result.Match.{err_is}
use Rattle.std.specs.Result.{result_ok}
use Rattle.std.specs.Prelude.{Err, None, Ok, Some}
use Rattle.limits.specs.Limits.{rust_limits}
use Rattle.limits.specs.declared.Refusal.TheVariants.{NotFound}
use Rattle.limits.proofs.Laws.{passed, stopped}
use Rattle.msg.specs.Block.{block_cause}
use Rattle.codec.proofs.CodecLaws.{bytes_all}
use Rattle.dialog_rules.proofs.PlacedLaws.{Asked, asked, not_asked}
use Rattle.book.specs.Calls.{find_by_request}
use Rattle.book.specs.Book.{reading_cause}
use Rattle.store.specs.Counting.{ReadAs}
use Rattle.text.specs.Spans.{part_in}
use Rattle.dialog_manager.specs.Search.{named}
use Rattle.dialog_manager.specs.Lookups.{answer_in}
use Rattle.dialog_manager.proofs.LookupLaws.{Kept, kept_by, of_used, arguments_refuse, store_refuses, replies, refused, request_cause, named_reply, unnamed_reply}
use Rattle.dialog_manager.proofs.lookups.find_by_request.Goals as goal
use Rattle.dialog_manager.proofs.lookups.find_by_request.Goals.{In_ok-i, In_ok-held, In_ok-check_block}

-- the block passed its check
clear : (c : In_ok-check_block) → block_cause rust_limits c.args.block.now ≡ None
clear c = passed (block_cause rust_limits c.args.block.now) (sym c.check_block.ensures ∙ c.in_ok-check_block.was)

no_cause : (c : In_ok-check_block) → reading_cause rust_limits (find_by_request c.args.block.now) ≡ None
no_cause c = request_cause rust_limits c.args.block.now ∙ clear c

-- the store was read
opened : (c : In_ok-held) → ReadAs c.args.bytes.now c.args.used (Ok c.in_ok-held.held)
opened c = subst (ReadAs c.args.bytes.now c.args.used) c.in_ok-held.was c.read.ensures

store : (c : In_ok-held) → Kept c.args.bytes.now c.args.used
store c = kept_by c.args.bytes.now c.args.used c.in_ok-held.held (opened c)

-- the identifier of the request
request_asked : (c : In_ok-i) → Asked c.args.block.now c.in_ok-i.i
request_asked c =
    let e : c.request_id.result ≡ Some c.in_ok-i.i = c.ok_or.ensures.ok_part ∙ ap result_ok c.in_ok-i.was in
    asked c.args.block.now c.in_ok-i.i (sym e ∙ c.request_id.ensures)

pub returns-in_err-check_block : goal.returns-in_err-check_block
returns-in_err-check_block c =
    let a = c.args in
    ap answer_in (err_is c.from_residual.result _ c.from_residual.ensures.1) ∙ arguments_refuse rust_limits (length a.bytes.now) (find_by_request a.block.now) a.bytes.now a.used (bytes_all a.bytes.now (λ i. (c.type_inv.bytes i).fits))
    (request_cause rust_limits a.block.now ∙ stopped (block_cause rust_limits a.block.now) (sym c.check_block.ensures ∙ c.in_err-check_block.was))

pub returns-in_err-held : goal.returns-in_err-held
returns-in_err-held c =
    let a = c.args in
    ap answer_in (err_is c.from_residual-in_err-held.result _ c.from_residual-in_err-held.ensures.1) ∙ store_refuses rust_limits (length a.bytes.now) (find_by_request a.block.now) a.bytes.now a.used (bytes_all a.bytes.now (λ i. (c.type_inv.bytes i).fits)) (no_cause (goal.at.returns-in_err-held c).In_ok-check_block) (subst (ReadAs a.bytes.now a.used) c.in_err-held.was c.read.ensures)

pub returns-in_err-i : goal.returns-in_err-i
returns-in_err-i c =
    let a = c.args in
    let r = refused c.request_id.result c.ok_or.ensures.value c.in_err-i.was in
    let n = not_asked _ (sym r.0 ∙ c.request_id.ensures) in
    ap answer_in (err_is c.from_residual-in_err-i.result _ c.from_residual-in_err-i.ensures.1) ∙ ap Err r.1 ∙ replies rust_limits (length a.bytes.now) (find_by_request a.block.now) a.bytes.now a.used (bytes_all a.bytes.now (λ i. (c.type_inv.bytes i).fits)) (no_cause (goal.at.returns-in_err-i c).In_ok-check_block) (store (goal.at.returns-in_err-i c).In_ok-held) (Err NotFound) (unnamed_reply a.bytes.now a.used (store (goal.at.returns-in_err-i c).In_ok-held) a.block.now n)

pub place_of_request-requires : goal.place_of_request-requires
place_of_request-requires c =
    let q = request_asked c in
    rw q.spans (q.placed.call_id.fits, q.placed.local_tag.fits, q.placed.remote_tag.fits)

pub returns : goal.returns
returns c =
    let a = c.args in
    replies rust_limits (length a.bytes.now) (find_by_request a.block.now) a.bytes.now a.used (bytes_all a.bytes.now (λ i. (c.type_inv.bytes i).fits)) (no_cause (goal.at.returns c).In_ok-check_block) (store (goal.at.returns c).In_ok-held) (answer_in c.place_of_request.result)
    (c.place_of_request.ensures ∙ of_used (named (part_in a.block.now c.in_ok-i.i.call_id) (part_in a.block.now c.in_ok-i.i.remote_tag) (part_in a.block.now c.in_ok-i.i.local_tag)) a.bytes.now a.used c.in_ok-held.held (opened (goal.at.returns c).In_ok-held) ∙ named_reply a.bytes.now a.used (store (goal.at.returns c).In_ok-held) a.block.now c.in_ok-i.i (request_asked (goal.at.returns c).In_ok-i))
