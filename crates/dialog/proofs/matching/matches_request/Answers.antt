-- `dialog::matches_request` meets its contract: 1, 2, 3, then the parts of the two identifiers. Assumes nothing.
use mathlib.Core.Path.{◌≡◌, sym, ap, ap₂, ◌∙◌}
use Rattle.std.proofs.Common.{rules}
use Rattle.std.proofs.result.Match.{err_is}
use Rattle.std.specs.Prelude.{None}
use Rattle.dialog_id.specs.Ident.{same_ident}
use Rattle.dialog_rules.proofs.PlacedLaws.{Asked, asked, not_asked}
use Rattle.dialog.proofs.MatchLaws.{Held, held, ids_within, equal_is, bad_block, bad_image, no_part, matched}
use Rattle.codec.proofs.CodecLaws.{bytes_all}
use Rattle.msg.specs.Block.{block_cause}
use Rattle.limits.proofs.Laws.{passed}
use Rattle.limits.specs.Limits.{rust_limits}
use Rattle.dialog.proofs.matching.matches_request.Goals as goal
use Rattle.dialog.proofs.matching.matches_request.Goals.{In-Some, In_ok-r, In_ok-check_block}

-- the block passed its check; the record of the image; the identifier of the request
clear : (c : In_ok-check_block) → block_cause rust_limits c.args.block.now ≡ None
clear c = passed (block_cause rust_limits c.args.block.now) (sym c.check_block.ensures ∙ c.in_ok-check_block.was)

record_held : (c : In_ok-r) → Held c.args.bytes.now c.in_ok-r.r
record_held c = held c.args.bytes.now c.in_ok-r.r (sym c.in_ok-r.was ∙ c.read_image.ensures)

request_asked : (c : In-Some) → Asked c.args.block.now c.in-Some.asked
request_asked c = asked c.args.block.now c.in-Some.asked (sym c.in-Some.is ∙ c.request_id.ensures)

pub returns-in_err-check_block : goal.returns-in_err-check_block
returns-in_err-check_block c = err_is c.from_residual.result _ c.from_residual.ensures.1 ∙ bad_block rust_limits c.args.block.now c.args.bytes.now c.check_block.ensures c.in_err-check_block.was

pub returns-in_err-r : goal.returns-in_err-r
returns-in_err-r c = err_is c.from_residual-in_err-r.result _ c.from_residual-in_err-r.ensures.1 ∙ bad_image rust_limits c.args.block.now c.args.bytes.now (clear (goal.at.returns-in_err-r c).In_ok-check_block) (sym c.in_err-r.was ∙ c.read_image.ensures)

pub returns-in_default : goal.returns-in_default
returns-in_default c = no_part rust_limits c.args.block.now c.args.bytes.now (clear (goal.at.returns-in_default c).In_ok-check_block) c.in_ok-r.r (record_held (goal.at.returns-in_default c).In_ok-r) (not_asked _ (sym c.in_default.is ∙ c.request_id.ensures))

pub texts-requires : goal.texts-requires
texts-requires c =
    let q = request_asked (goal.at.texts-requires c).In-Some in
    rw q.spans (q.placed.call_id.fits, q.placed.local_tag.fits, q.placed.remote_tag.fits)

pub texts-requires-2 : goal.texts-requires-2
texts-requires-2 c =
    let w = ids_within c.args.bytes.now c.in_ok-r.r (record_held (goal.at.texts-requires-2 c).In_ok-r) in
    search rules

pub returns : goal.returns
unfolding same_ident
returns c =
    let s = c.args.bytes.now in
    let a = c.texts.result in
    let b = c.texts-2.result in
    matched rust_limits c.args.block.now s (clear (goal.at.returns c).In_ok-check_block) c.in_ok-r.r c.in-Some.asked (record_held (goal.at.returns c).In_ok-r) (request_asked (goal.at.returns c).In-Some) (bytes_all s (λ i. (c.type_inv.bytes i).fits)) _
    (c.eq.ensures ∙ rw (equal_is a.call_id.now b.call_id.now, equal_is a.local_tag.now b.local_tag.now, equal_is a.remote_tag.now b.remote_tag.now) (ap₂ same_ident c.texts.ensures (search rules)))
