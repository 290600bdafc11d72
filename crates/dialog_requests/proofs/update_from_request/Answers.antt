-- `dialog_requests::update_from_request` meets its contract: the causes of the texts, the reading, then the request at 0. Assumes nothing.
use mathlib.Core.Path.{sym, ap, ◌∙◌}
use lib.ListN.{length, take}
use Rattle.std.proofs.result.Match.{err_is}
use Rattle.std.specs.Prelude.{Err}
use Rattle.limits.specs.Settings.{limits_in}
use Rattle.text.proofs.Lengths.{length_passed, length_stopped}
use Rattle.msg.specs.Block.{block_cause}
use Rattle.dialog_rules.specs.Updates.{kind_of, request_update}
use Rattle.dialog_changes.proofs.ImageUpdateLaws.{place_read, used_refused}
use Rattle.store_steps.specs.AtPlace.{stepped}
use Rattle.dialog_updates.specs.Messages.{requested}
use Rattle.store_steps.proofs.PlaceLaws.{refused_leaves, result_as}
use Rattle.dialog_changes.proofs.PlaceLaws.{stepped_place}
use Rattle.dialog_updates.proofs.BlockLaws.{short_block}
use Rattle.dialog_requests.proofs.RequestLaws.{long_method, bad_block, no_record, as_image}
use Rattle.dialog_requests.proofs.update_from_request.Goals as goal

pub returns-in_err-check_length : goal.returns-in_err-check_length
returns-in_err-check_length c =
    let a = c.args in
    let q = length_stopped (limits_in c.args.settings) c.args.request.method.now (sym c.check_length.ensures ∙ c.in_err-check_length.was) in
    let old : _ × _ = refused_leaves a.bytes.now (requested (limits_in c.args.settings) a.request.method.now a.request.block.now a.bytes.now a.used) (long_method (limits_in c.args.settings) a.request.method.now a.request.block.now a.bytes.now a.used q.0) in
    record { value = err_is c.from_residual.result _ c.from_residual.ensures.1 ∙ ap Err q.1 ∙ old.0; bytes_after = old.1 }

pub returns-in_err-check_block : goal.returns-in_err-check_block
unfolding block_cause
returns-in_err-check_block c =
    let a = c.args in
    let old : _ × _ = refused_leaves a.bytes.now (requested (limits_in c.args.settings) a.request.method.now a.request.block.now a.bytes.now a.used) (bad_block (limits_in c.args.settings) a.request.method.now a.request.block.now a.bytes.now a.used (length_passed (limits_in c.args.settings) c.args.request.method.now (sym c.check_length.ensures ∙ c.in_ok-check_length.was)) (sym c.check_block.ensures ∙ c.in_err-check_block.was)) in
    record { value = err_is c.from_residual-in_err-check_block.result _ c.from_residual-in_err-check_block.ensures.1 ∙ old.0; bytes_after = old.1 }

pub returns-in_err-p : goal.returns-in_err-p
unfolding block_cause
returns-in_err-p c =
    let a = c.args in
    let old : _ × _ = refused_leaves a.bytes.now (requested (limits_in c.args.settings) a.request.method.now a.request.block.now a.bytes.now a.used) (no_record (limits_in c.args.settings) a.request.method.now a.request.block.now a.bytes.now a.used (length_passed (limits_in c.args.settings) c.args.request.method.now (sym c.check_length.ensures ∙ c.in_ok-check_length.was)) (sym c.check_block.ensures ∙ c.in_ok-check_block.was) (used_refused a.bytes.now a.used (sym c.in_err-p.was ∙ c.read_used.ensures.value))) in
    record { value = err_is c.from_residual-in_err-p.result _ c.from_residual-in_err-p.ensures.1 ∙ old.0; bytes_after = old.1 }

pub request_at-requires-clause-block_bound : goal.request_at-requires-clause-block_bound
unfolding block_cause
request_at-requires-clause-block_bound c = short_block (limits_in c.args.settings) c.args.request.block.now (sym c.check_block.ensures ∙ c.in_ok-check_block.was)

pub returns : goal.returns
unfolding block_cause
returns c =
    let a = c.args in
    let p = c.in_ok-p.p in
    let step = request_update (limits_in c.args.settings) (kind_of a.request.method.now) a.request.block.now in
    let e = as_image (limits_in c.args.settings) a.request.method.now a.request.block.now a.bytes.now a.used (length_passed (limits_in c.args.settings) c.args.request.method.now (sym c.check_length.ensures ∙ c.in_ok-check_length.was)) (sym c.check_block.ensures ∙ c.in_ok-check_block.was) in
    let old : _ × _ = result_as a.bytes.now (requested (limits_in c.args.settings) a.request.method.now a.request.block.now a.bytes.now a.used) (stepped step (length a.bytes.now) p.at (take p.used a.bytes.now)) c.request_at.result c.request_at.new.bytes
    (e ∙ stepped_place a.bytes.now a.used p (place_read a.bytes.now a.used p (sym c.in_ok-p.was ∙ c.read_used.ensures.value)) (λ i. (c.slice_known-1.given i).fits) step)
    (c.request_at.ensures.value, c.request_at.ensures.bytes_after) in
    record { value = old.0; bytes_after = old.1 }
