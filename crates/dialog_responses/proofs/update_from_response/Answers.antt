-- `dialog_responses::update_from_response` meets its contract: the block's causes, the reading, then the response at 0. Assumes nothing.
use mathlib.Core.Path.{sym, ◌∙◌}
use lib.ListN.{length, take}
use Rattle.std.proofs.result.Match.{err_is}
use Rattle.std.specs.Prelude.{Ok, Result}
use Rattle.limits.specs.Limits.{rust_limits}
use Rattle.limits.specs.declared.Refusal.{Refusal}
use Rattle.record.specs.Record.{Record}
use Rattle.dialog_rules.specs.Updates.{response_update}
use Rattle.dialog_changes.proofs.ImageUpdateLaws.{place_read, used_refused}
use Rattle.store_steps.specs.AtPlace.{stepped}
use Rattle.dialog_updates.specs.Messages.{responded}
use Rattle.store_steps.proofs.PlaceLaws.{refused_leaves, result_as}
use Rattle.dialog_changes.proofs.PlaceLaws.{stepped_place}
use Rattle.dialog_updates.proofs.BlockLaws.{short_block}
use Rattle.dialog_responses.proofs.ResponseLaws.{bad_response, response_image, no_image}
use Rattle.dialog_responses.proofs.update_from_response.Goals as goal

pub returns-in_err-check_block : goal.returns-in_err-check_block
returns-in_err-check_block c =
    let a = c.args in
    let old : _ × _ = refused_leaves a.bytes.now (responded rust_limits a.response.status a.response.block.now a.bytes.now a.used) (bad_response rust_limits a.response.status a.response.block.now a.bytes.now a.used (sym c.check_block.ensures ∙ c.in_err-check_block.was)) in
    record { value = err_is c.from_residual.result _ c.from_residual.ensures.1 ∙ old.0; bytes_after = old.1 }

pub returns-in_err-p : goal.returns-in_err-p
returns-in_err-p c =
    let a = c.args in
    let old : _ × _ = refused_leaves a.bytes.now (responded rust_limits a.response.status a.response.block.now a.bytes.now a.used) (no_image rust_limits a.response.status a.response.block.now a.bytes.now a.used (sym c.check_block.ensures ∙ c.in_ok-check_block.was) (used_refused a.bytes.now a.used (sym c.in_err-p.was ∙ c.read_used.ensures.value))) in
    record { value = err_is c.from_residual-in_err-p.result _ c.from_residual-in_err-p.ensures.1 ∙ old.0; bytes_after = old.1 }

pub response_at-requires-clause-block_bound : goal.response_at-requires-clause-block_bound
response_at-requires-clause-block_bound c = short_block rust_limits c.args.response.block.now (sym c.check_block.ensures ∙ c.in_ok-check_block.was)

pub returns : goal.returns
returns c =
    let a = c.args in
    let p = c.in_ok-p.p in
    let step : Record → Result Record Refusal = λ v. Ok (response_update rust_limits a.response.status a.response.block.now v) in
    let e = response_image rust_limits a.response.status a.response.block.now a.bytes.now a.used (sym c.check_block.ensures ∙ c.in_ok-check_block.was) in
    let old : _ × _ = result_as a.bytes.now (responded rust_limits a.response.status a.response.block.now a.bytes.now a.used) (stepped step (length a.bytes.now) p.at (take p.used a.bytes.now)) c.response_at.result c.response_at.new.bytes
    (e ∙ stepped_place a.bytes.now a.used p (place_read a.bytes.now a.used p (sym c.in_ok-p.was ∙ c.read_used.ensures.value)) (λ i. (c.slice_known-1.given i).fits) step)
    (c.response_at.ensures.value, c.response_at.ensures.bytes_after) in
    record { value = old.0; bytes_after = old.1 }
