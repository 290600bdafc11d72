-- `dialog_requests::request_by` meets its contract: the number is read, the numbers take it, and the record is revised. Assumes nothing.
use native.Mathlib.Omega.{arith}
use Prim.Native.Nat.{◌≤◌, ℕ}
use mathlib.Core.Path.{◌≡◌, sym, ap, subst, ◌∙◌}
use lib.ListN.{length, take}
use Rattle.std.proofs.result.Match.{err_is}
use Rattle.text.specs.declared.Span.{Span}
use Rattle.std.specs.Prelude.{Err, Ok, Option}
use Rattle.limits.specs.Settings.{limits_in}
use Rattle.output.specs.Output.{fitted}
use Rattle.msg.specs.Table.{end_of}
use Rattle.msg.proofs.TableLaws.{end_of_lem}
use Rattle.route_set.specs.Routes.{contact_name}
use Rattle.route_set.proofs.ElementLaws.{contact_found}
use Rattle.prack_headers.specs.Sequence.{cseq_name, cseq_number}
use Rattle.prack_headers.proofs.ReadingLaws.{cseq_found}
use Rattle.words.proofs.NumberLaws.{unreadable, readable}
use Rattle.record.specs.Changes.{with_numbers}
use Rattle.record.specs.NumbersForm.{meaning, outcome_in}
use Rattle.record.specs.Record.{Numbers}
use Rattle.record.specs.Rules.{Kind, request_step}
use Rattle.image_edit.specs.Changes.{changed}
use Rattle.image_edit.proofs.ImageCuts.{stands_held}
use Rattle.dialog_rules.specs.Updates.{kind_of, retargeted, request_update}
use Rattle.store_steps.specs.AtPlace.{stepped}
use Rattle.store_steps.proofs.PlaceLaws.{numbers_read, stepped_refused, stepped_given, refused_leaves, result_as}
use Rattle.dialog_requests.proofs.RequestLaws.{no_number, number_refused, number_taken}
use Rattle.dialog_requests.proofs.request_by.Goals as goal

pub cseq_at-requires : goal.cseq_at-requires
cseq_at-requires c = subst (λ (f : Option (Span × ℕ)). end_of f ≤ length c.args.request.block.now) (sym c.requires.block_value.1) (end_of_lem cseq_name _)

pub returns-in_default : goal.returns-in_default
returns-in_default c =
    let a = c.args in
    let s = take a.p.used a.bytes.now in
    let k = kind_of a.request.method.now in
    let h = stands_held c.args.bytes.now c.args.p (λ i. (c.slice_known-1.given i).fits) c.requires.stands in
    let old : _ × _ = refused_leaves a.bytes.now (stepped (request_update (limits_in c.args.settings) k a.request.block.now) (length a.bytes.now) a.p.at s)
    (stepped_refused s a.p.at a.p.record h (request_update (limits_in c.args.settings) k a.request.block.now) (length a.bytes.now) (no_number (limits_in c.args.settings) k a.request.block.now h.value (unreadable (cseq_number a.request.block.now) (c.cseq_at.ensures ∙ cseq_found a.request.block.now _ c.requires.block_value.1) c.in_default.is))) in
    record { value = old.0; bytes_after = old.1 }

pub contact_at-target-requires : goal.contact_at-target-requires
contact_at-target-requires c = subst (λ (f : Option (Span × ℕ)). end_of f ≤ length c.args.request.block.now) (sym c.requires.block_value.2) (end_of_lem contact_name _)

pub revise_to-requires-clause-block_value : goal.revise_to-requires-clause-block_value
revise_to-requires-clause-block_value c = (omega (arith, c.requires.block_value.0), c.contact_at-target.ensures ∙ contact_found c.args.request.block.now _ c.requires.block_value.2)

pub returns : goal.returns
returns c =
    let a = c.args in
    let s = take a.p.used a.bytes.now in
    let k = kind_of a.request.method.now in
    let h = stands_held c.args.bytes.now c.args.p (λ i. (c.slice_known-1.given i).fits) c.requires.stands in
    let n = c.in-Some.n in
    let x = meaning c.in_ok-x.x in
    let e : request_step (limits_in c.args.settings) k n h.value.numbers ≡ Ok x =
    ap (λ (y : Numbers). request_step (limits_in c.args.settings) k n y) (sym (numbers_read s a.p.at a.p.record h))
    ∙ ap (λ (y : Kind). request_step (limits_in c.args.settings) y n (meaning a.p.record.numbers)) (sym c.kind_of.ensures)
    ∙ sym c.request.ensures
    ∙ ap outcome_in c.in_ok-x.was in
    let f = stepped_given s a.p.at a.p.record h (request_update (limits_in c.args.settings) k a.request.block.now) (length a.bytes.now) (λ v. retargeted a.request.block.now (with_numbers x v)) (number_taken (limits_in c.args.settings) k a.request.block.now h.value n x (readable (cseq_number a.request.block.now) (c.cseq_at.ensures ∙ cseq_found a.request.block.now _ c.requires.block_value.1) c.in-Some.is) e) in
    let old : _ × _ = result_as a.bytes.now (stepped (request_update (limits_in c.args.settings) k a.request.block.now) (length a.bytes.now) a.p.at s) (fitted (length a.bytes.now) (changed (λ v. retargeted a.request.block.now (with_numbers x v)) a.p.at s)) c.revise_to.result c.revise_to.new.bytes f (c.revise_to.ensures.value, c.revise_to.ensures.bytes_after) in
    record { value = old.0; bytes_after = old.1 }

pub returns-in_err-x : goal.returns-in_err-x
returns-in_err-x c =
    let a = c.args in
    let s = take a.p.used a.bytes.now in
    let k = kind_of a.request.method.now in
    let h = stands_held c.args.bytes.now c.args.p (λ i. (c.slice_known-1.given i).fits) c.requires.stands in
    let n = c.in-Some.n in
    let e : request_step (limits_in c.args.settings) k n h.value.numbers ≡ Err c.in_err-x.field-0.0 =
    ap (λ (y : Numbers). request_step (limits_in c.args.settings) k n y) (sym (numbers_read s a.p.at a.p.record h))
    ∙ ap (λ (y : Kind). request_step (limits_in c.args.settings) y n (meaning a.p.record.numbers)) (sym c.kind_of.ensures)
    ∙ sym c.request.ensures
    ∙ ap outcome_in c.in_err-x.was in
    let old : _ × _ = refused_leaves a.bytes.now (stepped (request_update (limits_in c.args.settings) k a.request.block.now) (length a.bytes.now) a.p.at s)
    (stepped_refused s a.p.at a.p.record h (request_update (limits_in c.args.settings) k a.request.block.now) (length a.bytes.now) (number_refused (limits_in c.args.settings) k a.request.block.now h.value n (readable (cseq_number a.request.block.now) (c.cseq_at.ensures ∙ cseq_found a.request.block.now _ c.requires.block_value.1) c.in-Some.is) e)) in
    record { value = err_is c.from_residual.result _ c.from_residual.ensures.1 ∙ old.0; bytes_after = old.1 }
