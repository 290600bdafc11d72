-- `dialog_updates::revise_to` meets its contract: by whether the block has a readable Contact. Assumes nothing.
use mathlib.Core.Path.{sym, ap, ◌∙◌}
use mathlib.Core.List.{List}
use Prim.Native.Nat.{ℕ}
use lib.ListN.{length, take}
use Rattle.output.specs.Output.{fitted}
use Rattle.record.specs.Changes.{with_target}
use Rattle.record.specs.Record.{Record}
use Rattle.image_edit.specs.Changes.{changed}
use Rattle.image_edit.proofs.ImageCuts.{stands_held}
use Rattle.dialog_rules.specs.Updates.{retargeted}
use Rattle.dialog_updates.proofs.ContactLaws.{no_contact, contact_within, contact_target}
use Rattle.store_steps.proofs.PlaceLaws.{changed_as, result_as}
use Rattle.dialog_updates.proofs.revision.revise_to.Goals as goal

pub returns-in_default : goal.returns-in_default
returns-in_default g c =
    let a = c.args in
    let s = take a.p.used a.bytes.now in
    let m : Record → Record = λ v. g.T.Tail.makes a.tail v in
    let h = stands_held c.args.bytes.now c.args.p (λ i. (c.slice_known-1.given i).fits) c.requires.stands in
    let e = no_contact a.block.now (m h.value).target (sym c.requires.block_value.1 ∙ c.in_default.is) in
    let old : _ × _ = result_as a.bytes.now (fitted (length a.bytes.now) (changed (λ v. retargeted a.block.now (m v)) a.p.at s)) (fitted (length a.bytes.now) (changed m a.p.at s)) c.revise_numbers.result c.revise_numbers.new.bytes
    (ap (fitted (length a.bytes.now)) (changed_as s a.p.at a.p.record h (λ v. retargeted a.block.now (m v)) m (ap (λ (t : List ℕ). with_target t (m h.value)) e)))
    (c.revise_numbers.ensures.value, c.revise_numbers.ensures.bytes_after) in
    record { value = old.0; bytes_after = old.1 }

pub text-requires : goal.text-requires
text-requires g c = contact_within c.args.block.now c.in-Some.c (sym c.requires.block_value.1 ∙ c.in-Some.is)

pub returns : goal.returns
returns g c =
    let a = c.args in
    let s = take a.p.used a.bytes.now in
    let m : Record → Record = λ v. g.T.Tail.makes a.tail v in
    let h = stands_held c.args.bytes.now c.args.p (λ i. (c.slice_known-1.given i).fits) c.requires.stands in
    let t = c.text.result.now in
    let e = contact_target a.block.now (m h.value).target c.in-Some.c (sym c.requires.block_value.1 ∙ c.in-Some.is) ∙ sym c.text.ensures in
    let old : _ × _ = result_as a.bytes.now (fitted (length a.bytes.now) (changed (λ v. retargeted a.block.now (m v)) a.p.at s)) (fitted (length a.bytes.now) (changed (λ v. with_target t (m v)) a.p.at s)) c.revise_numbers_and_target.result c.revise_numbers_and_target.new.bytes
    (ap (fitted (length a.bytes.now)) (changed_as s a.p.at a.p.record h (λ v. retargeted a.block.now (m v)) (λ v. with_target t (m v)) (ap (λ (u : List ℕ). with_target u (m h.value)) e)))
    (c.revise_numbers_and_target.ensures.value, c.revise_numbers_and_target.ensures.bytes_after) in
    record { value = old.0; bytes_after = old.1 }
