-- `dialog_changes::next_local_cseq` meets its contract: 3, then the step on the one record, and its new local number. Assumes nothing.
use mathlib.Core.Path.{◌≡◌, sym, ap, ◌∙◌}
use mathlib.Core.List.{List}
use Prim.Native.Nat.{ℕ}
use lib.ListN.{length, take}
use Rattle.std.proofs.result.Match.{err_is}
use Rattle.std.specs.Prelude.{Ok, Result}
use Rattle.limits.specs.declared.Refusal.{Refusal}
use Rattle.output.specs.Output.{leaves, written_from}
use Rattle.record.specs.NumbersForm.{meaning}
use Rattle.record.specs.Record.{Numbers}
use Rattle.record.specs.Rules.{local_step}
use Rattle.dialog_rules.specs.Updates.{local_update}
use Rattle.store_steps.specs.AtPlace.{stepped, raised_with}
use Rattle.dialog_changes.specs.ImageUpdates.{local_raised}
use Rattle.dialog_changes.proofs.ImageUpdateLaws.{Placed, place_read, used_refused, meaning_read, raised_refused, raised_is}
use Rattle.dialog_changes.proofs.PlaceLaws.{stepped_place, unread_ended}
use Rattle.dialog_changes.proofs.next_local_cseq.Goals as goal
use Rattle.dialog_changes.proofs.next_local_cseq.Goals.{After-local_at}

-- the one record, and what the step on it leaves
the_one : (c : After-local_at) → Placed c.args.bytes.now c.args.used c.in_ok-p.p
the_one c = place_read c.args.bytes.now c.args.used c.in_ok-p.p (sym c.in_ok-p.was ∙ c.read_used.ensures.value)

left_is : (c : After-local_at) → stepped (λ v. Ok (local_update v)) (length c.args.bytes.now) c.in_ok-p.p.at (take c.in_ok-p.p.used c.args.bytes.now) ≡ local_raised c.args.bytes.now c.args.used
left_is c = sym (stepped_place c.args.bytes.now c.args.used c.in_ok-p.p (the_one c) (λ i. (c.slice_known-1.given i).fits) (λ v. Ok (local_update v)))

pub returns-in_err-p-clause-value : goal.returns-in_err-p-clause-value
returns-in_err-p-clause-value c =
    let a = c.args in
    err_is c.from_residual.result _ c.from_residual.ensures.1 ∙ raised_refused a.bytes.now a.used (used_refused a.bytes.now a.used (sym c.in_err-p.was ∙ c.read_used.ensures.value))

pub returns-in_err-p-clause-bytes_after : goal.returns-in_err-p-clause-bytes_after
returns-in_err-p-clause-bytes_after c =
    let a = c.args in
    (unread_ended a.bytes.now a.used (λ v. Ok (local_update v)) (sym c.in_err-p.was ∙ c.read_used.ensures.value)).1

pub returns-clause-value : goal.returns-clause-value
returns-clause-value c =
    let a = c.args in
    let w = (goal.at.returns-clause-value c).After-local_at in
    let p = c.in_ok-p.p in
    let n = (local_step (meaning p.record.numbers)).local in
    c.local_at.ensures.value
    ∙ ap (λ (o : Result (List ℕ) Refusal). raised_with n (written_from o)) (left_is w)
    ∙ raised_is a.bytes.now a.used p.record (the_one w).one (ap (λ (x : Numbers). (local_step x).local) (meaning_read a.bytes.now a.used p.record (the_one w).one))

pub returns-clause-bytes_after : goal.returns-clause-bytes_after
returns-clause-bytes_after c = c.local_at.ensures.bytes_after ∙ ap (λ (o : Result (List ℕ) Refusal). leaves o c.args.bytes.now) (left_is (goal.at.returns-clause-bytes_after c).After-local_at)
