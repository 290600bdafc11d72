-- `store_steps::local_at` meets its contract: the record's numbers changed in its place, and its new local number. Assumes nothing.
use mathlib.Core.Path.{sym, ap, ◌∙◌}
use Rattle.std.proofs.Common.{rules}
use Rattle.std.proofs.result.Match.{err_is}
use Rattle.std.specs.Prelude.{Ok}
use Rattle.record.specs.NumbersForm.{meaning}
use Rattle.record.specs.Record.{Numbers}
use Rattle.record.specs.Rules.{local_step}
use Rattle.store_steps.specs.AtPlace.{raised_with}
use Rattle.store_steps.proofs.PlaceLaws.{Stepped, rule_given}
use Rattle.store_steps.proofs.local_at.Goals as goal
use Rattle.store_steps.proofs.local_at.Goals.{After-revise_numbers}

-- what the change of the numbers answered and left
changed_is : (c : After-revise_numbers) → Stepped c.args.bytes.now c.args.p (λ i. (c.slice_known-1.given i).fits) c.requires.stands (λ x. Ok (local_step x)) c.revise_numbers.result c.revise_numbers.new.bytes
changed_is c =
    rule_given c.args.bytes.now c.args.p (λ i. (c.slice_known-1.given i).fits) c.requires.stands (λ x. Ok (local_step x)) (ap Ok (search rules))
    (c.revise_numbers.ensures.value, c.revise_numbers.ensures.bytes_after)

pub returns-clause-value : goal.returns-clause-value
returns-clause-value c =
    ap (λ (x : Numbers). Ok (x.local, c.in_ok-n.n)) c.next_local_cseq-next.ensures
    ∙ ap (raised_with (local_step (meaning c.args.p.record.numbers)).local) (sym c.in_ok-n.was ∙ (changed_is (goal.at.returns-clause-value c).After-revise_numbers).0)

pub returns-clause-bytes_after : goal.returns-clause-bytes_after
returns-clause-bytes_after c = (changed_is (goal.at.returns-clause-bytes_after c).After-revise_numbers).1

pub returns-in_err-n-clause-value : goal.returns-in_err-n-clause-value
returns-in_err-n-clause-value c =
    err_is c.from_residual.result _ c.from_residual.ensures.1
    ∙ ap (raised_with (local_step (meaning c.args.p.record.numbers)).local) (sym c.in_err-n.was ∙ (changed_is (goal.at.returns-in_err-n-clause-value c).After-revise_numbers).0)

pub returns-in_err-n-clause-bytes_after : goal.returns-in_err-n-clause-bytes_after
returns-in_err-n-clause-bytes_after c = (changed_is (goal.at.returns-in_err-n-clause-bytes_after c).After-revise_numbers).1
