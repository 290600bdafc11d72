-- `store_steps::terminate_at` meets its contract: the record's numbers changed in its place. Assumes nothing.
use mathlib.Core.Path.{ap}
use Rattle.std.proofs.Common.{rules}
use Rattle.std.specs.Prelude.{Ok}
use Rattle.record.specs.Rules.{terminate_step}
use Rattle.store_steps.proofs.PlaceLaws.{rule_given}
use Rattle.store_steps.proofs.terminate_at.Goals as goal

pub returns : goal.returns
returns c =
    let a = c.args in
    let w : _ × _ = rule_given a.bytes.now a.p (λ i. (c.slice_known-1.given i).fits) c.requires.stands (λ x. Ok (terminate_step x)) (ap Ok (search rules))
    (c.revise_numbers.ensures.value, c.revise_numbers.ensures.bytes_after) in
    record { value = w.0; bytes_after = w.1 }
