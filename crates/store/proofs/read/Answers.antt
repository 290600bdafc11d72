-- `store::read` meets its contract: 3, or the used bytes, which were counted. Assumes nothing.
use mathlib.Core.Path.{refl, sym, ◌∙◌}
use lib.Seq.{length-take-le}
use Rattle.store.proofs.HeldLaws.{Used, counted_used, front_fits}
use Rattle.store.proofs.read.Goals as goal
use Rattle.store.proofs.read.Goals.{In_ok-count}

counted : (c : In_ok-count) → Used c.args.bytes.now c.args.used
counted c = counted_used c.args.bytes.now c.args.used (sym c.count.ensures ∙ c.in_ok-count.was)

pub slice_bounds-result-end : goal.slice_bounds-result-end
slice_bounds-result-end c = sym (length-take-le c.args.used c.args.bytes.now (counted c).within)

pub invariant_of-result : goal.invariant_of-result
invariant_of-result c = record { fit = front_fits c.args.used c.args.bytes.now (λ i. (c.type_inv.bytes i).fits); stored = (counted (goal.at.invariant_of-result c).In_ok-count).are }

pub returns : goal.returns
returns c = ((counted (goal.at.returns c).In_ok-count).within, refl)
