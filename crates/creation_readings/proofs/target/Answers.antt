-- `creation_readings::target` meets its contract: the Contact's text stands in its block, at its place. Assumes nothing.
use native.Mathlib.Omega.{arith}
use mathlib.Core.Path.{sym, ◌∙◌}
use native.Mathlib.Nat.{add-sub_cancel_left}
use Rattle.creation_readings.proofs.ReadingLaws.{ContactAt, contact_at, contact_fits, contact_text}
use Rattle.creation_readings.proofs.target.Goals as goal
use Rattle.creation_readings.proofs.target.Goals.{In-Some}

-- where the Contact stands
there : (c : In-Some) → ContactAt c.args.block.now c.in-Some.c
there c = contact_at c.args.block.now c.in-Some.c (sym c.find_contact.ensures ∙ c.in-Some.is)

pub end-requires : goal.end-requires
end-requires c = omega (arith, contact_fits _ _ (there (goal.at.end-requires c).In-Some))

pub slice_bounds-result-end : goal.slice_bounds-result-end
slice_bounds-result-end c = omega (arith, c.end.ensures, contact_fits _ _ (there (goal.at.slice_bounds-result-end c).In-Some))

pub returns-clause-result_value : goal.returns-clause-result_value
returns-clause-result_value c =
    let a = c.args in
    rw (c.end.ensures, add-sub_cancel_left) (contact_text _ a.remote_uri.now _ (there (goal.at.returns-clause-result_value c).In-Some))
