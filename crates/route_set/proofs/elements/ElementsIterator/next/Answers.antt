-- `route_set::Elements` gives the elements one after another. Assumes nothing.
use native.Mathlib.Omega.{arith}
use borrow.Author.Rules.{rules}
use mathlib.Core.Path.{sym, ap, ◌∙◌}
use lib.ListN.{length}
use Rattle.text.proofs.SegmentLaws.{named_length}
use Rattle.route_set.proofs.WalkLaws.{Told, part_told, part_none, told_fits, told_first}
use Rattle.route_set.proofs.elements.ElementsIterator.next.Goals as goal
use Rattle.route_set.proofs.elements.ElementsIterator.next.Goals.{In_ok-p}

-- what was said of the next element
found : (c : In_ok-p) → Told c.args.self.now.value.now c.args.self.now.from c.in_ok-p.p c.in_ok-p.after
found c = part_told _ _ _ _ (sym c.next_part.ensures ∙ c.in_ok-p.was)

pub returns-in_err-p-clause-steps : goal.returns-in_err-p-clause-steps
returns-in_err-p-clause-steps c =
    let v = c.args.self.now in
    let e = part_none v.value.now v.from (sym c.next_part.ensures ∙ c.in_err-p.was) in
    rw c.from_residual.ensures (e, e)

pub text-requires : goal.text-requires
text-requires c = told_fits _ _ _ _ (found (goal.at.text-requires c).In_ok-p)

pub returns-clause-steps : goal.returns-clause-steps
returns-clause-steps c = rw c.text.ensures (told_first _ _ _ _ (found (goal.at.returns-clause-steps c).In_ok-p))

pub returns-clause-goes : goal.returns-clause-goes
returns-clause-goes c =
    let v = c.args.self.now in
    let e = ap length (told_first v.value.now v.from c.in_ok-p.p c.in_ok-p.after (found (goal.at.returns-clause-goes c).In_ok-p)) in
    search rules

pub invariant_of-result : goal.invariant_of-result
invariant_of-result c =
    let h = told_fits _ _ _ _ (found (goal.at.invariant_of-result c).In_ok-p) in
    record { fits = omega (arith, h, ap length c.text.ensures, named_length c.args.self.now.value.now c.in_ok-p.p h) }
