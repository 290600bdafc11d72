-- `msg::Values` gives the values one after another: the look-up finds the first of those that are left. Assumes nothing.
use native.Mathlib.Omega.{arith}
use borrow.Author.Rules.{rules}
use mathlib.Core.Path.{sym, ap, ◌∙◌}
use lib.ListN.{length}
use Rattle.msg.specs.Block.{first_named}
use Rattle.text.proofs.SegmentLaws.{named_length}
use Rattle.msg.proofs.LookupLaws.{lines_left, Says, found_at, said_fits}
use Rattle.msg.proofs.NamedLaws.{next_within, first_value, no_value}
use Rattle.msg.proofs.lines.ValuesIterator.next.Goals as goal
use Rattle.msg.proofs.lines.ValuesIterator.next.Goals.{In_ok-v}

-- what the look-up said of the block
found : (c : In_ok-v) → Says c.args.self.now.block.now (first_named c.args.self.now.name.now (lines_left c.args.self.now.block.now c.args.self.now.at)) c.in_ok-v.v c.in_ok-v.next
found c = found_at _ _ _ _ _ c.args.self.now.within (sym c.find_from.ensures ∙ c.in_ok-v.was)

pub returns-in_err-v-clause-steps : goal.returns-in_err-v-clause-steps
returns-in_err-v-clause-steps c =
    let v = c.args.self.now in
    let e = no_value v.block.now v.name.now v.at (sym c.find_from.ensures ∙ c.in_err-v.was) in
    rw c.from_residual.ensures (e, e)

pub invariant_of-self : goal.invariant_of-self
invariant_of-self c = record { within = next_within _ _ _ _ _ (found (goal.at.invariant_of-self c).In_ok-v) }

pub text-requires : goal.text-requires
text-requires c = said_fits _ _ _ _ (found (goal.at.text-requires c).In_ok-v)

pub returns-clause-steps : goal.returns-clause-steps
returns-clause-steps c = rw c.text.ensures (first_value _ _ _ _ _ (found (goal.at.returns-clause-steps c).In_ok-v))

pub returns-clause-goes : goal.returns-clause-goes
returns-clause-goes c =
    let v = c.args.self.now in
    let e = ap length (first_value v.block.now v.name.now v.at c.in_ok-v.v c.in_ok-v.next (found (goal.at.returns-clause-goes c).In_ok-v)) in
    search rules

pub invariant_of-result : goal.invariant_of-result
invariant_of-result c =
    let h = said_fits _ _ _ _ (found (goal.at.invariant_of-result c).In_ok-v) in
    record { fits = omega (arith, h, ap length c.text.ensures, named_length c.args.self.now.block.now c.in_ok-v.v h) }
