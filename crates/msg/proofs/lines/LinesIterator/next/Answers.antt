-- `msg::Lines` gives the lines one after another: the line that is read is the first of those that are left. Assumes nothing.
use native.Mathlib.Omega.{arith}
use borrow.Author.Rules.{rules}
use Prim.Native.Nat.{◌+◌, ◌-◌, ◌≤◌}
use mathlib.Core.Path.{◌≡◌, sym, ap, ◌∙◌}
use lib.ListN.{length, take, drop}
use Rattle.std.specs.Prelude.{Some}
use Rattle.msg.specs.Block.{line_at}
use Rattle.msg.proofs.LineLaws.{line_fits}
use Rattle.msg.proofs.LookupLaws.{left_none, left_read}
use Rattle.msg.proofs.lines.LinesIterator.next.Goals as goal
use Rattle.msg.proofs.lines.LinesIterator.next.Goals.{In_ok-n}

-- the line that was read, in the block
line_is : (c : In_ok-n) → line_at (take (length c.args.self.now.block.now - c.args.self.now.at) (drop c.args.self.now.at c.args.self.now.block.now)) ≡ Some (c.in_ok-n.n, c.in_ok-n.m)
line_is c = sym c.read_line.ensures ∙ c.in_ok-n.was

-- it ends within the block
inside : (c : In_ok-n) → c.args.self.now.at + (c.in_ok-n.n + c.in_ok-n.m + 3) ≤ length c.args.self.now.block.now
inside c = line_fits _ _ _ _ c.args.self.now.within (line_is c)

pub returns-in_err-n-clause-steps : goal.returns-in_err-n-clause-steps
returns-in_err-n-clause-steps c =
    let e = left_none c.args.self.now.block.now c.args.self.now.at (sym c.read_line.ensures ∙ c.in_err-n.was) in
    rw c.from_residual.ensures (e, e)

pub overflow_add-self : goal.overflow_add-self
overflow_add-self c = omega (arith, inside (goal.at.overflow_add-self c).In_ok-n)

pub overflow_add-self-2 : goal.overflow_add-self-2
overflow_add-self-2 c = omega (arith, inside (goal.at.overflow_add-self-2 c).In_ok-n)

pub overflow_add-self-3 : goal.overflow_add-self-3
overflow_add-self-3 c = omega (arith, inside (goal.at.overflow_add-self-3 c).In_ok-n)

pub invariant_of-self : goal.invariant_of-self
invariant_of-self c = record { within = inside (goal.at.invariant_of-self c).In_ok-n }

pub returns-clause-steps : goal.returns-clause-steps
returns-clause-steps c = left_read _ _ _ _ (line_is (goal.at.returns-clause-steps c).In_ok-n)

pub returns-clause-goes : goal.returns-clause-goes
returns-clause-goes c =
    let v = c.args.self.now in
    let e = ap length (left_read v.block.now v.at c.in_ok-n.n c.in_ok-n.m (line_is (goal.at.returns-clause-goes c).In_ok-n)) in
    search rules
