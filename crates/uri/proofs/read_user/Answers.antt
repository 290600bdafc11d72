-- `uri::read_user` meets its contract: bytes up to the end, a byte that no URI has, or the first `@`. Assumes nothing.
use native.Mathlib.Omega.{arith}
use mathlib.Core.Path.{sym, subst, ◌∙◌}
use Prim.Native.Nat.{◌+◌}
use Rattle.std.specs.Prelude.{Some}
use Rattle.text.specs.declared.Span.{Span}
use Rattle.uri.specs.Steps.{UserStep}
use Rattle.uri.proofs.Parts.{step_whole, step_broken, step_empty, step_read, no_part, some_part}
use Rattle.uri.proofs.read_user.Goals as goal

pub returns-then-n-rest : goal.returns-then-n-rest
returns-then-n-rest c = step_whole c.args.s.now c.args.at _ c.run-n.ensures.value c.requires c.if-n-rest.true

pub returns-then-rest-n-ne64 : goal.returns-then-rest-n-ne64
returns-then-rest-n-ne64 c = step_broken c.args.s.now c.args.at _ c.run-n.ensures.value (omega arith) c.if-rest-n-ne64.true

pub returns-in_err-user : goal.returns-in_err-user
returns-in_err-user c =
    subst (UserStep c.args.s.now c.args.at) (sym c.from_residual.ensures)
    (step_empty c.args.s.now c.args.at _ c.run-n.ensures.value (omega arith) c.if-rest-n-ne64.false (no_part c.args.at _ (sym c.user_part.ensures ∙ c.in_err-user.was)))

pub returns : goal.returns
returns c =
    let k = some_part c.args.at _ (sym c.user_part.ensures ∙ c.in_ok-user.was) in
    subst (λ (u : Span). UserStep c.args.s.now c.args.at (Some (Some u, c.args.at + c.run-n.result + 1))) k.1
    (step_read c.args.s.now c.args.at _ c.run-n.ensures.value (omega arith) c.if-rest-n-ne64.false k.0 c.requires)
