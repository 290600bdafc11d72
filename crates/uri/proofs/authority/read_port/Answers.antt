-- `uri::read_port` meets its contract. Assumes nothing.
use native.Mathlib.Omega.{arith}
use Rattle.std.specs.Prelude.{Option}
use Rattle.uri.proofs.Ports.{port_long, port_open, port_digits, not_read, was_read, read_below}
use Rattle.uri.specs.Steps.{after_host_from}
use Rattle.uri.specs.SipUri.{given_port}
use borrow.Author.Tests.{not-true, not-false}
use mathlib.Core.Path.{sym, ap, ◌∙◌}
use Prim.Native.Nat.{ℕ}
use Rattle.uri.proofs.authority.read_port.Goals as goal
use Rattle.uri.proofs.authority.read_port.Goals.{then-n-gt5-via-then-n-gt5, then-n-gt5-via-else-n-gt5+then-not-at_end}

pub returns-then-n-gt5 : goal.returns-then-n-gt5
returns-then-n-gt5 c = ap (λ (o : Option ℕ). after_host_from (given_port o)) (sym (elim c.then-n-gt5.branch [
  | then-n-gt5-via-then-n-gt5 w ↦ port_long c.args.s.now _ c.run-n.ensures.value w.if-n-gt5.true
  | then-n-gt5-via-else-n-gt5+then-not-at_end w ↦ port_open c.args.s.now _ c.run-n.ensures.value (sym w.at_end.ensures ∙ not-true _ w.if-not-at_end.true-raw)
]))

pub returns-in_default : goal.returns-in_default
returns-in_default c = ap (λ (o : Option ℕ). after_host_from (given_port o)) (sym (port_digits c.args.s.now _ c.run-n.ensures.value (omega arith) (sym c.at_end.ensures ∙ not-false _ c.if-not-at_end.false-raw) ∙ not_read _ (sym c.digits_below.ensures ∙ c.in_default.is)))

pub overflow_cast-result : goal.overflow_cast-result
overflow_cast-result c = record { fits = read_below 65536 _ _ (was_read _ (sym c.digits_below.ensures ∙ c.in-Some.is)) }

pub returns : goal.returns
returns c = ap (λ (o : Option ℕ). after_host_from (given_port o)) (sym (port_digits c.args.s.now _ c.run-n.ensures.value (omega arith) (sym c.at_end.ensures ∙ not-false _ c.if-not-at_end.false-raw) ∙ was_read _ (sym c.digits_below.ensures ∙ c.in-Some.is)))
