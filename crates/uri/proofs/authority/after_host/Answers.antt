-- `uri::after_host` meets its contract: the first byte decides. Assumes nothing.
use native.Mathlib.Omega.{arith}
use Rattle.uri.proofs.Ports.{port_none, port_given, port_absent}
use Rattle.uri.specs.Steps.{after_host_from}
use mathlib.Core.Path.{sym, ap, ◌∙◌}
use Rattle.uri.proofs.authority.after_host.Goals as goal

pub returns-in-empty : goal.returns-in-empty
returns-in-empty c = ap after_host_from (sym (port_none c.args.s.now (omega arith)))

pub returns-in-58 : goal.returns-in-58
returns-in-58 c = c.read_port.ensures ∙ ap after_host_from (sym (port_given c.args.s.now (omega arith) (omega arith)))

pub returns-in-len1-up : goal.returns-in-len1-up
returns-in-len1-up c = rw (port_absent c.args.s.now (omega arith) (omega arith), sym c.ends_port.ensures ∙ c.if-ends_port.true)

pub returns-in_default : goal.returns-in_default
returns-in_default c = rw (port_absent c.args.s.now (omega arith) (omega arith), sym c.ends_port.ensures ∙ c.if-ends_port.false)
