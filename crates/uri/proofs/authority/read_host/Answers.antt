-- `uri::read_host` meets its contract. Assumes nothing.
use native.Mathlib.Omega.{arith}
use Rattle.uri.proofs.Hosts.{begins_first, no_host, name_whole, name_broken, name_none, name_ended}
use borrow.Author.Tests.{ne_eqb, not-true, not-false}
use mathlib.Core.Path.{sym, ◌∙◌}
use Rattle.uri.proofs.authority.read_host.Goals as goal
use Rattle.uri.proofs.authority.read_host.Goals.{then-not-ends_host-via-then-not-ends_host, then-not-ends_host-via-else-not-ends_host+then-n-eq0}

pub returns-in_default-clause-value : goal.returns-in_default-clause-value
returns-in_default-clause-value c = no_host c.args.s.now (omega arith)

pub returns-then-n-s-clause-value : goal.returns-then-n-s-clause-value
returns-then-n-s-clause-value c = name_whole c.args.s.now _ (begins_first 91 c.args.s.now (omega arith) ∙ ne_eqb _ _ c.if-first-eq91.false) c.run-n.ensures.value c.if-n-s.true (λ z. omega arith)

pub returns-then-not-ends_host-clause-value : goal.returns-then-not-ends_host-clause-value
returns-then-not-ends_host-clause-value c =
    let e = begins_first 91 c.args.s.now (omega arith) ∙ ne_eqb _ _ c.if-first-eq91.false in
    elim c.then-not-ends_host.branch [
      | then-not-ends_host-via-then-not-ends_host w ↦ name_broken c.args.s.now _ e c.run-n.ensures.value (omega arith) (sym c.ends_host.ensures ∙ not-true _ w.if-not-ends_host.true-raw)
      | then-not-ends_host-via-else-not-ends_host+then-n-eq0 w ↦ name_none c.args.s.now _ e c.run-n.ensures.value (sym c.ends_host.ensures ∙ not-false _ w.if-not-ends_host.false-raw) w.if-n-eq0.true
    ]

pub returns-clause-value : goal.returns-clause-value
returns-clause-value c = name_ended c.args.s.now _ (begins_first 91 c.args.s.now (omega arith) ∙ ne_eqb _ _ c.if-first-eq91.false) c.run-n.ensures.value (sym c.ends_host.ensures ∙ not-false _ c.if-not-ends_host.false-raw) c.if-n-eq0.false (c.run-n.ensures.upper_bound)
