-- `uri::read_bracketed` meets its contract. Assumes nothing.
use native.Mathlib.Omega.{arith}
use Rattle.uri.proofs.Hosts.{bracket_open, bracket_short, bracket_bad, bracket_good}
use borrow.Author.Tests.{not-true, not-false}
use mathlib.Core.Path.{refl, sym, ◌∙◌}
use Rattle.uri.proofs.authority.read_bracketed.Goals as goal
use Rattle.uri.proofs.authority.read_bracketed.Goals.{then-n-lt2-via-then-n-lt2, then-n-lt2-via-else-n-lt2+then-not-all_of}

pub returns-in_err-n-clause-value : goal.returns-in_err-n-clause-value
returns-in_err-n-clause-value c = c.from_residual.ensures ∙ bracket_open c.args.s.now _ c.requires refl (sym c.in_err-n.ensures)

pub returns-then-n-lt2-clause-value : goal.returns-then-n-lt2-clause-value
returns-then-n-lt2-clause-value c = elim c.then-n-lt2.branch [
  | then-n-lt2-via-then-n-lt2 w ↦ bracket_short c.args.s.now _ c.requires c.in_ok-n.ensures.0 w.if-n-lt2.true
  | then-n-lt2-via-else-n-lt2+then-not-all_of w ↦ bracket_bad c.args.s.now _ c.requires c.in_ok-n.ensures.0 w.if-n-lt2.false c.in_ok-n.ensures.1 (sym w.all_of.ensures ∙ not-true _ w.if-not-all_of.true-raw)
]

pub returns-clause-value : goal.returns-clause-value
returns-clause-value c = bracket_good c.args.s.now _ c.requires c.in_ok-n.ensures.0 (omega arith) (omega arith) (sym c.all_of.ensures ∙ not-false _ c.if-not-all_of.false-raw)
