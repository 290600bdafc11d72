use mathlib.Core.Path.{◌≡◌}
use Rattle.dialog_manager.proofs.SearchLaws.{Left}
use Rattle.dialog_manager.proofs.finding.search.Given as goal

abbrev pub invariant-loop-at : goal.invariant-loop-at
invariant-loop-at g l = (l.at-iterator.bytes.now ≡ l.held.bytes.now) × Left (g.W.Wanted.test l.wanted) l.held.bytes.now l.at-iterator.at
