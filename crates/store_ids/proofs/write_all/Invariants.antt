use mathlib.Core.Path.{◌≡◌}
use Rattle.store_ids.proofs.IdentifierLaws.{Filled}
use Rattle.store_ids.proofs.write_all.Given as goal

abbrev pub invariant-loop-at : goal.invariant-loop-at
invariant-loop-at l = (l.at-iterator.bytes.now ≡ l.held.bytes.now) × Filled l.held.bytes.now l.initial.out l.at-iterator.at l.to l.out
