use mathlib.Core.Path.{◌≡◌}
use Rattle.store_ids.proofs.IdentifierLaws.{Measured}
use Rattle.store_ids.proofs.ids_size.Given as goal

abbrev pub invariant-loop-at : goal.invariant-loop-at
invariant-loop-at l = (l.at-iterator.bytes.now ≡ l.held.bytes.now) × Measured l.held.bytes.now l.at-iterator.at l.n
