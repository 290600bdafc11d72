use mathlib.Core.Path.{◌≡◌}
use Rattle.distinct.proofs.Alones.{Left}
use Rattle.distinct.proofs.is_distinct_by_pairs.Given as goal

abbrev pub invariant-loop-p : goal.invariant-loop-p
invariant-loop-p l = (l.records.bytes.now ≡ l.bytes) × Left l.bytes l.records.at
