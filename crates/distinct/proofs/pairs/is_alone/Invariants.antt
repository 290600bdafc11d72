use mathlib.Core.Path.{◌≡◌}
use Rattle.distinct.specs.Pairs.{alone_from}
use Rattle.distinct.proofs.pairs.is_alone.Given as goal

abbrev pub invariant-loop-q : goal.invariant-loop-q
invariant-loop-q l = (l.q-iterator.bytes.now ≡ l.bytes) × (alone_from l.bytes l.p l.fn.others.at ≡ alone_from l.bytes l.p l.q-iterator.at)
