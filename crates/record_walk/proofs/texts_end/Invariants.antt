use Prim.Native.Nat.{◌-◌}
use mathlib.Core.Path.{◌≡◌}
use Rattle.record_walk.specs.Walk.{texts_end}
use Rattle.record_walk.proofs.texts_end.Given as goal

abbrev pub invariant-loop-i : goal.invariant-loop-i
invariant-loop-i l = texts_end l.count l.bytes l.at ≡ texts_end (l.count - l.i) l.bytes l.end
