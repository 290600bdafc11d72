use Prim.Native.Nat.{◌+◌}
use mathlib.Core.Path.{◌≡◌}
use lib.ListN.{drop}
use Rattle.headers.specs.declared.tag.Mode.TheVariants.{Outside}
use Rattle.headers.specs.Tag.{cut_length}
use Rattle.headers.proofs.tag.segment_length.Given as goal

abbrev pub invariant-loop-i : goal.invariant-loop-i
invariant-loop-i l = cut_length Outside l.s ≡ l.i + cut_length l.mode (drop l.i l.s)
