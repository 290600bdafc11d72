use Prim.Native.Nat.{◌+◌, ◌≤◌}
use mathlib.Core.Path.{◌≡◌}
use mathlib.Core.Bool.{false}
use lib.ListN.{drop}
use Rattle.route_set.specs.Cuts.{cut_length}
use Rattle.route_set.proofs.parts.part_length.Given as goal

abbrev pub invariant-loop-i : goal.invariant-loop-i
invariant-loop-i l = (l.depth ≤ l.i) × (cut_length false 0 l.s ≡ l.i + cut_length l.quoted l.depth (drop l.i l.s))
