use Rattle.std.proofs.Common.{length, take, ◌≡◌, ◌≤◌, ℕ}
use mathlib.Core.List.{List}
use Rattle.distinct.specs.Marks.{Stands}
use Rattle.distinct.specs.Sorting.{tally}
use Rattle.distinct.proofs.marks.mark_all.Given as goal

abbrev pub invariant-loop-i : goal.invariant-loop-i
invariant-loop-i l = (length l.marks ≡ length l.run) × ((k : List ℕ) → 1 ≤ tally l.bytes k (take l.i l.run) → Stands l.marks k)
