-- The bytes left are those of whole entries, and the entries before them are read.
use Prim.Native.Nat.{ℕ, ◌+◌, ◌*◌, ◌≤◌}
use mathlib.Core.Path.{◌≡◌}
use mathlib.Core.List.{List}
use lib.ListN.{length, take, drop}
use Rattle.prack_body.proofs.ReadLaws.{Looking}
use Rattle.prack_body.proofs.are_entries.Given as goal

abbrev pub invariant-loop-entry : goal.invariant-loop-entry
invariant-loop-entry l = record {
  size : l.entry-iterator.size ≡ 20;
  looking : (s : List ℕ) (first count : ℕ) → first + count * 20 ≤ length s → l.entries ≡ take (count * 20) (drop first s) → Looking s first count l.entry-iterator.rest.now;
}
