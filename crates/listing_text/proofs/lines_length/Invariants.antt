use mathlib.Core.Path.{◌≡◌}
use mathlib.Core.List.{List}
use Prim.Native.Nat.{ℕ, ◌+◌}
use lib.ListN.{length}
use Rattle.listing_text.proofs.ListLaws.{Left}
use Rattle.listing_text.proofs.lines_length.Given as goal

abbrev pub invariant-loop-i : goal.invariant-loop-i
invariant-loop-i l =
    (192 ≡ length l.text) × ((l.i-iterator.iter.bytes.now ≡ l.held.bytes.now) × ((t : List ℕ) × Left l.held.bytes.now l.i-iterator.iter.at (l.i-iterator.count + 1) l.size t))
