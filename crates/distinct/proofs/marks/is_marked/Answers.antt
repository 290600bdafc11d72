-- `marks::is_marked` meets its contract: the slot and the mark are those of the key. Assumes nothing.
use mathlib.Core.Path.{◌≡◌}
use mathlib.Core.Bool.{Bool, true, false}
use Prim.Native.Nat.{ℕ, ◌+◌, ◌/◌, ◌%◌}
use mathlib.Core.List.{List}
use lib.ListN.{length, get_or}
use Rattle.distinct.specs.Keys.{key_at}
use Rattle.distinct.specs.Marks.{MarkOr, Stands, StandsOr, head_of}
use Rattle.distinct.proofs.marks.is_marked.Goals as goal

stands_or : (t : Bool) (ms k : List ℕ) (h f : ℕ) → h ≡ head_of k → f ≡ h / length ms % 1023 + 1 → MarkOr t (get_or ms (h % length ms) 0) f → StandsOr t ms k
unfolding Stands
stands_or true ms k h f e q m = tt
stands_or false ms k h f e q m = λ x. m (rw (q, e) x)

pub returns : goal.returns
returns c = stands_or c.has_mark.result c.args.marks.now (key_at c.args.bytes.now c.args.q) c.head-h.result c.print.result c.head-h.ensures c.print.ensures c.has_mark.ensures
