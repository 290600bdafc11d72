use Prim.Native.Nat.{◌+◌, ◌-◌, ◌*◌, ◌/◌, ◌≤◌}
use mathlib.Core.Path.{◌≡◌}
use mathlib.Core.List.{List}
use lib.ListN.{length}
use Rattle.std.specs.Prelude.{Some}
use Rattle.limits.specs.Limits.{LimitSet}
use Rattle.prack_body.specs.Lists.{Pending, Tracked}
use Rattle.prack_body.specs.Body.{Holds}
use Rattle.prack_list.specs.Steps.{position_in}
use Rattle.prack_list.proofs.FindLaws.{From}
use Rattle.prack_list.proofs.finding.first_of.Given as goal

abbrev pub invariant-loop-at : goal.invariant-loop-at
invariant-loop-at l = let i = (l.at - 10) / 20 in (l.at ≡ 10 + i * 20) × ((i ≤ l.count) × ((L : LimitSet) (t : Tracked) (ps : List Pending) → Holds L l.body (length l.body) t → t.list ≡ Some ps → position_in l.rseq (Some ps) ≡ From l.rseq i ps))

abbrev pub decreases-loop-at : goal.decreases-loop-at
decreases-loop-at l = 10 + l.count * 20 - l.at
