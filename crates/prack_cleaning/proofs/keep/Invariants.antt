use mathlib.Core.Path.{◌≡◌}
use Prim.Native.Nat.{ℕ, ◌+◌, ◌-◌, ◌*◌, ◌%◌, ◌≤◌}
use mathlib.Core.List.{List, ◌++◌}
use lib.ListN.{length, drop}
use Rattle.codec.specs.Codec.{write_all}
use Rattle.prack_body.specs.Lists.{Pending}
use Rattle.prack_body.specs.Layout.{pending_form, AllFormed}
use Rattle.prack_cleaning.proofs.KeepLaws.{Keeping}
use Rattle.prack_cleaning.proofs.keep.Given as goal

abbrev pub invariant-loop-at : goal.invariant-loop-at
invariant-loop-at g l = ((l.at - 10) % 20 ≡ 0) × ((l.at ≤ 10 + l.count * 20) × ((10 + l.kept * 20 ≤ l.at) × ((length l.body ≡ length l.initial.body) × ((ps : List Pending) (rest : List ℕ) → AllFormed ps → l.count ≡ length ps → drop 10 l.initial.body ≡ write_all pending_form ps ++ rest → Keeping (g.S.Staying.test l.which) l.initial.body rest ps l.at l.kept l.body))))

abbrev pub decreases-loop-at : goal.decreases-loop-at
decreases-loop-at g l = 10 + l.count * 20 - l.at
