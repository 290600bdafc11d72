-- `record_gaps::open_gaps` meets its contract: in either order both parts come to their places. Assumes nothing.
use native.Mathlib.Omega.{arith}
use mathlib.Core.Path.{◌≡◌, ap, ◌∙◌}
use mathlib.Core.List.{List}
use Prim.Native.Nat.{ℕ, ◌+◌, ◌-◌}
use lib.ListN.{length, take, drop}
use Rattle.edit.specs.Edit.{put_at}
use Rattle.record_gaps.proofs.MoveLaws.{left_first, right_first}
use Rattle.record_gaps.proofs.gaps.open_gaps.Goals as goal
use Rattle.record_gaps.proofs.gaps.open_gaps.Goals.{Joined-to-from, else-to-from, then-to-from}

-- both parts at their places
abbrev opened : Joined-to-from → List ℕ
opened c =
    let a = c.args in
    let s = a.bytes.now in
    put_at (a.a.at + a.a.new_length) (take (a.b.at - (a.a.at + a.a.old_length)) (drop (a.a.at + a.a.old_length) s)) (put_at (a.a.at + a.a.new_length + (a.b.at - (a.a.at + a.a.old_length)) + a.b.new_length) (take (a.used - (a.b.at + a.b.old_length)) (drop (a.b.at + a.b.old_length) s)) s)

joined : (c : Joined-to-from) → (c.if-to-from.bytes ≡ opened c) × (length c.if-to-from.bytes ≡ length c.args.bytes.now)
joined c =
    let a = c.args in
    let s = a.bytes.now in
    let from = a.a.at + a.a.old_length in
    let m = a.b.at - from in
    let to = a.a.at + a.a.new_length in
    let behind = a.b.at + a.b.old_length in
    let end = to + m + a.b.new_length in
    let n = a.used - behind in
    elim c.if-to-from.branch [
      | then-to-from w ↦ (
        w.bytes-is ∙ w.shift-then-to-from.ensures ∙ left_first s from to m behind end n (omega arith) (omega arith) (omega arith) (omega arith) w.shift.new.bytes (omega (arith, w.if-to-from.true)) w.shift.ensures,
        ap length w.bytes-is ∙ w.shift-then-to-from.auto.bytes ∙ w.shift.auto.bytes,
      )
      | else-to-from w ↦ (
        w.bytes-is ∙ w.shift-else-to-from-2.ensures ∙ right_first s from to m behind end n (omega arith) (omega arith) (omega arith) (omega arith) w.shift-else-to-from.new.bytes (omega (arith, w.if-to-from.false)) w.shift-else-to-from.ensures,
        ap length w.bytes-is ∙ w.shift-else-to-from-2.auto.bytes ∙ w.shift-else-to-from.auto.bytes,
      )
    ]

pub returns-clause-bytes_after : goal.returns-clause-bytes_after
returns-clause-bytes_after c = (joined c).0
