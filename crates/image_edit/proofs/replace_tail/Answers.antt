-- `image_edit::replace_tail` meets its contract: the tail moved, and the section put before it. Assumes nothing.
use native.Mathlib.Omega.{arith}
use mathlib.Core.Path.{ap, ◌∙◌}
use Prim.Native.Nat.{ℕ, ◌+◌, ◌-◌, ◌≤◌}
use Rattle.edit.specs.Edit.{put_at, tail_moved}
use Rattle.edit.proofs.EditLaws.{replace_law}
use Rattle.image_edit.proofs.replace_tail.Goals as goal

pub returns-clause-bytes_after : goal.returns-clause-bytes_after
returns-clause-bytes_after g c =
    let a = c.args in
    let at = a.p.record.uris.end in
    let q = g.T.Tail.section a.tail in
    let end = g.T.Tail.ended a.p.record in
    let old : at + (end - at) ≤ a.p.used = omega (arith, c.requires.in_order.0, c.requires.in_order.1) in
    c.write.ensures
    ∙ ap (put_at at q) (c.move_tail-n.ensures.bytes_after ∙ ap (λ (i : ℕ). tail_moved a.p.used at (i - at) c.size.result a.bytes.now) c.end.ensures ∙ ap (λ (m : ℕ). tail_moved a.p.used at (end - at) m a.bytes.now) c.size.ensures.value)
    ∙ replace_law a.bytes.now q a.p.used at (end - at) old c.requires.in_order.2 c.requires.bytes_in_bounds
