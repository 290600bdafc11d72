-- `dialog_id::tag_at` meets its contract: the tag of the line's value, moved to its place in the block. Assumes nothing.
use Prim.Native.Nat.{◌+◌, ◌≤◌}
use native.Mathlib.Omega.{arith}
use mathlib.Core.Path.{sym, ap, ◌∙◌}
use lib.ListN.{length}
use Rattle.text.proofs.SegmentLaws.{named_length}
use Rattle.headers.specs.Tag.{tag_of}
use Rattle.headers.proofs.TagLaws.{tag_placed, tag_says}
use Rattle.msg.proofs.TableLaws.{at_fits}
use Rattle.dialog_id.proofs.tag_at.Goals as goal
use Rattle.dialog_id.proofs.tag_at.Goals.{In_ok-v}

-- the value lies within the block
fits : (c : In_ok-v) → c.in_ok-v.v.start + c.in_ok-v.v.length ≤ length c.args.block.now
fits c = at_fits c.args.line _ _ c.in_ok-v.was _ c.requires

pub moved-requires : goal.moved-requires
moved-requires c =
    let h = fits (goal.at.moved-requires c).In_ok-v in
    let s = c.text.result.now in
    omega (arith, h, tag_says s (tag_of s) _ (tag_placed s) (sym c.find_tag.ensures ∙ c.in_ok-t.was), ap length c.text.ensures, named_length c.args.block.now c.in_ok-v.v h)
