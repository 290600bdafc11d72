-- `headers::find_tag` meets its contract: at each turn the tag is that of the segments left. Assumes nothing.
use Prim.Native.Nat.{ℕ, ◌+◌, ◌-◌}
use mathlib.Core.Path.{sym, ap, ap₂, ◌∙◌}
use lib.ListN.{length}
use Rattle.std.specs.Prelude.{Some}
use Rattle.text.specs.Segments.{placed}
use Rattle.text.proofs.SegmentLaws.{left_start}
use Rattle.headers.specs.Tag.{tag_segments, is_tag, part_of}
use Rattle.headers.proofs.TagLaws.{tag_among, first_among, tag_next, tag_hit, tag_none, long}
use Rattle.headers.proofs.tag.find_tag.Goals as goal

pub loop-g-init : goal.loop-g-init
loop-g-init c =
    first_among 0 _ ∙ ap tag_among (sym (
    rw c.into_iter-g-iterator.ensures.into_iter_gives c.from-g-items.ensures
    ∙ ap (placed 0) (left_start tag_segments c.args.value.now)
    ))

pub overflow_sub-result : goal.overflow_sub-result
overflow_sub-result c = long _ (sym c.is_tag.ensures ∙ c.if-is_tag.true)

pub returns-then-is_tag : goal.returns-then-is_tag
returns-then-is_tag c =
    ap₂ (λ (p q : ℕ). Some (record { start = c.in-Some.g.place + p + 4; length = q - 4 })) c.leading.ensures.value (ap length c.trim-t.ensures)
    ∙ sym (tag_hit _ _ _ c.in-Some.ensures.steps (ap is_tag (sym c.trim-t.ensures) ∙ sym c.is_tag.ensures ∙ c.if-is_tag.true))
    ∙ ap part_of (sym c.loop-g.invariant)

pub loop-g-preserved : goal.loop-g-preserved
loop-g-preserved c = c.loop-g.invariant ∙ tag_next _ _ _ c.in-Some.ensures.steps (ap is_tag (sym c.trim-t.ensures) ∙ sym c.is_tag.ensures ∙ c.if-is_tag.false)

pub returns : goal.returns
returns c = ap part_of (sym (c.loop-g.invariant ∙ tag_none _ c.in-None.ensures.steps.0))
