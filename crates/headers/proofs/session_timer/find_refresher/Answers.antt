-- `headers::find_refresher` meets its contract: at each turn the refresher is that of the parts left. Assumes nothing.
use mathlib.Core.Path.{◌≡◌, sym, ap, ◌∙◌}
use mathlib.Core.List.{◌∷◌}
use Rattle.text.specs.Text.{is, split}
use Rattle.text.specs.Segments.{pieces_left}
use Rattle.text.proofs.SegmentLaws.{texts, texts_placed, left_start}
use Rattle.headers.specs.SessionExpires.{refresher_in}
use Rattle.headers.proofs.ExpiresLaws.{is_uac_lem, is_uas_lem, is_other_lem, parts_done}
use Rattle.headers.proofs.session_timer.find_refresher.Goals as goal
use Rattle.headers.proofs.session_timer.find_refresher.Goals.{In-Some}

-- the parts that are left: the one of this turn, and those after it
left : (c : In-Some) → texts (pieces_left (split (is 59)) c.loop-p.p-iterator.text.now c.loop-p.p-iterator.at)
    ≡ c.in-Some.p.text.now ∷ texts (pieces_left (split (is 59)) c.next.new.self.text.now c.next.new.self.at)
left c = ap texts c.in-Some.ensures.steps

pub loop-p-init : goal.loop-p-init
loop-p-init c =
    ap refresher_in (sym (
    ap texts (rw c.into_iter-p-iterator.ensures.into_iter_gives c.from-p-items.ensures)
    ∙ texts_placed 0 _
    ∙ left_start (split (is 59)) c.args.parts.now
    ))

pub returns-then-same_text : goal.returns-then-same_text
returns-then-same_text c = sym (c.loop-p.invariant ∙ is_uac_lem _ _ _ _ (left (goal.at.returns-then-same_text c).In-Some) c.trim-part.ensures (sym c.same_text.ensures ∙ c.if-same_text.true))

pub returns-then-same_text-2 : goal.returns-then-same_text-2
returns-then-same_text-2 c =
    sym (c.loop-p.invariant ∙ is_uas_lem _ _ _ _ (left (goal.at.returns-then-same_text-2 c).In-Some) c.trim-part.ensures (sym c.same_text.ensures ∙ c.if-same_text.false) (sym c.same_text-in-loop-p.ensures ∙ c.if-same_text-2.true))

pub loop-p-preserved : goal.loop-p-preserved
loop-p-preserved c =
    c.loop-p.invariant ∙ is_other_lem _ _ _ _ (left (goal.at.loop-p-preserved c).In-Some) c.trim-part.ensures (sym c.same_text.ensures ∙ c.if-same_text.false) (sym c.same_text-in-loop-p.ensures ∙ c.if-same_text-2.false)

pub returns : goal.returns
returns c = sym (c.loop-p.invariant ∙ parts_done _ (ap texts c.in-None.ensures.steps.0))
