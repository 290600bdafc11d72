-- `text::Segments` gives the segments one after another: the first of those that are left is the one that the cut says. Assumes nothing.
use borrow.Author.Rules.{rules}
use mathlib.Core.Path.{ap}
use lib.ListN.{length}
use Rattle.text.proofs.SegmentLaws.{pieces_done, pieces_cons}
use Rattle.text.proofs.segments.SegmentsIterator.next.Goals as goal

pub returns-then-self-at-clause-steps : goal.returns-then-self-at-clause-steps
returns-then-self-at-clause-steps g c =
    let s = c.args.self.now in
    let e = pieces_done (g.C.Cut.segments s.cut) s.text.now s.at c.if-self-at.true in
    (e, e)

pub returns-clause-steps : goal.returns-clause-steps
returns-clause-steps g c =
    let s = c.args.self.now in
    pieces_cons (g.C.Cut.segments s.cut) s.text.now s.at c.first-n.result c.if-self-at.false c.first-n.ensures

pub returns-clause-goes : goal.returns-clause-goes
returns-clause-goes g c =
    let s = c.args.self.now in
    let e = ap length (pieces_cons (g.C.Cut.segments s.cut) s.text.now s.at c.first-n.result c.if-self-at.false c.first-n.ensures) in
    search rules
