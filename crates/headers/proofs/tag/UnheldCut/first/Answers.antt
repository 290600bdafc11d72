use Rattle.headers.proofs.SegmentLaws.{first_cuts}
use Rattle.headers.proofs.tag.UnheldCut.first.Goals as goal

pub returns : goal.returns
returns c = first_cuts c.args.s.now _ c.segment_length.ensures.value
