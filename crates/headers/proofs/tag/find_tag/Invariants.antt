use mathlib.Core.Path.{◌≡◌}
use Rattle.text.specs.Segments.{pieces_left}
use Rattle.headers.specs.Tag.{tag_segments, tag_of}
use Rattle.headers.proofs.TagLaws.{tag_among}
use Rattle.headers.proofs.tag.find_tag.Given as goal

abbrev pub invariant-loop-g : goal.invariant-loop-g
invariant-loop-g l = tag_of l.value ≡ tag_among (pieces_left tag_segments l.g-iterator.text.now l.g-iterator.at)
