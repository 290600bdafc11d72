use mathlib.Core.Path.{◌≡◌}
use Rattle.text.specs.Text.{is, split}
use Rattle.text.specs.Segments.{pieces_left}
use Rattle.text.proofs.SegmentLaws.{texts}
use Rattle.headers.specs.SessionExpires.{refresher_in}
use Rattle.headers.proofs.session_timer.find_refresher.Given as goal

abbrev pub invariant-loop-p : goal.invariant-loop-p
invariant-loop-p l = refresher_in (split (is 59) l.parts) ≡ refresher_in (texts (pieces_left (split (is 59)) l.p-iterator.text.now l.p-iterator.at))
