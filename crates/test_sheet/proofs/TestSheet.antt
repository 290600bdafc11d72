-- The twelve P lines of document 01's test sheet hold of the definitions: each is computed. Assumes nothing.
use mathlib.Core.Path.{refl}
use Rattle.text.specs.Text.{span, all, alike, split, filled, words, trimmed}
use Rattle.text.specs.Number.{value, digits_below}
use Rattle.msg.specs.Block.{line_at, lines_after, lines_from, first_named, full_in, block_cause}
use Rattle.headers.specs.Tag.{segments_in, is_tag, first_tag}
use Rattle.prack_headers.specs.Sequence.{read_in}
use Rattle.session_timer_manager.specs.Intervals.{negotiated}
use Rattle.record.specs.Rules.{request_step}
use Rattle.test_sheet.specs.Lines.{TestSheet}

pub test_sheet : TestSheet
unfolding request_step digits_below value all span alike split filled words trimmed line_at lines_after lines_from first_named full_in block_cause segments_in is_tag first_tag read_in negotiated
test_sheet = record {
  line1 = λ x. refl;
  line2 = λ x. refl;
  line3 = λ x. refl;
  line4 = λ x. refl;
  line5 = λ x. refl;
  line6 = refl;
  line7 = refl;
  line8 = refl;
  line9 = (refl, refl);
  line10 = refl;
  line11 = refl;
  line12 = refl;
  numbers = (refl, refl, refl, refl, refl);
}
