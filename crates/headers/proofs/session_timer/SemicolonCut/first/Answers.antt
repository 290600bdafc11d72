use Rattle.text.specs.Text.{is}
use Rattle.text.proofs.Words.{split_cuts}
use Rattle.headers.proofs.session_timer.SemicolonCut.first.Goals as goal

pub returns : goal.returns
returns c = split_cuts (is 59) c.args.s.now _ c.run_length.ensures.value
