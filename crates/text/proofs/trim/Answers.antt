-- `text::trim` meets its contract. Assumes nothing.
use Rattle.text.proofs.Trimming.{trim_part}
use Rattle.text.proofs.trim.Goals as goal

pub returns : goal.returns
returns c = trim_part c.before.args.s.now _ _ c.leading-a.ensures.value c.text_end-e.ensures.value
