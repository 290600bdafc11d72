-- `words::word` meets its contract. Assumes nothing.
use mathlib.Core.Path.{◌∙◌}
use Rattle.words.proofs.WordLaws.{word_is}
use Rattle.words.proofs.word.Goals as goal

pub returns : goal.returns
returns c = c.text.ensures ∙ word_is _ _ _ c.first_word.ensures.value
