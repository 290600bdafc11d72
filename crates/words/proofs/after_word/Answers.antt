-- `words::after_word` meets its contract. Assumes nothing.
use Rattle.words.proofs.WordLaws.{rest_is}
use Rattle.words.proofs.after_word.Goals as goal

pub returns : goal.returns
returns c = rw c.end.ensures (rest_is _ _ _ c.first_word-w.ensures.value)
