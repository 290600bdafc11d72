-- `prack_headers::cseq_at` meets its contract: the number of the first word of the line's value; where there is no line, an empty text has none. Assumes nothing.
use mathlib.Core.Path.{◌≡◌, refl, ◌∙◌}
use mathlib.Core.List.{[]}
use Rattle.std.specs.Prelude.{None}
use Rattle.text.specs.Number.{number_from, read_number, digits_below}
use Rattle.text.specs.Text.{words, split, filled}
use Rattle.words.specs.Words.{word_at}
use Rattle.prack_headers.proofs.cseq_at.Goals as goal

-- an empty text has no number
empty : None ≡ number_from (read_number 32 (word_at 0 []))
unfolding words split filled digits_below
empty = refl

pub returns-in_err-v : goal.returns-in_err-v
returns-in_err-v c = c.from_residual.ensures ∙ rw c.in_err-v.was empty
