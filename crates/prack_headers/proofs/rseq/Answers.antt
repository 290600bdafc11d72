-- `prack_headers::rseq` meets its contract: the number of the value's text. Assumes nothing.
use mathlib.Core.Path.{ap, ◌∙◌}
use Rattle.text.specs.Number.{number_from, read_number}
use Rattle.prack_headers.specs.Sequence.{rseq_name}
use Rattle.prack_headers.proofs.ReadingLaws.{value_text_lem}
use Rattle.prack_headers.proofs.rseq.Goals as goal

pub returns : goal.returns
returns c = c.read_u32.ensures ∙ ap (λ s. number_from (read_number 32 s)) ((c.header_value.ensures.result_value) ∙ value_text_lem rseq_name _)
