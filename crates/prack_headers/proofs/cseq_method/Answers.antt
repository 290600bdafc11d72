-- `prack_headers::cseq_method` meets its contract: the method of the value's second word. Assumes nothing.
use mathlib.Core.Path.{ap, ◌∙◌}
use Rattle.methods.specs.Methods.{method_from, method_of}
use Rattle.prack_headers.specs.Sequence.{cseq_name}
use Rattle.words.specs.Words.{word_at}
use Rattle.prack_headers.proofs.ReadingLaws.{value_text_lem}
use Rattle.words.proofs.WordLaws.{next_word}
use Rattle.prack_headers.proofs.cseq_method.Goals as goal

pub returns : goal.returns
returns c = c.method_of.ensures ∙ ap (λ s. method_from (method_of s)) (c.word.ensures ∙ next_word _ _ 0 c.after_word-rest.ensures ∙ ap (word_at 1) ((c.header_value-value.ensures.result_value) ∙ value_text_lem cseq_name _))
