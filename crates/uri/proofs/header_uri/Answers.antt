-- `uri::header_uri` meets its contract: the part that is read is the text that was cut out. Assumes nothing.
use Rattle.uri.proofs.Laws.{uncut, cut_inside, cut_unread, cut_read}
use Rattle.uri.specs.HeaderUri.{header_uri_from}
use mathlib.Core.Path.{sym, ap, ◌∙◌}
use Rattle.uri.proofs.header_uri.Goals as goal

pub returns-in_err-part-clause-value : goal.returns-in_err-part-clause-value
returns-in_err-part-clause-value c = c.from_residual.ensures ∙ ap header_uri_from (sym (uncut c.args.value.now (sym c.uri_text.ensures ∙ c.in_err-part.was)))

pub text-requires : goal.text-requires
text-requires c = cut_inside c.args.value.now _ (sym c.uri_text.ensures ∙ c.in_ok-part.was)

pub returns-in_default-clause-value : goal.returns-in_default-clause-value
returns-in_default-clause-value c = ap header_uri_from (sym (cut_unread c.args.value.now _ (sym c.uri_text.ensures ∙ c.in_ok-part.was) _ c.text.ensures (sym c.read_uri.ensures ∙ c.in_default.is)))

pub returns-clause-value : goal.returns-clause-value
returns-clause-value c = sym (cut_read c.args.value.now _ (sym c.uri_text.ensures ∙ c.in_ok-part.was) _ c.text.ensures _ (sym c.read_uri.ensures ∙ c.in-Some.is))

pub returns-clause-inside : goal.returns-clause-inside
returns-clause-inside c = cut_inside c.args.value.now _ (sym c.uri_text.ensures ∙ c.in_ok-part.was)
