-- `uri::read_uri` meets its contract. Assumes nothing.
use Rattle.uri.proofs.Parts.{scheme_fits, scheme_none, scheme_read}
use Rattle.uri.specs.SipUri.{uri_from}
use mathlib.Core.Path.{sym, ap, ◌∙◌}
use Rattle.uri.proofs.read_uri.Goals as goal

pub returns-in_err-at : goal.returns-in_err-at
returns-in_err-at c = c.from_residual.ensures ∙ ap uri_from (sym (scheme_none c.args.s.now (sym c.scheme_length.ensures ∙ c.in_err-at.was)))

pub with_user-requires : goal.with_user-requires
with_user-requires c = scheme_fits c.args.s.now _ _ (sym c.scheme_length.ensures ∙ c.in_ok-at.was)

pub returns : goal.returns
returns c = c.with_user.ensures ∙ ap uri_from (sym (scheme_read c.args.s.now _ _ (sym c.scheme_length.ensures ∙ c.in_ok-at.was)))
