-- `uri::parse_uri_from_header` meets its contract: the causes, then the URI's text. Assumes nothing.
use Rattle.std.proofs.lemmas.Result.{err_from_is_err_and}
use Rattle.std.specs.Prelude.{Ok, Some}
use Rattle.uri.proofs.Laws.{value_refused, value_given, found_at, not_found}
use Rattle.uri.specs.HeaderUri.{header_uri}
use Rattle.text.specs.Answers.{lookup_of, value_cause}
use Rattle.text.specs.declared.Span.{Span}
use Rattle.limits.specs.Limits.{rust_limits}
use Rattle.limits.proofs.Laws.{passed, stopped}
use mathlib.Core.Path.{sym, ap, ◌∙◌}
use Rattle.uri.proofs.parse_uri_from_header.Goals as goal

pub returns-in_err-check_value : goal.returns-in_err-check_value
returns-in_err-check_value c =
    let p = err_from_is_err_and c.from_residual.result c.from_residual.ensures.1 in
    rw (p.1, p.2) (ap lookup_of (sym (value_refused rust_limits c.args.value.now (stopped (value_cause rust_limits c.args.value.now) (sym c.check_value.ensures ∙ c.in_err-check_value.was)))))

pub returns-in_default : goal.returns-in_default
returns-in_default c = ap lookup_of (sym (value_given rust_limits c.args.value.now (passed (value_cause rust_limits c.args.value.now) (sym c.check_value.ensures ∙ c.in_ok-check_value.was)) (not_found _ (sym c.header_uri.ensures.value ∙ c.in_default.is))))

pub returns : goal.returns
returns c =
    let r = found_at (header_uri c.args.value.now) (sym c.header_uri.ensures.value ∙ c.in-Some.is) in
    ap (λ (x : Span). Ok (Some x)) (sym r.place) ∙ ap lookup_of (sym (value_given rust_limits c.args.value.now (passed (value_cause rust_limits c.args.value.now) (sym c.check_value.ensures ∙ c.in_ok-check_value.was)) r.finds))
