-- `uri::sip_uri` meets its contract: the causes in their order, then the parts. Assumes nothing.
use Rattle.std.proofs.result.Match.{err_is}
use Rattle.std.specs.Prelude.{Err, Ok}
use Rattle.uri.proofs.Laws.{read, given_long, given_unread, given_read}
use Rattle.uri.specs.SipUri.{uri_answer, sip_uri}
use Rattle.limits.specs.Limits.{rust_limits}
use Rattle.text.proofs.Lengths.{length_passed, length_stopped}
use mathlib.Core.Path.{sym, ap, ◌∙◌}
use Rattle.uri.proofs.sip_uri.Goals as goal

pub returns-in_err-check_length : goal.returns-in_err-check_length
returns-in_err-check_length c =
    let q = length_stopped rust_limits c.args.s.now (sym c.check_length.ensures ∙ c.in_err-check_length.was) in
    err_is c.from_residual.result _ c.from_residual.ensures.1 ∙ ap Err q.1 ∙ ap uri_answer (sym (given_long rust_limits c.args.s.now q.0))

pub returns-in_default : goal.returns-in_default
returns-in_default c = ap uri_answer (sym (given_unread rust_limits c.args.s.now (length_passed rust_limits c.args.s.now (sym c.check_length.ensures ∙ c.in_ok-check_length.was)) (sym c.read_uri.ensures ∙ c.in_default.is)))

pub returns : goal.returns
returns c =
    let r = read (sip_uri c.args.s.now) (sym c.read_uri.ensures ∙ c.in-Some.is) in
    ap Ok (sym r.told) ∙ ap uri_answer (sym (given_read rust_limits c.args.s.now (length_passed rust_limits c.args.s.now (sym c.check_length.ensures ∙ c.in_ok-check_length.was)) r))
