-- `uri::with_host` meets its contract. Assumes nothing.
use Rattle.uri.proofs.Parts.{host_unread, port_unread, tail_bad, parts_read}
use Rattle.uri.specs.SipUri.{uri_from}
use borrow.Author.Tests.{not-true, not-false}
use mathlib.Core.Path.{sym, ap, ◌∙◌}
use Rattle.uri.proofs.with_host.Goals as goal

pub returns-in_err-n : goal.returns-in_err-n
returns-in_err-n c = c.from_residual.ensures ∙ ap uri_from (sym (host_unread c.args.secure c.args.s.now c.args.at c.args.user (sym c.read_host.ensures.value ∙ c.in_err-n.was)))

pub returns-in_default : goal.returns-in_default
returns-in_default c = ap uri_from (sym (port_unread c.args.secure c.args.s.now c.args.at c.args.user _ (sym c.read_host.ensures.value ∙ c.in_ok-n.was) (sym c.after_host.ensures ∙ c.in_default.is)))

pub returns-then-not-all_of : goal.returns-then-not-all_of
returns-then-not-all_of c = ap uri_from (sym (tail_bad c.args.secure c.args.s.now c.args.at c.args.user _ (sym c.read_host.ensures.value ∙ c.in_ok-n.was) (sym c.all_of.ensures ∙ not-true _ c.if-not-all_of.true-raw)))

pub returns : goal.returns
returns c = parts_read c.args.secure c.args.s.now c.args.at c.args.user _ (sym c.read_host.ensures.value ∙ c.in_ok-n.was) _ c.requires.1 (sym c.after_host.ensures ∙ c.in-Some.is) (sym c.all_of.ensures ∙ not-false _ c.if-not-all_of.false-raw)
