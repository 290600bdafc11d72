-- `uri::uri_estimate` meets its contract: the causes in their order, then the estimate. Assumes nothing.
use Rattle.std.proofs.result.Match.{err_is}
use Rattle.std.specs.Prelude.{Ok}
use Rattle.uri.proofs.Laws.{Answered, answered, answer_refused, estimate_refused, estimate_over, estimate_given, over_is, size_is}
use Rattle.uri.specs.Steps.{size_of}
use Rattle.uri.specs.SipUri.{estimate_answer, read_uri}
use Rattle.limits.specs.Limits.{rust_limits}
use mathlib.Core.Path.{sym, ap, ◌∙◌}
use Rattle.uri.proofs.uri_estimate.Goals as goal
use Rattle.uri.proofs.uri_estimate.Goals.{In_ok-u}

-- the parts of the URI that was read
parts : (c : In_ok-u) → Answered (read_uri rust_limits c.args.s.now) c.in_ok-u.u
parts c = answered _ (sym c.sip_uri.ensures ∙ c.in_ok-u.was)

pub returns-in_err-u : goal.returns-in_err-u
returns-in_err-u c = err_is c.from_residual.result _ c.from_residual.ensures.1 ∙ ap estimate_answer (sym (estimate_refused rust_limits c.args.s.now (answer_refused _ (sym c.sip_uri.ensures ∙ c.in_err-u.was))))

pub returns-then-over_estimate : goal.returns-then-over_estimate
returns-then-over_estimate c =
    let r = parts (goal.at.returns-then-over_estimate c).In_ok-u in
    ap estimate_answer (sym (estimate_over rust_limits c.args.s.now r.parts r.reads (sym (c.over_estimate.ensures ∙ over_is r.parts r.told) ∙ c.if-over_estimate.true)))

pub returns : goal.returns
returns c =
    let r = parts (goal.at.returns c).In_ok-u in
    ap Ok (c.estimated_length.ensures ∙ ap size_of (sym r.told) ∙ size_is r.parts)
    ∙ ap estimate_answer (sym (estimate_given rust_limits c.args.s.now r.parts r.reads (sym (c.over_estimate.ensures ∙ over_is r.parts r.told) ∙ c.if-over_estimate.false)))
