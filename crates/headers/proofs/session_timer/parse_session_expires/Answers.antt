-- `headers::parse_session_expires` meets its contract: the causes in their order, then the interval. Assumes nothing.
use borrow.Author.Rules.{rules}
use mathlib.Core.Path.{◌≡◌, sym, ap, ◌∙◌}
use Rattle.std.specs.Prelude.{Ok}
use Rattle.limits.proofs.Laws.{passed, stopped}
use Rattle.limits.specs.Limits.{rust_limits}
use Rattle.text.specs.Answers.{value_cause}
use Rattle.headers.specs.SessionExpires.{session_expires, parse_expires, expires_answer}
use Rattle.headers.proofs.ExpiresLaws.{answer_is}
use Rattle.headers.proofs.session_timer.parse_session_expires.Goals as goal
use Rattle.headers.proofs.session_timer.parse_session_expires.Goals.{In_ok-check_value}

-- past the check, the interval of the value
clear : (c : In_ok-check_value) → parse_expires rust_limits c.args.value.now ≡ Ok (session_expires c.args.value.now)
unfolding parse_expires
clear c = rw (passed (value_cause rust_limits c.args.value.now) (sym c.check_value.ensures ∙ c.in_ok-check_value.was))

pub returns-in_err-check_value : goal.returns-in_err-check_value
unfolding parse_expires
returns-in_err-check_value c = rw (stopped (value_cause rust_limits c.args.value.now) (sym c.check_value.ensures ∙ c.in_err-check_value.was)) (search rules)

pub returns : goal.returns
returns c = ap Ok c.read_expires.ensures ∙ sym (answer_is _) ∙ ap expires_answer (sym (clear (goal.at.returns c).In_ok-check_value))
