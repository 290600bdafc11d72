-- `rack::parse_rack` meets its contract: the value's causes, then what its words say. Assumes nothing.
use borrow.Author.Rules.{rules}
use mathlib.Core.Path.{sym, ap}
use Rattle.limits.specs.Limits.{rust_limits}
use Rattle.rack.specs.RAck.{read_rack, rack_answer}
use Rattle.rack.proofs.RAckLaws.{stopped_parse, bad_parse, done_parse, no_rack_lem, some_rack}
use Rattle.rack.proofs.parse_rack.Goals as goal

pub returns-in_err-check_value : goal.returns-in_err-check_value
returns-in_err-check_value c = rw (stopped_parse rust_limits _ c.check_value.ensures c.in_err-check_value.was) (search rules)

pub returns-in_default : goal.returns-in_default
returns-in_default c = ap rack_answer (sym (bad_parse rust_limits _ c.check_value.ensures c.in_ok-check_value.was (no_rack_lem (read_rack c.args.value.now) c.read_rack.ensures c.in_default.is)))

pub returns : goal.returns
returns c = ap rack_answer (sym (done_parse rust_limits _ c.check_value.ensures c.in_ok-check_value.was (some_rack (read_rack c.args.value.now) c.read_rack.ensures c.in-Some.is)))
