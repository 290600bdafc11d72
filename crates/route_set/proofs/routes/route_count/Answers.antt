-- `route_set::route_count` meets its contract: the causes in their order, then what the scan says of the number. Assumes nothing.
use mathlib.Core.Path.{◌≡◌, sym, ap, ◌∙◌}
use Rattle.std.proofs.lemmas.Result.{err_from_is_err_and}
use Rattle.limits.proofs.Laws.{passed, stopped}
use Rattle.limits.specs.Limits.{rust_limits}
use Rattle.msg.specs.Block.{block_cause}
use Rattle.route_set.specs.Routes.{route_count, count_of}
use Rattle.route_set.proofs.CountLaws.{number_in, count_clear, count_stopped}
use Rattle.route_set.proofs.routes.route_count.Goals as goal
use Rattle.route_set.proofs.routes.route_count.Goals.{After-scan_routes}

-- past the check, the number that the scan says
said : (c : After-scan_routes) → route_count rust_limits c.args.block.now ≡ number_in c.scan_routes.result
said c = count_clear c.args.block.now (passed (block_cause rust_limits c.args.block.now) (sym c.check_block.ensures ∙ c.in_ok-check_block.was)) ∙ ap number_in (sym c.scan_routes.ensures)

pub returns-in_err-check_block : goal.returns-in_err-check_block
returns-in_err-check_block c =
    let p = err_from_is_err_and c.from_residual.result c.from_residual.ensures.1 in
    rw (p.1, p.2) (ap count_of (sym (count_stopped c.args.block.now _ (stopped (block_cause rust_limits c.args.block.now) (sym c.check_block.ensures ∙ c.in_err-check_block.was)))))

pub returns-in_err-n : goal.returns-in_err-n
returns-in_err-n c =
    let p = err_from_is_err_and c.from_residual-in_err-n.result c.from_residual-in_err-n.ensures.1 in
    rw (p.1, p.2) (ap count_of (sym (said (goal.at.returns-in_err-n c).After-scan_routes ∙ ap number_in c.in_err-n.was)))

pub returns : goal.returns
returns c = ap count_of (sym (said (goal.at.returns c).After-scan_routes ∙ ap number_in c.in_ok-n.was))
