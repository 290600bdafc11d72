-- `route_set::route` meets its contract: the count first, then the route at the index from either end. Assumes nothing.
use mathlib.Core.Path.{sym, ◌∙◌}
use Rattle.std.proofs.lemmas.Result.{err_from_is_err_and}
use Rattle.route_set.proofs.CountLaws.{counted, count_refused, past_routes, route_forward, route_backward}
use native.Mathlib.Omega.{arith}
use Rattle.route_set.proofs.routes.route.Goals as goal
use Rattle.route_set.proofs.routes.route.Goals.{then-reversed, else-reversed}

pub returns-then-n-index : goal.returns-then-n-index
returns-then-n-index c = past_routes c.args.block.now _ c.args.index (counted c.args.block.now _ (sym c.route_count.ensures ∙ c.in_ok-n.was)) c.args.reversed c.if-n-index.true

pub returns-in_err-n : goal.returns-in_err-n
returns-in_err-n c =
    let p = err_from_is_err_and c.from_residual.result c.from_residual.ensures.1 in
    rw (p.1, p.2) (count_refused c.args.reversed c.args.block.now c.args.index _ (sym c.route_count.ensures ∙ c.in_err-n.was))

pub returns : goal.returns
returns c =
    let k = counted c.args.block.now _ (sym c.route_count.ensures ∙ c.in_ok-n.was) in
    elim c.if-reversed.branch [
      | then-reversed w ↦ rw w.if-reversed.true (c.nth_route.ensures ∙ rw w.at-is (route_backward c.args.block.now _ c.args.index k (omega arith)))
      | else-reversed w ↦ rw w.if-reversed.false (c.nth_route.ensures ∙ rw w.at-is (route_forward c.args.block.now _ c.args.index k (omega arith)))
    ]
