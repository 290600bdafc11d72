-- `route_set::read_element` meets its contract: the URI's bytes stand in the element. Assumes nothing.
use mathlib.Core.Path.{sym, ap, ◌∙◌}
use Rattle.std.specs.Prelude.{◌+◌, List, ℕ, Ok, Some}
use Rattle.route_set.proofs.ElementLaws.{element_route}
use Rattle.route_set.proofs.routes.read_element.Goals as goal

pub returns : goal.returns
returns c =
    ap (λ (t : List ℕ). Ok (Some (record { place = c.args.e.place + c.in-Some.u.start; text = t }))) c.text.ensures
    ∙ element_route c.args.e.text.now c.args.e.place _ _ (sym c.header_uri.ensures.value ∙ c.in-Some.is) (sym c.over_estimate.ensures ∙ c.if-over_estimate.false)
