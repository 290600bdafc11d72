use Prim.Native.Nat.{◌≤◌}
use mathlib.Core.Path.{◌≡◌}
use mathlib.Core.Bool.{false}
use Rattle.limits.specs.Limits.{rust_limits}
use Rattle.msg.specs.Lines.{values_ahead}
use Rattle.route_set.specs.Routes.{route_elements}
use Rattle.route_set.specs.Elements.{elements_ahead}
use Rattle.route_set.specs.Scan.{scan}
use Rattle.route_set.proofs.ScanLaws.{ahead, elements_among}
use Rattle.route_set.proofs.routes.scan_routes.Given as goal

abbrev pub invariant-loop-e : goal.invariant-loop-e
invariant-loop-e l =
    (scan rust_limits l.wanted 0 (route_elements l.block) ≡ scan rust_limits l.wanted l.held (ahead l.v.place (elements_ahead l.e-iterator) (elements_among (values_ahead l.v-iterator))))
    × (l.full ≡ false)
    × (l.held ≤ 50)

abbrev pub invariant-lines : goal.invariant-lines
invariant-lines l =
    (scan rust_limits l.wanted 0 (route_elements l.block) ≡ scan rust_limits l.wanted l.held (elements_among (values_ahead l.v-iterator)))
    × (l.full ≡ false)
    × (l.held ≤ 50)
