use Prim.Native.Nat.{◌*◌, ◌≤◌}
use mathlib.Core.Path.{◌≡◌}
use mathlib.Core.Bool.{false}
use mathlib.Core.List.{◌++◌}
use Rattle.limits.specs.Limits.{rust_limits}
use Rattle.msg.specs.Lines.{values_ahead}
use Rattle.route_set.specs.Routes.{route_elements}
use Rattle.route_set.specs.Elements.{elements_ahead}
use Rattle.route_set.proofs.ScanLaws.{elements_among}
use Rattle.route_section.specs.Filling.{filled}
use Rattle.route_section.proofs.FillingLaws.{AllShort}
use Rattle.route_section.proofs.filling.fill_routes.Given as goal

abbrev pub invariant-loop-e : goal.invariant-loop-e
invariant-loop-e g l =
    (filled rust_limits g.O.Order.reversed (record { count = 0; size = 0; bytes = l.fn.out }) (route_elements l.block)
    ≡ filled rust_limits g.O.Order.reversed (record { count = l.count; size = l.size; bytes = l.out }) (elements_ahead l.e-iterator ++ elements_among (values_ahead l.v-iterator)))
    × (l.full ≡ false)
    × (l.count ≤ 50)
    × (l.size ≤ l.count * 8194)
    × AllShort 8192 (elements_ahead l.e-iterator)
    × AllShort 8192 (values_ahead l.v-iterator)

abbrev pub invariant-lines : goal.invariant-lines
invariant-lines g l =
    (filled rust_limits g.O.Order.reversed (record { count = 0; size = 0; bytes = l.fn.out }) (route_elements l.block)
    ≡ filled rust_limits g.O.Order.reversed (record { count = l.count; size = l.size; bytes = l.out }) (elements_among (values_ahead l.v-iterator)))
    × (l.full ≡ false)
    × (l.count ≤ 50)
    × (l.size ≤ l.count * 8194)
    × AllShort 8192 (values_ahead l.v-iterator)
