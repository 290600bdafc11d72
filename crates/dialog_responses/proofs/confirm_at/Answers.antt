-- `dialog_responses::confirm_at` meets its contract: by what the measuring of the routes says. Assumes nothing.
use native.Mathlib.Omega.{arith}
use Prim.Native.Nat.{ℕ}
use mathlib.Core.Path.{◌≡◌, sym, ap, ◌∙◌}
use mathlib.Core.List.{List}
use lib.ListN.{length, take}
use Rattle.std.proofs.lemmas.Result.{IfOk-at_ok}
use Rattle.limits.specs.Limits.{rust_limits}
use Rattle.output.specs.Output.{fitted}
use Rattle.record.specs.Changes.{with_numbers, with_routes}
use Rattle.record.specs.NumbersForm.{meaning}
use Rattle.record.specs.Record.{Record}
use Rattle.image_edit.specs.Changes.{changed}
use Rattle.image_edit.proofs.ImageCuts.{stands_held}
use Rattle.route_set.specs.Routes.{routes_of}
use Rattle.route_section.specs.Measured.{MeasuredIn, counted_in}
use Rattle.routes_edit.specs.Rerouted.{renewed_by}
use Rattle.dialog_rules.specs.Updates.{retargeted, routes_or}
use Rattle.store_steps.proofs.PlaceLaws.{changed_as, result_as}
use Rattle.dialog_responses.proofs.ResponseLaws.{no_routes, empty_routes, some_routes}
use Rattle.dialog_responses.proofs.confirm_at.Goals as goal
use Rattle.dialog_responses.proofs.confirm_at.Goals.{in_default-via-in-Ok+else-peer-ne0, in_default-via-in_default}

pub returns-in-Ok : goal.returns-in-Ok
returns-in-Ok c =
    let a = c.args in
    let s = take a.p.used a.bytes.now in
    let x = meaning a.numbers in
    let some : c.in-Ok.peer.count ≡ 0 → ⊥ = λ (q : c.in-Ok.peer.count ≡ 0). omega arith in
    let o = routes_of rust_limits a.block.now in
    let h = stands_held a.bytes.now a.p (λ i. (c.slice_known-1.given i).fits) c.requires.stands in
    let f : Record → Record = λ v. retargeted a.block.now (with_numbers x (with_routes (routes_or v.routes o) v)) in
    let b : c.in-Ok.peer.block.now ≡ a.block.now = (IfOk-at_ok (MeasuredIn a.block.now) c.in-Ok.is c.measure_routes.ensures.measured).0 in
    let g : Record → Record = λ v. retargeted a.block.now (renewed_by x (routes_of rust_limits c.in-Ok.peer.block.now) v) in
    let old : _ × _ = result_as a.bytes.now (fitted (length a.bytes.now) (changed f a.p.at s)) (fitted (length a.bytes.now) (changed g a.p.at s)) c.revise.result c.revise.new.bytes
    (ap (fitted (length a.bytes.now)) (changed_as s a.p.at a.p.record h f g (ap (retargeted a.block.now) (some_routes o x h.value (sym c.measure_routes.ensures.value ∙ ap counted_in c.in-Ok.is) some ∙ ap (λ (l : List ℕ). renewed_by x (routes_of rust_limits l) h.value) (sym b)))))
    (c.revise.ensures.value, c.revise.ensures.bytes_after) in
    record { value = old.0; bytes_after = old.1 }

pub returns-in_default : goal.returns-in_default
returns-in_default c =
    let a = c.args in
    let s = take a.p.used a.bytes.now in
    let x = meaning a.numbers in
    let o = routes_of rust_limits a.block.now in
    let h = stands_held a.bytes.now a.p (λ i. (c.slice_known-1.given i).fits) c.requires.stands in
    let f : Record → Record = λ v. retargeted a.block.now (with_numbers x (with_routes (routes_or v.routes o) v)) in
    let g : Record → Record = λ v. retargeted a.block.now (with_numbers x v) in
    let kept : with_numbers x (with_routes (routes_or h.value.routes o) h.value) ≡ with_numbers x h.value =
    elim c.in_default.branch [
      | in_default-via-in-Ok+else-peer-ne0 w ↦ empty_routes o x h.value (sym c.measure_routes.ensures.value ∙ ap counted_in w.in-Ok.is) (omega (arith, w.if-peer-ne0.false))
      | in_default-via-in_default w ↦ no_routes o x h.value (sym c.measure_routes.ensures.value ∙ ap counted_in w.in_default.is)
    ] in
    let old : _ × _ = result_as a.bytes.now (fitted (length a.bytes.now) (changed f a.p.at s)) (fitted (length a.bytes.now) (changed g a.p.at s)) c.revise-in_default.result c.revise-in_default.new.bytes
    (ap (fitted (length a.bytes.now)) (changed_as s a.p.at a.p.record h f g (ap (retargeted a.block.now) kept)))
    (c.revise-in_default.ensures.value, c.revise-in_default.ensures.bytes_after) in
    record { value = old.0; bytes_after = old.1 }
