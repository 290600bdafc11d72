-- `dialog_responses::response_at` meets its contract: by whether the response confirms the record. Assumes nothing.
use mathlib.Core.Path.{◌≡◌, sym, ap, ◌∙◌}
use mathlib.Core.Bool.{true, false}
use lib.ListN.{length, take}
use Rattle.std.specs.Prelude.{Ok}
use Rattle.limits.specs.Limits.{rust_limits}
use Rattle.output.specs.Output.{fitted}
use Rattle.record.specs.Changes.{with_numbers, with_routes}
use Rattle.record.specs.NumbersForm.{meaning}
use Rattle.record.specs.Record.{Numbers, Record}
use Rattle.image_edit.specs.Changes.{changed}
use Rattle.image_edit.proofs.ImageCuts.{stands_held}
use Rattle.route_set.specs.Routes.{routes_of}
use Rattle.dialog_rules.specs.Updates.{retargeted, confirms, routes_or, confirmed_by, answered, response_update}
use Rattle.store_steps.specs.AtPlace.{stepped}
use Rattle.store_steps.proofs.PlaceLaws.{numbers_read, stepped_given, result_as}
use Rattle.dialog_responses.proofs.ResponseLaws.{confirming_step, other_step}
use Rattle.dialog_responses.proofs.response_at.Goals as goal

pub returns-then-confirming : goal.returns-then-confirming
returns-then-confirming c =
    let a = c.args in
    let s = take a.p.used a.bytes.now in
    let h = stands_held c.args.bytes.now c.args.p (λ i. (c.slice_known-1.given i).fits) c.requires.stands in
    let x = meaning c.confirmed_by-x.result in
    let block = a.response.block.now in
    let numbers : meaning a.p.record.numbers ≡ h.value.numbers = numbers_read s a.p.at a.p.record h in
    let is : x ≡ answered a.response.status block h.value.numbers = c.confirmed_by-x.ensures ∙ ap (confirmed_by a.response.status) c.with_interval.ensures ∙ ap (answered a.response.status block) numbers in
    let test : confirms a.response.status h.value.numbers.state ≡ true = ap (λ (y : Numbers). confirms a.response.status y.state) (sym numbers) ∙ sym c.confirming.ensures ∙ c.if-confirming.true in
    let f : Record → Record = λ v. retargeted block (with_numbers x (with_routes (routes_or v.routes (routes_of rust_limits block)) v)) in
    let e : response_update rust_limits a.response.status block h.value ≡ f h.value = confirming_step rust_limits a.response.status block h.value test ∙ ap (λ (y : Numbers). retargeted block (with_numbers y (with_routes (routes_or h.value.routes (routes_of rust_limits block)) h.value))) (sym is) in
    let old : _ × _ = result_as a.bytes.now (stepped (λ v. Ok (response_update rust_limits a.response.status block v)) (length a.bytes.now) a.p.at s) (fitted (length a.bytes.now) (changed f a.p.at s)) c.confirm_at.result c.confirm_at.new.bytes
    (stepped_given s a.p.at a.p.record h (λ v. Ok (response_update rust_limits a.response.status block v)) (length a.bytes.now) f (ap Ok e))
    (c.confirm_at.ensures.value, c.confirm_at.ensures.bytes_after) in
    record { value = old.0; bytes_after = old.1 }

pub returns : goal.returns
returns c =
    let a = c.args in
    let s = take a.p.used a.bytes.now in
    let h = stands_held c.args.bytes.now c.args.p (λ i. (c.slice_known-1.given i).fits) c.requires.stands in
    let x = meaning c.confirmed_by-x.result in
    let block = a.response.block.now in
    let numbers : meaning a.p.record.numbers ≡ h.value.numbers = numbers_read s a.p.at a.p.record h in
    let is : x ≡ answered a.response.status block h.value.numbers = c.confirmed_by-x.ensures ∙ ap (confirmed_by a.response.status) c.with_interval.ensures ∙ ap (answered a.response.status block) numbers in
    let test : confirms a.response.status h.value.numbers.state ≡ false = ap (λ (y : Numbers). confirms a.response.status y.state) (sym numbers) ∙ sym c.confirming.ensures ∙ c.if-confirming.false in
    let f : Record → Record = λ v. retargeted block (with_numbers x v) in
    let e : response_update rust_limits a.response.status block h.value ≡ f h.value = other_step rust_limits a.response.status block h.value test ∙ ap (λ (y : Numbers). retargeted block (with_numbers y h.value)) (sym is) in
    let old : _ × _ = result_as a.bytes.now (stepped (λ v. Ok (response_update rust_limits a.response.status block v)) (length a.bytes.now) a.p.at s) (fitted (length a.bytes.now) (changed f a.p.at s)) c.revise.result c.revise.new.bytes
    (stepped_given s a.p.at a.p.record h (λ v. Ok (response_update rust_limits a.response.status block v)) (length a.bytes.now) f (ap Ok e))
    (c.revise.ensures.value, c.revise.ensures.bytes_after) in
    record { value = old.0; bytes_after = old.1 }
