-- `dialog_creation::make` meets its contract: 4, 5, 7, the causes of the routes and the numbers, and then the image. Assumes nothing.
use native.Mathlib.Omega.{arith}
use mathlib.Core.Path.{◌≡◌, refl, sym, subst, ◌∙◌}
use Prim.Native.Nat.{ℕ, ◌≤◌}
use mathlib.Core.List.{List}
use lib.ListN.{length}
use Rattle.std.specs.Prelude.{Result, Some}
use Rattle.std.proofs.lemmas.Result.{err_from_is_err_and}
use Rattle.limits.specs.declared.Refusal.{Refusal}
use Rattle.limits.specs.declared.Refusal.TheVariants.{MissingHeader, InvalidStatus}
use Rattle.dialog_rules.specs.Creation.{state_by}
use Rattle.creation_readings.specs.Steps.{first_state}
use Rattle.output.specs.Output.{leaves, written_from}
use Rattle.dialog_creation.proofs.MadeLaws.{refusal, Named, named, id_fits, peer_short, target_short, no_identifier, no_state, over_estimate_lem, rest_refused, image_is, given_part, absent_part}
use Rattle.dialog_creation.proofs.make.Goals as goal
use Rattle.dialog_creation.proofs.make.Given.{Over}
use Rattle.dialog_creation.proofs.make.Goals.{After-peer_block-peer, In_ok-id, In_ok-state}

-- the identifier that was read
id_named : (g : Over) (c : In_ok-id g) → Named g.S.Side.WE_ARE_UAC c.args.c.response.block.now c.in_ok-id.id
id_named g c = named g.S.Side.WE_ARE_UAC c.args.c.response.block.now c.in_ok-id.id (sym c.identifier.ensures ∙ given_part _ _ (sym c.ok_or.ensures.value ∙ c.in_ok-id.was))

-- the state by the status
state_read : (g : Over) (c : In_ok-state g) → first_state (state_by c.args.c.response.status) ≡ Some c.in_ok-state.state
state_read g c = sym c.state_for.ensures ∙ given_part _ _ (sym c.ok_or-2.ensures.value ∙ c.in_ok-state.was)

-- the message with Contact and Record-Route is short
peer_fits : (g : Over) (c : After-peer_block-peer g) → length c.peer_block-peer.result.now ≤ 8192
peer_fits g c = peer_short g.S.Side.WE_ARE_UAC c.args.c.request.block.now c.args.c.response.block.now c.peer_block-peer.ensures c.requires.0 c.requires.1

pub returns-in_err-id : goal.returns-in_err-id
returns-in_err-id g c =
    let a = c.args in
    let k : _ × _ = absent_part _ MissingHeader (sym c.ok_or.ensures.value ∙ c.in_err-id.was) in
    let p = err_from_is_err_and c.from_residual.result c.from_residual.ensures.1 in
    let old : _ × _ = refusal a.out.now (no_identifier g.S.Side.WE_ARE_UAC a.c (length a.out.now) (sym c.identifier.ensures ∙ k.0)) in
    record { value = rw (p.1, p.2, ← k.1) old.0; out_after = old.1 }

pub returns-in_err-state : goal.returns-in_err-state
returns-in_err-state g c =
    let a = c.args in
    let k : _ × _ = absent_part _ InvalidStatus (sym c.ok_or-2.ensures.value ∙ c.in_err-state.was) in
    let p = err_from_is_err_and c.from_residual-in_err-state.result c.from_residual-in_err-state.ensures.1 in
    let old : _ × _ = refusal a.out.now (no_state g.S.Side.WE_ARE_UAC a.c (length a.out.now) c.in_ok-id.id (id_named g (goal.at.returns-in_err-state g c).In_ok-id) (sym c.state_for.ensures ∙ k.0)) in
    record { value = rw (p.1, p.2, ← k.1) old.0; out_after = old.1 }

pub returns-in_err-check_estimates : goal.returns-in_err-check_estimates
returns-in_err-check_estimates g c =
    let a = c.args in
    let old : _ × _ = refusal a.out.now (over_estimate_lem g.S.Side.WE_ARE_UAC a.c (length a.out.now) c.in_ok-id.id (id_named g (goal.at.returns-in_err-check_estimates g c).In_ok-id) c.in_ok-state.state (state_read g (goal.at.returns-in_err-check_estimates g c).In_ok-state) c.peer_block-peer.result.now c.target-target.result.now c.peer_block-peer.ensures (c.target-target.ensures.result_value) (sym c.check_estimates.ensures ∙ c.in_err-check_estimates.was)) in
    let p = err_from_is_err_and c.from_residual-in_err-check_estimates.result c.from_residual-in_err-check_estimates.ensures.1 in
    record { value = rw (p.1, p.2) old.0; out_after = old.1 }

pub texts-id-requires : goal.texts-id-requires
texts-id-requires g c =
    let a = c.args in
    id_fits g.S.Side.WE_ARE_UAC a.c.response.block.now c.in_ok-id.id (id_named g (goal.at.texts-id-requires g c).In_ok-id)

pub invariant_of-uris : goal.invariant_of-uris
invariant_of-uris g c =
    let h = c.requires in
    let t = target_short c.args.c.remote_uri.now c.peer_block-peer.result.now (c.target-target.ensures.result_value) h.3 (peer_fits g (goal.at.invariant_of-uris g c).After-peer_block-peer) in
    record { short = (omega arith, omega arith, omega arith) }

pub returns-in_err-numbers : goal.returns-in_err-numbers
returns-in_err-numbers g c =
    let a = c.args in
    let old : _ × _ = refusal a.out.now (rest_refused g.S.Side.WE_ARE_UAC a.c (length a.out.now) c.in_ok-id.id (id_named g (goal.at.returns-in_err-numbers g c).In_ok-id) c.in_ok-state.state (state_read g (goal.at.returns-in_err-numbers g c).In_ok-state) c.peer_block-peer.result.now c.target-target.result.now c.peer_block-peer.ensures (c.target-target.ensures.result_value) (sym c.check_estimates.ensures ∙ c.in_ok-check_estimates.was) c.read_rest.result c.read_rest.ensures.value c.in_err-numbers.was) in
    let p = err_from_is_err_and c.from_residual-in_err-numbers.result c.from_residual-in_err-numbers.ensures.1 in
    record { value = rw (p.1, p.2) old.0; out_after = old.1 }

pub returns : goal.returns
returns g c =
    let a = c.args in
    let h = c.requires in
    let t = target_short a.c.remote_uri.now c.peer_block-peer.result.now (c.target-target.ensures.result_value) h.3 (peer_fits g (goal.at.returns g c).After-peer_block-peer) in
    let old : _ × _ = subst (λ (o : Result (List ℕ) Refusal). (c.write_image.result ≡ written_from o) × (c.write_image.new.out ≡ leaves o a.out.now))
    (sym (image_is g.S.Side.WE_ARE_UAC a.c (length a.out.now) c.in_ok-id.id (id_named g (goal.at.returns g c).In_ok-id) c.in_ok-state.state (state_read g (goal.at.returns g c).In_ok-state) c.peer_block-peer.result.now c.target-target.result.now c.peer_block-peer.ensures (c.target-target.ensures.result_value) (sym c.check_estimates.ensures ∙ c.in_ok-check_estimates.was) c.read_rest.result c.read_rest.ensures.value c.in_ok-numbers.numbers c.in_ok-numbers.routes c.in_ok-numbers.was c.texts-id.result (record { target = c.target-target.result; local_uri = a.c.local_uri; remote_uri = a.c.remote_uri; short = (omega arith, omega arith, omega arith) }) c.in_ok-numbers.ensures.measured.0 c.texts-id.ensures refl))
    (c.write_image.ensures.value, c.write_image.ensures.out_after) in
    record { value = old.0; out_after = old.1 }
