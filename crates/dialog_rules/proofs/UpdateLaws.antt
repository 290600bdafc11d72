-- What an update of a record keeps: the identifier, the side and the two URIs (and so the secure bit) always; the routes, but at the 2xx that
-- confirms an Early record; and the state never goes back. Assumes nothing.
use Prim.Native.Nat.{ℕ, ◌≤◌}
use native.Mathlib.Omega.{arith}
use mathlib.Core.Path.{◌≡◌, refl, sym, ap, subst}
use mathlib.Core.Bool.{Bool, true, false}
use mathlib.Core.List.{List}
use Rattle.limits.specs.declared.Refusal.{Refusal}
use Rattle.std.specs.Prelude.{Err, None, Ok, Option, Result, Some}
use Rattle.limits.specs.Limits.{LimitSet}
use Rattle.limits.specs.Outcome.{and_then, or_refuse}
use Rattle.limits.specs.declared.Refusal.TheVariants.{MissingHeader}
use Rattle.headers.specs.SessionExpires.{Interval, expires_named}
use Rattle.prack_headers.specs.Sequence.{cseq_number}
use Rattle.session_seconds.specs.Seconds.{seconds_cause}
use Rattle.record.specs.Record.{State, early, confirmed, terminated, Numbers, Record}
use Rattle.record.specs.Rules.{Kind, request_step, with_seconds, interval_step, confirm_step}
use Rattle.dialog_rules.specs.Updates.{retargeted, request_update, is_success, confirms, rerouted, interval_from, confirmed_by, answered, response_update, confirm_update, terminate_update, local_update, interval_update}
use Rattle.record.specs.Changes.{with_numbers}
use Rattle.dialog_rules.proofs.StepLaws.{given_same, never_given, Taken, moved, acknowledged, taken, rank, confirm_on, terminate_on}
use Rattle.dialog_rules.proofs.RefusalLaws.{passed_cause}

-- ---- what every update keeps

pub record Kept (r s : Record) : Type 0 where
  pub call_id : s.call_id ≡ r.call_id
  pub local_tag : s.local_tag ≡ r.local_tag
  pub remote_tag : s.remote_tag ≡ r.remote_tag
  pub we_are_uac : s.we_are_uac ≡ r.we_are_uac
  pub local_uri : s.local_uri ≡ r.local_uri
  pub remote_uri : s.remote_uri ≡ r.remote_uri
  pub state : rank r.numbers.state ≤ rank s.numbers.state

-- ---- requests

-- a taken request: its number, and what the step made of the record's numbers
pub record Request (L : LimitSet) (kind : Kind) (block : List ℕ) (r s : Record) : Type 0 where
  pub cseq : ℕ
  pub numbers : Numbers
  pub reads : cseq_number block ≡ Some cseq
  pub steps : request_step L kind cseq r.numbers ≡ Ok numbers
  pub becomes : s ≡ retargeted block (with_numbers numbers r)

pub request_taken : (L : LimitSet) (kind : Kind) (block : List ℕ) (r s : Record) → request_update L kind block r ≡ Ok s → Request L kind block r s
unfolding request_update
request_taken L kind block r s e = by (cseq_number block) refl e
  where
    by : (o : Option ℕ) → cseq_number block ≡ o → and_then (or_refuse MissingHeader o) (λ n. and_then (request_step L kind n r.numbers) (λ x. Ok (retargeted block (with_numbers x r)))) ≡ Ok s → Request L kind block r s
    by None p e = absurd (never_given e)
    by (Some n) p e = is (request_step L kind n r.numbers) refl e
      where
        is : (o : Result Numbers Refusal) → request_step L kind n r.numbers ≡ o → and_then o (λ x. Ok (retargeted block (with_numbers x r))) ≡ Ok s → Request L kind block r s
        is (Err cause) q e = absurd (never_given e)
        is (Ok x) q e = record { cseq = n; numbers = x; reads = p; steps = q; becomes = sym (given_same e) }

state_taken : (n : ℕ) (x y : Numbers) → Taken n x y → y.state ≡ x.state
state_taken n x y moved = refl
state_taken n x y acknowledged = refl

-- a request keeps the state and the routes too
pub request_kept : (L : LimitSet) (kind : Kind) (block : List ℕ) (r s : Record) → Request L kind block r s → Kept r s × (s.routes ≡ r.routes)
request_kept L kind block r s q =
    let t : q.numbers.state ≡ r.numbers.state = state_taken q.cseq r.numbers q.numbers (taken L kind q.cseq r.numbers q.numbers q.steps) in
    let k : rank r.numbers.state ≡ rank q.numbers.state = ap rank (sym t) in
    subst (λ (z : Record). Kept r z × (z.routes ≡ r.routes)) (sym q.becomes)
    (record { call_id = refl; local_tag = refl; remote_tag = refl; we_are_uac = refl; local_uri = refl; remote_uri = refl; state = omega (arith, k) }, refl)

-- ---- responses

interval_state : (o : Option Interval) (x : Numbers) → (interval_from o x).state ≡ x.state
interval_state None x = refl
interval_state (Some i) x = refl

confirmed_on : (status : ℕ) (x : Numbers) → rank x.state ≤ rank (confirmed_by status x).state
confirmed_on status x = by (is_success status) refl
  where
    by : (t : Bool) → is_success status ≡ t → rank x.state ≤ rank (confirmed_by status x).state
    by true t = rw t (confirm_on x.state)
    by false t = rw t (omega arith)

answered_on : (status : ℕ) (block : List ℕ) (x : Numbers) → rank x.state ≤ rank (answered status block x).state
answered_on status block x = omega (arith, ap rank (interval_state (expires_named block) x), confirmed_on status (interval_from (expires_named block) x))

-- the routes of a response change nothing else
rerouted_kept : (L : LimitSet) (status : ℕ) (block : List ℕ) (r : Record) (x : Numbers) → rank r.numbers.state ≤ rank x.state → Kept r (with_numbers x (rerouted L status block r))
rerouted_kept L status block r x h = by (confirms status r.numbers.state) refl
  where
    by : (t : Bool) → confirms status r.numbers.state ≡ t → Kept r (with_numbers x (rerouted L status block r))
    by true t = rw t (record { call_id = refl; local_tag = refl; remote_tag = refl; we_are_uac = refl; local_uri = refl; remote_uri = refl; state = h })
    by false t = rw t (record { call_id = refl; local_tag = refl; remote_tag = refl; we_are_uac = refl; local_uri = refl; remote_uri = refl; state = h })

pub response_kept : (L : LimitSet) (status : ℕ) (block : List ℕ) (r : Record) → Kept r (response_update L status block r)
unfolding response_update
response_kept L status block r =
    let k = rerouted_kept L status block (retargeted block r) (answered status block r.numbers) (answered_on status block r.numbers) in
    record { call_id = k.call_id; local_tag = k.local_tag; remote_tag = k.remote_tag; we_are_uac = k.we_are_uac; local_uri = k.local_uri; remote_uri = k.remote_uri; state = k.state }

-- a response that doesn't confirm an Early record keeps the routes
pub response_routes : (L : LimitSet) (status : ℕ) (block : List ℕ) (r : Record) → confirms status r.numbers.state ≡ false → (response_update L status block r).routes ≡ r.routes
unfolding response_update
response_routes L status block r e = rw e

-- after a 2xx no record is Early
pub success_confirms : (L : LimitSet) (status : ℕ) (block : List ℕ) (r : Record) → is_success status ≡ true → 1 ≤ rank (response_update L status block r).numbers.state
unfolding response_update
success_confirms L status block r e = rw e (past (interval_from (expires_named block) r.numbers).state)
  where
    past : (s : State) → 1 ≤ rank (confirm_step (record { state = s; local = 0; remote = 0; last_ack = None; seconds = None; refresher = None })).state
    past early = omega arith
    past confirmed = omega arith
    past terminated = omega arith

-- ---- the others: each keeps the routes

pub confirm_kept : (r : Record) → Kept r (confirm_update r)
confirm_kept r = record { call_id = refl; local_tag = refl; remote_tag = refl; we_are_uac = refl; local_uri = refl; remote_uri = refl; state = confirm_on r.numbers.state }

pub terminate_kept : (r : Record) → Kept r (terminate_update r)
terminate_kept r = record { call_id = refl; local_tag = refl; remote_tag = refl; we_are_uac = refl; local_uri = refl; remote_uri = refl; state = terminate_on r.numbers.state }

pub local_kept : (r : Record) → Kept r (local_update r)
local_kept r = record { call_id = refl; local_tag = refl; remote_tag = refl; we_are_uac = refl; local_uri = refl; remote_uri = refl; state = omega arith }

interval_taken : (L : LimitSet) (n : ℕ) (x y : Numbers) → interval_step L n x ≡ Ok y → y ≡ with_seconds n x
unfolding interval_step
interval_taken L n x y e = sym (given_same (passed_cause (seconds_cause L n) (Ok (with_seconds n x)) e).1)

pub interval_kept : (L : LimitSet) (n : ℕ) (r s : Record) → interval_update L n r ≡ Ok s → Kept r s × (s.routes ≡ r.routes)
interval_kept L n r s e = by (interval_step L n r.numbers) refl e
  where
    by : (o : Result Numbers Refusal) → interval_step L n r.numbers ≡ o → and_then o (λ x. Ok (with_numbers x r)) ≡ Ok s → Kept r s × (s.routes ≡ r.routes)
    by (Err cause) q e = absurd (never_given e)
    by (Ok x) q e =
        let k : rank r.numbers.state ≡ rank x.state = ap (λ (y : Numbers). rank y.state) (sym (interval_taken L n r.numbers x q)) in
        subst (λ (z : Record). Kept r z × (z.routes ≡ r.routes)) (given_same e)
        (record { call_id = refl; local_tag = refl; remote_tag = refl; we_are_uac = refl; local_uri = refl; remote_uri = refl; state = omega (arith, k) }, refl)
