-- What an update makes of a well-formed record is well-formed. Assumes nothing.
use Prim.Native.Nat.{ℕ, ◌≤◌, ◌<◌, ◌^◌}
use native.Mathlib.Omega.{arith}
use mathlib.Core.Path.{◌≡◌, refl, sym, subst}
use mathlib.Core.Bool.{Bool, true, false, cond}
use mathlib.Core.List.{List, [], ◌∷◌}
use lib.ListN.{length}
use Rattle.limits.specs.declared.Refusal.{Refusal}
use Rattle.std.specs.Prelude.{Err, None, Ok, Option, Result, Some}
use Rattle.limits.specs.Limits.{LimitSet}
use Rattle.limits.specs.Outcome.{and_then}
use Rattle.text.specs.Text.{Piece}
use Rattle.headers.specs.SessionExpires.{Interval, expires_named}
use Rattle.route_set.specs.Routes.{contact_of, routes_of}
use Rattle.session_seconds.specs.Seconds.{seconds_cause}
use Rattle.session_seconds.proofs.Laws.{seconds_within}
use Rattle.record.specs.Record.{Numbers, Record, UriPart, OptionalPart, EachUri, WellFormed}
use Rattle.record.specs.Rules.{Kind, with_seconds, interval_step, confirm_step, terminate_step, local_step}
use Rattle.dialog_rules.specs.Updates.{text_or, retargeted, is_success, confirms, routes_or, rerouted, interval_from, answered, response_update, confirm_update, terminate_update, local_update, interval_update}
use Rattle.record.specs.Changes.{with_numbers, with_routes}
use Rattle.dialog_rules.proofs.StepLaws.{given_same, never_given, Taken, moved, acknowledged, taken}
use Rattle.dialog_rules.proofs.UpdateLaws.{Request}
use Rattle.dialog_rules.proofs.RefusalLaws.{passed_cause}
use Rattle.dialog_rules.proofs.ReadLaws.{cseq_below, expires_below, contact_within}
use Rattle.dialog_rules.proofs.RouteLaws.{reversed_formed}

-- ---- parts of a record changed

-- numbers that have an image
pub record FormedNumbers (x : Numbers) : Type 0 where
  pub local : x.local < 2 ^ 32
  pub remote : x.remote < 2 ^ 32
  pub last_ack : OptionalPart x.last_ack
  pub seconds : OptionalPart x.seconds

-- the numbers of a well-formed record
numbers_of : (r : Record) → WellFormed r → FormedNumbers r.numbers
numbers_of r w = record { local = w.local; remote = w.remote; last_ack = w.last_ack; seconds = w.seconds }

-- other numbers that have an image
with_formed : (r : Record) (x : Numbers) → WellFormed r → FormedNumbers x → WellFormed (with_numbers x r)
with_formed r x w f = record {
  call_id = w.call_id;
  local_tag = w.local_tag;
  remote_tag = w.remote_tag;
  target = w.target;
  local_uri = w.local_uri;
  remote_uri = w.remote_uri;
  local = f.local;
  remote = f.remote;
  last_ack = f.last_ack;
  seconds = f.seconds;
  routes = w.routes;
  route_count = w.route_count;
}

-- an interval that was read has an image
pub read_formed : (block : List ℕ) (x : Numbers) → FormedNumbers x → FormedNumbers (interval_from (expires_named block) x)
read_formed block x f = by (expires_named block) refl
  where
    by : (o : Option Interval) → expires_named block ≡ o → FormedNumbers (interval_from o x)
    by None e = f
    by (Some i) e = record { local = f.local; remote = f.remote; last_ack = f.last_ack; seconds = expires_below block i e }

-- a new target is the Contact's URI or the old target
pub contact_formed : (old block : List ℕ) → length block < 65536 → UriPart old → UriPart (text_or old (contact_of block))
contact_formed old block h w = by (contact_of block) refl
  where
    by : (o : Option Piece) → contact_of block ≡ o → UriPart (text_or old o)
    by None e = w
    by (Some p) e = let k = contact_within block p e in (omega (arith, k.0), k.1)

-- a new target keeps a record well-formed
retargeted_formed : (block : List ℕ) (r : Record) → length block < 65536 → WellFormed r → WellFormed (retargeted block r)
retargeted_formed block r h w = record {
  call_id = w.call_id;
  local_tag = w.local_tag;
  remote_tag = w.remote_tag;
  target = contact_formed r.target block h w.target;
  local_uri = w.local_uri;
  remote_uri = w.remote_uri;
  local = w.local;
  remote = w.remote;
  last_ack = w.last_ack;
  seconds = w.seconds;
  routes = w.routes;
  route_count = w.route_count;
}

-- ---- requests

-- a number that is taken keeps the numbers' image
taken_formed : (n : ℕ) (x y : Numbers) → n < 2 ^ 32 → FormedNumbers x → Taken n x y → FormedNumbers y
taken_formed n x y h f moved = record { local = f.local; remote = h; last_ack = f.last_ack; seconds = f.seconds }
taken_formed n x y h f acknowledged = record { local = f.local; remote = f.remote; last_ack = h; seconds = f.seconds }

-- a taken request keeps a record well-formed
pub request_formed : (L : LimitSet) (kind : Kind) (block : List ℕ) (r s : Record) → WellFormed r → length block < 65536 → Request L kind block r s → WellFormed s
request_formed L kind block r s w h q =
    let t : Taken q.cseq r.numbers q.numbers = taken L kind q.cseq r.numbers q.numbers q.steps in
    let f : FormedNumbers q.numbers = taken_formed q.cseq r.numbers q.numbers (cseq_below block q.cseq q.reads) (numbers_of r w) t in
    subst WellFormed (sym q.becomes) (retargeted_formed block (with_numbers q.numbers r) h (with_formed r q.numbers w f))

-- ---- responses

-- what a response makes of numbers that have an image
answered_formed : (status : ℕ) (block : List ℕ) (x : Numbers) → FormedNumbers x → FormedNumbers (answered status block x)
answered_formed status block x f = by (is_success status) (read_formed block x f)
  where
    by : (t : Bool) → FormedNumbers (interval_from (expires_named block) x) → FormedNumbers (cond t (confirm_step (interval_from (expires_named block) x)) (interval_from (expires_named block) x))
    by true g = record { local = g.local; remote = g.remote; last_ack = g.last_ack; seconds = g.seconds }
    by false g = g

-- new routes are those of the block's lines or the old ones
routes_formed : (L : LimitSet) (block : List ℕ) (old : List (List ℕ)) → length block < 65536 → L.routes ≤ 50 → EachUri old → length old ≤ 50
    → EachUri (routes_or old (routes_of L block)) × (length (routes_or old (routes_of L block)) ≤ 50)
routes_formed L block old h k w c = by (routes_of L block) refl
  where
    by : (o : Result (List Piece) Refusal) → routes_of L block ≡ o → EachUri (routes_or old o) × (length (routes_or old o) ≤ 50)
    by (Err cause) e = (w, c)
    by (Ok []) e = (w, c)
    by (Ok (p ∷ ps)) e = reversed_formed L block (p ∷ ps) h k e

-- the routes of a response keep a record well-formed
rerouted_formed : (L : LimitSet) (status : ℕ) (block : List ℕ) (r : Record) → length block < 65536 → L.routes ≤ 50 → WellFormed r → WellFormed (rerouted L status block r)
rerouted_formed L status block r h k w = by (confirms status r.numbers.state) (routes_formed L block r.routes h k w.routes w.route_count)
  where
    by : (t : Bool) → EachUri (routes_or r.routes (routes_of L block)) × (length (routes_or r.routes (routes_of L block)) ≤ 50)
        → WellFormed (cond t (with_routes (routes_or r.routes (routes_of L block)) r) r)
    by true g = record {
      call_id = w.call_id;
      local_tag = w.local_tag;
      remote_tag = w.remote_tag;
      target = w.target;
      local_uri = w.local_uri;
      remote_uri = w.remote_uri;
      local = w.local;
      remote = w.remote;
      last_ack = w.last_ack;
      seconds = w.seconds;
      routes = g.0;
      route_count = g.1;
    }
    by false g = w

-- a response keeps a record well-formed
pub response_formed : (L : LimitSet) (status : ℕ) (block : List ℕ) (r : Record) → WellFormed r → length block < 65536 → L.routes ≤ 50 → WellFormed (response_update L status block r)
unfolding response_update
response_formed L status block r w h k =
    let v : WellFormed (rerouted L status block (retargeted block r)) = rerouted_formed L status block (retargeted block r) h k (retargeted_formed block r h w) in
    with_formed (rerouted L status block (retargeted block r)) (answered status block r.numbers) v (answered_formed status block r.numbers (numbers_of r w))

-- ---- the others

-- a confirmation keeps a record well-formed
pub confirm_formed : (r : Record) → WellFormed r → WellFormed (confirm_update r)
confirm_formed r w = with_formed r (confirm_step r.numbers) w (record { local = w.local; remote = w.remote; last_ack = w.last_ack; seconds = w.seconds })

-- a termination keeps a record well-formed
pub terminate_formed : (r : Record) → WellFormed r → WellFormed (terminate_update r)
terminate_formed r w = with_formed r (terminate_step r.numbers) w (record { local = w.local; remote = w.remote; last_ack = w.last_ack; seconds = w.seconds })

-- the next local number keeps a record well-formed
pub local_formed : (r : Record) → WellFormed r → WellFormed (local_update r)
local_formed r w = with_formed r (local_step r.numbers) w (record { local = omega arith; remote = w.remote; last_ack = w.last_ack; seconds = w.seconds })

-- an interval that was taken is no more than the most
step_formed : (L : LimitSet) (n : ℕ) (x y : Numbers) → L.max_expires < 2 ^ 32 → FormedNumbers x → interval_step L n x ≡ Ok y → FormedNumbers y
unfolding interval_step
step_formed L n x y h f e =
    let q = passed_cause (seconds_cause L n) (Ok (with_seconds n x)) e in
    let m = (seconds_within L n q.0).1 in
    subst FormedNumbers (given_same q.1) (record { local = f.local; remote = f.remote; last_ack = f.last_ack; seconds = omega (arith, m, h) })

-- a new interval keeps a record well-formed
pub interval_formed : (L : LimitSet) (n : ℕ) (r s : Record) → L.max_expires < 2 ^ 32 → interval_update L n r ≡ Ok s → WellFormed r → WellFormed s
interval_formed L n r s h e w = by (interval_step L n r.numbers) refl e
  where
    by : (o : Result Numbers Refusal) → interval_step L n r.numbers ≡ o → and_then o (λ x. Ok (with_numbers x r)) ≡ Ok s → WellFormed s
    by (Err cause) q e = absurd (never_given e)
    by (Ok x) q e = subst WellFormed (given_same e) (with_formed r x w (step_formed L n r.numbers x h (numbers_of r w) q))
