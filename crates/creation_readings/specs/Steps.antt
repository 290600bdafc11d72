-- Steps of the code: which message a creation reads for what, the state, the numbers and the size of the routes' section. What a creation makes is in
-- dialog_rules/specs/Creation.antt.
use Rattle.std.specs.Prelude.{ℕ, Bool, true, false, List, length, Err, None, Ok, Option, Result, Some}
use Rattle.limits.specs.Limits.{LimitSet}
use Rattle.limits.specs.Outcome.{refuse_by, and_then}
use Rattle.limits.specs.declared.Refusal.{Refusal}
use Rattle.text.specs.Text.{Piece}
use Rattle.msg.specs.Block.{pointer_at}
use Rattle.dialog_id.specs.DialogId.{Identifier, identifier_of, from_name, to_name}
use Rattle.headers.specs.SessionExpires.{Interval, expires_named}
use Rattle.headers.specs.declared.session_timer.Refresher.{Refresher}
use Rattle.route_set.specs.Routes.{routes_of}
use Rattle.record.specs.Record.{State, Side, uac, uas, Numbers}
use Rattle.record.specs.NumbersForm.{meaning, state_from}
use Rattle.record.specs.declared.numbers.State.{State as CodeState}
use Rattle.record.specs.declared.numbers.Numbers.{Numbers as CodeNumbers}
use Rattle.dialog_rules.specs.Creation.{numbers_at, sequence_in, interval_cause}
use Rattle.dialog_rules.specs.Updates.{interval_from}
use Rattle.route_section.specs.Section.{section_of, route_texts}
use Rattle.route_section.specs.Measured.{MeasuredIn}
use Rattle.route_section.specs.declared.peer.PeerRoutes.{PeerRoutes}

-- ---- the side

abbrev pub side_for : Bool → Side
side_for true = uac
side_for false = uas

-- the message with Contact and Record-Route, of the request and the response
abbrev pub peer_of : Bool → List ℕ → List ℕ → List ℕ
peer_of true request response = response
peer_of false request response = request

-- the identifier of the response
abbrev pub identifier_for : Bool → List ℕ → Option Identifier
identifier_for true response = identifier_of from_name to_name response
identifier_for false response = identifier_of to_name from_name response

-- the local and the remote number of a new record, by the request's
abbrev pub sequences_for : Bool → ℕ → ℕ × ℕ
sequences_for true n = (n, 0)
sequences_for false n = (0, n)

-- ---- readings

-- the pointer to the target, by those to the block and to the remote URI: to the Contact's text in the block, or else the remote URI's own
abbrev pub target_pointer : ℕ × ℕ → ℕ × ℕ → Option Piece → ℕ × ℕ
target_pointer block remote None = remote
target_pointer block remote (Some p) = pointer_at block p.place

-- the state by the status; 5 outside
abbrev pub first_state : Result State Refusal → Option CodeState
first_state (Err cause) = None
first_state (Ok s) = Some (state_from s)

-- an interval as the code has it
abbrev pub interval_in : Option (ℕ × Option Refresher) → Option Interval
interval_in (Some (n, r)) = Some (record { seconds = n; refresher = r })
interval_in None = None

-- 4, 9, 10 of the request, 13 and 14 of the response; then the numbers of the record
abbrev pub numbers_in : LimitSet → Side → State → List ℕ → List ℕ → Result Numbers Refusal
numbers_in L side s request response =
    and_then (sequence_in L request) (λ n.
    refuse_by (interval_cause L (expires_named response)) (Ok (interval_from (expires_named response) (numbers_at side s n))))

-- the numbers, and the bytes of the routes' section
pub record Remainder : Type 0 where
  pub numbers : Numbers
  pub routes : ℕ

-- by what the reading of the routes and that of the numbers came to
abbrev pub remainder_by : Result (List Piece) Refusal → Result Numbers Refusal → Result Remainder Refusal
remainder_by o m = and_then o (λ ps. and_then m (λ x. Ok (record { numbers = x; routes = length (section_of (route_texts false ps)) })))

-- 7 or 8 in the routes, then the causes of the numbers
abbrev pub remainder_of : LimitSet → Side → State → List ℕ → List ℕ → List ℕ → Result Remainder Refusal
remainder_of L side s request response peer = remainder_by (routes_of L peer) (numbers_in L side s request response)

-- what the code's answer says
abbrev pub remainder_in : Result (CodeNumbers × PeerRoutes) Refusal → Result Remainder Refusal
remainder_in (Ok (x, p)) = Ok (record { numbers = meaning x; routes = p.size })
remainder_in (Err cause) = Err cause

-- the routes beside the numbers are those of the block, and were measured
abbrev pub MeasuredOf : List ℕ → CodeNumbers × PeerRoutes → Type 0
MeasuredOf block (x, p) = MeasuredIn block p
