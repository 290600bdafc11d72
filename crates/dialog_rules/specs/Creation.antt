-- A new record (RFC 3261 sections 12.1.1 and 12.1.2; `new_uac` and `new_uas` of lib.rs). Identifier and Session-Expires come from the response,
-- the CSeq from the request; Contact and Record-Route from the response for uac and from the request for uas. Departures of the Rust,
-- ported: 100 makes an Early record too; the whole identifier is the response's; a CSeq of 0 is refused (RFC 3261 section 8.1.1.5 forbids those over
-- 2,147,483,647); an interval must be 90 to 86,400 s.
use Rattle.std.specs.Prelude.{ℕ, Bool, true, false, cond, not, List, map, ltb, eqb, Err, None, Ok, Option, Result, Some}
use Rattle.limits.specs.Limits.{LimitSet}
use Rattle.limits.specs.Outcome.{cause_if, or_else, refuse_by, refuse_if, and_then, or_refuse}
use Rattle.limits.specs.declared.Refusal.{Refusal}
use Rattle.limits.specs.declared.Refusal.TheVariants.{Malformed, MissingHeader, InvalidStatus, InvalidUri, UriTooLong, CSeqZero, CSeqTooLarge}
use Rattle.text.specs.Text.{Piece}
use Rattle.text.specs.Answers.{length_cause}
use Rattle.msg.specs.Block.{is_block}
use Rattle.msg.specs.Status.{in_class}
use Rattle.uri.specs.SipUri.{UriParts, sip_uri, over_estimate}
use Rattle.dialog_id.specs.DialogId.{Identifier, identifier_of, from_name, to_name}
use Rattle.headers.specs.SessionExpires.{Interval, expires_named}
use Rattle.route_set.specs.Routes.{contact_of, routes_of, in_order}
use Rattle.prack_headers.specs.Sequence.{cseq_number}
use Rattle.session_seconds.specs.Seconds.{seconds_cause}
use Rattle.record.specs.Record.{State, early, confirmed, Side, uac, uas, Numbers, Record, is_read}
use Rattle.dialog_rules.specs.Updates.{text_or, interval_from}

-- what a creation is given
pub record Creation : Type 0 where
  pub method : List ℕ
  pub request : List ℕ
  pub status : ℕ
  pub response : List ℕ
  pub local_uri : List ℕ
  pub remote_uri : List ℕ

-- ---- what comes from which message

-- the block with Contact and Record-Route, and the header whose tag is the local one
abbrev pub peer_block : Side → Creation → List ℕ
peer_block uac g = g.response
peer_block uas g = g.request

abbrev pub identifier_in : Side → Creation → Option Identifier
identifier_in uac g = identifier_of from_name to_name g.response
identifier_in uas g = identifier_of to_name from_name g.response

-- the Contact's text, or else the remote URI's
abbrev pub target_of : Side → Creation → List ℕ
target_of side g = text_or g.remote_uri (contact_of (peer_block side g))

-- a uac's route set is reversed
abbrev pub is_uac : Side → Bool
is_uac uac = true
is_uac uas = false

abbrev pub routes_in : LimitSet → Side → Creation → Result (List (List ℕ)) Refusal
routes_in L side g = and_then (routes_of L (peer_block side g)) (λ ps. Ok (map (λ (p : Piece). p.text) (in_order (is_uac side) ps)))

-- the request's number is the uac's local one and the uas's remote one
abbrev pub numbers_at : Side → State → ℕ → Numbers
numbers_at uac s n = record { state = s; local = n; remote = 0; last_ack = None; seconds = None; refresher = None }
numbers_at uas s n = record { state = s; local = 0; remote = n; last_ack = None; seconds = None; refresher = None }

-- ---- the refusals

-- 1, then 2, of all that is given; 6 of the local URI, then of the remote one
abbrev pub texts_cause : LimitSet → Creation → Option Refusal
texts_cause L g = or_else (length_cause L g.method) (or_else (length_cause L g.request) (or_else (length_cause L g.response) (or_else (length_cause L g.local_uri) (length_cause L g.remote_uri))))

abbrev pub form_cause : Creation → Option Refusal
form_cause g = or_else (cause_if (not (is_block g.request)) Malformed) (cause_if (not (is_block g.response)) Malformed)

abbrev pub uri_cause : List ℕ → Option Refusal
uri_cause t = cause_if (not (is_read (sip_uri t))) InvalidUri

-- 7
abbrev pub is_over : LimitSet → Option UriParts → Bool
is_over L None = false
is_over L (Some u) = over_estimate L u

abbrev pub estimate_cause : LimitSet → List ℕ → Option Refusal
estimate_cause L t = cause_if (is_over L (sip_uri t)) UriTooLong

-- 5 outside 100 to 299
abbrev pub state_by : ℕ → Result State Refusal
state_by status = cond (in_class 100 200 status) (Ok early) (cond (in_class 200 300 status) (Ok confirmed) (Err InvalidStatus))

-- 4, 9, 10
abbrev pub sequence_in : LimitSet → List ℕ → Result ℕ Refusal
sequence_in L block = and_then (or_refuse MissingHeader (cseq_number block)) (λ n. refuse_if (eqb n 0) CSeqZero (refuse_if (ltb L.cseq n) CSeqTooLarge (Ok n)))

-- 13 with the least, 14; without an interval neither
abbrev pub interval_cause : LimitSet → Option Interval → Option Refusal
interval_cause L None = None
interval_cause L (Some i) = seconds_cause L i.seconds

-- ---- the record

abbrev pub record_with : Side → Creation → Identifier → State → List (List ℕ) → ℕ → Record
record_with side g id s routes n = record {
  call_id = id.call_id.text;
  local_tag = id.local_tag.text;
  remote_tag = id.remote_tag.text;
  we_are_uac = is_uac side;
  target = target_of side g;
  local_uri = g.local_uri;
  remote_uri = g.remote_uri;
  numbers = interval_from (expires_named g.response) (numbers_at side s n);
  routes = routes;
}

-- after 1, 2 and 6: 4 (identifier), 5, 7 (local, remote, target), 7 or 8 in the routes, 4 (CSeq), 9, 10, 13, 14
unfoldable pub made_by : LimitSet → Side → Creation → Result Record Refusal
made_by L side g =
    and_then (or_refuse MissingHeader (identifier_in side g)) (λ id.
    and_then (state_by g.status) (λ s.
    refuse_by (or_else (estimate_cause L g.local_uri) (or_else (estimate_cause L g.remote_uri) (estimate_cause L (target_of side g))))
    (and_then (routes_in L side g) (λ routes.
    and_then (sequence_in L g.request) (λ n.
    refuse_by (interval_cause L (expires_named g.response)) (Ok (record_with side g id s routes n)))))))

-- `new_uac` and `new_uas`
unfoldable pub created : LimitSet → Side → Creation → Result Record Refusal
created L side g = refuse_by (texts_cause L g) (refuse_by (form_cause g) (refuse_by (or_else (uri_cause g.local_uri) (uri_cause g.remote_uri)) (made_by L side g)))
