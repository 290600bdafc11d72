-- What a request, a response and the other calls make of a record (RFC 3261 sections 12.2.1.2, 12.2.2 and 13.2.2.4; RFC 4028 section 7.2).
-- Document 01, "CSeq", "Contact" and "Response". Each is given a block that was checked. Departures of the Rust, ported: a readable Contact
-- replaces the target on every taken request, ACK included, and on every response, whatever its status, and is not measured; Session-Expires
-- counts on every response, and a 2xx without it ends nothing; every 2xx confirms, whatever its request; a Terminated record still takes
-- requests and responses.
use Rattle.limits.specs.declared.Refusal.{Refusal}
use Rattle.std.specs.Prelude.{ℕ, Bool, false, cond, List, [], ◌∷◌, map, reverse, Err, None, Ok, Option, Result, Some}
use Rattle.limits.specs.Limits.{LimitSet}
use Rattle.limits.specs.Outcome.{and_then, or_refuse}
use Rattle.limits.specs.declared.Refusal.TheVariants.{MissingHeader}
use Rattle.text.specs.Text.{Piece, equal}
use Rattle.msg.specs.Status.{in_class}
use Rattle.headers.specs.SessionExpires.{Interval, expires_named}
use Rattle.record.specs.NumbersForm.{side_in}
use Rattle.route_set.specs.Routes.{contact_of, routes_of}
use Rattle.prack_headers.specs.Sequence.{cseq_number}
use Rattle.record.specs.Record.{State, early, confirmed, terminated, Side, uac, uas, Numbers, Record}
use Rattle.record.specs.Changes.{with_numbers, with_target, with_routes}
use Rattle.record.specs.Rules.{Kind, ack, other, request_step, confirm_step, terminate_step, local_step, interval_step}

-- ---- the target

-- the text of the first Contact line's URI, or the old target where it is absent or unreadable
abbrev pub text_or : List ℕ → Option Piece → List ℕ
text_or old None = old
text_or old (Some p) = p.text

abbrev pub retargeted : List ℕ → Record → Record
retargeted block r = with_target (text_or r.target (contact_of block)) r

-- ---- requests

-- `ACK`, exactly those letters
abbrev pub ack_name : List ℕ
ack_name = 65 ∷ 67 ∷ 75 ∷ []

abbrev pub kind_of : List ℕ → Kind
kind_of method = cond (equal method ack_name) ack other

-- `update_from_request`: 4, 9; ACK: 11; others: 10, 11, 12. A refused request changes nothing
unfoldable pub request_update : LimitSet → Kind → List ℕ → Record → Result Record Refusal
request_update L kind block r =
    and_then (or_refuse MissingHeader (cseq_number block)) (λ n.
    and_then (request_step L kind n r.numbers) (λ x.
    Ok (retargeted block (with_numbers x r))))

-- ---- responses

-- 200 to 299; every other number is not a 2xx
abbrev pub is_success : ℕ → Bool
is_success status = in_class 200 300 status

-- the 2xx that confirms an Early record
abbrev pub confirms : ℕ → State → Bool
confirms status early = is_success status
confirms status confirmed = false
confirms status terminated = false

-- the routes of the block's lines, reversed; the old ones where the reading fails (7, 8) or gives none
abbrev pub routes_or : List (List ℕ) → Result (List Piece) Refusal → List (List ℕ)
routes_or old (Err cause) = old
routes_or old (Ok []) = old
routes_or old (Ok (p ∷ ps)) = map (λ (q : Piece). q.text) (reverse (p ∷ ps))

abbrev pub rerouted : LimitSet → ℕ → List ℕ → Record → Record
rerouted L status block r = cond (confirms status r.numbers.state) (with_routes (routes_or r.routes (routes_of L block)) r) r

-- a readable Session-Expires replaces seconds and refresher both
abbrev pub interval_from : Option Interval → Numbers → Numbers
interval_from None x = x
interval_from (Some i) x = record { state = x.state; local = x.local; remote = x.remote; last_ack = x.last_ack; seconds = Some i.seconds; refresher = side_in i.refresher }

-- a 2xx confirms
abbrev pub confirmed_by : ℕ → Numbers → Numbers
confirmed_by status x = cond (is_success status) (confirm_step x) x

abbrev pub answered : ℕ → List ℕ → Numbers → Numbers
answered status block x = confirmed_by status (interval_from (expires_named block) x)

-- `update_from_response`: nothing is refused
unfoldable pub response_update : LimitSet → ℕ → List ℕ → Record → Record
response_update L status block r = with_numbers (answered status block r.numbers) (rerouted L status block (retargeted block r))

-- ---- the others

abbrev pub confirm_update : Record → Record
confirm_update r = with_numbers (confirm_step r.numbers) r

abbrev pub terminate_update : Record → Record
terminate_update r = with_numbers (terminate_step r.numbers) r

-- the next local number is that of the record afterwards
abbrev pub local_update : Record → Record
local_update r = with_numbers (local_step r.numbers) r

-- `set_session_expires`: 13 with the least, 14
abbrev pub interval_update : LimitSet → ℕ → Record → Result Record Refusal
interval_update L n r = and_then (interval_step L n r.numbers) (λ x. Ok (with_numbers x r))
