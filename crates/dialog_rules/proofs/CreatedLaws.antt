-- What a creation that was not refused has read and passed, and that the record that it makes is well-formed. Assumes nothing.
use Prim.Native.Nat.{ℕ, ◌≤◌, ◌<◌, ◌^◌}
use native.Mathlib.Omega.{arith}
use mathlib.Core.Path.{◌≡◌, refl, sym, ap, subst, ◌∙◌}
use mathlib.Core.Bool.{true, false, not}
use mathlib.Core.List.{List, map}
use lib.ListN.{length, drop}
use lib.Dec.{ltb, eqb}
use borrow.Author.Tests.{ltb-false, not-false}
use Rattle.limits.specs.declared.Refusal.{Refusal}
use Rattle.std.specs.Prelude.{None, Ok, Option, Result, Some}
use Rattle.limits.specs.Limits.{LimitSet}
use Rattle.limits.specs.Outcome.{or_else, refuse_by, refuse_if, and_then, or_refuse}
use Rattle.limits.specs.declared.Refusal.TheVariants.{TextTooLong, MissingHeader, InvalidUri, CSeqZero, CSeqTooLarge}
use Rattle.text.specs.Text.{Piece, moved}
use Rattle.text.specs.Answers.{too_long, length_cause}
use Rattle.msg.specs.Block.{value_named}
use Rattle.msg.proofs.LookupLaws.{Placed}
use Rattle.headers.specs.Tag.{tag_of}
use Rattle.dialog_id.specs.DialogId.{Identifier, call_id_name, from_name, to_name, tag_in, tag_named, identifier, identifier_of}
use Rattle.headers.specs.SessionExpires.{expires_named}
use Rattle.headers.proofs.TagLaws.{tag_placed}
use Rattle.route_set.specs.Routes.{routes_of, in_order}
use Rattle.prack_headers.specs.Sequence.{cseq_number}
use Rattle.record.specs.Record.{State, Side, uac, uas, Record, is_readable, IdPart, EachUri, WellFormed}
use Rattle.dialog_rules.specs.Updates.{interval_from}
use Rattle.dialog_rules.specs.Creation.{Creation, peer_block, identifier_in, target_of, routes_in, numbers_at, texts_cause, form_cause, uri_cause, estimate_cause, state_by, sequence_in, interval_cause, record_with, made_by, created}
use Rattle.dialog_rules.proofs.StepLaws.{given_same, past_test}
use Rattle.dialog_rules.proofs.RefusalLaws.{passed_cause, no_causes, no_cause, both_given, was_read}
use Rattle.dialog_rules.proofs.PieceLaws.{Bounded, take_bounded, drop_bounded, value_bounded}
use Rattle.dialog_rules.proofs.ReadLaws.{UriWithin, cseq_below}
use Rattle.dialog_rules.proofs.RouteLaws.{received_formed, reversed_formed}
use Rattle.dialog_rules.proofs.FormedLaws.{FormedNumbers, read_formed, contact_formed}

-- ---- the identifier

-- a piece that stands in a value is no longer, and has no other bytes
placed_bounded : (k : ℕ) (v : List ℕ) (p : Piece) → Bounded k v → Placed v p → Bounded k p.text
placed_bounded k v p h s = subst (Bounded k) s.there (take_bounded k (length p.text) (drop p.place v) (drop_bounded k p.place v h))

-- the tag of a header
tag_bounded : (asked block : List ℕ) (p : Piece) → tag_named asked block ≡ Some p → Bounded (length block) p.text
unfolding tag_named
tag_bounded asked block p e = by (value_named asked block) refl e
  where
    in_value : (v : Piece) (o : Option Piece) → tag_of v.text ≡ o → Bounded (length block) v.text → moved v.place o ≡ Some p → Bounded (length block) p.text
    in_value v None q h e = absurd (let z : ◌≡◌ {A = ℕ} 0 1 = cc in omega arith)
    in_value v (Some t) q h e = let s : t.text ≡ p.text = cc in subst (Bounded (length block)) s (placed_bounded (length block) v.text t h (tag_placed v.text t q))

    by : (o : Option Piece) → value_named asked block ≡ o → tag_in o ≡ Some p → Bounded (length block) p.text
    by None q e = absurd (let z : ◌≡◌ {A = ℕ} 0 1 = cc in omega arith)
    by (Some v) q e = in_value v (tag_of v.text) refl (value_bounded asked block v q) e

-- an identifier of at most k bytes in each part, of bytes allowed in values
pub record BoundedId (k : ℕ) (id : Identifier) : Type 0 where
  pub call_id : Bounded k id.call_id.text
  pub local_tag : Bounded k id.local_tag.text
  pub remote_tag : Bounded k id.remote_tag.text

-- the identifier that a block has
pub id_bounded : (a b block : List ℕ) (id : Identifier) → identifier_of a b block ≡ Some id → BoundedId (length block) id
unfolding identifier_of
id_bounded a b block id e = by (value_named call_id_name block) (tag_named a block) (tag_named b block) refl refl refl e
  where
    by : (c l r : Option Piece) → value_named call_id_name block ≡ c → tag_named a block ≡ l → tag_named b block ≡ r → identifier c l r ≡ Some id → BoundedId (length block) id
    by None l r x y z e = absurd (let z : ◌≡◌ {A = ℕ} 0 1 = cc in omega arith)
    by (Some c) None r x y z e = absurd (let z : ◌≡◌ {A = ℕ} 0 1 = cc in omega arith)
    by (Some c) (Some l) None x y z e = absurd (let z : ◌≡◌ {A = ℕ} 0 1 = cc in omega arith)
    by (Some c) (Some l) (Some r) x y z e =
        let q : record { call_id = c; local_tag = l; remote_tag = r } ≡ id = cc in
        subst (BoundedId (length block)) q (record { call_id = value_bounded call_id_name block c x; local_tag = tag_bounded a block l y; remote_tag = tag_bounded b block r z })

-- the identifier of a creation
side_bounded : (side : Side) (g : Creation) (id : Identifier) → identifier_in side g ≡ Some id → BoundedId (length g.response) id
side_bounded uac g id e = id_bounded from_name to_name g.response id e
side_bounded uas g id e = id_bounded to_name from_name g.response id e

-- ---- what was passed

-- a text that passed the length's test
short : (L : LimitSet) (t : List ℕ) → length_cause L t ≡ None → length t ≤ L.text
short L t e = ltb-false L.text (length t) (no_cause (too_long L t) TextTooLong e)

-- a URI that passed its test
readable : (t : List ℕ) → uri_cause t ≡ None → is_readable t ≡ true
readable t e = not-false (is_readable t) (no_cause (not (is_readable t)) InvalidUri e)

-- the given texts have passed the length's test, and the two URIs can be read
record Given (L : LimitSet) (g : Creation) : Type 0 where
  pub request : length g.request ≤ L.text
  pub response : length g.response ≤ L.text
  pub local_uri : UriWithin L.text g.local_uri
  pub remote_uri : UriWithin L.text g.remote_uri

-- what the first causes have let through
given_passed : (L : LimitSet) (g : Creation) → texts_cause L g ≡ None → or_else (uri_cause g.local_uri) (uri_cause g.remote_uri) ≡ None → Given L g
given_passed L g e f =
    let uris = or_else (length_cause L g.local_uri) (length_cause L g.remote_uri) in
    let m = no_causes (length_cause L g.method) (or_else (length_cause L g.request) (or_else (length_cause L g.response) uris)) e in
    let q = no_causes (length_cause L g.request) (or_else (length_cause L g.response) uris) m.1 in
    let r = no_causes (length_cause L g.response) uris q.1 in
    let u = no_causes (length_cause L g.local_uri) (length_cause L g.remote_uri) r.1 in
    let w = no_causes (uri_cause g.local_uri) (uri_cause g.remote_uri) f in
    record {
      request = short L g.request q.0;
      response = short L g.response r.0;
      local_uri = (short L g.local_uri u.0, readable g.local_uri w.0);
      remote_uri = (short L g.remote_uri u.1, readable g.remote_uri w.1);
    }

-- ---- what was read

-- a record that was made: the identifier, the state, the routes and the number that it was made from
pub record Made (L : LimitSet) (side : Side) (g : Creation) (r : Record) : Type 0 where
  pub id : Identifier
  pub state : State
  pub routes : List (List ℕ)
  pub cseq : ℕ
  pub names : identifier_in side g ≡ Some id
  pub starts : state_by g.status ≡ Ok state
  pub routed : routes_in L side g ≡ Ok routes
  pub reads : cseq_number g.request ≡ Some cseq
  pub becomes : r ≡ record_with side g id state routes cseq

-- the steps of a creation, each with what follows it
abbrev after_number : LimitSet → Side → Creation → Identifier → State → List (List ℕ) → ℕ → Result Record Refusal
after_number L side g id s routes n = refuse_by (interval_cause L (expires_named g.response)) (Ok (record_with side g id s routes n))

abbrev after_routes : LimitSet → Side → Creation → Identifier → State → List (List ℕ) → Result Record Refusal
after_routes L side g id s routes = and_then (sequence_in L g.request) (λ n. after_number L side g id s routes n)

abbrev after_state : LimitSet → Side → Creation → Identifier → State → Result Record Refusal
after_state L side g id s =
    refuse_by (or_else (estimate_cause L g.local_uri) (or_else (estimate_cause L g.remote_uri) (estimate_cause L (target_of side g))))
    (and_then (routes_in L side g) (λ routes. after_routes L side g id s routes))

abbrev after_id : LimitSet → Side → Creation → Identifier → Result Record Refusal
after_id L side g id = and_then (state_by g.status) (λ s. after_state L side g id s)

-- the number that passed its tests is the one that was read
sequence_read : (L : LimitSet) (block : List ℕ) (n : ℕ) → sequence_in L block ≡ Ok n → cseq_number block ≡ Some n
sequence_read L block n e =
    let small : ℕ → Result ℕ Refusal = λ (m : ℕ). refuse_if (ltb L.cseq m) CSeqTooLarge (Ok m) in
    let q = both_given (or_refuse MissingHeader (cseq_number block)) (λ (m : ℕ). refuse_if (eqb m 0) CSeqZero (small m)) e in
    let r : ◌≡◌ {A = Result ℕ Refusal} (Ok q.0) (Ok n) = past_test (ltb L.cseq q.0) CSeqTooLarge (Ok q.0) (past_test (eqb q.0 0) CSeqZero (small q.0) q.2) in
    was_read MissingHeader (cseq_number block) q.1 ∙ ap Some (given_same r)

-- by the last step
made_last : (L : LimitSet) (side : Side) (g : Creation) (r : Record) (id : Identifier) (s : State) (routes : List (List ℕ)) (n : ℕ) → identifier_in side g ≡ Some id → state_by g.status ≡ Ok s
    → routes_in L side g ≡ Ok routes → cseq_number g.request ≡ Some n → after_number L side g id s routes n ≡ Ok r → Made L side g r
made_last L side g r id s routes n x y z w e =
    let h = passed_cause (interval_cause L (expires_named g.response)) (Ok (record_with side g id s routes n)) e in
    record { id = id; state = s; routes = routes; cseq = n; names = x; starts = y; routed = z; reads = w; becomes = sym (given_same h.1) }

-- a record that is made was made from what was read
pub made : (L : LimitSet) (side : Side) (g : Creation) (r : Record) → made_by L side g ≡ Ok r → Made L side g r
unfolding made_by
made L side g r e =
    let a = both_given (or_refuse MissingHeader (identifier_in side g)) (after_id L side g) e in
    let b = both_given (state_by g.status) (after_state L side g a.0) a.2 in
    let estimates = or_else (estimate_cause L g.local_uri) (or_else (estimate_cause L g.remote_uri) (estimate_cause L (target_of side g))) in
    let c = passed_cause estimates (and_then (routes_in L side g) (after_routes L side g a.0 b.0)) b.2 in
    let d = both_given (routes_in L side g) (after_routes L side g a.0 b.0) c.1 in
    let f = both_given (sequence_in L g.request) (after_number L side g a.0 b.0 d.0) d.2 in
    made_last L side g r a.0 b.0 d.0 f.0 (was_read MissingHeader (identifier_in side g) a.1) b.1 d.1 (sequence_read L g.request f.0 f.1) f.2

-- ---- the record

-- the message that the target and the routes come from is short too
peer_short : (L : LimitSet) (side : Side) (g : Creation) → Given L g → length (peer_block side g) ≤ L.text
peer_short L uac g w = w.response
peer_short L uas g w = w.request

-- the routes of the record
side_routes : (L : LimitSet) (side : Side) (g : Creation) (routes : List (List ℕ)) → length (peer_block side g) < 65536 → L.routes ≤ 50 → routes_in L side g ≡ Ok routes → EachUri routes × (length routes ≤ 50)
side_routes L uac g routes h k e =
    let q = both_given (routes_of L g.response) (λ (ps : List Piece). Ok (map (λ (p : Piece). p.text) (in_order true ps))) e in
    subst (λ (l : List (List ℕ)). EachUri l × (length l ≤ 50)) (given_same q.2) (reversed_formed L g.response q.0 h k q.1)
side_routes L uas g routes h k e =
    let q = both_given (routes_of L g.request) (λ (ps : List Piece). Ok (map (λ (p : Piece). p.text) (in_order false ps))) e in
    subst (λ (l : List (List ℕ)). EachUri l × (length l ≤ 50)) (given_same q.2) (received_formed L g.request q.0 h k q.1)

-- the numbers of the record
side_numbers : (side : Side) (s : State) (n : ℕ) → n < 2 ^ 32 → FormedNumbers (numbers_at side s n)
side_numbers uac s n h = record { local = h; remote = omega arith; last_ack = tt; seconds = tt }
side_numbers uas s n h = record { local = omega arith; remote = h; last_ack = tt; seconds = tt }

-- a bounded part of an identifier has an image
id_part : (k : ℕ) (t : List ℕ) → k < 65536 → Bounded k t → IdPart t
id_part k t h b = (omega (arith, h, b.0), b.1)

-- what is made from texts that have passed is well-formed
made_formed : (L : LimitSet) (side : Side) (g : Creation) (r : Record) → L.text < 65536 → L.routes ≤ 50 → Given L g → Made L side g r → WellFormed r
made_formed L side g r h k w m = subst WellFormed (sym m.becomes) (record {
  call_id = id_part (length g.response) m.id.call_id.text below ids.call_id;
  local_tag = id_part (length g.response) m.id.local_tag.text below ids.local_tag;
  remote_tag = id_part (length g.response) m.id.remote_tag.text below ids.remote_tag;
  target = contact_formed g.remote_uri (peer_block side g) peer (omega (arith, h, w.remote_uri.0), w.remote_uri.1);
  local_uri = (omega (arith, h, w.local_uri.0), w.local_uri.1);
  remote_uri = (omega (arith, h, w.remote_uri.0), w.remote_uri.1);
  local = numbers.local;
  remote = numbers.remote;
  last_ack = numbers.last_ack;
  seconds = numbers.seconds;
  routes = routes.0;
  route_count = routes.1;
})
  where
    below : length g.response < 65536
    below = omega (arith, h, w.response)

    peer : length (peer_block side g) < 65536
    peer = omega (arith, h, peer_short L side g w)

    ids : BoundedId (length g.response) m.id
    ids = side_bounded side g m.id m.names

    numbers : FormedNumbers (interval_from (expires_named g.response) (numbers_at side m.state m.cseq))
    numbers = read_formed g.response (numbers_at side m.state m.cseq) (side_numbers side m.state m.cseq (cseq_below g.request m.cseq m.reads))

    routes : EachUri m.routes × (length m.routes ≤ 50)
    routes = side_routes L side g m.routes peer k m.routed

-- a record that is created is well-formed
pub created_formed : (L : LimitSet) (side : Side) (g : Creation) (r : Record) → created L side g ≡ Ok r → L.text < 65536 → L.routes ≤ 50 → WellFormed r
unfolding created
created_formed L side g r e h k =
    let uris = or_else (uri_cause g.local_uri) (uri_cause g.remote_uri) in
    let a = passed_cause (texts_cause L g) (refuse_by (form_cause g) (refuse_by uris (made_by L side g))) e in
    let b = passed_cause (form_cause g) (refuse_by uris (made_by L side g)) a.1 in
    let c = passed_cause uris (made_by L side g) b.1 in
    made_formed L side g r h k (given_passed L g a.0 c.0) (made L side g r c.1)
