-- What a creation comes to after its checks: each refusal in its order, and the image of the record that is made. Assumes nothing.
use Prim.Native.Nat.{ℕ, ◌+◌, ◌≤◌, ◌<◌}
use native.Mathlib.Omega.{arith}
use mathlib.Core.Path.{◌≡◌, refl, sym, ap, ap₂, subst, ◌∙◌}
use mathlib.Core.Bool.{Bool, true, false, cond, ◌||◌}
use mathlib.Core.List.{List}
use lib.ListN.{length, drop, length-take, length-drop}
use Rattle.std.specs.Prelude.{ok_or, Err, None, Ok, Option, Result, Some}
use Rattle.limits.specs.Limits.{LimitSet, rust_limits}
use Rattle.limits.specs.Outcome.{or_else, refuse_by, and_then, check_of}
use Rattle.limits.specs.declared.Refusal.{Refusal}
use Rattle.limits.specs.declared.Refusal.TheVariants.{MissingHeader, InvalidStatus}
use Rattle.limits.proofs.Laws.{passed, stopped}
use Rattle.text.specs.Spans.{part_in}
use Rattle.text.specs.Text.{Piece}
use Rattle.text.specs.declared.Span.{Span}
use Rattle.output.specs.Output.{fitted, leaves, written_from}
use Rattle.msg.specs.Status.{in_class}
use Rattle.dialog_id.specs.DialogId.{Identifier, dialog_id_from, id_from, from_name, to_name}
use Rattle.headers.specs.SessionExpires.{expires_named}
use Rattle.dialog_id.specs.Ident.{Ident, ident}
use Rattle.dialog_id.specs.IdTexts.{ident_of, ident_in}
use Rattle.dialog_id.specs.declared.DialogId.{DialogId}
use Rattle.dialog_id.specs.declared.IdTexts.{IdTexts}
use Rattle.route_set.specs.Routes.{contact_of, routes_of}
use Rattle.route_section.specs.Section.{section_of, route_texts, section_in}
use Rattle.route_section.specs.declared.peer.PeerRoutes.{PeerRoutes}
use Rattle.route_section.specs.Measured.{given_by}
use Rattle.route_section.proofs.SectionLaws.{section_size}
use Rattle.record.specs.Record.{State, early, confirmed, Side, Numbers, Record, Uris, is_sips, image}
use Rattle.record.specs.NumbersForm.{meaning, state_in, state_from}
use Rattle.record.specs.declared.numbers.State.{State as CodeState}
use Rattle.record.specs.declared.numbers.Numbers.{Numbers as CodeNumbers}
use Rattle.record.proofs.NumberLaws.{state_same}
use Rattle.image_writer.specs.Parts.{Parts, uris_given, parts_of, image_of}
use Rattle.image_writer.specs.declared.front.UriTexts.{UriTexts}
use Rattle.image_writer.proofs.ImageLaws.{image_parts}
use Rattle.dialog_rules.specs.Creation.{Creation, peer_block, identifier_in, target_of, is_uac, numbers_at, estimate_cause, state_by, sequence_in, interval_cause, record_with, made_by}
use Rattle.dialog_rules.specs.Updates.{text_or, interval_from}
use Rattle.dialog_rules.proofs.PlacedLaws.{PlacedId, identifier_placed}
use Rattle.dialog_rules.proofs.ReadLaws.{contact_within}
use Rattle.dialog_creation.specs.NewImage.{made_image}
use Rattle.creation_checks.specs.Given.{checked_of}
use Rattle.creation_checks.specs.declared.NewDialog.{NewDialog}
use Rattle.creation_readings.specs.Steps.{side_for, peer_of, identifier_for, first_state, numbers_in, Remainder, remainder_by, remainder_of, remainder_in}
use Rattle.creation_writing.specs.NewParts.{parts_for}

-- ---- the answer of a refusal

pub refusal : {o : Result (List ℕ) Refusal} {cause : Refusal} (bytes : List ℕ) → o ≡ Err cause → (Err cause ≡ written_from o) × (bytes ≡ leaves o bytes)
refusal bytes e = rw e (refl, refl)

-- ---- a value that is asked for

pub given_part : {A : Type 0} (o : Option A) (cause : Refusal) {a : A} → ok_or o cause ≡ Ok a → o ≡ Some a
given_part None cause e = absurd (let z : ◌≡◌ {A = ℕ} 0 1 = cc in omega arith)
given_part (Some b) cause {a} e = let q : b ≡ a = cc in ap Some q

pub absent_part : {A : Type 0} (o : Option A) (cause : Refusal) {own : Refusal} → ok_or o cause ≡ Err own → (o ≡ None) × (cause ≡ own)
absent_part None cause e = (refl, (cc))
absent_part (Some b) cause e = absurd (let z : ◌≡◌ {A = ℕ} 0 1 = cc in omega arith)

-- ---- the routes and the numbers

-- a record with these routes and numbers
abbrev record_of : Side → Creation → Identifier → List (List ℕ) → Numbers → Record
record_of side g id routes x = record {
  call_id = id.call_id.text;
  local_tag = id.local_tag.text;
  remote_tag = id.remote_tag.text;
  we_are_uac = is_uac side;
  target = target_of side g;
  local_uri = g.local_uri;
  remote_uri = g.remote_uri;
  numbers = x;
  routes = routes;
}

numbers_first : (o : Result ℕ Refusal) (i : Option Refusal) (f : ℕ → Numbers) (w : Numbers → Record) → and_then o (λ n. refuse_by i (Ok (w (f n)))) ≡ and_then (and_then o (λ n. refuse_by i (Ok (f n)))) (λ x. Ok (w x))
numbers_first (Err cause) i f w = refl
numbers_first (Ok n) None f w = refl
numbers_first (Ok n) (Some cause) f w = refl

-- what follows the routes' reading, by what it came to
abbrev tail_by : Side → Creation → Identifier → Result (List Piece) Refusal → Result Numbers Refusal → Result Record Refusal
tail_by side g id o m = and_then (and_then o (λ ps. Ok (route_texts (is_uac side) ps))) (λ routes. and_then m (λ x. Ok (record_of side g id routes x)))

tail_refused : (side : Side) (g : Creation) (id : Identifier) (o : Result (List Piece) Refusal) (m : Result Numbers Refusal) {cause : Refusal} → remainder_by o m ≡ Err cause → tail_by side g id o m ≡ Err cause
tail_refused side g id (Err own) m e = cc
tail_refused side g id (Ok ps) (Err own) e = cc
tail_refused side g id (Ok ps) (Ok x) e = absurd (let z : ◌≡◌ {A = ℕ} 0 1 = cc in omega arith)

tail_given : (side : Side) (g : Creation) (id : Identifier) (o : Result (List Piece) Refusal) (m : Result Numbers Refusal) {y : Remainder} → remainder_by o m ≡ Ok y
    → (ps : List Piece) × (o ≡ Ok ps) × (y.routes ≡ length (section_of (route_texts false ps))) × (tail_by side g id o m ≡ Ok (record_of side g id (route_texts (is_uac side) ps) y.numbers))
tail_given side g id (Err own) m e = absurd (let z : ◌≡◌ {A = ℕ} 0 1 = cc in omega arith)
tail_given side g id (Ok ps) (Err own) e = absurd (let z : ◌≡◌ {A = ℕ} 0 1 = cc in omega arith)
tail_given side g id (Ok ps) (Ok x) {y} e =
    let q : record { numbers = x; routes = length (section_of (route_texts false ps)) } ≡ y = cc in
    (ps, refl, ap (λ (z : Remainder). z.routes) (sym q), ap (λ (z : Remainder). Ok (record_of side g id (route_texts (is_uac side) ps) z.numbers)) q)

-- ---- the steps after the checks

module _ (L : LimitSet) (side : Side) (g : Creation) (room : ℕ) where
  unnamed : identifier_in side g ≡ None → made_image L side g room ≡ Err MissingHeader
  unfolding made_image made_by
  unnamed e = rw e

  module _ (id : Identifier) (e : identifier_in side g ≡ Some id) where
    stateless : {cause : Refusal} → state_by g.status ≡ Err cause → made_image L side g room ≡ Err cause
    unfolding made_image made_by
    stateless f = rw (e, f)

    module _ (s : State) (f : state_by g.status ≡ Ok s) where
      overlong : {cause : Refusal} → or_else (estimate_cause L g.local_uri) (or_else (estimate_cause L g.remote_uri) (estimate_cause L (target_of side g))) ≡ Some cause → made_image L side g room ≡ Err cause
      unfolding made_image made_by
      overlong h = rw (e, f, h)

      module _ (h : or_else (estimate_cause L g.local_uri) (or_else (estimate_cause L g.remote_uri) (estimate_cause L (target_of side g))) ≡ None) where
        tail_is : (o : Result (List Piece) Refusal)
            → and_then (and_then o (λ ps. Ok (route_texts (is_uac side) ps))) (λ routes. and_then (sequence_in L g.request) (λ n. refuse_by (interval_cause L (expires_named g.response)) (Ok (record_with side g id s routes n))))
            ≡ tail_by side g id o (numbers_in L side s g.request g.response)
        tail_is (Err cause) = refl
        tail_is (Ok ps) = numbers_first (sequence_in L g.request) (interval_cause L (expires_named g.response)) (λ (n : ℕ). interval_from (expires_named g.response) (numbers_at side s n)) (record_of side g id (route_texts (is_uac side) ps))

        made_tail : made_by L side g ≡ tail_by side g id (routes_of L (peer_block side g)) (numbers_in L side s g.request g.response)
        unfolding made_by
        made_tail = rw (e, f, h) (tail_is (routes_of L (peer_block side g)))

        remainderless : {cause : Refusal} → remainder_of L side s g.request g.response (peer_block side g) ≡ Err cause → made_image L side g room ≡ Err cause
        unfolding made_image
        remainderless k = rw (made_tail ∙ tail_refused side g id (routes_of L (peer_block side g)) (numbers_in L side s g.request g.response) k)

        whole : {y : Remainder} → remainder_of L side s g.request g.response (peer_block side g) ≡ Ok y
            → (y.routes ≡ length (section_in (is_uac side) (routes_of L (peer_block side g))))
            × (made_image L side g room ≡ fitted room (image_of (parts_of y.numbers (is_uac side) (is_sips g.local_uri || is_sips g.remote_uri) id.call_id.text id.local_tag.text id.remote_tag.text (target_of side g) g.local_uri g.remote_uri (section_in (is_uac side) (routes_of L (peer_block side g))))))
        unfolding made_image
        whole {y} k =
            let t = tail_given side g id (routes_of L (peer_block side g)) (numbers_in L side s g.request g.response) k in
            let ps = t.0 in
            let v : Record = record_of side g id (route_texts (is_uac side) ps) y.numbers in
            let q : made_image L side g room ≡ fitted room (image.write v) = ap (λ (o : Result Record Refusal). and_then o (λ r. fitted room (image.write r))) (made_tail ∙ t.3) in
            rw t.1 (t.2 ∙ sym (section_size (is_uac side) ps), q ∙ ap (fitted room) (image_parts v))

-- ---- the same by the code's answers

-- the state that the code answers
state_outside : (status : ℕ) → first_state (state_by status) ≡ None → state_by status ≡ Err InvalidStatus
state_outside status e = by (in_class 100 200 status) (in_class 200 300 status) e
  where
    by : (a b : Bool) → first_state (cond a (Ok early) (cond b (Ok confirmed) (Err InvalidStatus))) ≡ None → cond a (Ok early) (cond b (Ok confirmed) (Err InvalidStatus)) ≡ Err InvalidStatus
    by true b f = absurd (let z : ◌≡◌ {A = ℕ} 0 1 = cc in omega arith)
    by false true f = absurd (let z : ◌≡◌ {A = ℕ} 0 1 = cc in omega arith)
    by false false f = refl

state_of_lem : (o : Result State Refusal) {s : CodeState} → first_state o ≡ Some s → o ≡ Ok (state_in s)
state_of_lem (Err cause) e = absurd (let z : ◌≡◌ {A = ℕ} 0 1 = cc in omega arith)
state_of_lem (Ok t) {s} e =
    let q : state_from t ≡ s = cc in
    ap Ok (sym (state_same t) ∙ ap state_in q)

-- the identifier that the code answers
pub record Named (u : Bool) (response : List ℕ) (i : DialogId) : Type 0 where
  pub id : Identifier
  pub reads : identifier_for u response ≡ Some id
  pub spans : dialog_id_from id ≡ i
  pub placed : PlacedId response id

side_placed : (u : Bool) (response : List ℕ) (id : Identifier) → identifier_for u response ≡ Some id → PlacedId response id
side_placed true response id e = identifier_placed from_name to_name response id e
side_placed false response id e = identifier_placed to_name from_name response id e

pub named : (u : Bool) (response : List ℕ) (i : DialogId) → id_from (identifier_for u response) ≡ Some i → Named u response i
named u response i e = by (identifier_for u response) refl e
  where
    by : (o : Option Identifier) → identifier_for u response ≡ o → id_from o ≡ Some i → Named u response i
    by None q f = absurd (let z : ◌≡◌ {A = ℕ} 0 1 = cc in omega arith)
    by (Some id) q f = record { id = id; reads = q; spans = (cc); placed = side_placed u response id q }

pub id_fits : (u : Bool) (r : List ℕ) (i : DialogId) → Named u r i
    → (i.call_id.start + i.call_id.length ≤ length r) × (i.local_tag.start + i.local_tag.length ≤ length r) × (i.remote_tag.start + i.remote_tag.length ≤ length r)
id_fits u r i n = subst (λ (d : DialogId). (d.call_id.start + d.call_id.length ≤ length r) × (d.local_tag.start + d.local_tag.length ≤ length r) × (d.remote_tag.start + d.remote_tag.length ≤ length r)) n.spans (n.placed.call_id.fits, n.placed.local_tag.fits, n.placed.remote_tag.fits)

unread : (o : Option Identifier) → id_from o ≡ None → o ≡ None
unread None e = refl
unread (Some id) e = absurd (let z : ◌≡◌ {A = ℕ} 0 1 = cc in omega arith)

-- the texts of an identifier that was read are the response's own bytes, and no longer than it
own_texts : (u : Bool) (r : List ℕ) (i : DialogId) (n : Named u r i) → ident_in r i ≡ ident n.id.call_id.text n.id.local_tag.text n.id.remote_tag.text
own_texts u r i n =
    ap (λ (d : DialogId). ident_in r d) (sym n.spans)
    ∙ rw (n.placed.call_id.there, n.placed.local_tag.there, n.placed.remote_tag.there)

part_short : (r : List ℕ) (v : Span) → length r ≤ 8192 → length (part_in r v) < 65536
part_short r v h = omega (arith, length-take v.length (drop v.start r), length-drop v.start r)

-- the parts of an image by the identifier and the URIs
abbrev parts_by : Bool → Numbers → Ident → Uris → List ℕ → Parts
parts_by u x id uris routes = record {
  numbers = x;
  we_are_uac = u;
  secure = is_sips uris.second.first || is_sips uris.second.second;
  ids = record { first = id.call_id; second = record { first = id.local_tag; second = id.remote_tag } };
  uris = uris;
  routes = routes;
}

own_parts : (u : Bool) (x : Numbers) (r t l m routes : List ℕ) (i : DialogId) (n : Named u r i) (k : IdTexts) (v : UriTexts) → ident_of k ≡ ident_in r i
    → uris_given v ≡ record { first = t; second = record { first = l; second = m } }
    → parts_of x u (is_sips l || is_sips m) n.id.call_id.text n.id.local_tag.text n.id.remote_tag.text t l m routes ≡ parts_for u x k v routes
own_parts u x r t l m routes i n k v e f = ap₂ (λ (a : Ident) (b : Uris). parts_by u x a b routes) (sym (e ∙ own_texts u r i n)) (sym f)

-- ---- the message with Contact and Record-Route, and the target, are short

pub peer_short : (u : Bool) (q r : List ℕ) {peer : List ℕ} → peer ≡ peer_of u q r → length q ≤ 8192 → length r ≤ 8192 → length peer ≤ 8192
peer_short true q r e h k = omega (arith, ap length e)
peer_short false q r e h k = omega (arith, ap length e)

pub target_short : (m peer : List ℕ) {t : List ℕ} → t ≡ text_or m (contact_of peer) → length m ≤ 8192 → length peer ≤ 8192 → length t ≤ 8192
target_short m peer {t} e h k = by (contact_of peer) refl e
  where
    by : (o : Option Piece) → contact_of peer ≡ o → t ≡ text_or m o → length t ≤ 8192
    by None q f = omega (arith, ap length f)
    by (Some p) q f = omega (arith, ap length f, (contact_within peer p q).0)

-- ---- a creation of either side

module _ (u : Bool) (d : NewDialog) (room : ℕ) where
  abbrev g : Creation
  g = checked_of d

  name_is : identifier_in (side_for u) g ≡ identifier_for u d.response.block.now
  name_is = by u
    where
      by : (v : Bool) → identifier_in (side_for v) g ≡ identifier_for v d.response.block.now
      by true = refl
      by false = refl

  peer_is : peer_block (side_for u) g ≡ peer_of u d.request.block.now d.response.block.now
  peer_is = by u
    where
      by : (v : Bool) → peer_block (side_for v) g ≡ peer_of v d.request.block.now d.response.block.now
      by true = refl
      by false = refl

  uac_is : is_uac (side_for u) ≡ u
  uac_is = by u
    where
      by : (v : Bool) → is_uac (side_for v) ≡ v
      by true = refl
      by false = refl

  pub no_identifier : id_from (identifier_for u d.response.block.now) ≡ None → made_image rust_limits (side_for u) g room ≡ Err MissingHeader
  no_identifier e = unnamed rust_limits (side_for u) g room (name_is ∙ unread (identifier_for u d.response.block.now) e)

  module _ (i : DialogId) (n : Named u d.response.block.now i) where
    pub no_state : first_state (state_by d.response.status) ≡ None → made_image rust_limits (side_for u) g room ≡ Err InvalidStatus
    no_state e = stateless rust_limits (side_for u) g room n.id (name_is ∙ n.reads) (state_outside d.response.status e)

    module _ (s : CodeState) (f : first_state (state_by d.response.status) ≡ Some s) (peer t : List ℕ) (a : peer ≡ peer_of u d.request.block.now d.response.block.now) (b : t ≡ text_or d.remote_uri.now (contact_of peer)) where
      abbrev estimates : List ℕ → Option Refusal
      estimates x = or_else (estimate_cause rust_limits d.local_uri.now) (or_else (estimate_cause rust_limits d.remote_uri.now) (estimate_cause rust_limits x))

      peers : peer_block (side_for u) g ≡ peer
      peers = peer_is ∙ sym a

      targets : target_of (side_for u) g ≡ t
      targets = ap (λ (x : List ℕ). text_or d.remote_uri.now (contact_of x)) peers ∙ sym b

      pub over_estimate_lem : {cause : Refusal} → check_of (estimates t) ≡ Err cause → made_image rust_limits (side_for u) g room ≡ Err cause
      over_estimate_lem e =
          overlong rust_limits (side_for u) g room n.id (name_is ∙ n.reads) (state_in s) (state_of_lem (state_by d.response.status) f) (stopped (estimates (target_of (side_for u) g)) (ap (λ (x : List ℕ). check_of (estimates x)) targets ∙ e))

      module _ (e : check_of (estimates t) ≡ Ok tt) (w : Result (CodeNumbers × PeerRoutes) Refusal) (k : remainder_in w ≡ remainder_of rust_limits (side_for u) (state_in s) d.request.block.now d.response.block.now peer) where
        clear : estimates (target_of (side_for u) g) ≡ None
        clear = passed (estimates (target_of (side_for u) g)) (ap (λ (x : List ℕ). check_of (estimates x)) targets ∙ e)

        remains : remainder_of rust_limits (side_for u) (state_in s) d.request.block.now d.response.block.now (peer_block (side_for u) g) ≡ remainder_in w
        remains = ap (λ (x : List ℕ). remainder_of rust_limits (side_for u) (state_in s) d.request.block.now d.response.block.now x) peers ∙ sym k

        pub rest_refused : {cause : Refusal} → w ≡ Err cause → made_image rust_limits (side_for u) g room ≡ Err cause
        rest_refused h = remainderless rust_limits (side_for u) g room n.id (name_is ∙ n.reads) (state_in s) (state_of_lem (state_by d.response.status) f) clear (remains ∙ ap remainder_in h)

        module _ (x : CodeNumbers) (p : PeerRoutes) (h : w ≡ Ok (x, p)) where
          abbrev Whole : Bool → List ℕ → List ℕ → Type 0
          Whole v y z =
              (p.size ≡ length (section_in v (routes_of rust_limits y)))
              × (made_image rust_limits (side_for u) g room ≡ fitted room (image_of (parts_of (meaning x) v (is_sips d.local_uri.now || is_sips d.remote_uri.now) n.id.call_id.text n.id.local_tag.text n.id.remote_tag.text z d.local_uri.now d.remote_uri.now (section_in v (routes_of rust_limits y)))))

          whole_is : Whole u peer t
          whole_is =
              subst (λ (v : Bool). Whole v peer t) uac_is
              (subst (λ (y : List ℕ). Whole (is_uac (side_for u)) y t) peers
              (subst (λ (z : List ℕ). Whole (is_uac (side_for u)) (peer_block (side_for u) g) z) targets
              (whole rust_limits (side_for u) g room n.id (name_is ∙ n.reads) (state_in s) (state_of_lem (state_by d.response.status) f) clear (remains ∙ ap remainder_in h))))

          pub image_is : (k : IdTexts) (v : UriTexts) → p.block.now ≡ peer → ident_of k ≡ ident_in d.response.block.now i → uris_given v ≡ record { first = t; second = record { first = d.local_uri.now; second = d.remote_uri.now } }
              → made_image rust_limits (side_for u) g room ≡ fitted room (image_of (parts_for u (meaning x) k v (section_in u (given_by p))))
          image_is k v be ie ue =
              whole_is.1
              ∙ ap (λ (q : Parts). fitted room (image_of q)) (own_parts u (meaning x) d.response.block.now t d.local_uri.now d.remote_uri.now (section_in u (routes_of rust_limits peer)) i n k v ie ue)
              ∙ ap (λ (y : List ℕ). fitted room (image_of (parts_for u (meaning x) k v (section_in u (routes_of rust_limits y))))) (sym be)
