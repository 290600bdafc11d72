-- What the answers say of the readings, and what callers know of a URI that was read. Assumes nothing.
use Prim.Native.Nat.{ℕ, zero, suc, ◌+◌, ◌≤◌}
use native.Mathlib.Omega.{arith}
use mathlib.Core.Path.{◌≡◌, refl, ◌∙◌}
use mathlib.Core.Bool.{true, false}
use mathlib.Core.List.{List}
use lib.ListN.{length}
use lib.Dec.{ltb}
use borrow.Author.Tests.{lt-ltb}
use Rattle.std.specs.Prelude.{Err, None, Ok, Option, Result, Some}
use Rattle.limits.specs.Limits.{LimitSet, rust_limits}
use Rattle.limits.specs.declared.Refusal.{Refusal}
use Rattle.limits.specs.declared.Refusal.TheVariants.{TextTooLong, InvalidUri, UriTooLong}
use Rattle.limits.proofs.Laws.{some_pair}
use Rattle.text.specs.Text.{Piece}
use Rattle.text.specs.Answers.{too_long, value_cause, span_of}
use Rattle.text.specs.Spans.{part_in}
use Rattle.text.specs.declared.Span.{Span}
use Rattle.uri.specs.SipUri.{UriParts, sip_uri, sip_uri_from, user_at, uri_from, uri_answer, estimate_of, over_estimate, port_from, port_estimate, read_uri, read_estimate}
use Rattle.uri.specs.HeaderUri.{uri_text, ReadUri, as_read, read_piece, header_uri, header_uri_from, piece_of, uri_from_header}
use Rattle.uri.specs.Steps.{cut_from, port_size, user_size, size_of, Inside}
use Rattle.uri.specs.declared.SipUri.{SipUri}
use Rattle.uri.proofs.Cuts.{Stands, text_stands}

-- ---- the reading of a text

-- a URI that was read has parts, which the answer tells
pub record PartsRead (o : Option UriParts) (u : SipUri) : Type 0 where
  pub parts : UriParts
  pub reads : o ≡ Some parts
  pub told : sip_uri_from parts ≡ u

pub read : (o : Option UriParts) {u : SipUri} → uri_from o ≡ Some u → PartsRead o u
read None e = absurd (let z : ◌≡◌ {A = ℕ} 0 1 = cc in omega arith)
read (Some p) e = record { parts = p; reads = refl; told = cc }

pub unread : (o : Option UriParts) → uri_from o ≡ None → o ≡ None
unread None e = refl
unread (Some p) e = absurd (let z : ◌≡◌ {A = ℕ} 0 1 = cc in omega arith)

-- ---- the estimate

port_size_lem : (o : Option ℕ) → port_size (port_from o) ≡ port_estimate o
port_size_lem None = refl
port_size_lem (Some n) = refl

user_size_lem : (at n : ℕ) → user_size (user_at at n) ≡ n
user_size_lem at zero = refl
user_size_lem at (suc n) = rw (lt-ltb 0 (suc n) (omega arith))

-- the estimate of the parts as the code has them is that of the parts that were read
pub size_is : (p : UriParts) → size_of (sip_uri_from p) ≡ estimate_of p
size_is p = rw (user_size_lem p.user.place (length p.user.text), port_size_lem p.port)

-- what `over_estimate` answers of a URI that was read
pub over_is : (p : UriParts) {u : SipUri} → sip_uri_from p ≡ u → ltb rust_limits.uri (size_of u) ≡ over_estimate rust_limits p
over_is p e = rw (← e, size_is p)

-- ---- the answer of `sip_uri`

pub answer_refused : (o : Result UriParts Refusal) {cause : Refusal} → uri_answer o ≡ Err cause → o ≡ Err cause
answer_refused (Err x) e = cc
answer_refused (Ok p) e = absurd (let z : ◌≡◌ {A = ℕ} 0 1 = cc in omega arith)

pub record Answered (o : Result UriParts Refusal) (u : SipUri) : Type 0 where
  pub parts : UriParts
  pub reads : o ≡ Ok parts
  pub told : sip_uri_from parts ≡ u

pub answered : (o : Result UriParts Refusal) {u : SipUri} → uri_answer o ≡ Ok u → Answered o u
answered (Err x) e = absurd (let z : ◌≡◌ {A = ℕ} 0 1 = cc in omega arith)
answered (Ok p) e = record { parts = p; reads = refl; told = cc }

-- ---- the operations on a given text or value

module _ (L : LimitSet) (s : List ℕ) where
  pub given_long : too_long L s ≡ true → read_uri L s ≡ Err TextTooLong
  unfolding read_uri
  given_long e = rw e

  module _ (e : too_long L s ≡ false) where
    pub given_unread : uri_from (sip_uri s) ≡ None → read_uri L s ≡ Err InvalidUri
    unfolding read_uri
    given_unread f = rw (e, unread (sip_uri s) f)

    pub given_read : {u : SipUri} (r : PartsRead (sip_uri s) u) → read_uri L s ≡ Ok r.parts
    unfolding read_uri
    given_read r = rw (e, r.reads)

  pub estimate_refused : {cause : Refusal} → read_uri L s ≡ Err cause → read_estimate L s ≡ Err cause
  unfolding read_estimate
  estimate_refused e = rw e

  pub value_refused : {cause : Refusal} → value_cause L s ≡ Some cause → uri_from_header L s ≡ Err cause
  unfolding uri_from_header
  value_refused e = rw e

  pub value_given : {o : Option ReadUri} → value_cause L s ≡ None → header_uri s ≡ o → uri_from_header L s ≡ Ok (piece_of o)
  unfolding uri_from_header
  value_given e f = rw (e, f)

  module _ (p : UriParts) (e : read_uri L s ≡ Ok p) where
    pub estimate_over : over_estimate L p ≡ true → read_estimate L s ≡ Err UriTooLong
    unfolding read_estimate
    estimate_over f = rw (e, f)

    pub estimate_given : over_estimate L p ≡ false → read_estimate L s ≡ Ok (estimate_of p)
    unfolding read_estimate
    estimate_given f = rw (e, f)

-- ---- the URI in a value: `header_uri`'s steps

-- a part that is cut out where a piece stands is its text
pub part_bytes : (v : List ℕ) (p : Piece) (at : Span) → Stands v p → span_of p ≡ at → part_in v at ≡ p.text
part_bytes v p at i e = rw (← e) i.bytes

cut_at : (o : Option Piece) {at : Span} → cut_from o ≡ Some at → (p : Piece) × (o ≡ Some p) × (span_of p ≡ at)
cut_at None e = absurd (let z : ◌≡◌ {A = ℕ} 0 1 = cc in omega arith)
cut_at (Some p) e = (p, refl, cc)

pub uncut : (v : List ℕ) → cut_from (uri_text v) ≡ None → header_uri v ≡ None
unfolding header_uri
uncut v e = by (uri_text v) e
  where
    by : (o : Option Piece) → cut_from o ≡ None → read_piece o ≡ None
    by None e = refl
    by (Some p) e = absurd (let z : ◌≡◌ {A = ℕ} 0 1 = cc in omega arith)

-- a text was cut out that stands at `at`
module _ (v : List ℕ) (at : Span) (e : cut_from (uri_text v) ≡ Some at) where
  piece : Piece
  piece = (cut_at (uri_text v) e).0

  cuts : uri_text v ≡ Some piece
  unfolding piece
  cuts = (cut_at (uri_text v) e).1

  place : span_of piece ≡ at
  unfolding piece
  place = (cut_at (uri_text v) e).2

  pub cut_inside : at.start + at.length ≤ length v
  cut_inside = rw (← place) (text_stands v cuts).fits

  -- t are the bytes there
  module _ (t : List ℕ) (ht : t ≡ part_in v at) where
    bytes : t ≡ piece.text
    bytes = ht ∙ part_bytes v piece at (text_stands v cuts) place

    pub cut_unread : uri_from (sip_uri t) ≡ None → header_uri v ≡ None
    unfolding header_uri
    cut_unread f = rw (cuts, unread (sip_uri piece.text) (rw bytes at f))

    pub cut_read : (u : SipUri) → uri_from (sip_uri t) ≡ Some u → header_uri_from (header_uri v) ≡ Some (at, u)
    unfolding header_uri
    cut_read u f =
        let r : PartsRead (sip_uri piece.text) u = read (sip_uri piece.text) (rw bytes at f) in
        rw (cuts, r.reads, place, r.told)

-- ---- the URI in a value: what callers know

-- its text stands in the value, and its parts are those of that text
pub record Found (v : List ℕ) (r : ReadUri) : Type 0 where
  pub stands : Stands v r.piece
  pub reads : sip_uri r.piece.text ≡ Some r.uri

as_read_lem : (p : Piece) (o : Option UriParts) {r : ReadUri} → as_read p o ≡ Some r → (r.piece ≡ p) × (o ≡ Some r.uri)
as_read_lem p None e = absurd (let z : ◌≡◌ {A = ℕ} 0 1 = cc in omega arith)
as_read_lem p (Some u) {r} e =
    let q : record { piece = p; uri = u } ≡ r = cc in
    rw (← q) (refl, refl)

pub found : (v : List ℕ) {r : ReadUri} → header_uri v ≡ Some r → Found v r
unfolding header_uri
found v {r} e = by (uri_text v) refl e
  where
    by : (o : Option Piece) → uri_text v ≡ o → read_piece o ≡ Some r → Found v r
    by None f e = absurd (let z : ◌≡◌ {A = ℕ} 0 1 = cc in omega arith)
    by (Some p) f e =
        let a : (r.piece ≡ p) × (sip_uri p.text ≡ Some r.uri) = as_read_lem p (sip_uri p.text) e in
        record { stands = rw a.0 (text_stands v f); reads = rw a.0 a.1 }

-- what the answer of `header_uri` says
pub record FoundAt (o : Option ReadUri) (at : Span) (u : SipUri) : Type 0 where
  pub read : ReadUri
  pub finds : o ≡ Some read
  pub place : span_of read.piece ≡ at
  pub told : sip_uri_from read.uri ≡ u

pub found_at : (o : Option ReadUri) {at : Span} {u : SipUri} → header_uri_from o ≡ Some (at, u) → FoundAt o at u
found_at None e = absurd (let z : ◌≡◌ {A = ℕ} 0 1 = cc in omega arith)
found_at (Some r) e = record { read = r; finds = refl; place = (some_pair e).0; told = (some_pair e).1 }

pub not_found : (o : Option ReadUri) → header_uri_from o ≡ None → o ≡ None
not_found None e = refl
not_found (Some r) e = absurd (let z : ◌≡◌ {A = ℕ} 0 1 = cc in omega arith)

pub inside : (v : List ℕ) (r : Option (Span × SipUri)) {at : Span} {u : SipUri} → Inside v r → r ≡ Some (at, u) → at.start + at.length ≤ length v
inside v None i e = absurd (let z : ◌≡◌ {A = ℕ} 0 1 = cc in omega arith)
inside v (Some (own, parts)) i e = rw (← (some_pair e).0) i
