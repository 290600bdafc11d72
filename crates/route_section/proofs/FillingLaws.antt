-- The turns of the two loops of `fill_routes`. Assumes nothing.
use Prim.Native.Nat.{ℕ, zero, suc, ◌+◌, ◌≤◌, ◌<◌}
use native.Mathlib.Omega.{arith}
use mathlib.Core.Path.{◌≡◌, refl, sym, ap, ◌∙◌}
use mathlib.Core.Bool.{Bool, false}
use mathlib.Core.List.{List, [], ◌∷◌, ◌++◌}
use lib.ListN.{length}
use lib.Dec.{leb}
use borrow.Author.Tests.{le-leb, lt-leb}
use Rattle.std.specs.Prelude.{Err, None, Ok, Option, Result, Some}
use Rattle.limits.specs.Limits.{rust_limits}
use Rattle.limits.specs.declared.Refusal.{Refusal}
use Rattle.limits.specs.declared.Refusal.TheVariants.{UriTooLong, RouteSetTooLarge}
use Rattle.limits.specs.Outcome.{refuse_if}
use Rattle.limits.proofs.Laws.{ok_pair}
use Rattle.text.specs.Text.{Piece, moved_piece}
use Rattle.text.specs.Answers.{span_of}
use Rattle.text.specs.declared.Span.{Span}
use Rattle.text.proofs.SegmentLaws.{left_done}
use Rattle.msg.specs.Block.{HeaderLine, first_named, found_of}
use Rattle.msg.specs.Lines.{values_of}
use Rattle.msg.proofs.LookupLaws.{Says, lines_left, found_at}
use Rattle.msg.proofs.NamedLaws.{FirstLine, line_told, named_left, no_line_left}
use Rattle.uri.specs.SipUri.{over_estimate}
use Rattle.edit.specs.Edit.{put_at}
use Rattle.codec.specs.Codec.{text}
use Rattle.uri.specs.HeaderUri.{ReadUri, header_uri}
use Rattle.uri.proofs.Laws.{found}
use Rattle.route_set.specs.Parts.{segments, segments_from, elements, first_element, part_from, header_values}
use Rattle.route_set.specs.Elements.{elements_left}
use Rattle.route_set.specs.Scan.{element_from}
use Rattle.route_set.proofs.WalkLaws.{Told, part_told, part_none}
use Rattle.route_set.proofs.ScanLaws.{no_unread, is_long, is_route, ahead, elements_among}
use Rattle.route_section.specs.Filling.{Filling, place_for, text_put, with_text, fill_element, filled, Answered}

-- ---- one text

module _ (reversed : Bool) (size : ℕ) (t bytes : List ℕ) where
  pub text_put_lem : 1 + size + (2 + length t) ≤ length bytes → put_at (place_for reversed (length bytes) size (2 + length t)) (text.write t) bytes ≡ text_put reversed size t bytes
  text_put_lem h = rw (le-leb _ _ h)

-- ---- one element

-- o is what is read of an element that stands at b
module _ (b : ℕ) (skipped : Result Filling Refusal) (more : List ℕ → Result Filling Refusal) where
  by_unread : (o : Option ReadUri) → element_from rust_limits b o ≡ Ok None → fill_element rust_limits o skipped more ≡ skipped
  by_unread None q = refl
  by_unread (Some r) q = absurd (no_unread (over_estimate rust_limits r.uri) (moved_piece b r.piece) q)

  by_long : (o : Option ReadUri) (cause : Refusal) → element_from rust_limits b o ≡ Err cause → fill_element rust_limits o skipped more ≡ Err cause
  by_long None cause q = absurd (let z : ◌≡◌ {A = ℕ} 0 1 = cc in omega arith)
  by_long (Some r) cause q = let k = is_long (over_estimate rust_limits r.uri) (moved_piece b r.piece) cause q in rw (k.0, k.1)

  by_route : (o : Option ReadUri) (u : Piece) → element_from rust_limits b o ≡ Ok (Some u) → fill_element rust_limits o skipped more ≡ more u.text
  by_route None u q = absurd (let z : ◌≡◌ {A = ℕ} 0 1 = cc in omega arith)
  by_route (Some r) u q = let k = is_route (over_estimate rust_limits r.uri) (moved_piece b r.piece) u q in rw k.0 (ap (λ (x : Piece). more x.text) k.1)

-- ---- the inner loop: p is the first element that is left, and ms those after it

module _ (reversed : Bool) (f : Filling) (es ms : List Piece) (p : Piece) (rest : List Piece) (e : es ≡ p ∷ ms) where
  pub fill_full : 50 ≤ f.count → filled rust_limits reversed f (es ++ rest) ≡ Err RouteSetTooLarge
  unfolding filled
  fill_full h = rw (e, le-leb 50 f.count h)

  module _ (h : f.count < 50) where
    pub fill_unread : element_from rust_limits p.place (header_uri p.text) ≡ Ok None → filled rust_limits reversed f (es ++ rest) ≡ filled rust_limits reversed f (ms ++ rest)
    unfolding filled
    fill_unread q = rw (e, lt-leb 50 f.count h) (by_unread p.place _ _ (header_uri p.text) q)

    pub fill_long : (cause : Refusal) → element_from rust_limits p.place (header_uri p.text) ≡ Err cause → filled rust_limits reversed f (es ++ rest) ≡ Err cause
    unfolding filled
    fill_long cause q = rw (e, lt-leb 50 f.count h) (by_long p.place _ _ (header_uri p.text) cause q)

    pub fill_route : (u : Piece) → element_from rust_limits p.place (header_uri p.text) ≡ Ok (Some u) → filled rust_limits reversed f (es ++ rest) ≡ filled rust_limits reversed (with_text reversed u.text f) (ms ++ rest)
    unfolding filled
    fill_route u q = rw (e, lt-leb 50 f.count h) (by_route p.place _ _ (header_uri p.text) u q)

-- ---- the outer loop

-- wherever the value of the elements stands in the block
pub any_place : (reversed : Bool) (a : ℕ) (es rest : List Piece) (f : Filling) → filled rust_limits reversed f (ahead a es rest) ≡ filled rust_limits reversed f (es ++ rest)
unfolding filled
any_place reversed a [] rest f = refl
any_place reversed a (e ∷ es) rest f = ap (refuse_if (leb rust_limits.routes f.count) RouteSetTooLarge) (by (header_uri e.text) (λ g. any_place reversed a es rest g))
  where
    by : (o : Option ReadUri) → ((g : Filling) → filled rust_limits reversed g (ahead a es rest) ≡ filled rust_limits reversed g (es ++ rest))
        → fill_element rust_limits o (filled rust_limits reversed f (ahead a es rest)) (λ t. filled rust_limits reversed (with_text reversed t f) (ahead a es rest)) ≡ fill_element rust_limits o (filled rust_limits reversed f (es ++ rest)) (λ t. filled rust_limits reversed (with_text reversed t f) (es ++ rest))
    by None k = k f
    by (Some r) k = ap (refuse_if (over_estimate rust_limits r.uri) UriTooLong) (k (with_text reversed r.piece.text f))

pub lines_done : (reversed : Bool) (f : Filling) (vs : List Piece) → vs ≡ [] → filled rust_limits reversed f (elements_among vs) ≡ Ok f
unfolding filled elements_among
lines_done reversed f vs e = rw e

-- ---- no text is longer than the block

abbrev pub AllShort : ℕ → List Piece → Type 0
AllShort n [] = Unit {0}
AllShort n (p ∷ ps) = (length p.text ≤ n) × AllShort n ps

pub shorter : (n m : ℕ) (ps : List Piece) → n ≤ m → AllShort n ps → AllShort m ps
shorter n m [] h s = tt
shorter n m (p ∷ ps) h s = (omega (arith, s.0), shorter n m ps h s.1)

-- p is the first that is left
pub short_first : (n : ℕ) (es ms : List Piece) (p : Piece) → es ≡ p ∷ ms → AllShort n es → (length p.text ≤ n) × AllShort n ms
short_first n es ms p e s = (rw e at s)

-- the URI of an element
pub short_uri : (b : ℕ) (t : List ℕ) (u : Piece) → element_from rust_limits b (header_uri t) ≡ Ok (Some u) → length u.text ≤ length t
short_uri b t u q = by (header_uri t) refl q
  where
    by : (o : Option ReadUri) → header_uri t ≡ o → element_from rust_limits b o ≡ Ok (Some u) → length u.text ≤ length t
    by None i q = absurd (let z : ◌≡◌ {A = ℕ} 0 1 = cc in omega arith)
    by (Some r) i q =
        let k = is_route (over_estimate rust_limits r.uri) (moved_piece b r.piece) u q in
        omega (arith, ap (λ (x : Piece). length x.text) k.1, (found t i).stands.fits)

-- the elements of a value
elements_past : (v : List ℕ) (at : ℕ) → length v < at → elements_left v at ≡ []
unfolding elements
elements_past v at h = rw (left_done (segments false 0) v at h)

short_from : (v : List ℕ) (fuel at : ℕ) → length v < at + fuel → AllShort (length v) (elements_left v at)
short_from v zero at h = rw (elements_past v at (omega arith)) tt
short_from v (suc fuel) at h = by (part_from (first_element at (segments_from v at))) refl (λ m. short_from v fuel m)
  where
    by : (o : Option (Span × ℕ)) → part_from (first_element at (segments_from v at)) ≡ o → ((m : ℕ) → length v < m + fuel → AllShort (length v) (elements_left v m)) → AllShort (length v) (elements_left v at)
    by None q more = rw (part_none v at q) tt
    by (Some (p, next)) q more =
        let t : Told v at p next = part_told v at p next q in
        rw t.then (omega (arith, t.placed.fits), more next (omega (arith, t.later)))

pub short_elements : (v : List ℕ) → AllShort (length v) (header_values v)
short_elements v = rw (le-leb 0 (length v) (omega arith)) at (short_from v (suc (length v)) 0 (omega arith))

-- the values of the lines
values_from : (s asked : List ℕ) (fuel at : ℕ) → length s < at + fuel → AllShort (length s) (values_of (named_left s asked at))
values_from s asked zero at h = by (first_named asked (lines_left s at)) refl
  where
    by : (o : Option HeaderLine) → first_named asked (lines_left s at) ≡ o → AllShort (length s) (values_of (named_left s asked at))
    by None q = rw (no_line_left asked (lines_left s at) q) tt
    by (Some f) q = let t : FirstLine s asked at f = line_told s asked at f q in absurd (omega (arith, t.later, t.within))
values_from s asked (suc fuel) at h = by (first_named asked (lines_left s at)) refl (λ m. values_from s asked fuel m)
  where
    by : (o : Option HeaderLine) → first_named asked (lines_left s at) ≡ o → ((m : ℕ) → length s < m + fuel → AllShort (length s) (values_of (named_left s asked m))) → AllShort (length s) (values_of (named_left s asked at))
    by None q more = rw (no_line_left asked (lines_left s at) q) tt
    by (Some f) q more =
        let t : FirstLine s asked at f = line_told s asked at f q in
        let r : Says s (first_named asked (lines_left s at)) (span_of f.value) f.next = found_at s asked at (span_of f.value) f.next (omega (arith, t.later, t.within)) (ap found_of q) in
        let i : r.line ≡ f = cc r.is in
        rw t.then (omega (arith, r.placed.fits, ap (λ (x : HeaderLine). length x.value.text) i), more f.next (omega (arith, t.later)))

pub short_values : (s asked : List ℕ) → AllShort (length s) (values_of (named_left s asked 0))
short_values s asked = values_from s asked (suc (length s)) 0 (omega arith)

-- ---- what is answered

pub held_answered : (o : Result Filling Refusal) (f : Filling) → o ≡ Ok f → Answered o (Ok (f.count, f.size)) f.bytes
held_answered o f e = rw e (refl, refl)

pub refused_answered : (o : Result Filling Refusal) (cause : Refusal) (bytes : List ℕ) → o ≡ Err cause → Answered o (Err cause) bytes
refused_answered o cause bytes e = rw e refl

-- what an answer says of the routes
pub answered_held : (o : Result Filling Refusal) (n k : ℕ) (bytes : List ℕ) (r : Result (ℕ × ℕ) Refusal) → Answered o r bytes → r ≡ Ok (n, k) → o ≡ Ok (record { count = n; size = k; bytes = bytes })
answered_held (Err cause) n k bytes r a e = absurd (let z : ◌≡◌ {A = ℕ} 0 1 = cc in omega arith)
answered_held (Ok f) n k bytes r a e =
    let i = ok_pair (sym a.0 ∙ e) in
    rw (← i.0, ← i.1, a.1)

pub answered_refused : (o : Result Filling Refusal) (cause : Refusal) (bytes : List ℕ) (r : Result (ℕ × ℕ) Refusal) → Answered o r bytes → r ≡ Err cause → o ≡ Err cause
answered_refused (Err own) cause bytes r a e = let q : own ≡ cause = cc in ap Err q
answered_refused (Ok f) cause bytes r a e = absurd (let z : ◌≡◌ {A = ℕ} 0 1 = cc a.0 in omega arith)
