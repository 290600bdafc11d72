-- The turns of the two loops of `scan_routes`. Assumes nothing.
use Prim.Native.Nat.{ℕ, ◌+◌, ◌≤◌, ◌<◌}
use native.Mathlib.Omega.{arith}
use mathlib.Core.Path.{◌≡◌, refl, sym, ap, ◌∙◌}
use mathlib.Core.Bool.{Bool, true, false, cond}
use mathlib.Core.List.{List, [], ◌∷◌, ◌++◌, map}
use borrow.Author.Tests.{le-leb, lt-leb, eq-eqb, ne_eqb}
use Rattle.std.specs.Prelude.{Err, None, Ok, Option, Result, Some}
use Rattle.limits.specs.Limits.{rust_limits}
use Rattle.limits.specs.declared.Refusal.{Refusal}
use Rattle.limits.specs.declared.Refusal.TheVariants.{UriTooLong, RouteSetTooLarge}
use Rattle.text.specs.Text.{Piece, moved_piece}
use Rattle.text.specs.Answers.{span_of}
use Rattle.text.specs.Pieces.{piece_of}
use Rattle.text.specs.declared.Span.{Span}
use Rattle.text.specs.declared.piece.Part.{Part}
use Rattle.msg.specs.Block.{HeaderLine}
use Rattle.msg.specs.Lines.{values_of}
use Rattle.uri.specs.SipUri.{over_estimate}
use Rattle.uri.specs.HeaderUri.{ReadUri, header_uri}
use Rattle.route_set.specs.Parts.{header_values}
use Rattle.route_set.specs.Routes.{elements_in}
use Rattle.route_set.specs.Scan.{scan_element, scan, element_of, element_from}

-- ---- one element

-- what an answer says of an element's URI
pub no_unread : (t : Bool) (p : Piece) → ◌≡◌ {A = Result (Option Piece) Refusal} (cond t (Err UriTooLong) (Ok (Some p))) (Ok None) → ⊥
no_unread true p e = let z : ◌≡◌ {A = ℕ} 0 1 = cc in omega arith
no_unread false p e = let z : ◌≡◌ {A = ℕ} 0 1 = cc in omega arith

pub is_long : (t : Bool) (p : Piece) (cause : Refusal) → ◌≡◌ {A = Result (Option Piece) Refusal} (cond t (Err UriTooLong) (Ok (Some p))) (Err cause) → (t ≡ true) × (UriTooLong ≡ cause)
is_long true p cause e = (refl, (cc))
is_long false p cause e = absurd (let z : ◌≡◌ {A = ℕ} 0 1 = cc in omega arith)

pub is_route : (t : Bool) (p u : Piece) → ◌≡◌ {A = Result (Option Piece) Refusal} (cond t (Err UriTooLong) (Ok (Some p))) (Ok (Some u)) → (t ≡ false) × (p ≡ u)
is_route true p u e = absurd (let z : ◌≡◌ {A = ℕ} 0 1 = cc in omega arith)
is_route false p u e = (refl, (cc))

-- as the code answers it
pub answer_none : (r : Result (Option Part) Refusal) (o : Result (Option Piece) Refusal) → element_of r ≡ o → r ≡ Ok None → o ≡ Ok None
answer_none r o e h = sym e ∙ ap element_of h

pub answer_some : (r : Result (Option Part) Refusal) (o : Result (Option Piece) Refusal) (u : Part) → element_of r ≡ o → r ≡ Ok (Some u) → o ≡ Ok (Some (piece_of u))
answer_some r o u e h = sym e ∙ ap element_of h

pub answer_err : (r : Result (Option Part) Refusal) (o : Result (Option Piece) Refusal) (cause : Refusal) → element_of r ≡ o → r ≡ Err cause → o ≡ Err cause
answer_err r o cause e h = sym e ∙ ap element_of h

-- b is where the element stands in the value, which stands at a in the block
module _ (w held a b : ℕ) (s m : Result (ℕ × Option Span) Refusal) where
  by_unread : (o : Option ReadUri) → element_from rust_limits b o ≡ Ok None → scan_element rust_limits w held (a + b) o s m ≡ s
  by_unread None e = refl
  by_unread (Some r) e = absurd (no_unread (over_estimate rust_limits r.uri) (moved_piece b r.piece) e)

  by_long : (o : Option ReadUri) (cause : Refusal) → element_from rust_limits b o ≡ Err cause → scan_element rust_limits w held (a + b) o s m ≡ Err cause
  by_long None cause e = absurd (let z : ◌≡◌ {A = ℕ} 0 1 = cc in omega arith)
  by_long (Some r) cause e = let q = is_long (over_estimate rust_limits r.uri) (moved_piece b r.piece) cause e in rw (q.0, q.1)

  by_hit : (o : Option ReadUri) (u : Piece) → element_from rust_limits b o ≡ Ok (Some u) → held ≡ w → scan_element rust_limits w held (a + b) o s m ≡ Ok (held, Some (span_of (moved_piece a u)))
  by_hit None u e h = absurd (let z : ◌≡◌ {A = ℕ} 0 1 = cc in omega arith)
  by_hit (Some r) u e h =
      let q = is_route (over_estimate rust_limits r.uri) (moved_piece b r.piece) u e in
      let k : a + b + r.piece.place ≡ a + (b + r.piece.place) = omega arith in
      rw (q.0, eq-eqb held w h, ← q.1, k)

  by_more : (o : Option ReadUri) (u : Piece) → element_from rust_limits b o ≡ Ok (Some u) → (held ≡ w → ⊥) → scan_element rust_limits w held (a + b) o s m ≡ m
  by_more None u e h = absurd (let z : ◌≡◌ {A = ℕ} 0 1 = cc in omega arith)
  by_more (Some r) u e h =
      let q = is_route (over_estimate rust_limits r.uri) (moved_piece b r.piece) u e in
      rw (q.0, ne_eqb held w h)

-- ---- the inner loop: the elements of a value that stands at a, then those of later lines

abbrev pub ahead : ℕ → List Piece → List Piece → List Piece
ahead a es rest = map (moved_piece a) es ++ rest

-- p is the first element that is left, and ms those after it
module _ (w held a : ℕ) (es ms : List Piece) (p : Piece) (rest : List Piece) (e : es ≡ p ∷ ms) where
  pub scan_full : 50 ≤ held → scan rust_limits w held (ahead a es rest) ≡ Err RouteSetTooLarge
  unfolding scan
  scan_full h = rw (e, le-leb 50 held h)

  module _ (h : held < 50) where
    pub scan_unread : element_from rust_limits p.place (header_uri p.text) ≡ Ok None → scan rust_limits w held (ahead a es rest) ≡ scan rust_limits w held (ahead a ms rest)
    unfolding scan
    scan_unread q = rw (e, lt-leb 50 held h) (by_unread w held a p.place _ _ (header_uri p.text) q)

    pub scan_long : (cause : Refusal) → element_from rust_limits p.place (header_uri p.text) ≡ Err cause → scan rust_limits w held (ahead a es rest) ≡ Err cause
    unfolding scan
    scan_long cause q = rw (e, lt-leb 50 held h) (by_long w held a p.place _ _ (header_uri p.text) cause q)

    pub scan_hit : (u : Piece) → element_from rust_limits p.place (header_uri p.text) ≡ Ok (Some u) → held ≡ w → scan rust_limits w held (ahead a es rest) ≡ Ok (held, Some (span_of (moved_piece a u)))
    unfolding scan
    scan_hit u q k = rw (e, lt-leb 50 held h) (by_hit w held a p.place _ _ (header_uri p.text) u q k)

    pub scan_more : (u : Piece) → element_from rust_limits p.place (header_uri p.text) ≡ Ok (Some u) → (held ≡ w → ⊥) → scan rust_limits w held (ahead a es rest) ≡ scan rust_limits w (held + 1) (ahead a ms rest)
    unfolding scan
    scan_more u q k = rw (e, lt-leb 50 held h) (by_more w held a p.place _ _ (header_uri p.text) u q k)

-- ---- the outer loop: the values of the lines

-- the elements of some values, where they stand in the block
unfoldable pub elements_among : List Piece → List Piece
elements_among [] = []
elements_among (v ∷ vs) = ahead v.place (header_values v.text) (elements_among vs)

pub elements_by : (ls : List HeaderLine) → elements_in ls ≡ elements_among (values_of ls)
unfolding elements_in elements_among
elements_by [] = refl
elements_by (l ∷ ls) = rw (elements_by ls)

-- v is the first value that is left, and ms those after it
pub open_value : (vs ms : List Piece) (v : Piece) → vs ≡ v ∷ ms → elements_among vs ≡ ahead v.place (header_values v.text) (elements_among ms)
unfolding elements_among
open_value vs ms v e = rw e

pub no_more : (w held : ℕ) (vs : List Piece) → vs ≡ [] → scan rust_limits w held (elements_among vs) ≡ Ok (held, None)
unfolding scan elements_among
no_more w held vs e = rw e
