-- What a scan says of the route set: how many routes it has, and which stands at an index. Assumes nothing.
use Prim.Native.Nat.{ℕ, zero, suc, ◌+◌, ◌-◌, ◌≤◌, ◌<◌}
use native.Mathlib.Nat.{add-zero, zero-add}
use native.Mathlib.Omega.{arith}
use mathlib.Core.Path.{◌≡◌, refl, sym, ap, subst, ◌∙◌}
use mathlib.Core.Bool.{Bool, true, false, cond}
use mathlib.Core.List.{List, [], ◌∷◌, ◌++◌, reverse, reverse-cons}
use lib.ListN.{length, length-reverse}
use lib.Dec.{leb, ltb}
use borrow.Author.Tests.{eq-eqb, ne_eqb, leb-false, ltb-true, ltb-false}
use Rattle.std.specs.Prelude.{slice_get, Err, None, Ok, Option, Result, Some}
use Rattle.std.proofs.lemmas.Option.{slice_get_past}
use Rattle.limits.specs.Limits.{rust_limits}
use Rattle.limits.specs.Outcome.{refuse_by, and_then}
use Rattle.limits.specs.declared.Refusal.{Refusal}
use Rattle.limits.specs.declared.Refusal.TheVariants.{RouteSetTooLarge, UriTooLong}
use Rattle.text.specs.Text.{Piece, moved_piece}
use Rattle.text.specs.Answers.{lookup_of}
use Rattle.msg.specs.Block.{block_cause}
use Rattle.uri.specs.SipUri.{over_estimate}
use Rattle.uri.specs.HeaderUri.{ReadUri, header_uri}
use Rattle.route_set.specs.Routes.{route_before, with_element, routes_from, route_elements, routes_of, in_order, route_set, route_count, route_at, count_of}
use Rattle.route_set.specs.Scan.{scan_element, scan, route_in}
use Rattle.text.specs.declared.Span.{Span}

-- ---- how many

-- what a scan that wants no route says of their number
abbrev pub number_in : Result (ℕ × Option Span) Refusal → Result ℕ Refusal
number_in (Ok (n, found)) = Ok n
number_in (Err cause) = Err cause

-- one route more is one more counted
one_more : (held : ℕ) (p : Piece) (o : Result (List Piece) Refusal) → and_then (route_before p o) (λ ps. Ok (held + length ps)) ≡ and_then o (λ ps. Ok (held + 1 + length ps))
one_more held p (Err cause) = refl
one_more held p (Ok ps) = let q : held + suc (length ps) ≡ held + 1 + length ps = omega arith in ap Ok q

-- o is the element's URI, if it is readable
count_element : (held at : ℕ) (es : List Piece) (o : Option ReadUri) → held < 50
    → ((h : ℕ) → number_in (scan rust_limits 50 h es) ≡ and_then (routes_from rust_limits h es) (λ ps. Ok (h + length ps)))
    → number_in (scan_element rust_limits 50 held at o (scan rust_limits 50 held es) (scan rust_limits 50 (held + 1) es))
    ≡ and_then (with_element rust_limits at o (routes_from rust_limits held es) (routes_from rust_limits (held + 1) es)) (λ ps. Ok (held + length ps))
count_element held at es None h ih = ih held
count_element held at es (Some r) h ih = by (over_estimate rust_limits r.uri) refl
  where
    by : (t : Bool) → over_estimate rust_limits r.uri ≡ t
        → number_in (scan_element rust_limits 50 held at (Some r) (scan rust_limits 50 held es) (scan rust_limits 50 (held + 1) es))
        ≡ and_then (with_element rust_limits at (Some r) (routes_from rust_limits held es) (routes_from rust_limits (held + 1) es)) (λ ps. Ok (held + length ps))
    by true t = rw t
    by false t = let k : held ≡ 50 → ⊥ = (λ (e : held ≡ 50). omega arith) in rw (t, ne_eqb held 50 k) (ih (held + 1) ∙ sym (one_more held (moved_piece at r.piece) (routes_from rust_limits (held + 1) es)))

pub count_is : (held : ℕ) (es : List Piece) → number_in (scan rust_limits 50 held es) ≡ and_then (routes_from rust_limits held es) (λ ps. Ok (held + length ps))
unfolding scan routes_from
count_is held [] = ap Ok (sym (add-zero held))
count_is held (e ∷ es) = by (leb 50 held) refl (λ h. count_is h es)
  where
    by : (t : Bool) → leb 50 held ≡ t → ((h : ℕ) → number_in (scan rust_limits 50 h es) ≡ and_then (routes_from rust_limits h es) (λ ps. Ok (h + length ps)))
        → number_in (scan rust_limits 50 held (e ∷ es)) ≡ and_then (routes_from rust_limits held (e ∷ es)) (λ ps. Ok (held + length ps))
    by true t ih = rw t
    by false t ih = rw t (count_element held e.place es (header_uri e.text) (leb-false _ _ t) ih)

-- ---- which

no_given : {A : Type 0} {cause : Refusal} {a : A} → Err cause ≡ Ok a → ⊥
no_given e = let z : ◌≡◌ {A = ℕ} 0 1 = cc in omega arith

-- the route of an element comes first, the others after it
before_given : (p : Piece) (o : Result (List Piece) Refusal) (ps : List Piece) → route_before p o ≡ Ok ps → (qs : List Piece) × (o ≡ Ok qs) × (p ∷ qs ≡ ps)
before_given p (Err cause) ps e = absurd (no_given e)
before_given p (Ok qs) ps e = (qs, refl, (cc))

module _ (held at : ℕ) (es : List Piece) (ih : (h k : ℕ) (ps : List Piece) → routes_from rust_limits h es ≡ Ok ps → k < length ps → route_in (scan rust_limits (h + k) h es) ≡ lookup_of (Ok (slice_get ps k))) where
  route_here : (r : ReadUri) (k : ℕ) (ps : List Piece) → over_estimate rust_limits r.uri ≡ false → route_before (moved_piece at r.piece) (routes_from rust_limits (held + 1) es) ≡ Ok ps → k < length ps
      → route_in (scan_element rust_limits (held + k) held at (Some r) (scan rust_limits (held + k) held es) (scan rust_limits (held + k) (held + 1) es)) ≡ lookup_of (Ok (slice_get ps k))
  route_here r zero ps t e h =
      let q = before_given (moved_piece at r.piece) (routes_from rust_limits (held + 1) es) ps e in
      rw (t, eq-eqb held (held + 0) (sym (add-zero held)), ← q.2)
  route_here r (suc k) ps t e h =
      let q = before_given (moved_piece at r.piece) (routes_from rust_limits (held + 1) es) ps e in
      let i : held ≡ held + suc k → ⊥ = (λ (x : held ≡ held + suc k). omega arith) in
      let j : held + suc k ≡ held + 1 + k = omega arith in
      let l : suc (length q.0) ≡ length ps = ap length q.2 in
      rw (t, ne_eqb held (held + suc k) i, ← q.2, j) (ih (held + 1) k q.0 q.1 (omega arith))

  route_element : (o : Option ReadUri) (k : ℕ) (ps : List Piece) → with_element rust_limits at o (routes_from rust_limits held es) (routes_from rust_limits (held + 1) es) ≡ Ok ps → k < length ps
      → route_in (scan_element rust_limits (held + k) held at o (scan rust_limits (held + k) held es) (scan rust_limits (held + k) (held + 1) es)) ≡ lookup_of (Ok (slice_get ps k))
  route_element None k ps e h = ih held k ps e h
  route_element (Some r) k ps e h = by (over_estimate rust_limits r.uri) refl
    where
      by : (t : Bool) → over_estimate rust_limits r.uri ≡ t
          → route_in (scan_element rust_limits (held + k) held at (Some r) (scan rust_limits (held + k) held es) (scan rust_limits (held + k) (held + 1) es)) ≡ lookup_of (Ok (slice_get ps k))
      by true t = absurd (no_given {cause = UriTooLong} (rw t at e))
      by false t = route_here r k ps t (rw t at e) h

pub route_is : (es : List Piece) (held k : ℕ) (ps : List Piece) → routes_from rust_limits held es ≡ Ok ps → k < length ps → route_in (scan rust_limits (held + k) held es) ≡ lookup_of (Ok (slice_get ps k))
unfolding scan routes_from
route_is [] held k ps e h = absurd (let x : [] ≡ ps = cc in omega (arith, ap length x))
route_is (e ∷ es) held k ps q h = by (leb 50 held) refl (route_is es)
  where
    by : (t : Bool) → leb 50 held ≡ t → ((h k : ℕ) (ps : List Piece) → routes_from rust_limits h es ≡ Ok ps → k < length ps → route_in (scan rust_limits (h + k) h es) ≡ lookup_of (Ok (slice_get ps k)))
        → route_in (scan rust_limits (held + k) held (e ∷ es)) ≡ lookup_of (Ok (slice_get ps k))
    by true t ih = absurd (no_given {cause = RouteSetTooLarge} (rw t at q))
    by false t ih = rw t (route_element held e.place es ih (header_uri e.text) k ps (rw t at q) h)

-- the same from no routes held
pub route_from_start : (es : List Piece) (k : ℕ) (ps : List Piece) → routes_from rust_limits 0 es ≡ Ok ps → k < length ps → route_in (scan rust_limits k 0 es) ≡ lookup_of (Ok (slice_get ps k))
route_from_start es k ps e h = subst (λ (w : ℕ). route_in (scan rust_limits w 0 es) ≡ lookup_of (Ok (slice_get ps k))) (zero-add k) (route_is es 0 k ps e h)

-- ---- reversed

module _ {A : Type 0} where
  in_front_lem : (l m : List A) (i : ℕ) → i < length l → slice_get (l ++ m) i ≡ slice_get l i
  in_front_lem [] m i h = absurd (omega arith)
  in_front_lem (x ∷ l) m zero h = refl
  in_front_lem (x ∷ l) m (suc i) h = in_front_lem l m i (omega arith)

  at_seam : (l : List A) (x : A) → slice_get (l ++ (x ∷ [])) (length l) ≡ Some x
  at_seam [] x = refl
  at_seam (y ∷ l) x = at_seam l x

  pub reversed_at : (l : List A) (i : ℕ) → i < length l → slice_get (reverse l) i ≡ slice_get l (length l - i - 1)
  reversed_at [] i h = absurd (omega arith)
  reversed_at (x ∷ l) i h = rw reverse-cons (by (ltb i (length l)) refl (reversed_at l i))
    where
      by : (t : Bool) → ltb i (length l) ≡ t → (i < length l → slice_get (reverse l) i ≡ slice_get l (length l - i - 1)) → slice_get (reverse l ++ (x ∷ [])) i ≡ slice_get (x ∷ l) (suc (length l) - i - 1)
      by true t ih =
          let k : i < length l = ltb-true _ _ t in
          let j : suc (length l) - i - 1 ≡ suc (length l - i - 1) = omega arith in
          rw j (in_front_lem (reverse l) (x ∷ []) i (omega (arith, length-reverse l)) ∙ ih k)
      by false t ih =
          let k : length l ≤ i = ltb-false _ _ t in
          let e : i ≡ length (reverse l) = omega (arith, length-reverse l) in
          let j : suc (length l) - i - 1 ≡ 0 = omega arith in
          rw (j, e) (at_seam (reverse l) x)

  pub none_past : (reversed : Bool) (l : List A) (i : ℕ) → length l ≤ i → slice_get (cond reversed (reverse l) l) i ≡ None
  none_past true l i h = slice_get_past (reverse l) i (omega (arith, length-reverse l))
  none_past false l i h = slice_get_past l i h

-- ---- the operations by the routes as received

-- the refusals, then the routes as received
abbrev pub received : List ℕ → Result (List Piece) Refusal
received block = refuse_by (block_cause rust_limits block) (routes_of rust_limits block)

set_is : (reversed : Bool) (block : List ℕ) → route_set rust_limits reversed block ≡ and_then (received block) (λ ps. Ok (in_order reversed ps))
unfolding route_set
set_is reversed block = by (block_cause rust_limits block)
  where
    by : (o : Option Refusal) → refuse_by o (and_then (routes_of rust_limits block) (λ ps. Ok (in_order reversed ps))) ≡ and_then (refuse_by o (routes_of rust_limits block)) (λ ps. Ok (in_order reversed ps))
    by None = refl
    by (Some cause) = refl

pub count_by : (block : List ℕ) → route_count rust_limits block ≡ and_then (received block) (λ ps. Ok (length ps))
count_by block = rw (set_is false block) (by (received block))
  where
    by : (o : Result (List Piece) Refusal) → and_then (and_then o (λ ps. Ok (in_order false ps))) (λ ps. Ok (length ps)) ≡ and_then o (λ ps. Ok (length ps))
    by (Err cause) = refl
    by (Ok ps) = refl

pub at_by : (reversed : Bool) (block : List ℕ) (index : ℕ) → route_at rust_limits reversed block index ≡ and_then (received block) (λ ps. Ok (slice_get (in_order reversed ps) index))
at_by reversed block index = rw (set_is reversed block) (by (received block))
  where
    by : (o : Result (List Piece) Refusal) → and_then (and_then o (λ ps. Ok (in_order reversed ps))) (λ ps. Ok (slice_get ps index)) ≡ and_then o (λ ps. Ok (slice_get (in_order reversed ps) index))
    by (Err cause) = refl
    by (Ok ps) = refl

-- a refused count is a refusal of every route
pub count_refused : (reversed : Bool) (block : List ℕ) (index : ℕ) (cause : Refusal) → count_of (route_count rust_limits block) ≡ Err cause → Err cause ≡ lookup_of (route_at rust_limits reversed block index)
count_refused reversed block index cause e = rw (at_by reversed block index) (by (received block) (ap count_of (sym (count_by block)) ∙ e))
  where
    by : (o : Result (List Piece) Refusal) → count_of (and_then o (λ ps. Ok (length ps))) ≡ Err cause → Err cause ≡ lookup_of (and_then o (λ ps. Ok (slice_get (in_order reversed ps) index)))
    by (Err own) e = let q : own ≡ cause = cc in ap Err (sym q)
    by (Ok ps) e = absurd (let z : ◌≡◌ {A = ℕ} 0 1 = cc in omega arith)

-- a count says that there are so many routes
pub record Counted (block : List ℕ) (n : ℕ) : Type 0 where
  pub routes : List Piece
  pub is : received block ≡ Ok routes
  pub size : length routes ≡ n

pub counted : (block : List ℕ) (n : ℕ) → count_of (route_count rust_limits block) ≡ Ok n → Counted block n
counted block n e = by (received block) refl (ap count_of (sym (count_by block)) ∙ e)
  where
    by : (o : Result (List Piece) Refusal) → received block ≡ o → count_of (and_then o (λ ps. Ok (length ps))) ≡ Ok n → Counted block n
    by (Err own) q e = absurd (let z : ◌≡◌ {A = ℕ} 0 1 = cc in omega arith)
    by (Ok ps) q e = record { routes = ps; is = q; size = (cc) }

-- routes that were received were read
read_by : (block ps : _) → received block ≡ Ok ps → routes_of rust_limits block ≡ Ok ps
read_by block ps e = by (block_cause rust_limits block) e
  where
    by : (o : Option Refusal) → refuse_by o (routes_of rust_limits block) ≡ Ok ps → routes_of rust_limits block ≡ Ok ps
    by None e = e
    by (Some cause) e = absurd (no_given e)

module _ (block : List ℕ) (n index : ℕ) (c : Counted block n) where
  pub past_routes : (reversed : Bool) → n ≤ index → Ok None ≡ lookup_of (route_at rust_limits reversed block index)
  past_routes reversed h = rw (at_by reversed block index, c.is) (ap (λ (o : Option Piece). lookup_of (Ok o)) (sym (by reversed)))
    where
      by : (b : Bool) → slice_get (in_order b c.routes) index ≡ None
      by true = none_past true c.routes index (omega (arith, c.size))
      by false = none_past false c.routes index (omega (arith, c.size))

  pub route_forward : index < n → route_in (scan rust_limits index 0 (route_elements block)) ≡ lookup_of (route_at rust_limits false block index)
  route_forward h = rw (at_by false block index, c.is) (route_from_start (route_elements block) index c.routes (read_by block c.routes c.is) (omega (arith, c.size)))

  pub route_backward : index < n → route_in (scan rust_limits (n - index - 1) 0 (route_elements block)) ≡ lookup_of (route_at rust_limits true block index)
  route_backward h =
      let e : n - index - 1 ≡ length c.routes - index - 1 = omega (arith, c.size) in
      rw (at_by true block index, c.is, reversed_at c.routes index (omega (arith, c.size)), e) (route_from_start (route_elements block) (length c.routes - index - 1) c.routes (read_by block c.routes c.is) (omega (arith, c.size)))

-- the count by the scan
module _ (block : List ℕ) (clear : block_cause rust_limits block ≡ None) where
  pub count_clear : route_count rust_limits block ≡ number_in (scan rust_limits 50 0 (route_elements block))
  count_clear = count_by block ∙ rw clear (sym (count_is 0 (route_elements block) ∙ by (routes_of rust_limits block)))
    where
      by : (o : Result (List Piece) Refusal) → and_then o (λ ps. Ok (0 + length ps)) ≡ and_then o (λ ps. Ok (length ps))
      by (Err cause) = refl
      by (Ok ps) = ap Ok (zero-add (length ps))

pub count_stopped : (block : List ℕ) (cause : Refusal) → block_cause rust_limits block ≡ Some cause → route_count rust_limits block ≡ Err cause
count_stopped block cause e = count_by block ∙ rw e
