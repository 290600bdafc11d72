-- The routes that are read from a block: readable URIs, none longer than the block, and no more than the limit. Assumes nothing.
use Prim.Native.Nat.{ℕ, suc, ◌+◌, ◌≤◌, ◌<◌}
use native.Mathlib.Omega.{arith}
use mathlib.Core.Path.{◌≡◌, refl, subst}
use mathlib.Core.Bool.{Bool, true, false, cond}
use mathlib.Core.List.{List, [], ◌∷◌, ◌++◌, map, reverse, reverse_aux}
use lib.ListN.{length, length-map, length-reverse}
use lib.Dec.{leb}
use borrow.Author.Tests.{leb-false}
use Rattle.limits.specs.declared.Refusal.{Refusal}
use Rattle.std.specs.Prelude.{Err, None, Ok, Option, Result, Some}
use Rattle.limits.specs.Limits.{LimitSet}
use Rattle.limits.specs.declared.Refusal.TheVariants.{UriTooLong, RouteSetTooLarge}
use Rattle.text.specs.Text.{on_head, trimmed, Piece, moved_piece, trimmed_piece}
use Rattle.text.specs.Number.{non_empty}
use Rattle.text.proofs.Trimming.{trimmed_fits}
use Rattle.msg.specs.Block.{HeaderLine, lines_of, all_named}
use Rattle.uri.specs.SipUri.{over_estimate}
use Rattle.uri.specs.HeaderUri.{ReadUri, header_uri}
use Rattle.route_set.specs.Parts.{is_cut, quote_after, depth_after, segments, elements, header_values}
use Rattle.route_set.specs.Routes.{record_route_name, elements_of, elements_in, route_elements, route_before, with_element, routes_from, routes_of}
use Rattle.record.specs.Record.{EachUri}
use Rattle.codec.proofs.CodecLaws.{GoodAll}
use Rattle.dialog_rules.proofs.StepLaws.{given_same, never_given, past_test}
use Rattle.dialog_rules.proofs.RefusalLaws.{passed_test}
use Rattle.dialog_rules.proofs.PieceLaws.{BoundedLine, values_bounded}
use Rattle.dialog_rules.proofs.ReadLaws.{UriWithin, uri_within}

-- ---- what holds of every element of a list

-- what follows from a property holds where it holds
all_weaker : {A : Type 0} (P Q : A → Type 0) → ((a : A) → P a → Q a) → (l : List A) → GoodAll P l → GoodAll Q l
all_weaker P Q h [] g = tt
all_weaker P Q h (a ∷ l) g = (h a g.0, all_weaker P Q h l g.1)

-- of one list and of another
all_both : {A : Type 0} (P : A → Type 0) (l m : List A) → GoodAll P l → GoodAll P m → GoodAll P (l ++ m)
all_both P [] m g h = h
all_both P (a ∷ l) m g h = (g.0, all_both P l m g.1 h)

-- of a list turned round in front of another
all_onto : {A : Type 0} (P : A → Type 0) (l m : List A) → GoodAll P l → GoodAll P m → GoodAll P (reverse_aux l m)
all_onto P [] m g h = h
all_onto P (a ∷ l) m g h = all_onto P l (a ∷ m) g.1 (g.0, h)

-- of a list turned round
all_reversed : {A : Type 0} (P : A → Type 0) (l : List A) → GoodAll P l → GoodAll P (reverse l)
all_reversed P l g = all_onto P l [] g tt

-- ---- the elements of a value

-- at most k bytes
abbrev TextWithin : ℕ → List ℕ → Type 0
TextWithin k t = length t ≤ k

abbrev PieceWithin : ℕ → Piece → Type 0
PieceWithin k p = length p.text ≤ k

-- one byte more in the first segment
head_within : (k b : ℕ) (gs : List (List ℕ)) → GoodAll (TextWithin k) gs → GoodAll (TextWithin (suc k)) (on_head b gs)
head_within k b [] h = (omega arith, tt)
head_within k b (g ∷ gs) h = (omega (arith, h.0), all_weaker (TextWithin k) (TextWithin (suc k)) (λ t l. omega arith) gs h.1)

-- no segment is longer than the value
segments_within : (q : Bool) (d : ℕ) (s : List ℕ) → GoodAll (TextWithin (length s)) (segments q d s)
unfolding segments
segments_within q d [] = (omega arith, tt)
segments_within q d (b ∷ s) = by (is_cut q d b) (segments_within false 0 s) (segments_within (quote_after q b) (depth_after d b) s)
  where
    by : (t : Bool) → GoodAll (TextWithin (length s)) (segments false 0 s) → GoodAll (TextWithin (length s)) (segments (quote_after q b) (depth_after d b) s)
        → GoodAll (TextWithin (suc (length s))) (cond t ([] ∷ segments false 0 s) (on_head b (segments (quote_after q b) (depth_after d b) s)))
    by true cut more = (omega arith, all_weaker (TextWithin (length s)) (TextWithin (suc (length s))) (λ t l. omega arith) (segments false 0 s) cut)
    by false cut more = head_within (length s) b (segments (quote_after q b) (depth_after d b) s) more

-- no element is longer than its segment
elements_within : (k at : ℕ) (gs : List (List ℕ)) → GoodAll (TextWithin k) gs → GoodAll (PieceWithin k) (elements at gs)
unfolding elements
elements_within k at [] h = tt
elements_within k at (g ∷ gs) h = by (non_empty (trimmed g)) (elements_within k (at + length g + 1) gs h.1)
  where
    by : (t : Bool) → GoodAll (PieceWithin k) (elements (at + length g + 1) gs) → GoodAll (PieceWithin k) (cond t (trimmed_piece at g ∷ elements (at + length g + 1) gs) (elements (at + length g + 1) gs))
    by true more = (omega (arith, h.0, trimmed_fits g), more)
    by false more = more

-- another place keeps the length
moved_within : (k at : ℕ) (ps : List Piece) → GoodAll (PieceWithin k) ps → GoodAll (PieceWithin k) (map (moved_piece at) ps)
moved_within k at [] h = tt
moved_within k at (p ∷ ps) h = (h.0, moved_within k at ps h.1)

-- no element of a line is longer than its value
line_within : (k : ℕ) (l : HeaderLine) → BoundedLine k l → GoodAll (PieceWithin k) (elements_of l)
line_within k l h =
    let v : List ℕ = l.value.text in
    let g : GoodAll (TextWithin k) (segments false 0 v) = all_weaker (TextWithin (length v)) (TextWithin k) (λ t m. omega (arith, m, h.0)) (segments false 0 v) (segments_within false 0 v) in
    moved_within k l.value.place (header_values v) (elements_within k 0 (segments false 0 v) g)

-- no element of the lines is longer than their values
lines_within : (k : ℕ) (ls : List HeaderLine) → GoodAll (BoundedLine k) ls → GoodAll (PieceWithin k) (elements_in ls)
unfolding elements_in
lines_within k [] h = tt
lines_within k (l ∷ ls) h = all_both (PieceWithin k) (elements_of l) (elements_in ls) (line_within k l h.0) (lines_within k ls h.1)

-- ---- the routes

-- a route that is a readable URI of at most k bytes
abbrev pub RouteWithin : ℕ → Piece → Type 0
RouteWithin k p = UriWithin k p.text

-- routes that were read when `held` were held already
record Routes (L : LimitSet) (k held : ℕ) (ps : List Piece) : Type 0 where
  pub each : GoodAll (RouteWithin k) ps
  pub count : held ≤ L.routes → held + length ps ≤ L.routes

-- nothing was read
no_routes : (L : LimitSet) (k held : ℕ) → Routes L k held []
no_routes L k held = record { each = tt; count = λ h. omega arith }

-- one route before the others
before : (L : LimitSet) (k held : ℕ) (p : Piece) (o : Result (List Piece) Refusal) (ps : List Piece) → held < L.routes → RouteWithin k p → ((qs : List Piece) → o ≡ Ok qs → Routes L k (held + 1) qs)
    → route_before p o ≡ Ok ps → Routes L k held ps
before L k held p (Err cause) ps h w more e = absurd (never_given e)
before L k held p (Ok qs) ps h w more e =
    let r : Routes L k (held + 1) qs = more qs refl in
    let c : held + 1 + length qs ≤ L.routes = r.count (omega arith) in
    subst (Routes L k held) (given_same e) (record { each = (w, r.each); count = λ x. omega (arith, c) })

-- the routes of elements of at most k bytes
routes_within : (L : LimitSet) (k held : ℕ) (es ps : List Piece) → GoodAll (PieceWithin k) es → routes_from L held es ≡ Ok ps → Routes L k held ps
unfolding routes_from
routes_within L k held [] ps h e = subst (Routes L k held) (given_same e) (no_routes L k held)
routes_within L k held (x ∷ es) ps h e = by (header_uri x.text) refl q (λ (n : ℕ) (qs : List Piece). routes_within L k n es qs h.1)
  where
    q : with_element L x.place (header_uri x.text) (routes_from L held es) (routes_from L (held + 1) es) ≡ Ok ps
    q = past_test (leb L.routes held) RouteSetTooLarge (with_element L x.place (header_uri x.text) (routes_from L held es) (routes_from L (held + 1) es)) e

    room : held < L.routes
    room = leb-false L.routes held (passed_test (leb L.routes held) RouteSetTooLarge (with_element L x.place (header_uri x.text) (routes_from L held es) (routes_from L (held + 1) es)) e)

    by : (o : Option ReadUri) → header_uri x.text ≡ o → with_element L x.place o (routes_from L held es) (routes_from L (held + 1) es) ≡ Ok ps
        → ((n : ℕ) (qs : List Piece) → routes_from L n es ≡ Ok qs → Routes L k n qs) → Routes L k held ps
    by None f e more = more held ps e
    by (Some r) f e more =
        before L k held (moved_piece x.place r.piece) (routes_from L (held + 1) es) ps room (uri_within k x.text r h.0 f) (more (held + 1))
        (past_test (over_estimate L r.uri) UriTooLong (route_before (moved_piece x.place r.piece) (routes_from L (held + 1) es)) e)

-- every route of a block is a readable URI and no longer than the block, and there are at most as many as the limit says
pub block_routes : (L : LimitSet) (block : List ℕ) (ps : List Piece) → routes_of L block ≡ Ok ps → GoodAll (RouteWithin (length block)) ps × (length ps ≤ L.routes)
block_routes L block ps e =
    let k : ℕ = length block in
    let r : Routes L k 0 ps = routes_within L k 0 (route_elements block) ps (lines_within k (all_named record_route_name (lines_of block)) (values_bounded record_route_name block)) e in
    (r.each, omega (arith, r.count (omega arith)))

-- their texts, as a record has them
texts_formed : (k : ℕ) (ps : List Piece) → k < 65536 → GoodAll (RouteWithin k) ps → EachUri (map (λ (p : Piece). p.text) ps)
texts_formed k [] h g = tt
texts_formed k (p ∷ ps) h g = ((omega (arith, g.0.0), g.0.1), texts_formed k ps h g.1)

-- the routes of a block as received have an image
pub received_formed : (L : LimitSet) (block : List ℕ) (ps : List Piece) → length block < 65536 → L.routes ≤ 50 → routes_of L block ≡ Ok ps
    → EachUri (map (λ (p : Piece). p.text) ps) × (length (map (λ (p : Piece). p.text) ps) ≤ 50)
received_formed L block ps h k e =
    let r = block_routes L block ps e in
    (texts_formed (length block) ps h r.0, omega (arith, r.1, length-map ps (λ (p : Piece). p.text)))

-- the routes of a block reversed have an image
pub reversed_formed : (L : LimitSet) (block : List ℕ) (ps : List Piece) → length block < 65536 → L.routes ≤ 50 → routes_of L block ≡ Ok ps
    → EachUri (map (λ (p : Piece). p.text) (reverse ps)) × (length (map (λ (p : Piece). p.text) (reverse ps)) ≤ 50)
reversed_formed L block ps h k e =
    let r = block_routes L block ps e in
    (texts_formed (length block) (reverse ps) h (all_reversed (RouteWithin (length block)) ps r.0), omega (arith, r.1, length-map (reverse ps) (λ (p : Piece). p.text), length-reverse ps))
