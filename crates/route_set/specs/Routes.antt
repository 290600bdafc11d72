-- The Contact's URI, and the route set that Record-Route lines give (RFC 3261 sections 12.1.1 and 12.1.2).
-- Document 01, "Routes": "All Record-Route lines, cut by `split_header_values`; unreadable parts are skipped; a part met when
-- 50 are held ends the whole reading at once with refusal 8. Reversed from a response." A readable part whose estimate is over
-- the limit ends it with 7.
use Rattle.std.specs.Prelude.{ℕ, ◌+◌, Bool, true, false, List, [], ◌∷◌, ◌++◌, map, reverse, length, leb, slice_get, Err, None, Ok, Option, Result, Some}
use Rattle.limits.specs.Limits.{LimitSet}
use Rattle.limits.specs.Outcome.{refuse_by, refuse_if, and_then}
use Rattle.limits.specs.declared.Refusal.{Refusal}
use Rattle.limits.specs.declared.Refusal.TheVariants.{UriTooLong, RouteSetTooLarge}
use Rattle.text.specs.Text.{Piece, moved_piece, moved}
use Rattle.text.specs.Answers.{span_of}
use Rattle.text.specs.declared.Span.{Span}
use Rattle.msg.specs.Block.{block_cause, HeaderLine, lines_of, all_named, value_named}
use Rattle.uri.specs.SipUri.{over_estimate}
use Rattle.uri.specs.HeaderUri.{ReadUri, header_uri, piece_of}
use Rattle.route_set.specs.Parts.{header_values}

-- ---- Contact

-- `Contact`
abbrev pub contact_name : List ℕ
contact_name = 67 ∷ 111 ∷ 110 ∷ 116 ∷ 97 ∷ 99 ∷ 116 ∷ []

abbrev pub uri_in : Option Piece → Option Piece
uri_in None = None
uri_in (Some v) = moved v.place (piece_of (header_uri v.text))

-- the URI of the first Contact line, if there is one and it is readable (the Rust's `extract_contact_uri`)
unfoldable pub contact_of : List ℕ → Option Piece
contact_of block = uri_in (value_named contact_name block)

-- the answer of the reading without refusals
abbrev pub contact_from : Option Piece → Option Span
contact_from None = None
contact_from (Some p) = Some (span_of p)

-- 1, 2; then the Contact's URI, or nothing
unfoldable pub contact : LimitSet → List ℕ → Result (Option Piece) Refusal
contact L block = refuse_by (block_cause L block) (Ok (contact_of block))

-- ---- Record-Route

-- `Record-Route`
abbrev pub record_route_name : List ℕ
record_route_name = 82 ∷ 101 ∷ 99 ∷ 111 ∷ 114 ∷ 100 ∷ 45 ∷ 82 ∷ 111 ∷ 117 ∷ 116 ∷ 101 ∷ []

-- the elements of a line's value, where they stand in the block
abbrev pub elements_of : HeaderLine → List Piece
elements_of l = map (moved_piece l.value.place) (header_values l.value.text)

-- the elements of all lines, in order
unfoldable pub elements_in : List HeaderLine → List Piece
elements_in [] = []
elements_in (l ∷ ls) = elements_of l ++ elements_in ls

abbrev pub route_elements : List ℕ → List Piece
route_elements block = elements_in (all_named record_route_name (lines_of block))

-- one route before those of the rest
abbrev pub route_before : Piece → Result (List Piece) Refusal → Result (List Piece) Refusal
route_before p (Err cause) = Err cause
route_before p (Ok ps) = Ok (p ∷ ps)

-- what is read of an element when `held` routes are held, and then of the rest: r is its URI, if it is readable
abbrev pub with_element : LimitSet → ℕ → Option ReadUri → Result (List Piece) Refusal → Result (List Piece) Refusal → Result (List Piece) Refusal
with_element L at None skipped held = skipped
with_element L at (Some r) skipped held = refuse_if (over_estimate L r.uri) UriTooLong (route_before (moved_piece at r.piece) held)

-- the routes of the elements, when `held` are held already
unfoldable pub routes_from : LimitSet → ℕ → List Piece → Result (List Piece) Refusal
routes_from L held [] = Ok []
routes_from L held (e ∷ es) =
    refuse_if (leb L.routes held) RouteSetTooLarge
    (with_element L e.place (header_uri e.text) (routes_from L held es) (routes_from L (held + 1) es))

-- the routes of a block, as received
abbrev pub routes_of : LimitSet → List ℕ → Result (List Piece) Refusal
routes_of L block = routes_from L 0 (route_elements block)

-- as received, or reversed over all lines
abbrev pub in_order : Bool → List Piece → List Piece
in_order true ps = reverse ps
in_order false ps = ps

-- `build_route_set`: 1, 2, then 7 or 8, whichever is met first
unfoldable pub route_set : LimitSet → Bool → List ℕ → Result (List Piece) Refusal
route_set L reversed block = refuse_by (block_cause L block) (and_then (routes_of L block) (λ ps. Ok (in_order reversed ps)))

-- how many routes there are, and the route at an index
abbrev pub route_count : LimitSet → List ℕ → Result ℕ Refusal
route_count L block = and_then (route_set L false block) (λ ps. Ok (length ps))

abbrev pub route_at : LimitSet → Bool → List ℕ → ℕ → Result (Option Piece) Refusal
route_at L reversed block index = and_then (route_set L reversed block) (λ ps. Ok (slice_get ps index))

-- the answer of the count
abbrev pub count_of : Result ℕ Refusal → Result ℕ Refusal
count_of (Err cause) = Err cause
count_of (Ok n) = Ok n
