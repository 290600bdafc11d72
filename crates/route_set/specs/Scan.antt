-- Steps of the code: the elements of Record-Route lines read one after another, up to a wanted route.
use Rattle.std.specs.Prelude.{ℕ, ◌+◌, cond, List, [], ◌∷◌, leb, eqb, Err, None, Ok, Option, Result, Some}
use Rattle.limits.specs.Limits.{LimitSet}
use Rattle.limits.specs.declared.Refusal.{Refusal}
use Rattle.limits.specs.declared.Refusal.TheVariants.{UriTooLong, RouteSetTooLarge}
use Rattle.text.specs.Text.{Piece, moved_piece}
use Rattle.text.specs.Pieces.{piece_of}
use Rattle.text.specs.Answers.{span_of}
use Rattle.uri.specs.SipUri.{over_estimate}
use Rattle.uri.specs.HeaderUri.{ReadUri, header_uri}
use Rattle.text.specs.declared.Span.{Span}
use Rattle.text.specs.declared.piece.Part.{Part}

-- e is the element's URI, if it is readable; then the rest, when as many are held, or one more
abbrev pub scan_element : LimitSet → ℕ → ℕ → ℕ → Option ReadUri → Result (ℕ × Option Span) Refusal → Result (ℕ × Option Span) Refusal → Result (ℕ × Option Span) Refusal
scan_element L wanted held at None skipped more = skipped
scan_element L wanted held at (Some r) skipped more =
    cond (over_estimate L r.uri) (Err UriTooLong) (cond (eqb held wanted) (Ok (held, Some (span_of (moved_piece at r.piece)))) more)

-- how many routes there are up to the wanted one, and the wanted one, if the elements have it
unfoldable pub scan : LimitSet → ℕ → ℕ → List Piece → Result (ℕ × Option Span) Refusal
scan L wanted held [] = Ok (held, None)
scan L wanted held (e ∷ es) =
    cond (leb L.routes held) (Err RouteSetTooLarge)
    (scan_element L wanted held e.place (header_uri e.text) (scan L wanted held es) (scan L wanted (held + 1) es))

-- one element that stands at `at`: its URI, if it is readable and not too long
abbrev pub element_from : LimitSet → ℕ → Option ReadUri → Result (Option Piece) Refusal
element_from L at None = Ok None
element_from L at (Some r) = cond (over_estimate L r.uri) (Err UriTooLong) (Ok (Some (moved_piece at r.piece)))

-- as the code answers it
abbrev pub element_of : Result (Option Part) Refusal → Result (Option Piece) Refusal
element_of (Ok (Some p)) = Ok (Some (piece_of p))
element_of (Ok None) = Ok None
element_of (Err cause) = Err cause

-- the wanted route, if the scan came to it
abbrev pub route_in : Result (ℕ × Option Span) Refusal → Result (Option Span) Refusal
route_in (Ok (n, found)) = Ok found
route_in (Err cause) = Ok None
