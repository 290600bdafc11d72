-- The URI in a header value, as `parse_uri_from_header` cuts it out.
-- Document 01, "Contact": "text between the first `<` and next `>` (none: unreadable), without `<` up to `;`". The `<` counts
-- inside quotes too, which RFC 3261 section 20.10 would pass over.
use Rattle.std.specs.Prelude.{ℕ, ◌+◌, cond, List, take, drop, None, Ok, Option, Result, Some}
use Rattle.limits.specs.Limits.{LimitSet}
use Rattle.limits.specs.Outcome.{refuse_by}
use Rattle.limits.specs.declared.Refusal.{Refusal}
use Rattle.text.specs.Text.{other, span, blanks, trimmed, Piece, trimmed_piece}
use Rattle.text.specs.Answers.{value_cause, span_of}
use Rattle.text.specs.declared.Span.{Span}
use Rattle.uri.specs.SipUri.{has, UriParts, sip_uri, sip_uri_from}
use Rattle.uri.specs.declared.SipUri.{SipUri}

-- s stands at `at` and begins after the first `<`
unfoldable pub in_brackets : ℕ → List ℕ → Option Piece
in_brackets at s = cond (has 62 s) (Some (trimmed_piece at (take (span (other 62) s) s))) None

-- t is the trimmed value, which stands at `at`
unfoldable pub cut_uri : ℕ → List ℕ → Option Piece
cut_uri at t =
    cond (has 60 t)
    (in_brackets (at + span (other 60) t + 1) (drop (span (other 60) t + 1) t))
    (Some (trimmed_piece at (take (span (other 59) t) t)))

-- the text that is read as the URI, and where it stands in the value
abbrev pub uri_text : List ℕ → Option Piece
uri_text v = cut_uri (blanks v) (trimmed v)

-- a URI that was read, with the text that it was read from
pub record ReadUri : Type 0 where
  pub piece : Piece
  pub uri : UriParts

abbrev pub as_read : Piece → Option UriParts → Option ReadUri
as_read p None = None
as_read p (Some u) = Some (record { piece = p; uri = u })

abbrev pub read_piece : Option Piece → Option ReadUri
read_piece None = None
read_piece (Some p) = as_read p (sip_uri p.text)

-- the URI in a value, if it is readable
unfoldable pub header_uri : List ℕ → Option ReadUri
header_uri v = read_piece (uri_text v)

abbrev pub piece_of : Option ReadUri → Option Piece
piece_of None = None
piece_of (Some r) = Some r.piece

-- `parse_uri_from_header`: 1, 2; then the URI's text, or nothing
unfoldable pub uri_from_header : LimitSet → List ℕ → Result (Option Piece) Refusal
uri_from_header L v = refuse_by (value_cause L v) (Ok (piece_of (header_uri v)))

-- the answer of the reading without refusals
abbrev pub header_uri_from : Option ReadUri → Option (Span × SipUri)
header_uri_from None = None
header_uri_from (Some r) = Some (span_of r.piece, sip_uri_from r.uri)
