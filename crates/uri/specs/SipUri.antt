-- A SIP URI as document 01, "Contact", has it (its stand-in for the Rust's `SipUri`; RFC 3261 section 19.1 knows more):
-- `sip:` or `sips:` in any case; bytes 33 to 126 without `<`, `>`, `"`; the user part is all before the first `@`, non-empty
-- if there is one; the host runs to `:`, `;`, `?` or the end (`[` to `]` kept whole), non-empty letters, digits, `.`, `-`, or
-- hex digits, `:`, `.` in brackets; a port has 1 to 5 digits and is at most 65,535; then the end, `;` or `?`. The classes of bytes are in `Bytes.antt` of the crate `uri_bytes`.
use Rattle.std.specs.Prelude.{ℕ, ◌+◌, ◌-◌, Bool, true, false, cond, not, ◌&&◌, List, [], ◌∷◌, length, take, drop, get_or, leb, ltb, eqb, Err, None, Ok, Option, Result, Some}
use Rattle.limits.specs.Limits.{LimitSet}
use Rattle.limits.specs.Outcome.{refuse_by, cause_if, and_then, or_refuse}
use Rattle.limits.specs.declared.Refusal.{Refusal}
use Rattle.limits.specs.declared.Refusal.TheVariants.{InvalidUri, UriTooLong}
use Rattle.text.specs.Text.{is_digit, other, span, all, same, Piece}
use Rattle.text.specs.Number.{non_empty, read_digits}
use Rattle.text.specs.Answers.{length_cause, span_of}
use Rattle.text.specs.declared.Span.{Span}
use Rattle.uri_bytes.specs.Bytes.{is_uri, is_host, is_address, ends_port, ends_host}
use Rattle.uri.specs.declared.SipUri.{SipUri}

-- ---- the parts

-- `sip:` and `sips:`
abbrev pub sip : List ℕ
sip = 115 ∷ 105 ∷ 112 ∷ 58 ∷ []

abbrev pub sips : List ℕ
sips = 115 ∷ 105 ∷ 112 ∷ 115 ∷ 58 ∷ []

-- the text begins with the byte x
abbrev pub begins : ℕ → List ℕ → Bool
begins x [] = false
begins x (b ∷ s) = eqb b x

-- there is an x
abbrev pub has : ℕ → List ℕ → Bool
has x s = ltb (span (other x) s) (length s)

-- the host that stands first: `[` up to and with the first `]`, or all before `:`, `;`, `?`
unfoldable pub host_text : List ℕ → List ℕ
host_text s = cond (begins 91 s) (take (span (other 93) s + 1) s) (take (span (λ b. not (ends_host b)) s) s)

-- `[`, at least one byte of an address, `]`
unfoldable pub is_bracketed : List ℕ → Bool
is_bracketed h = ltb 2 (length h) && (eqb (get_or h (length h - 1) 0) 93 && all is_address (take (length h - 2) (drop 1 h)))

unfoldable pub is_host_text : List ℕ → Bool
is_host_text h = cond (begins 91 h) (is_bracketed h) (non_empty h && all is_host h)

-- nothing, or parameters or headers
abbrev pub at_end : List ℕ → Bool
at_end [] = true
at_end (b ∷ s) = ends_port b

-- digits up to the end, `;` or `?`
unfoldable pub port_number : List ℕ → Option ℕ
port_number s = cond (leb (span is_digit s) 5 && at_end (drop (span is_digit s) s)) (read_digits 16 (take (span is_digit s) s)) None

-- what stands after the host: nothing where it can't stand there, otherwise the port, if there is one
abbrev pub given_port : Option ℕ → Option (Option ℕ)
given_port None = None
given_port (Some n) = Some (Some n)

unfoldable pub port_of : List ℕ → Option (Option ℕ)
port_of [] = Some None
port_of (b ∷ s) = cond (eqb b 58) (given_port (port_number s)) (cond (ends_port b) (Some None) None)

-- ---- the URI

pub record UriParts : Type 0 where
  pub secure : Bool
  -- empty where there is no user part
  pub user : Piece
  pub host : Piece
  pub port : Option ℕ

abbrev pub with_port : Bool → Piece → Piece → Option (Option ℕ) → Option UriParts
with_port secure user host None = None
with_port secure user host (Some port) = Some (record { secure = secure; user = user; host = host; port = port })

-- s is what stands after the user part, at the place `at`
unfoldable pub with_host : Bool → Piece → ℕ → List ℕ → Option UriParts
with_host secure user at s =
    cond (is_host_text (host_text s)) (with_port secure user (record { place = at; text = host_text s }) (port_of (drop (length (host_text s)) s))) None

-- s is what stands after the scheme, at the place `at`
unfoldable pub with_user : Bool → ℕ → List ℕ → Option UriParts
with_user secure at s =
    cond (has 64 s)
    (cond (ltb 0 (span (other 64) s))
    (with_host secure (record { place = at; text = take (span (other 64) s) s }) (at + span (other 64) s + 1) (drop (span (other 64) s + 1) s))
    None)
    (with_host secure (record { place = at; text = [] }) at s)

unfoldable pub with_scheme : List ℕ → Option UriParts
with_scheme s = cond (same (take 4 s) sip) (with_user false 4 (drop 4 s)) (cond (same (take 5 s) sips) (with_user true 5 (drop 5 s)) None)

-- the parts of a readable URI
unfoldable pub sip_uri : List ℕ → Option UriParts
sip_uri s = cond (all is_uri s) (with_scheme s) None

-- user + host + 6 if a port + 10 (01, "Contact": "Estimate")
abbrev pub port_estimate : Option ℕ → ℕ
port_estimate None = 0
port_estimate (Some n) = 6

abbrev pub estimate_of : UriParts → ℕ
estimate_of u = length u.user.text + length u.host.text + port_estimate u.port + 10

-- the estimate is over the limit (refusal 7)
abbrev pub over_estimate : LimitSet → UriParts → Bool
over_estimate L u = ltb L.uri (estimate_of u)

-- ---- the operations on a given text

-- 1, then 6
unfoldable pub read_uri : LimitSet → List ℕ → Result UriParts Refusal
read_uri L s = refuse_by (length_cause L s) (or_refuse InvalidUri (sip_uri s))

-- 1, 6, then 7
unfoldable pub read_estimate : LimitSet → List ℕ → Result ℕ Refusal
read_estimate L s = and_then (read_uri L s) (λ u. refuse_by (cause_if (over_estimate L u) UriTooLong) (Ok (estimate_of u)))

-- ---- the answers, case by case

abbrev pub port_from : Option ℕ → Option ℕ
port_from None = None
port_from (Some n) = Some n

-- where a user part of so many bytes stands; an empty one is none
abbrev pub user_at : ℕ → ℕ → Option Span
user_at at n = cond (ltb 0 n) (Some (record { start = at; length = n })) None

abbrev pub user_from : Piece → Option Span
user_from p = user_at p.place (length p.text)

abbrev pub sip_uri_from : UriParts → SipUri
sip_uri_from u = record { secure = u.secure; user = user_from u.user; host = span_of u.host; port = port_from u.port }

abbrev pub uri_from : Option UriParts → Option SipUri
uri_from None = None
uri_from (Some u) = Some (sip_uri_from u)

abbrev pub uri_answer : Result UriParts Refusal → Result SipUri Refusal
uri_answer (Err cause) = Err cause
uri_answer (Ok u) = Ok (sip_uri_from u)

abbrev pub estimate_answer : Result ℕ Refusal → Result ℕ Refusal
estimate_answer (Err cause) = Err cause
estimate_answer (Ok n) = Ok n
