-- Steps of the code: what the parts of a URI's reading answer: the scheme, the user part, the host and what stands after it, where a part stands, and the
-- estimate of the parts that were read.
use Rattle.std.specs.Prelude.{ℕ, ◌+◌, ◌≤◌, ◌<◌, Bool, true, false, cond, ◌≡◌, List, [], length, take, drop, None, Option, Some}
use Rattle.text.specs.Text.{all, same, Piece}
use Rattle.text.specs.Answers.{span_of}
use Rattle.text.specs.declared.Span.{Span}
use Rattle.uri_bytes.specs.Bytes.{is_uri}
use Rattle.uri.specs.SipUri.{UriParts, sip, sips, is_host_text, with_host, with_user, port_from}
use Rattle.uri.specs.declared.SipUri.{SipUri}

-- the scheme's length, and whether it is the secure one
abbrev pub scheme_length : List ℕ → Option (ℕ × Bool)
scheme_length s = cond (same (take 4 s) sip) (Some (4, false)) (cond (same (take 5 s) sips) (Some (5, true)) None)

-- what was read of s, if every byte of s is one of a URI
abbrev pub of_uri : List ℕ → Option UriParts → Option UriParts
of_uri s o = cond (all is_uri s) o None

-- a host that may stand there, by its length
abbrev pub host_from : List ℕ → Option ℕ
host_from h = cond (is_host_text h) (Some (length h)) None

-- what stands after the host
abbrev pub after_host_from : Option (Option ℕ) → Option (Option ℕ)
after_host_from None = None
after_host_from (Some p) = Some (port_from p)

-- the part of s that stands there
abbrev pub piece_in : List ℕ → Span → Piece
piece_in s at = record { place = at.start; text = take at.length (drop at.start s) }

-- the user part before a host at a place: none is an empty one there
abbrev pub user_in : List ℕ → ℕ → Option Span → Piece
user_in s at None = record { place = at; text = [] }
user_in s at (Some u) = piece_in s u

abbrev pub UserInside : List ℕ → Option Span → Type 0
UserInside s None = Unit {0}
UserInside s (Some u) = (0 < u.length) × (u.start + u.length ≤ length s)

-- the text that is cut out of a value
abbrev pub cut_from : Option Piece → Option Span
cut_from None = None
cut_from (Some p) = Some (span_of p)

-- what the user part at a place leaves to be read: the rest from the host on, or nothing
abbrev pub UserStep : List ℕ → ℕ → Option (Option Span × ℕ) → Type 0
UserStep s at None = (secure : Bool) → of_uri (drop at s) (with_user secure at (drop at s)) ≡ None
UserStep s at (Some (u, next)) =
    (next ≤ length s) × UserInside s u
    × ((secure : Bool) → of_uri (drop at s) (with_user secure at (drop at s)) ≡ of_uri (drop next s) (with_host secure (user_in s next u) next (drop next s)))

-- ---- what is found lies inside the bytes

abbrev pub InsideHost : List ℕ → Option ℕ → Type 0
InsideHost s None = Unit
InsideHost s (Some n) = n ≤ length s

abbrev pub Inside : List ℕ → Option (Span × SipUri) → Type 0
Inside s (Some (at, u)) = at.start + at.length ≤ length s
Inside s None = Unit

-- ---- the estimate, of the parts as the code has them

abbrev pub port_size : Option ℕ → ℕ
port_size (Some n) = 6
port_size None = 0

abbrev pub user_size : Option Span → ℕ
user_size (Some u) = u.length
user_size None = 0

abbrev pub size_of : SipUri → ℕ
size_of u = user_size u.user + u.host.length + port_size u.port + 10
