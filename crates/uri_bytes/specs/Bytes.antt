-- Classes of bytes in a SIP URI, from document 01, "Contact" (the URI itself is `SipUri.antt` of the crate `uri`):
-- bytes 33 to 126 without `<`, `>`, `"`; a host has letters, digits, `.`, `-`, or hex digits, `:`, `.` in brackets; it runs to
-- `:`, `;`, `?` or the end, and a port to `;`, `?` or the end.
use Rattle.std.specs.Prelude.{ℕ, Bool, not, ◌&&◌, ◌||◌, eqb}
use Rattle.text.specs.Text.{within, is_digit, is_letter}

-- 33 to 126 without `<`, `>`, `"`
abbrev pub is_uri : ℕ → Bool
is_uri b = within 33 126 b && not (eqb b 60 || (eqb b 62 || eqb b 34))

-- letters, digits, `.`, `-`
abbrev pub is_host : ℕ → Bool
is_host b = is_letter b || (is_digit b || (eqb b 46 || eqb b 45))

-- hex digits, `:`, `.`
abbrev pub is_address : ℕ → Bool
is_address b = is_digit b || (within 65 70 b || (within 97 102 b || (eqb b 58 || eqb b 46)))

-- `;` or `?`
abbrev pub ends_port : ℕ → Bool
ends_port b = eqb b 59 || eqb b 63

-- `:`, `;` or `?`
abbrev pub ends_host : ℕ → Bool
ends_host b = eqb b 58 || ends_port b
