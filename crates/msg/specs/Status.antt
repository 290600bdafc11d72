-- The classes of a response's status code (RFC 3261 section 7.2), as the Rust's StatusLine has them.
use Rattle.std.specs.Prelude.{ℕ, Bool, ◌&&◌, ◌||◌, leb, ltb}

-- the codes from lo on, below hi
abbrev pub in_class : ℕ → ℕ → ℕ → Bool
in_class lo hi code = leb lo code && ltb code hi

-- client error, server error or global failure
abbrev pub is_error_code : ℕ → Bool
is_error_code code = in_class 400 500 code || (in_class 500 600 code || in_class 600 700 code)
