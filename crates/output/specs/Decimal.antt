-- A number as decimal text, as `RAck::format` of prack_validator.rs has it from Rust's `format!`, and as the columns of document 01, "Handover listing", print
-- it: the most significant digit first, no leading zeros.
use Rattle.std.specs.Prelude.{ℕ, zero, suc, ◌+◌, ◌/◌, ◌%◌, cond, List, [], ◌∷◌, ◌++◌, ltb}

-- the digits, where n has at most `more` after the first
unfoldable pub decimal_in : ℕ → ℕ → List ℕ
decimal_in zero n = (48 + n) ∷ []
decimal_in (suc more) n = cond (ltb n 10) ((48 + n) ∷ []) (decimal_in more (n / 10) ++ ((48 + n % 10) ∷ []))

-- n has at most n digits after its first
abbrev pub decimal_of : ℕ → List ℕ
decimal_of n = decimal_in n n
