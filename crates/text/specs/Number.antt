-- What a run of bytes says as a decimal number below a bound; the bound is a power of two, so each reading has a width.
-- Document 01, "CSeq": read "as Rust reads u32: one `+` and leading zeros allowed".
use Rattle.std.specs.Prelude.{ℕ, ◌+◌, ◌-◌, ◌*◌, ◌^◌, Bool, true, false, cond, ◌&&◌, List, [], ◌∷◌, length, ltb, eqb, None, Option, Some}
use Rattle.text.specs.Text.{is_digit, all}

-- the number that digits say, the most significant first
unfoldable pub value : List ℕ → ℕ
value [] = 0
value (b ∷ s) = (b - 48) * 10 ^ length s + value s

abbrev pub non_empty : List ℕ → Bool
non_empty [] = false
non_empty (b ∷ s) = true

-- at least one digit, nothing else, and a value below the bound
unfoldable pub digits_below : ℕ → List ℕ → Option ℕ
digits_below bound s = cond (non_empty s && (all is_digit s && ltb (value s) bound)) (Some (value s)) None

-- digits alone, of a width in bits
abbrev pub read_digits : ℕ → List ℕ → Option ℕ
read_digits width s = digits_below (2 ^ width) s

-- one `+` may stand first
abbrev pub without_plus : List ℕ → List ℕ
without_plus [] = []
without_plus (b ∷ s) = cond (eqb b 43) s (b ∷ s)

abbrev pub read_number : ℕ → List ℕ → Option ℕ
read_number width s = read_digits width (without_plus s)

-- the answer of a number reading
abbrev pub number_from : Option ℕ → Option ℕ
number_from None = None
number_from (Some n) = Some n
