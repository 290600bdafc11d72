-- A form of bytes is exact where a value's bytes are read as that value, and what was read was those bytes: of the values that are good in its sense.
-- (Document 01, "Record image": the image of a record is read as that record, and no other bytes are.)
use Rattle.std.specs.Prelude.{ℕ, ◌≡◌, ◌<◌, List, [], ◌∷◌, ◌++◌, Some}
use Rattle.codec.specs.Codec.{Reading, Codec}

-- every element is a byte
abbrev pub Bytes : List ℕ → Type 0
Bytes [] = Unit {0}
Bytes (b ∷ s) = (b < 256) × Bytes s

pub record Exact {A : Type 0} (c : Codec A) (Good : A → Type 0) : Type 0 where
  pub round : (a : A) → Good a → (rest : List ℕ) → c.read (c.write a ++ rest) ≡ Some (record { value = a; rest = rest })
  pub back : (s : List ℕ) (r : Reading A) → Bytes s → c.read s ≡ Some r → (s ≡ c.write r.value ++ r.rest) × Good r.value
