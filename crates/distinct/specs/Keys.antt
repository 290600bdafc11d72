-- A step of the code: the key of a record. A key tells which of the three texts of an identifier stand (bits 0 to 2 of the
-- image's map), and then has the bytes of those that stand as they are in the image: two length bytes and the text.
use Rattle.std.specs.Prelude.{ℕ, List, [], ◌∷◌, drop, None, Option, Some}
use Rattle.codec.specs.Codec.{Reading}
use Rattle.record.specs.Record.{Record, ids_map, fields_of, image}
use Rattle.record_walk.specs.Walk.{ids_bytes}

-- which texts stand, then their bytes
unfoldable pub key_of : Record → List ℕ
key_of r = ids_map (fields_of r).first ∷ ids_bytes (fields_of r).first

-- the key of the record that was read
abbrev pub key_read : Option (Reading Record) → List ℕ
key_read None = []
key_read (Some x) = key_of x.value

-- the key of the record at a place
unfoldable pub key_at : List ℕ → ℕ → List ℕ
key_at s p = key_read (image.read (drop p s))
