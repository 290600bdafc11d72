-- Steps of the code: the record at a place of bytes that are whole records, where its parts lie and where its image ends.
use Rattle.std.specs.Prelude.{ℕ, zero, suc, ◌+◌, ◌*◌, ◌≤◌, ◌<◌, ◌≡◌, Bool, true, false, List, [], ◌++◌, length, drop, get_or, None, Option, Some}
use Rattle.codec.specs.Codec.{Reading}
use Rattle.record.specs.Record.{Record, Ids, id_text, is_filled, is_given, fields_of, image}
use Rattle.record.specs.Store.{records_in}
use Rattle.record_walk.specs.declared.IdEnds.{IdEnds}

-- a record stands at a place
pub record At (s : List ℕ) (p : ℕ) : Type 0 where
  pub reading : Reading Record
  pub reads : image.read (drop p s) ≡ Some reading

-- the number in the two bytes at a place
abbrev pub two_at : List ℕ → ℕ → ℕ
two_at s at = get_or s at 0 * 256 + get_or s (at + 1) 0

-- the place past the text at a place, if one stands there
abbrev pub past_text : List ℕ → ℕ → Bool → ℕ
past_text s at true = at + 2 + two_at s at
past_text s at false = at

-- ---- its identifier

-- a text's bytes, none where it is empty
abbrev pub id_bytes : List ℕ → List ℕ
id_bytes t = (id_text (is_filled t)).write t

-- the bytes of an identifier
abbrev pub ids_bytes : Ids → List ℕ
ids_bytes i = id_bytes i.first ++ (id_bytes i.second.first ++ id_bytes i.second.second)

-- those of the record that was read
abbrev pub ids_read : Option (Reading Record) → List ℕ
ids_read None = []
ids_read (Some x) = ids_bytes (fields_of x.value).first

-- the place past the identifier of the record at a place
unfoldable pub ids_end : List ℕ → ℕ → ℕ
ids_end s p = p + 2 + length (ids_read (image.read (drop p s)))

-- where the texts of an identifier that begins at a place end
abbrev pub EndsOf : ℕ → Ids → IdEnds → Type 0
EndsOf at i e =
    (e.call_id ≡ at + length (id_bytes i.first)) × (e.local_tag ≡ e.call_id + length (id_bytes i.second.first)) × (e.remote_tag ≡ e.local_tag + length (id_bytes i.second.second))

-- where those of the record that is read at a place end
abbrev pub EndsRead : List ℕ → ℕ → IdEnds → Type 0
EndsRead s p e = (x : Reading Record) → image.read (drop p s) ≡ Some x → EndsOf (p + 2) (fields_of x.value).first e

-- ---- its end

-- the length of the image that was read
abbrev pub length_read : Option (Reading Record) → ℕ
length_read None = 0
length_read (Some x) = length (image.write x.value)

-- the place past the image of the record at a place
unfoldable pub end_at : List ℕ → ℕ → ℕ
end_at s p = p + length_read (image.read (drop p s))

-- the place past so many texts
unfoldable pub texts_end : ℕ → List ℕ → ℕ → ℕ
texts_end zero s at = at
texts_end (suc n) s at = texts_end n s (past_text s at true)

-- ---- whole records from a place on

-- the end of the first, from where on the bytes are whole records too; none, where no bytes are left
abbrev pub EndsFirst : List ℕ → ℕ → Option ℕ → Type 0
EndsFirst s at None = length s ≤ at
EndsFirst s at (Some end) =
    (at < length s) × At s at × (end ≡ end_at s at) × (at < end) × (end ≤ length s) × (is_given (records_in (length s) (drop end s)) ≡ true)
