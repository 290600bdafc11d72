-- Steps of the code: what is answered of all entries of a store. The entries themselves are `decode_entries` alone.
use Rattle.std.specs.Prelude.{ℕ, ◌≡◌, List, length, None, Option, Some}
use Rattle.codec.specs.Codec.{Codec}
use Rattle.ordered_store.specs.Entries.{Key, decode_entries}

-- the bytes are read as a store
pub record Stored {A : Type 0} (form : Codec A) (key_of : A → Key) (s : List ℕ) : Type 0 where
  pub list : List A
  pub are : decode_entries form key_of s ≡ Some list

abbrev pub count_of : {A : Type 0} → Option (List A) → Option ℕ
count_of None = None
count_of (Some es) = Some (length es)
