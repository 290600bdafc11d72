-- A step of the code: a record held against those after it.
use Rattle.std.specs.Prelude.{ℕ, ◌≡◌, Bool, true, List, length, drop, None, Option, Some}
use Rattle.codec.specs.Codec.{Reading}
use Rattle.record.specs.Record.{Record, image}
use Rattle.record.specs.Store.{lacks, records_in}

-- the bytes from a place on are whole records
pub record WholeFrom (s : List ℕ) (at : ℕ) : Type 0 where
  pub records : List Record
  pub are : records_in (length s) (drop at s) ≡ Some records

-- none of the records has the identifier of the record that was read
abbrev pub lacked_by : Option (Reading Record) → List Record → Bool
lacked_by None rs = true
lacked_by (Some x) rs = lacks rs x.value

-- the same of records that were read
abbrev pub alone_in : Option (Reading Record) → Option (List Record) → Bool
alone_in r None = true
alone_in r (Some rs) = lacked_by r rs

-- no record from a place on has the identifier of the record at p
unfoldable pub alone_from : List ℕ → ℕ → ℕ → Bool
alone_from s p from = alone_in (image.read (drop p s)) (records_in (length s) (drop from s))
