-- The used bytes of a store: records one after another, one per identifier (document 01, "Record image" and refusal 3).
use Rattle.std.specs.Prelude.{ℕ, zero, suc, ◌+◌, Bool, true, cond, not, ◌&&◌, List, [], ◌∷◌, length, None, Option, Some}
use Rattle.text.specs.Text.{equal}
use Rattle.codec.specs.Codec.{Reading, write_all}
use Rattle.record.specs.Record.{Record, image}

-- ---- identifiers

-- the same three texts
abbrev pub same_id : Record → Record → Bool
same_id a b = equal a.call_id b.call_id && (equal a.local_tag b.local_tag && equal a.remote_tag b.remote_tag)

-- no record of the list has the identifier of r
unfoldable pub lacks : List Record → Record → Bool
lacks [] r = true
lacks (a ∷ more) r = not (same_id a r) && lacks more r

-- one record per identifier
unfoldable pub distinct : List Record → Bool
distinct [] = true
distinct (a ∷ more) = lacks more a && distinct more

-- ---- the bytes

abbrev pub encode_all : List Record → List ℕ
encode_all rs = write_all image rs

abbrev pub record_before : Record → Option (List Record) → Option (List Record)
record_before r None = None
record_before r (Some rs) = Some (r ∷ rs)

abbrev pub read_on : Option (Reading Record) → (List ℕ → Option (List Record)) → Option (List Record)
read_on None more = None
read_on (Some x) more = record_before x.value (more x.rest)

-- no records where there are no bytes left
abbrev pub unless_done : List ℕ → Option (List Record) → Option (List Record)
unless_done [] more = Some []
unless_done (b ∷ s) more = more

-- records up to the end, at most `fuel` of them
unfoldable pub records_in : ℕ → List ℕ → Option (List Record)
records_in zero s = unless_done s None
records_in (suc fuel) s = unless_done s (read_on (image.read s) (λ t. records_in fuel t))

abbrev pub only_distinct : Option (List Record) → Option (List Record)
only_distinct None = None
only_distinct (Some rs) = cond (distinct rs) (Some rs) None

-- the records of a store's used bytes; every image has a byte, so there are no more records than bytes
unfoldable pub decode_all : List ℕ → Option (List Record)
decode_all s = only_distinct (records_in (length s) s)

-- where the images of records lie, the first at a place
unfoldable pub places_from : ℕ → List Record → List ℕ
places_from at [] = []
places_from at (r ∷ rs) = at ∷ places_from (at + length (image.write r)) rs
