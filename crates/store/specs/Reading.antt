-- Steps of the code: what the reading of a store's used bytes answers: how many records they are, or that they aren't a store's (document 01, refusal 3:
-- "store .. not whole images with readable URIs; .. one identifier twice").
use Rattle.std.specs.Prelude.{ℕ, List, length, None, Option, Some}
use Rattle.record.specs.Record.{Record}
use Rattle.record.specs.Store.{records_in}

abbrev pub store_from : Option (List Record) → Option ℕ
store_from None = None
store_from (Some rs) = Some (length rs)

-- whole records, identifiers not compared yet
abbrev pub whole_records : List ℕ → Option (List Record)
whole_records s = records_in (length s) s
