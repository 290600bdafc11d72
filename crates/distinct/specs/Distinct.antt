-- A step of the code: whether bytes that are whole records have one record per identifier (document 01, refusal 3: "one identifier twice"). What the answer
-- is, and nothing of how it is found.
use Rattle.std.specs.Prelude.{ℕ, ◌≡◌, Bool, List, length, Some}
use Rattle.record.specs.Record.{Record, is_given}
use Rattle.record.specs.Store.{records_in, decode_all}

-- the bytes are whole records
abbrev pub Whole : List ℕ → Type 0
Whole s = (rs : List Record) × (records_in (length s) s ≡ Some rs)

-- no two of the records have one identifier: then, and only then, the bytes are a store's
abbrev pub is_distinct : List ℕ → Bool
is_distinct s = is_given (decode_all s)
