-- A step of the code: what is read at a place of bytes, and that a record has bytes.
use Rattle.std.specs.Prelude.{ℕ, ◌≤◌, ◌<◌, ◌≡◌, List, length, drop, None, Option, Some}
use Rattle.record.specs.Record.{image}
use Rattle.image.specs.Places.{record_from}
use Rattle.image.specs.declared.RecordAt.{RecordAt}

abbrev pub ReadAt : List ℕ → ℕ → Option RecordAt → Type 0
ReadAt s at None = record_from at (image.read (drop at s)) ≡ None
ReadAt s at (Some r) = (record_from at (image.read (drop at s)) ≡ Some r) × (at < r.end) × (r.end ≤ length s)
