-- A step of the code: a record changed in its place among the used bytes of a store. The images before and after it are as they were, and move only as far as
-- its own image grows or shrinks (document 01, "Record image": "a replacement keeps its place"). What the change is, is a function on records.
use Rattle.std.specs.Prelude.{ℕ, List, length, drop, None, Option, Some}
use Rattle.edit.specs.Edit.{spliced}
use Rattle.codec.specs.Codec.{Reading}
use Rattle.record.specs.Record.{Record, image}

-- ---- the used bytes with the record at a place changed

-- the record that stands at a place of the used bytes
abbrev pub read_at : ℕ → List ℕ → Option (Reading Record)
read_at at s = image.read (drop at s)

abbrev pub changed_by : (Record → Record) → ℕ → List ℕ → Option (Reading Record) → List ℕ
changed_by f at s None = s
changed_by f at s (Some x) = spliced at (length (image.write x.value)) (image.write (f x.value)) s

-- s are the used bytes
unfoldable pub changed : (Record → Record) → ℕ → List ℕ → List ℕ
changed f at s = changed_by f at s (read_at at s)
