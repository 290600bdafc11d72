-- A step of the code: a record among the used bytes of lent ones, and what the code's place of it says.
use Rattle.std.specs.Prelude.{ℕ, ◌≤◌, ◌≡◌, List, length, take, Some}
use Rattle.image.specs.Places.{record_from}
use Rattle.image_edit.specs.Changes.{read_at}
use Rattle.image_edit.specs.declared.RecordPlace.{RecordPlace}

-- so many bytes are used, the record's image begins at the place, and these are its parts
abbrev pub StandsAt : List ℕ → RecordPlace → Type 0
StandsAt bytes p = (p.used ≤ length bytes) × (p.at ≤ p.used) × (record_from p.at (read_at p.at (take p.used bytes)) ≡ Some p.record)
