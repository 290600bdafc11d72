-- Steps of the code: where the identifier of a record lies, of bytes that are whole records.
use Rattle.std.specs.Prelude.{ℕ, ◌+◌, ◌≡◌, List, length, drop, Some}
use Rattle.text.specs.declared.Span.{Span}
use Rattle.codec.specs.Codec.{Reading}
use Rattle.record.specs.Record.{Record, image}
use Rattle.image.specs.Places.{id_span, ids_places, ids_of}
use Rattle.image.specs.declared.sections.IdsAt.{IdsAt}
use Rattle.record_walk.specs.Walk.{id_bytes}

-- these are the places of the identifier of the record that is read at a place
abbrev pub IdsRead : List ℕ → ℕ → IdsAt → Type 0
IdsRead s p i = (x : Reading Record) → image.read (drop p s) ≡ Some x → i ≡ ids_places (p + 2) (ids_of x.value)

-- this is where a text lies whose bytes, with those of its length, go from a place to an end
abbrev pub TextTo : ℕ → ℕ → Span → Type 0
TextTo at end p = (t : List ℕ) → end ≡ at + length (id_bytes t) → p ≡ id_span at t
