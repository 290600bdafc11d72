-- Steps of the code: the first record of a name in a store, and where its image lies. Document 01, "A request arrives": `find_by_call_id` gives the first in
-- the store; an identifier has one record at most.
use Rattle.std.specs.Prelude.{ℕ, ◌+◌, ◌≤◌, ◌≡◌, Bool, cond, ◌&&◌, List, [], ◌∷◌, length, drop, None, Option, Some}
use Rattle.text.specs.Text.{equal}
use Rattle.record.specs.Record.{Record, image}
use Rattle.image.specs.Places.{record_places, record_from}
use Rattle.image.specs.declared.RecordAt.{RecordAt}
use Rattle.image.specs.declared.sections.IdsAt.{IdsAt}
use Rattle.text.specs.Spans.{part_in, PartWithin}
use Rattle.record.specs.Store.{decode_all}
use Rattle.book.specs.Book.{Book, is_of, first_place}

-- the record's identifier is these three texts
abbrev pub named : List ℕ → List ℕ → List ℕ → Record → Bool
named call_id local_tag remote_tag r = is_of (record { call_id = call_id; local_tag = local_tag; remote_tag = remote_tag }) r

-- its Call-ID is this text
abbrev pub of_call_id : List ℕ → Record → Bool
of_call_id call_id r = equal r.call_id call_id

-- the first record that passes the test, and where its image begins
pub record Spot : Type 0 where
  pub place : ℕ
  pub value : Record

unfoldable pub first : (Record → Bool) → ℕ → Book → Option Spot
first test at [] = None
first test at (r ∷ b) = cond (test r) (Some (record { place = at; value = r })) (first test (at + length (image.write r)) b)

abbrev pub found_of : Option Spot → Option (ℕ × RecordAt)
found_of None = None
found_of (Some x) = Some (x.place, record_places x.place x.value)

abbrev pub found_in : (Record → Bool) → Option Book → Option (ℕ × RecordAt)
found_in test None = None
found_in test (Some b) = found_of (first test first_place b)

-- ---- steps of the code

-- the bytes are read as a store
pub record Stored (s : List ℕ) : Type 0 where
  pub records : Book
  pub are : decode_all s ≡ Some records

-- the record that was found is what is read at its place
abbrev pub Stands : List ℕ → Option (ℕ × RecordAt) → Type 0
Stands s (Some (at, r)) = (at ≤ length s) × (record_from at (image.read (drop at s)) ≡ Some r)
Stands s None = Unit {0}

abbrev pub IdsWithin : List ℕ → IdsAt → Type 0
IdsWithin s i = PartWithin s i.id.call_id × PartWithin s i.id.local_tag × PartWithin s i.id.remote_tag

-- the texts at the places of an identifier are the record's
abbrev pub TextsOf : List ℕ → IdsAt → Record → Type 0
TextsOf s i r = (part_in s i.id.call_id ≡ r.call_id) × (part_in s i.id.local_tag ≡ r.local_tag) × (part_in s i.id.remote_tag ≡ r.remote_tag)

-- this is what a test says of the record whose identifier lies at these places
abbrev pub HeldTo : (Record → Bool) → List ℕ → IdsAt → Bool → Type 0
HeldTo test s i t = (r : Record) → TextsOf s i r → t ≡ test r

-- the texts at the places of an identifier, held against given ones
abbrev pub named_at : List ℕ → IdsAt → List ℕ → List ℕ → List ℕ → Bool
named_at s i call_id local_tag remote_tag =
    equal (part_in s i.id.call_id) call_id && (equal (part_in s i.id.local_tag) local_tag && equal (part_in s i.id.remote_tag) remote_tag)

abbrev pub of_call_id_at : List ℕ → IdsAt → List ℕ → Bool
of_call_id_at s i call_id = equal (part_in s i.id.call_id) call_id
