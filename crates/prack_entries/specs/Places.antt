-- Steps of the code: where what is held for an identifier text stands in a store's bytes, and what is answered of it. What is held is `decode_tracked` alone.
use Rattle.std.specs.Prelude.{ℕ, ◌≤◌, ◌≡◌, List, length, take, Err, None, Ok, Option, Result, Some}
use Rattle.limits.specs.Limits.{LimitSet}
use Rattle.limits.specs.declared.Refusal.{Refusal}
use Rattle.limits.specs.declared.Refusal.TheVariants.{BadStore}
use Rattle.text.specs.Spans.{part_in, PartWithin}
use Rattle.ordered_store.specs.Layout.{Parts, Layout}
use Rattle.ordered_store.specs.Slot.{Slot, held, free, slot_used}
use Rattle.prack_body.specs.Lists.{Tracked}
use Rattle.prack_body.specs.Layout.{tracked_form, TrackedWhole}
use Rattle.prack_body.specs.Places.{tracked_places}
use Rattle.prack_body.specs.declared.TrackedAt.{TrackedAt}
use Rattle.prack_entries.specs.Entries.{key_of_text, key_of, decode_tracked}
use Rattle.prack_entries.specs.declared.finding.StoreEntry.{StoreEntry}

-- ---- an entry of the store

abbrev pub parts : Parts Tracked StoreEntry
parts = record {
  key_of = key_of;
  places_of = λ at t. record { places = tracked_places at t };
  end_of = λ e. e.places.end;
  key_at = λ s e. key_of_text (part_in s e.places.id);
  Within = λ s e. PartWithin s e.places.id;
}

abbrev pub layout : LimitSet → Layout Tracked StoreEntry
layout L = record { form = tracked_form L; Good = TrackedWhole L; parts = parts }

-- ---- what is answered

abbrev pub slot_of : Option (Slot Tracked) → Result (Result TrackedAt ℕ) Refusal
slot_of None = Err BadStore
slot_of (Some (held place t)) = Ok (Ok (tracked_places place t))
slot_of (Some (free place)) = Ok (Err place)

-- in lent bytes of which so many are used
abbrev pub slot_for : LimitSet → List ℕ → List ℕ → ℕ → Result (Result TrackedAt ℕ) Refusal
slot_for L id bytes used = slot_of (slot_used (tracked_form L) key_of (key_of_text id) bytes used)

-- the slot of a text in lent bytes that were read as a store
pub record Sought (L : LimitSet) (id bytes : List ℕ) (used : ℕ) (slot : Result TrackedAt ℕ) : Type 0 where
  pub is : Ok slot ≡ slot_for L id bytes used
  pub within : used ≤ length bytes
  pub list : List Tracked
  pub are : decode_tracked L (take used bytes) ≡ Some list
