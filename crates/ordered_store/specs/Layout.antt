-- A step of the code: what a store says of its entries, each named by the places of its parts: how an entry is written, its key, and where its parts lie once it
-- begins at a place. What the entries are is `decode_entries` alone.
use Rattle.std.specs.Prelude.{ℕ, ◌+◌, ◌<◌, ◌≡◌, List, ◌++◌, length, drop, Err, None, Ok, Option, Result, Some}
use Rattle.limits.specs.declared.Refusal.{Refusal}
use Rattle.limits.specs.declared.Refusal.TheVariants.{BadStore}
use Rattle.codec.specs.Codec.{Reading, Codec}
use Rattle.codec.specs.Exact.{Exact}
use Rattle.ordered_store.specs.Entries.{Key}
use Rattle.ordered_store.specs.Slot.{Slot, held, free, slot_used}

-- the keys of the values of a store, and the places of the parts of one
pub record Parts (A P : Type 0) : Type 1 where
  pub key_of : A → Key
  -- the places of one that begins at a place: the one after it, its key there, and that its texts lie in the bytes
  pub places_of : ℕ → A → P
  pub end_of : P → ℕ
  pub key_at : List ℕ → P → Key
  pub Within : List ℕ → P → Type 0

-- how the values are written beside them
pub record Layout (A P : Type 0) : Type 1 where
  pub form : Codec A
  -- the values that have bytes
  pub Good : A → Type 0
  pub parts : Parts A P

abbrev pub layout_by : {A P : Type 0} → Codec A → (A → Type 0) → Parts A P → Layout A P
layout_by form good parts = record { form = form; Good = good; parts = parts }

module _ {A P : Type 0} (L : Layout A P) where
  -- what a store shows of its layout: its values are read back and take bytes, and the parts lie where it says
  pub record Lawful : Type 0 where
    pub exact : Exact L.form L.Good
    pub filled : (e : A) → 0 < length (L.form.write e)
    pub ends : (at : ℕ) (e : A) → L.parts.end_of (L.parts.places_of at e) ≡ at + length (L.form.write e)
    pub lies : (s : List ℕ) (at : ℕ) (e : A) (rest : List ℕ) → drop at s ≡ L.form.write e ++ rest → (L.parts.key_at s (L.parts.places_of at e) ≡ L.parts.key_of e) × L.parts.Within s (L.parts.places_of at e)

module _ {A P : Type 0} (parts : Parts A P) where
  -- what is read at a place
  abbrev pub places_read : ℕ → Option (Reading A) → Option P
  places_read at None = None
  places_read at (Some r) = Some (parts.places_of at r.value)

  -- where the entry of a key stands, or the place where it would go
  abbrev pub stands_of : Slot A → Result P ℕ
  stands_of (held place a) = Ok (parts.places_of place a)
  stands_of (free place) = Err place

  -- none: the bytes aren't a store
  abbrev pub found_of : Option (Slot A) → Result (Result P ℕ) Refusal
  found_of None = Err BadStore
  found_of (Some slot) = Ok (stands_of slot)

  -- in lent bytes of which so many are used
  abbrev pub found_for : Codec A → Key → List ℕ → ℕ → Result (Result P ℕ) Refusal
  found_for form k bytes used = found_of (slot_used form parts.key_of k bytes used)
