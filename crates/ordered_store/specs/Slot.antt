-- A step of the code: where the entry of a key stands in the bytes of a store, or where it would go. Entries ascend, so the first whose key isn't before it
-- decides.
use Rattle.std.specs.Prelude.{ℕ, ◌+◌, cond, List, [], ◌∷◌, length, take, ltb, None, Option, Some}
use Rattle.codec.specs.Codec.{Codec}
use Rattle.ordered_store.specs.Entries.{Key, decode_entries}
use Rattle.ordered_store.specs.Order.{key_order}
use Rattle.std.specs.declared.cmp.Ordering.{Ordering}
use Rattle.std.specs.declared.cmp.Ordering.TheVariants.{Less, Equal, Greater}

-- the entry and the place of its first byte, or the place of the first entry after it
pub data Slot (A : Type 0) : Type 0 where
  held : (place : ℕ) (entry : A) → Slot A
  free : (place : ℕ) → Slot A

abbrev pub slot_by : {A : Type 0} → Ordering → ℕ → A → Slot A → Slot A
slot_by Less at e later = later
slot_by Equal at e later = held at e
slot_by Greater at e later = free at

module _ {A : Type 0} (form : Codec A) (key_of : A → Key) (k : Key) where
  -- among entries of which the first begins at a place
  unfoldable pub slot_in : ℕ → List A → Slot A
  slot_in at [] = free at
  slot_in at (e ∷ es) = slot_by (key_order (key_of e) k) at e (slot_in (at + length (form.write e)) es)

  -- in bytes that were read as these entries; none where they aren't a store
  abbrev pub slot_read : Option (List A) → Option (Slot A)
  slot_read None = None
  slot_read (Some es) = Some (slot_in 0 es)

  -- in lent bytes of which so many are used
  abbrev pub slot_used : List ℕ → ℕ → Option (Slot A)
  slot_used bytes used = cond (ltb (length bytes) used) None (slot_read (decode_entries form key_of (take used bytes)))
