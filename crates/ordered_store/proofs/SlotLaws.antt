-- The slot of a key in lent bytes of which so many are used: what the answer says of the store. Assumes nothing.
use Prim.Native.Nat.{ℕ, ◌≤◌, ◌<◌}
use native.Mathlib.Omega.{arith}
use mathlib.Core.Path.{◌≡◌, refl, sym, ap, ◌∙◌}
use mathlib.Core.Logic.{◌⊎◌, inl, inr}
use mathlib.Core.Bool.{Bool, true, false, cond}
use mathlib.Core.List.{List}
use lib.ListN.{length, take}
use lib.Dec.{ltb}
use borrow.Author.Tests.{le-ltb, ltb-true, ltb-false}
use Rattle.std.specs.Prelude.{None, Option, Some}
use Rattle.codec.specs.Codec.{Codec}
use Rattle.ordered_store.specs.Entries.{Key, decode_entries}
use Rattle.ordered_store.specs.Places.{Stored, count_of}
use Rattle.ordered_store.specs.Slot.{Slot, slot_in, slot_read, slot_used}

module _ {A : Type 0} (form : Codec A) (key_of : A → Key) where
  -- ---- what a count says

  module _ (s : List ℕ) where
    pub was_read : {n : ℕ} → count_of (decode_entries form key_of s) ≡ Some n → Stored form key_of s
    was_read {n} e = by (decode_entries form key_of s) refl e
      where
        by : (o : Option (List A)) → decode_entries form key_of s ≡ o → count_of o ≡ Some n → Stored form key_of s
        by None q e = absurd (let z : ◌≡◌ {A = ℕ} 0 1 = cc in omega arith)
        by (Some es) q e = record { list = es; are = q }

    pub not_read : count_of (decode_entries form key_of s) ≡ None → decode_entries form key_of s ≡ None
    not_read e = by (decode_entries form key_of s) e
      where
        by : (o : Option (List A)) → count_of o ≡ None → o ≡ None
        by None e = refl
        by (Some es) e = absurd (let z : ◌≡◌ {A = ℕ} 0 1 = cc in omega arith)

  module _ (k : Key) (bytes : List ℕ) (used : ℕ) where
    -- ---- the answer

    pub in_used : used ≤ length bytes → slot_read form key_of k (decode_entries form key_of (take used bytes)) ≡ slot_used form key_of k bytes used
    in_used h = rw (le-ltb (length bytes) used h)

    pub unread : used ≤ length bytes → count_of (decode_entries form key_of (take used bytes)) ≡ None → None ≡ slot_used form key_of k bytes used
    unread h e = ap (slot_read form key_of k) (sym (not_read (take used bytes) e)) ∙ in_used h

    -- ---- what it says

    -- the bytes are a store, and this is the slot among its entries
    pub record Among (slot : Slot A) : Type 0 where
      pub within : used ≤ length bytes
      pub list : List A
      pub are : decode_entries form key_of (take used bytes) ≡ Some list
      pub slot_is : slot_in form key_of k 0 list ≡ slot

    -- the bytes aren't a store
    abbrev pub Unreadable : Type 0
    Unreadable = (length bytes < used) ⊎ ((used ≤ length bytes) × (decode_entries form key_of (take used bytes) ≡ None))

    abbrev pub Says : Option (Slot A) → Type 0
    Says None = Unreadable
    Says (Some slot) = Among slot

    pub says : Says (slot_used form key_of k bytes used)
    says = by (ltb (length bytes) used) refl (decode_entries form key_of (take used bytes)) refl
      where
        by : (t : Bool) → ltb (length bytes) used ≡ t → (o : Option (List A)) → decode_entries form key_of (take used bytes) ≡ o → Says (cond t None (slot_read form key_of k o))
        by true p o r = inl (ltb-true (length bytes) used p)
        by false p None r = inr (ltb-false (length bytes) used p, r)
        by false p (Some es) r = record { within = ltb-false (length bytes) used p; list = es; are = r; slot_is = refl }
