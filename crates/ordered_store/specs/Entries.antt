-- A store whose entries lie one after another in strictly ascending order of their keys: equal contents have equal bytes, whatever calls led to them.
-- Document 01, "Intervals, PRACK, RSeq": "one image for each content". Said once, for any form of an entry and any key; each entry has at least one byte.
use Rattle.std.specs.Prelude.{ℕ, zero, suc, Bool, true, cond, ◌&&◌, List, [], ◌∷◌, length, None, Option, Some}
use Rattle.codec.specs.Codec.{Reading, Codec, write_all}
use Rattle.ordered_store.specs.Order.{key_order, is_before, is_same}
use Rattle.std.specs.declared.cmp.Ordering.{Ordering}
use Rattle.std.specs.declared.cmp.Ordering.TheVariants.{Less, Equal, Greater}

-- a key: its texts
abbrev pub Key : Type 0
Key = List (List ℕ)

abbrev pub entry_before : {A : Type 0} → A → Option (List A) → Option (List A)
entry_before a None = None
entry_before a (Some more) = Some (a ∷ more)

abbrev pub entries_on : {A : Type 0} → Option (Reading A) → (List ℕ → Option (List A)) → Option (List A)
entries_on None more = None
entries_on (Some x) more = entry_before x.value (more x.rest)

-- no entries where there are no bytes left
abbrev pub unless_ended : {A : Type 0} → List ℕ → Option (List A) → Option (List A)
unless_ended [] more = Some []
unless_ended (b ∷ s) more = more

-- an entry set among those before it, in its place, or after it
abbrev pub set_by : {A : Type 0} → Ordering → A → A → List A → List A → List A
set_by Less a e rest later = e ∷ later
set_by Equal a e rest later = a ∷ rest
set_by Greater a e rest later = a ∷ e ∷ rest

module _ {A : Type 0} (form : Codec A) where
  abbrev pub encode_entries : List A → List ℕ
  encode_entries es = write_all form es

  -- entries up to the end, at most `fuel` of them
  unfoldable pub entries_in : ℕ → List ℕ → Option (List A)
  entries_in zero s = unless_ended s None
  entries_in (suc fuel) s = unless_ended s (entries_on (form.read s) (λ t. entries_in fuel t))

module _ {A : Type 0} (key_of : A → Key) where
  -- every key comes before the next one's
  unfoldable pub ascending_from : A → List A → Bool
  ascending_from e [] = true
  ascending_from e (f ∷ es) = is_before (key_order (key_of e) (key_of f)) && ascending_from f es

  abbrev pub ascending : List A → Bool
  ascending [] = true
  ascending (e ∷ es) = ascending_from e es

  -- ---- contents

  -- the entry of a key
  unfoldable pub entry_of : Key → List A → Option A
  entry_of k [] = None
  entry_of k (e ∷ es) = cond (is_same (key_order (key_of e) k)) (Some e) (entry_of k es)

  -- an entry set: in the place of the one of its key, or before the first whose key comes after its own
  unfoldable pub set_entry : A → List A → List A
  set_entry a [] = a ∷ []
  set_entry a (e ∷ es) = set_by (key_order (key_of e) (key_of a)) a e es (set_entry a es)

  -- all but the entry of a key
  unfoldable pub without_entry : Key → List A → List A
  without_entry k [] = []
  without_entry k (e ∷ es) = cond (is_same (key_order (key_of e) k)) es (e ∷ without_entry k es)

abbrev pub only_ascending : {A : Type 0} → (A → Key) → Option (List A) → Option (List A)
only_ascending key_of None = None
only_ascending key_of (Some es) = cond (ascending key_of es) (Some es) None

-- the entries of a store's used bytes; every entry has a byte, so there are no more entries than bytes
unfoldable pub decode_entries : {A : Type 0} → Codec A → (A → Key) → List ℕ → Option (List A)
decode_entries form key_of s = only_ascending key_of (entries_in form (length s) s)
