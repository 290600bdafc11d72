-- The PRACK store's contents: what is held for each identifier text, in strictly ascending order of the texts (docs/LAYOUTS.md, "The PRACK store").
-- Document 01, "Intervals, PRACK, RSeq": "PRACK lists are held per identifier text, in a second lent store, with the last cleanup's time".
use Rattle.std.specs.Prelude.{ℕ, List, [], ◌∷◌, Option}
use Rattle.limits.specs.Limits.{LimitSet}
use Rattle.ordered_store.specs.Entries.{Key, encode_entries, decode_entries, entry_of}
use Rattle.prack_body.specs.Lists.{Tracked, cleaned}
use Rattle.prack_body.specs.Layout.{tracked_form}

-- the key of what is held: one text, any bytes
abbrev pub key_of_text : List ℕ → Key
key_of_text id = id ∷ []

abbrev pub key_of : Tracked → Key
key_of t = key_of_text t.id

-- what the used bytes of a store hold, and the bytes of what is held
abbrev pub decode_tracked : LimitSet → List ℕ → Option (List Tracked)
decode_tracked L s = decode_entries (tracked_form L) key_of s

abbrev pub encode_tracked : LimitSet → List Tracked → List ℕ
encode_tracked L ts = encode_entries (tracked_form L) ts

-- what is held for a text, if anything
abbrev pub held_for : List ℕ → List Tracked → Option Tracked
held_for id ts = entry_of key_of (key_of_text id) ts

-- what is held for it after the cleanup of a call at a time
abbrev pub clean_for : LimitSet → ℕ → List ℕ → List Tracked → Tracked
clean_for L time id ts = cleaned L time id (held_for id ts)
