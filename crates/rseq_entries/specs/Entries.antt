-- The RSeq store's entries: the RSeq number of each dialog, by its identifier. (By RFC 3262 section 3 RSeq numbers are counted within one request.) The layout:
-- docs/LAYOUTS.md, "The RSeq store". What the calls make of them is in rseq_manager/specs/RSeq.antt.
use Rattle.std.specs.Prelude.{ℕ, ◌<◌, Bool, List, [], ◌∷◌, length, ltb}
use Rattle.dialog_id.specs.Ident.{Ident, ident}
use Rattle.codec.specs.Codec.{Codec, Pair, then, such, mapped, four, text}
use Rattle.ordered_store.specs.Entries.{Key}

-- Call-ID first, then the local tag, then the remote one
abbrev pub key_of_ident : Ident → Key
key_of_ident i = i.call_id ∷ i.local_tag ∷ i.remote_tag ∷ []

-- the number of a dialog, never 0
pub record Entry : Type 0 where
  pub id : Ident
  pub number : ℕ

abbrev pub key_of : Entry → Key
key_of e = key_of_ident e.id

-- ---- the layout: three texts with two length bytes each, then four bytes

abbrev pub is_positive : ℕ → Bool
is_positive n = ltb 0 n

abbrev pub parts : Codec (Pair (List ℕ) (Pair (List ℕ) (Pair (List ℕ) ℕ)))
parts = then text (then text (then text (such four is_positive)))

abbrev pub entry_from : Pair (List ℕ) (Pair (List ℕ) (Pair (List ℕ) ℕ)) → Entry
entry_from p = record { id = ident p.first p.second.first p.second.second.first; number = p.second.second.second }

abbrev pub parts_of : Entry → Pair (List ℕ) (Pair (List ℕ) (Pair (List ℕ) ℕ))
parts_of e = record { first = e.id.call_id; second = record { first = e.id.local_tag; second = record { first = e.id.remote_tag; second = e.number } } }

abbrev pub entry_form : Codec Entry
entry_form = mapped entry_from parts_of parts

-- an entry that has an image
pub record WellFormed (e : Entry) : Type 0 where
  pub call_short : length e.id.call_id < 65536
  pub local_short : length e.id.local_tag < 65536
  pub remote_short : length e.id.remote_tag < 65536
  pub positive : 0 < e.number
  pub fits : e.number < 4294967296
