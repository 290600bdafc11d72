-- Steps of the code: where the parts of an entry lie that is read at a place, and what is answered of it. The entries themselves are `decode_entries` alone.
use Rattle.std.specs.Prelude.{ℕ, ◌+◌, List, Option, Result}
use Rattle.limits.specs.declared.Refusal.{Refusal}
use Rattle.codec.specs.Codec.{Reading}
use Rattle.ordered_store.specs.Entries.{Key}
use Rattle.ordered_store.specs.Layout.{Parts, Layout, places_read, found_of, found_for}
use Rattle.ordered_store.specs.Slot.{Slot}
use Rattle.text.specs.Spans.{PartWithin}
use Rattle.dialog_id.specs.IdTexts.{ident_in}
use Rattle.codec.specs.Places.{text_span, text_end}
use Rattle.rseq_entries.specs.Entries.{key_of_ident, Entry, key_of, entry_form, WellFormed}
use Rattle.rseq_entries.specs.declared.entries.EntryAt.{EntryAt}

-- ---- one entry

abbrev pub entry_at : ℕ → Entry → EntryAt
entry_at at e = record {
  id = record {
    call_id = text_span at e.id.call_id;
    local_tag = text_span (text_end at e.id.call_id) e.id.local_tag;
    remote_tag = text_span (text_end (text_end at e.id.call_id) e.id.local_tag) e.id.remote_tag;
  };
  number = e.number;
  end = text_end (text_end (text_end at e.id.call_id) e.id.local_tag) e.id.remote_tag + 4;
}

-- ---- its key

abbrev pub key_at : List ℕ → EntryAt → Key
key_at s e = key_of_ident (ident_in s e.id)

abbrev pub Within : List ℕ → EntryAt → Type 0
Within s e = PartWithin s e.id.call_id × PartWithin s e.id.local_tag × PartWithin s e.id.remote_tag

-- ---- what is answered

abbrev pub parts : Parts Entry EntryAt
parts = record { key_of = key_of; places_of = entry_at; end_of = λ e. e.end; key_at = key_at; Within = Within }

abbrev pub layout : Layout Entry EntryAt
layout = record { form = entry_form; Good = WellFormed; parts = parts }

abbrev pub reading_of : ℕ → Option (Reading Entry) → Option EntryAt
reading_of = places_read parts

-- its slot
abbrev pub slot_of : Option (Slot Entry) → Result (Result EntryAt ℕ) Refusal
slot_of = found_of parts

-- in lent bytes of which so many are used
abbrev pub slot_for : Key → List ℕ → ℕ → Result (Result EntryAt ℕ) Refusal
slot_for = found_for parts entry_form
