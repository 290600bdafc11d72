-- An identifier of the code (document 01, "Identifier"): its three texts as a caller gives them, and those that its parts are in a block.
use Rattle.std.specs.Prelude.{ℕ, ◌<◌, List, length}
use Rattle.text.specs.Spans.{part_in}
use Rattle.dialog_id.specs.Ident.{Ident, ident}
use Rattle.dialog_id.specs.declared.IdTexts.{IdTexts}
use Rattle.dialog_id.specs.declared.DialogId.{DialogId}

abbrev pub ident_of : IdTexts → Ident
ident_of t = ident t.call_id.now t.local_tag.now t.remote_tag.now

-- two bytes hold the length of each text
abbrev pub TextsShort : Ident → Type 0
TextsShort i = (length i.call_id < 65536) × (length i.local_tag < 65536) × (length i.remote_tag < 65536)

-- the identifier as the other side calls it
abbrev pub swapped : DialogId → DialogId
swapped i = record { call_id = i.call_id; local_tag = i.remote_tag; remote_tag = i.local_tag }

-- the texts at these places of a block
abbrev pub ident_in : List ℕ → DialogId → Ident
ident_in block i = ident (part_in block i.call_id) (part_in block i.local_tag) (part_in block i.remote_tag)
