-- Steps of the code: the parts of what `all_ids` writes. What it answers is `ids_written` (dialog_manager/specs/Answers.antt) of `run`. Document 01, "Turned back": 3, and
-- 18 where the result is larger than its lent bytes; "The book of demand 3": a reading changes nothing. What is written is `reply` of `all_ids`
-- (book/specs/Book.antt): three texts with two length bytes each, in store order, an empty one as 0 0.
use Rattle.std.specs.Prelude.{ℕ, ◌+◌, ◌<◌, List, [], ◌++◌, length, None, Option, Some}
use Rattle.codec.specs.Codec.{text}
use Rattle.image.specs.declared.sections.IdsAt.{IdsAt}
use Rattle.text.specs.Spans.{part_in}
use Rattle.dialog_id.specs.Ident.{Ident}
use Rattle.book.specs.Book.{Book, identifiers_of}

-- ---- steps of the code

-- the identifiers of the records that were read
abbrev pub ids_in : Option Book → List ℕ
ids_in None = []
ids_in (Some b) = identifiers_of b

-- two bytes hold the length of each text
abbrev pub IdsShort : IdsAt → Type 0
IdsShort i = (i.id.call_id.length < 65536) × (i.id.local_tag.length < 65536) × (i.id.remote_tag.length < 65536)

-- how many bytes an identifier takes, by the places of its texts
abbrev pub length_at : IdsAt → ℕ
length_at i = 2 + i.id.call_id.length + 2 + i.id.local_tag.length + 2 + i.id.remote_tag.length

-- its bytes: each text with two length bytes in front
abbrev pub texts_bytes : Ident → List ℕ
texts_bytes i = text.write i.call_id ++ (text.write i.local_tag ++ text.write i.remote_tag)

-- the bytes of an identifier whose texts lie at these places
abbrev pub texts_at : List ℕ → IdsAt → List ℕ
texts_at s i = text.write (part_in s i.id.call_id) ++ (text.write (part_in s i.id.local_tag) ++ text.write (part_in s i.id.remote_tag))
