-- Steps of the code: the walk over the records of bytes that are whole records (document 01, "Handover listing": a line per record, in store order). Each turn
-- gives the record that is read at a place, and goes on at the record's end.
use Rattle.std.specs.Prelude.{◌≡◌, None, Option, Some}
use Rattle.image.specs.declared.RecordAt.{RecordAt}
use Rattle.listing_text.specs.Readings.{ReadAt}
use Rattle.listing_text.specs.declared.listed.Walk.{Walk}

-- the record at the walk's place is given next, and the walk stands at its end; none is given where none is read
abbrev pub StepsListed : Walk → Option RecordAt → Walk → Type 0
StepsListed w None t = ReadAt w.bytes.now w.at None
StepsListed w (Some r) t = ReadAt w.bytes.now w.at (Some r) × (t.bytes.now ≡ w.bytes.now) × (t.at ≡ r.end)
