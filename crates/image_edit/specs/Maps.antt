-- A step of the code: the bit map of a record's image, from what is known of a record that was read: where its identifiers lie, and how many routes it has.
use Rattle.std.specs.Prelude.{ℕ, ◌+◌, ◌*◌, ltb}
use Rattle.record.specs.Record.{Numbers, bit_of}
use Rattle.image.specs.declared.sections.IdsAt.{IdsAt}
use Rattle.image_writer.specs.Parts.{numbers_map}

-- bits 3 to 6 always stand; 0 to 2 for identifier parts that are not empty, 7 to 11 for the numbers, 12 for routes
abbrev pub map_from : Numbers → IdsAt → ℕ → ℕ
map_from x ids routes =
    bit_of (ltb 0 ids.id.call_id.length)
    + 2 * bit_of (ltb 0 ids.id.local_tag.length)
    + 4 * bit_of (ltb 0 ids.id.remote_tag.length)
    + 120
    + (numbers_map x + 4096 * bit_of (ltb 0 routes))
