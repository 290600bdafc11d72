-- `image_writer::write_parts` meets its contract: the sections one after another are the image. Assumes nothing.
use native.Mathlib.Omega.{arith}
use mathlib.Core.Path.{ap}
use mathlib.Core.List.{[], ◌∷◌}
use Prim.Native.Nat.{ℕ}
use Rattle.image_writer.proofs.FieldLaws.{front_size, front_written, wrote_five}
use Rattle.image_writer.specs.Parts.{front_from, map_of_front, ids_bytes, uris_bytes, numbers_bytes, state_byte_in}
use Rattle.codec.specs.Codec.{two}
use Rattle.edit.proofs.EditLaws.{wrote_as}
use Rattle.image_writer.proofs.write_parts.Goals as goal

pub write_two-a-requires : goal.write_two-a-requires
write_two-a-requires c = (c.front_map-map.ensures.upper_bound, omega (arith, front_size (front_from c.args.front c.args.routed)))

pub write_ids-b-requires : goal.write_ids-b-requires
write_ids-b-requires c = omega (arith, front_size (front_from c.args.front c.args.routed))

pub write_byte-c-requires : goal.write_byte-c-requires
write_byte-c-requires c = omega (arith, front_size (front_from c.args.front c.args.routed))

pub write_uris-d-requires : goal.write_uris-d-requires
write_uris-d-requires c = omega (arith, front_size (front_from c.args.front c.args.routed))

pub write_numbers-requires : goal.write_numbers-requires
write_numbers-requires c = omega (arith, front_size (front_from c.args.front c.args.routed))

pub returns : goal.returns
returns c =
    let a = c.args in
    let p = front_from a.front a.routed in
    front_written p a.free.now
    (wrote_five 0 (two.write (map_of_front p)) (ids_bytes p.ids) (state_byte_in p ∷ []) (uris_bytes p.uris) (numbers_bytes p.numbers) a.free.now (omega arith)
    (wrote_as 0 a.free.now (ap (λ (n : ℕ). two.write n) c.front_map-map.ensures.value) (c.write_two-a.ensures.value, c.write_two-a.ensures.out_after))
    (c.write_ids-b.ensures.value, c.write_ids-b.ensures.out_after)
    (wrote_as c.write_ids-b.result c.write_ids-b.new.out (ap (λ (n : ℕ). n ∷ []) c.state_byte-state.ensures) (c.write_byte-c.ensures.value, c.write_byte-c.ensures.out_after))
    (c.write_uris-d.ensures.value, c.write_uris-d.ensures.out_after)
    (c.write_numbers.ensures.value, c.write_numbers.ensures.out_after))
