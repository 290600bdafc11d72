-- `image_writer::write_front` meets its contract: the front is measured, and written only where it fits with the routes. Assumes nothing.
use native.Mathlib.Omega.{arith}
use mathlib.Core.Path.{◌≡◌}
use Prim.Native.Nat.{◌+◌}
use lib.ListN.{length}
use lib.Dec.{ltb}
use Rattle.image_writer.proofs.FieldLaws.{front_size, refused_before, accepted_before}
use Rattle.image_writer.specs.Parts.{Front, front_from, front_of}
use Rattle.image_writer.proofs.write_front.Goals as goal
use Rattle.image_writer.proofs.write_front.Goals.{After-numbers_size}

-- the front, and that it is as long as was measured
abbrev front : After-numbers_size → Front
front c = front_from c.args.front (ltb 0 c.args.routes)

measured : (c : After-numbers_size) → length (front_of (front c)) ≡ 2 + c.ids_size.result + 1 + c.uris_size.result + c.numbers_size.result
measured c = omega (arith, front_size (front c), c.numbers_size.ensures.value, c.uris_size.ensures.value, c.ids_size.ensures.value)

pub returns-then-free-size : goal.returns-then-free-size
returns-then-free-size c =
    let f = (goal.at.returns-then-free-size c).After-numbers_size in
    let old : _ × _ = refused_before c.args.routes (front_of (front f)) c.args.free.now (omega (arith, measured f)) in
    record { value = old.0; free_after = old.1 }

pub write_parts-requires : goal.write_parts-requires
write_parts-requires c = omega (arith, measured (goal.at.write_parts-requires c).After-numbers_size)

pub returns : goal.returns
returns c =
    let f = (goal.at.returns c).After-numbers_size in
    let old : _ × _ = accepted_before c.args.routes (front_of (front f)) c.args.free.now (omega (arith, measured f)) (omega (arith, measured f)) c.write_parts.ensures in
    record { value = old.0; free_after = old.1 }
