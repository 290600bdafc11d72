-- `image_writer::write_ids` meets its contract: the three parts one after another. Assumes nothing.
use native.Mathlib.Omega.{arith}
use Prim.Native.Nat.{ℕ}
use mathlib.Core.List.{List}
use Rattle.edit.proofs.EditLaws.{wrote_three}
use Rattle.record.specs.Record.{is_filled, id_text}
use Rattle.image_writer.proofs.sections.write_ids.Goals as goal

abbrev part : List ℕ → List ℕ
part t = (id_text (is_filled t)).write t

pub returns-clause-out_after : goal.returns-clause-out_after
returns-clause-out_after c =
    let a = c.args in
    (wrote_three a.at (part a.front.id.call_id.now) (part a.front.id.local_tag.now) (part a.front.id.remote_tag.now) a.out.now (omega arith) (c.write_id-a.ensures.value, c.write_id-a.ensures.out_after) (c.write_id-b.ensures.value, c.write_id-b.ensures.out_after) (c.write_id.ensures.value, c.write_id.ensures.out_after)).1
