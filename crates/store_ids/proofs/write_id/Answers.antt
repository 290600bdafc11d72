-- `store_ids::write_id` meets its contract: the three texts one after another. Assumes nothing.
use native.Mathlib.Omega.{arith}
use Rattle.edit.proofs.EditLaws.{wrote_three}
use Rattle.codec.specs.Codec.{text}
use Rattle.store_ids.proofs.write_id.Goals as goal

pub returns-clause-out_after : goal.returns-clause-out_after
returns-clause-out_after c =
    let a = c.args in
    (wrote_three a.to (text.write a.id.call_id.now) (text.write a.id.local_tag.now) (text.write a.id.remote_tag.now) a.out.now (omega arith) (c.write_text-a.ensures.value, c.write_text-a.ensures.out_after) (c.write_text-b.ensures.value, c.write_text-b.ensures.out_after) (c.write_text.ensures.value, c.write_text.ensures.out_after)).1
