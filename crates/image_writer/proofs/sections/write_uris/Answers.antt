-- `image_writer::write_uris` meets its contract: the three URIs one after another. Assumes nothing.
use native.Mathlib.Omega.{arith}
use Rattle.edit.proofs.EditLaws.{wrote_three}
use Rattle.codec.specs.Codec.{text}
use Rattle.image_writer.proofs.sections.write_uris.Goals as goal

pub returns-clause-out_after : goal.returns-clause-out_after
returns-clause-out_after c =
    let a = c.args in
    (wrote_three a.at (text.write a.uris.target.now) (text.write a.uris.local_uri.now) (text.write a.uris.remote_uri.now) a.out.now (omega arith) (c.write_text-a.ensures.value, c.write_text-a.ensures.out_after) (c.write_text-b.ensures.value, c.write_text-b.ensures.out_after) (c.write_text.ensures.value, c.write_text.ensures.out_after)).1
