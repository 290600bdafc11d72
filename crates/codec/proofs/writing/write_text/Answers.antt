-- `codec::write_text` meets its contract: two bytes, and the text after them. Assumes nothing.
use native.Mathlib.Omega.{arith}
use mathlib.Core.Path.{refl}
use lib.ListN.{length}
use Rattle.edit.proofs.EditLaws.{wrote_then}
use Rattle.codec.specs.Codec.{two}
use Rattle.codec.proofs.writing.write_text.Goals as goal

pub returns-clause-out_after : goal.returns-clause-out_after
returns-clause-out_after c =
    let a = c.args in
    let size = c.write_two-a.ensures in
    (wrote_then a.at (two.write (length a.t.now)) a.t.now a.out.now (omega arith) (size.value, size.out_after) (refl, c.put.ensures)).1
