-- `record_walk::ids_end` meets its contract: the identifier ends where its last text does. Assumes nothing.
use Prim.Native.Nat.{◌+◌}
use native.Mathlib.Omega.{arith}
use mathlib.Core.Path.{◌≡◌, ◌∙◌}
use Rattle.codec.proofs.CodecLaws.{Bytes, bytes_all}
use Rattle.record_walk.specs.Walk.{EndsOf}
use Rattle.record_walk.proofs.Images
use Rattle.record_walk.proofs.ids_end.Goals as goal

pub returns : goal.returns
returns c =
    let a = c.args in
    let k : Bytes a.bytes.now = bytes_all a.bytes.now (λ i. (c.type_inv.bytes i).fits) in
    let e : EndsOf (a.p + 2) (Images.ids a.bytes.now a.p k c.requires) c.id_ends.result = c.id_ends.ensures.ends c.requires.reading c.requires.reads in
    let d : c.id_ends.result.remote_tag ≡ Images.third_end a.bytes.now a.p k c.requires = omega (arith, e.0, e.1, e.2) in
    (d ∙ Images.ids_end_is a.bytes.now a.p k c.requires, c.id_ends.ensures.remote_tag_in_bounds)
