-- `prack_body::load` meets its contract: the bytes behind the text are put to the front. Assumes nothing.
use Prim.Native.Nat.{◌+◌}
use mathlib.Core.Path.{◌≡◌}
use Rattle.codec.proofs.CodecLaws.{bytes_all}
use Rattle.prack_body.proofs.BodyLaws.{loaded}
use Rattle.prack_body.proofs.body.load.Goals as goal

pub returns-clause-holds : goal.returns-clause-holds
returns-clause-holds c =
    let a = c.args in
    let e : c.end-from.result ≡ a.held.id.start + a.held.id.length = c.end-from.ensures in
    λ L t g. rw e (loaded L a.bytes.now (bytes_all a.bytes.now (λ i. (c.type_inv.bytes i).fits)) g a.body.now (rw e at c.put.ensures))
