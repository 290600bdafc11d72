-- `prack_body::begin` meets its contract. Assumes nothing.
use Rattle.prack_body.proofs.BodyLaws.{begun}
use native.Mathlib.Omega.{arith}
use Rattle.prack_body.proofs.body.begin.Goals as goal

pub returns : goal.returns
returns c = let a = c.args in λ L. begun L a.time (omega arith) a.body.now c.requires c.write_eight-end.ensures.value (c.write_eight-end.ensures.out_after)
