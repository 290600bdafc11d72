-- `open::put_open` meets its contract: the RSeq's bytes, then the code's. Assumes nothing.
use native.Mathlib.Omega.{arith}
use Rattle.prack_list.proofs.OpenLaws.{put_six}
use Rattle.prack_list.proofs.open.put_open.Goals as goal

pub returns-clause-out_after : goal.returns-clause-out_after
returns-clause-out_after c = let a = c.args in λ p e. put_six a.to a.out.now a.entry.now p (omega (arith, c.requires.1)) e c.put.ensures c.put-2.ensures
