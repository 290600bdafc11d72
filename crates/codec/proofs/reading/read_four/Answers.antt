-- `codec::read_four` meets its contract. Assumes nothing.
use native.Mathlib.Omega.{arith}
use Rattle.codec.proofs.ReadLaws.{four_told}
use Rattle.codec.proofs.reading.read_four.Goals as goal

pub returns : goal.returns
returns c = let a = c.args in four_told a.bytes.now a.at (omega arith) c.bytes_at.ensures c.from_be_bytes.ensures
