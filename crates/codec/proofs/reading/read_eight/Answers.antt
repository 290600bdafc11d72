-- `codec::read_eight` meets its contract. Assumes nothing.
use native.Mathlib.Omega.{arith}
use Rattle.codec.proofs.ReadLaws.{eight_told}
use Rattle.codec.proofs.reading.read_eight.Goals as goal

pub returns : goal.returns
returns c = let a = c.args in eight_told a.bytes.now a.at (omega arith) c.bytes_at.ensures c.from_be_bytes.ensures
