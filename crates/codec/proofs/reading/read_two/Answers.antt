-- `codec::read_two` meets its contract. Assumes nothing.
use native.Mathlib.Omega.{arith}
use Rattle.codec.proofs.ReadLaws.{two_told}
use Rattle.codec.proofs.reading.read_two.Goals as goal

pub returns-clause-bytes_value : goal.returns-clause-bytes_value
returns-clause-bytes_value c = let a = c.args in two_told a.bytes.now a.at (omega arith) c.bytes_at.ensures c.from_be_bytes.ensures
