-- `codec::read_text` meets its contract. Assumes nothing.
use Rattle.codec.proofs.ReadLaws.{text_short}
use Rattle.codec.proofs.reading.read_text.Goals as goal

pub returns-then-bytes-at-lt-LENGTH_SIZE : goal.returns-then-bytes-at-lt-LENGTH_SIZE
returns-then-bytes-at-lt-LENGTH_SIZE c = let a = c.args in text_short a.bytes.now a.at c.if-bytes-at-lt-LENGTH_SIZE.true
