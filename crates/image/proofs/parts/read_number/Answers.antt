-- `image::read_number` meets its contract. Assumes nothing.
use Rattle.image.proofs.PartLaws.{number_short}
use Rattle.image.proofs.parts.read_number.Goals as goal

pub returns-then-bytes-at-lt4 : goal.returns-then-bytes-at-lt4
returns-then-bytes-at-lt4 c = number_short c.args.bytes.now c.args.at c.if-bytes-at-lt4.true
