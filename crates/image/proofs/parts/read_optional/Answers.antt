-- `image::read_optional` meets its contract. Assumes nothing.
use Rattle.image.proofs.PartLaws.{optional_short}
use Rattle.image.proofs.parts.read_optional.Goals as goal

pub returns-then-bytes-at-lt4 : goal.returns-then-bytes-at-lt4
returns-then-bytes-at-lt4 c = optional_short c.args.bytes.now c.args.at c.if-bytes-at-lt4.true
