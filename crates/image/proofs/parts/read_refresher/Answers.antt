-- `image::read_refresher` meets its contract. Assumes nothing.
use Rattle.image.proofs.PartLaws.{side_short}
use Rattle.image.proofs.parts.read_refresher.Goals as goal

pub returns-then-bytes-at-lt4 : goal.returns-then-bytes-at-lt4
returns-then-bytes-at-lt4 c = side_short c.args.bytes.now c.args.at c.if-bytes-at-lt4.true
