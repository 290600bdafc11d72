-- `records::first_end` meets its contract: where bytes are left, the first of the whole records is there. Assumes nothing.
use native.Mathlib.Omega.{arith}
use Rattle.codec.proofs.CodecLaws.{bytes_all}
use Rattle.record_walk.proofs.Walks.{Turn, turn}
use Rattle.record_walk.proofs.records.first_end.Goals as goal
use Rattle.record_walk.proofs.records.first_end.Goals.{Else-bytes-at}

-- the first of the records that are left
first : (c : Else-bytes-at) → Turn c.args.bytes.now (bytes_all c.args.bytes.now (λ i. (c.type_inv.bytes i).fits)) c.args.at c.if-bytes-at.false c.requires
first c = turn _ _ _ _ _

pub record_end-requires : goal.record_end-requires
record_end-requires c = (first c).here

pub returns : goal.returns
returns c =
    let f = first (goal.at.returns c).Else-bytes-at in
    let e = c.record_end.ensures in
    (c.if-bytes-at.false, f.here, e, omega (arith, e, f.moves), omega (arith, e, f.within), rw e f.others)
