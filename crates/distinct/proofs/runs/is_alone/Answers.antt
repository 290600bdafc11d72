-- `runs::is_alone` meets its contract: the keys of the sorted run are those of the run. Assumes nothing.
use Rattle.codec.proofs.CodecLaws.{bytes_all}
use Rattle.distinct.proofs.RunLaws.{sorted_last, sorted_apart}
use Rattle.distinct.proofs.runs.is_alone.Goals as goal

pub returns-then-bytes-end : goal.returns-then-bytes-end
returns-then-bytes-end c =
    let a = c.args in
    sorted_last a.bytes.now a.run.now c.sort.new.places c.if-not-sort.ensures (bytes_all a.bytes.now (λ i. (c.type_inv.bytes i).fits)) a.end c.if-bytes-end.true c.requires.whole

pub returns : goal.returns
returns c =
    let a = c.args in
    sorted_apart a.bytes.now a.run.now c.sort.new.places c.if-not-sort.ensures c.is_apart.result a.end c.is_apart.ensures
