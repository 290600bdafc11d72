-- `sweeps::is_terminated` meets its contract: the state byte tells it. Assumes nothing.
use Rattle.std.proofs.Common.{rules}
use Rattle.codec.proofs.CodecLaws.{bytes_all}
use Rattle.store_edits.proofs.StateLaws.{state_within, told_terminated}
use Rattle.store_edits.proofs.sweeps.is_terminated.Goals as goal

pub bounds-bytes-ids_end : goal.bounds-bytes-ids_end
bounds-bytes-ids_end c =
    let a = c.args in
    state_within a.bytes.now a.at (bytes_all a.bytes.now (λ i. (c.type_inv.bytes i).fits)) c.ids_end.result c.ids_end.ensures.0 c.requires

pub returns : goal.returns
returns c =
    let a = c.args in
    told_terminated a.bytes.now a.at (bytes_all a.bytes.now (λ i. (c.type_inv.bytes i).fits)) c.ids_end.result c.ids_end.ensures.0 (search rules)
