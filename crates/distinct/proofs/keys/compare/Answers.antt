-- `keys::compare` meets its contract: the flags decide, and where they are equal the bytes of the identifiers. Assumes nothing.
use mathlib.Core.Path.{sym}
use Rattle.codec.proofs.CodecLaws.{Bytes, bytes_all}
use Rattle.distinct.proofs.Compares.{flags_less, flags_more}
use Rattle.distinct.proofs.keys.compare.Goals as goal

pub returns-then-p_flags-q_flags : goal.returns-then-p_flags-q_flags
returns-then-p_flags-q_flags c =
    let a = c.args in
    let k : Bytes a.bytes.now = bytes_all a.bytes.now (λ i. (c.type_inv.bytes i).fits) in
    sym (flags_less a.bytes.now a.p a.q k c.requires.0 c.requires.1 _ _ c.flags-p_flags.ensures c.flags-q_flags.ensures c.if-p_flags-q_flags.true)

pub returns-then-q_flags-p_flags : goal.returns-then-q_flags-p_flags
returns-then-q_flags-p_flags c =
    let a = c.args in
    let k : Bytes a.bytes.now = bytes_all a.bytes.now (λ i. (c.type_inv.bytes i).fits) in
    sym (flags_more a.bytes.now a.p a.q k c.requires.0 c.requires.1 _ _ c.flags-p_flags.ensures c.flags-q_flags.ensures c.if-q_flags-p_flags.true)
