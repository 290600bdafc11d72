-- `keys::flags` meets its contract. Assumes nothing.
use Prim.Native.Nat.{ℕ, ◌%◌}
use mathlib.Core.Path.{ap, ◌∙◌}
use Rattle.codec.proofs.CodecLaws.{bytes_all}
use Rattle.record_walk.proofs.Images.{map_here}
use Rattle.distinct.proofs.KeysAt.{flags_are}
use Rattle.distinct.proofs.keys.flags.Goals as goal

pub two-requires : goal.two-requires
two-requires c = map_here c.args.bytes.now c.args.p (bytes_all c.args.bytes.now (λ i. (c.type_inv.bytes i).fits)) c.requires

pub returns : goal.returns
returns c =
    ap (λ (n : ℕ). n % 8) c.two.ensures.0 ∙ flags_are c.args.bytes.now c.args.p (bytes_all c.args.bytes.now (λ i. (c.type_inv.bytes i).fits)) c.requires
