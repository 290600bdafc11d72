-- Whole records from a place on: their keys, and that they are well-formed. Assumes nothing.
use Prim.Native.Nat.{ℕ}
use mathlib.Core.Path.{◌≡◌, ap, ◌∙◌}
use mathlib.Core.List.{List, [], ◌∷◌}
use Rattle.record.specs.Record.{Record}
use Rattle.codec.proofs.CodecLaws.{Bytes}
use Rattle.record.proofs.StoreLaws.{EachFormed}
use Rattle.record_walk.specs.Walk.{end_at}
use Rattle.distinct.specs.Keys.{key_of, key_at}
use Rattle.record_walk.proofs.Walks.{From, Next, next}
use Rattle.distinct.proofs.KeysAt.{key_is}

module _ (s : List ℕ) (b : Bytes s) where
  -- the key of the first
  pub key_next : (at : ℕ) (r : Record) (rs : List Record) → Next s b at r rs → key_at s at ≡ key_of r
  key_next at r rs n = key_is s at b n.here ∙ ap key_of n.is

  pub each_formed : (rs : List Record) (at : ℕ) → From s at rs → EachFormed rs
  each_formed [] at e = tt
  each_formed (r ∷ rs) at e = let n = next s b at r rs e in (n.formed, each_formed rs (end_at s at) n.others)
