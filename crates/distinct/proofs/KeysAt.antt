-- The key of the record at a place: its flags, and the bytes of its identifier as they lie there. Assumes nothing.
use Prim.Native.Nat.{ℕ, ◌+◌, ◌-◌, ◌%◌, ◌≤◌}
use native.Mathlib.Omega.{arith}
use mathlib.Core.Path.{◌≡◌, ap}
use mathlib.Core.List.{List, ◌∷◌}
use lib.ListN.{length, take, drop, get_or}
use lib.Seq.{take_at}
use Rattle.codec.proofs.CodecLaws.{Bytes}
use Rattle.record.specs.Record.{Fields, is_filled, ids_map, map_of, fields_of}
use Rattle.record_walk.specs.Walk.{At, two_at, ids_bytes, ids_end}
use Rattle.record_walk.proofs.Images.{rec, ids, after, map_at, ids_at}
use Rattle.distinct.specs.Keys.{key_of, key_at}
use Rattle.record.proofs.MapLaws.{bit_le}

-- bits 0 to 2 of a map
map_low : (f : Fields) → map_of f % 8 ≡ ids_map f.first
unfolding map_of
map_low f = omega (arith, bit_le (is_filled f.first.first), bit_le (is_filled f.first.second.first), bit_le (is_filled f.first.second.second))

module _ (s : List ℕ) (p : ℕ) (b : Bytes s) (x : At s p) where
  pub key_is : key_at s p ≡ key_of (rec s p b x)
  unfolding key_at
  key_is = rw x.reads

  pub flags_are : two_at s p % 8 ≡ get_or (key_at s p) 0 0
  unfolding key_of
  flags_are = rw (key_is, map_at s p b x) (map_low (fields_of (rec s p b x)))

  pub ends_with_key : ids_end s p ≡ p + 1 + length (key_at s p)
  unfolding ids_end key_at key_of
  ends_with_key = rw x.reads (omega arith)

  -- the key is the flags and the bytes up to the identifier's end
  pub key_bytes : (e : ℕ) → e ≡ p + 1 + length (key_at s p) → key_at s p ≡ get_or (key_at s p) 0 0 ∷ take (e - (p + 2)) (drop (p + 2) s)
  unfolding key_of
  key_bytes e q =
      let k : length (ids_bytes (ids s p b x)) ≡ e - (p + 2) = omega (arith, ap length key_is) in
      rw (key_is, (ids_at s p b x).are, take_at (ids_bytes (ids s p b x)) (after s p b x) (e - (p + 2)) k)

  pub key_long : 1 ≤ length (key_at s p)
  unfolding key_of
  key_long = rw key_is (omega arith)
