-- A listing that is given is no larger than its room; 131,072 bytes are room for any. Assumes nothing.
use native.Mathlib.Omega.{arith}
use Prim.Native.Nat.{ℕ, ◌≤◌}
use mathlib.Core.Path.{◌≡◌, refl}
use mathlib.Core.Bool.{Bool, true, false}
use mathlib.Core.List.{List}
use lib.ListN.{length}
use lib.Dec.{ltb}
use borrow.Author.Tests.{ltb-false, le-ltb}
use Rattle.std.specs.Prelude.{Err, None, Ok, Option, Some}
use Rattle.limits.specs.Limits.{LimitSet, rust_limits}
use Rattle.limits.specs.Outcome.{cause_if, refuse_by, and_then, or_refuse}
use Rattle.limits.specs.declared.Refusal.TheVariants.{TextTooLong, BadStore, NoRoom}
use Rattle.output.specs.Output.{fitted, written_from}
use Rattle.record.specs.Record.{Record}
use Rattle.record.specs.Store.{decode_all}
use Rattle.codec.proofs.CodecLaws.{Bytes}
use Rattle.listing_lines.specs.Listing.{listing, listing_of}
use Rattle.listing_text.proofs.SizeLaws.{listing_small}

-- by what each of the three causes comes to
by_room : (room n : ℕ) (s : List ℕ) (b : Bool) → ltb room (length s) ≡ b → written_from (refuse_by (cause_if b NoRoom) (Ok s)) ≡ Ok n → n ≤ room
by_room room n s true e h = let z : ◌≡◌ {A = ℕ} 0 1 = cc in omega arith
by_room room n s false e h = let k : length s ≡ n = cc in omega (arith, ltb-false room (length s) e)

by_records : (room n : ℕ) (o : Option (List Record)) → written_from (and_then (or_refuse BadStore o) (λ rs. fitted room (listing_of rs))) ≡ Ok n → n ≤ room
by_records room n None h = let z : ◌≡◌ {A = ℕ} 0 1 = cc in omega arith
by_records room n (Some rs) h = by_room room n (listing_of rs) (ltb room (length (listing_of rs))) refl h

by_size : (room n : ℕ) (s : List ℕ) (b : Bool) → written_from (refuse_by (cause_if b TextTooLong) (and_then (or_refuse BadStore (decode_all s)) (λ rs. fitted room (listing_of rs)))) ≡ Ok n → n ≤ room
by_size room n s true h = let z : ◌≡◌ {A = ℕ} 0 1 = cc in omega arith
by_size room n s false h = by_records room n (decode_all s) h

pub listing_fits : (L : LimitSet) (s : List ℕ) (room n : ℕ) → written_from (listing L s room) ≡ Ok n → n ≤ room
unfolding listing
listing_fits L s room n h = by_size room n s (ltb L.listed_store (length s)) h

-- ---- room for any listing

module _ (room : ℕ) (enough : 131072 ≤ room) (s : List ℕ) (bytes : Bytes s) where
  text_fits : (t : List ℕ) → length t ≤ room → written_from (fitted room t) ≡ Err NoRoom → ⊥
  text_fits t h e = let q : Ok (length t) ≡ Err NoRoom = (rw (le-ltb room (length t) h) at e) in let z : ◌≡◌ {A = ℕ} 0 1 = cc in omega arith

  records_fit : (o : Option (List Record)) → decode_all s ≡ o → length s ≤ 65536 → written_from (and_then (or_refuse BadStore o) (λ rs. fitted room (listing_of rs))) ≡ Err NoRoom → ⊥
  records_fit None d h e = let z : ◌≡◌ {A = ℕ} 0 1 = cc in omega arith
  records_fit (Some rs) d h e = text_fits (listing_of rs) (omega (arith, enough, listing_small s rs bytes h d)) e

  -- 18 is not answered
  pub never_full : written_from (listing rust_limits s room) ≡ Err NoRoom → ⊥
  unfolding listing
  never_full e = by (ltb 65536 (length s)) refl e
    where
      by : (b : Bool) → ltb 65536 (length s) ≡ b → written_from (refuse_by (cause_if b TextTooLong) (and_then (or_refuse BadStore (decode_all s)) (λ rs. fitted room (listing_of rs)))) ≡ Err NoRoom → ⊥
      by true l e = let z : ◌≡◌ {A = ℕ} 0 1 = cc in omega arith
      by false l e = records_fit (decode_all s) refl (ltb-false 65536 (length s) l) e
