-- Bytes that are read as a store: that they are whole records, and what the count of a lent store says of them. Assumes nothing.
use Prim.Native.Nat.{ℕ, zero, suc, ◌≤◌, ◌<◌}
use native.Mathlib.Omega.{arith}
use mathlib.Core.Path.{◌≡◌, refl, ap, ◌∙◌}
use mathlib.Core.Bool.{Bool, true, false, cond}
use mathlib.Core.List.{List, [], ◌∷◌}
use lib.ListN.{length, take, get_or}
use lib.Dec.{ltb}
use borrow.Author.Tests.{ltb-false}
use Rattle.std.specs.Prelude.{None, Ok, Option, Some}
use Rattle.limits.specs.Outcome.{refuse_if, or_refuse}
use Rattle.limits.specs.declared.Refusal.TheVariants.{BadStore}
use Rattle.codec.proofs.CodecLaws.{Bytes, bytes_take, bytes_all}
use Rattle.record.specs.Record.{Record, is_given}
use Rattle.record.specs.Store.{distinct, records_in, only_distinct, decode_all}
use Rattle.record_walk.proofs.Walks.{given_records, given_is}
use Rattle.store.specs.Counting.{records_held, count_answer}

-- the records of a store, identifiers not compared
pub whole : (s : List ℕ) (b : List Record) → decode_all s ≡ Some b → records_in (length s) s ≡ Some b
unfolding decode_all
whole s b e = by (records_in (length s) s) refl e
  where
    is : (rs : List Record) (t : Bool) → cond t (Some rs) None ≡ Some b → Some rs ≡ Some b
    is rs true e = e
    is rs false e = absurd (let z : ◌≡◌ {A = ℕ} 0 1 = cc in omega arith)

    by : (o : Option (List Record)) → records_in (length s) s ≡ o → only_distinct o ≡ Some b → records_in (length s) s ≡ Some b
    by None q e = absurd (let z : ◌≡◌ {A = ℕ} 0 1 = cc in omega arith)
    by (Some rs) q e = q ∙ is rs (distinct rs) e

-- so they are whole records
pub given_whole : (s : List ℕ) → is_given (decode_all s) ≡ true → is_given (records_in (length s) s) ≡ true
given_whole s e = let k = given_records (decode_all s) e in given_is (records_in (length s) s) (whole s k.0 k.1)

-- the used bytes of a lent store that was counted are a store's
pub record Used (bytes : List ℕ) (used : ℕ) : Type 0 where
  pub within : used ≤ length bytes
  pub are : is_given (decode_all (take used bytes)) ≡ true

pub counted_used : (bytes : List ℕ) (used : ℕ) {n : ℕ} → count_answer (records_held bytes used) ≡ Ok n → Used bytes used
unfolding records_held
counted_used bytes used {n} e = by (ltb (length bytes) used) refl (decode_all (take used bytes)) refl e
  where
    by : (t : Bool) → ltb (length bytes) used ≡ t → (o : Option (List Record)) → decode_all (take used bytes) ≡ o → count_answer (refuse_if t BadStore (or_refuse BadStore o)) ≡ Ok n
        → Used bytes used
    by true q o p e = absurd (let z : ◌≡◌ {A = ℕ} 0 1 = cc in omega arith)
    by false q None p e = absurd (let z : ◌≡◌ {A = ℕ} 0 1 = cc in omega arith)
    by false q (Some b) p e = record { within = ltb-false (length bytes) used q; are = ap is_given p }

-- the front of bytes is bytes
each_fits : (s : List ℕ) → Bytes s → (i : ℕ) → get_or s i 0 < 256
each_fits [] h i = omega arith
each_fits (b ∷ s) h zero = h.0
each_fits (b ∷ s) h (suc i) = each_fits s h.1 i

pub front_fits : (n : ℕ) (s : List ℕ) → ((i : ℕ) → get_or s i 0 < 256) → (i : ℕ) → get_or (take n s) i 0 < 256
front_fits n s h = each_fits (take n s) (bytes_take n s (bytes_all s h))
