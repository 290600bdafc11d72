-- The listing of a store: its refusals in their order, and the text of the records that were read. Assumes nothing.
use Prim.Native.Nat.{ℕ, ◌≤◌, ◌<◌}
use native.Mathlib.Omega.{arith}
use mathlib.Core.Path.{◌≡◌, refl, sym, ap, ◌∙◌}
use mathlib.Core.Bool.{Bool, true, false}
use mathlib.Core.List.{List, ◌++◌}
use lib.ListN.{length}
use borrow.Author.Tests.{lt-ltb, le-ltb}
use Rattle.std.specs.Option.{ok_or}
use Rattle.std.specs.Prelude.{Err, None, Ok, Option, Result, Some}
use Rattle.limits.specs.Limits.{LimitSet}
use Rattle.limits.specs.declared.Refusal.{Refusal}
use Rattle.limits.specs.declared.Refusal.TheVariants.{TextTooLong, BadStore, NoRoom}
use Rattle.record.specs.Record.{Record, is_given}
use Rattle.record.specs.Store.{distinct, records_in, only_distinct, decode_all}
use Rattle.store.specs.Reading.{store_from}
use Rattle.listing_lines.specs.Listing.{lines_from, total_line, listing_of, listing}
use Rattle.listing_lines.specs.Steps.{records_of, listed_lines}

-- ---- what the reading of the store answered

-- what is refused for want of a count has none, and the cause that was given
pub unread : (o : Option ℕ) {x cause : Refusal} {r : Result ℕ Refusal} → r ≡ ok_or o x → r ≡ Err cause → (o ≡ None) × (cause ≡ x)
unread None {x} {cause} e h = (refl, (let q : ◌≡◌ {A = Result ℕ Refusal} (Err cause) (Err x) = sym h ∙ e in cc))
unread (Some v) {x} {cause} e h =
    let q : ◌≡◌ {A = Result ℕ Refusal} (Err cause) (Ok v) = sym h ∙ e in
    absurd (let z : ◌≡◌ {A = ℕ} 0 1 = cc in omega arith)

pub broken_none : (s : List ℕ) → store_from (decode_all s) ≡ None → decode_all s ≡ None
broken_none s e = by (decode_all s) refl e
  where
    by : (o : Option (List Record)) → decode_all s ≡ o → store_from o ≡ None → o ≡ None
    by None q e = refl
    by (Some rs) q e = absurd (let z : ◌≡◌ {A = ℕ} 0 1 = cc in omega arith)

pub record Decoded (s : List ℕ) (count : ℕ) : Type 0 where
  pub records : List Record
  pub all : decode_all s ≡ Some records
  pub whole : records_in (length s) s ≡ Some records
  pub counted : count ≡ length records

pub decoded : (s : List ℕ) (count : ℕ) → store_from (decode_all s) ≡ Some count → Decoded s count
unfolding decode_all
decoded s count e = by (records_in (length s) s) refl e
  where
    by : (o : Option (List Record)) → records_in (length s) s ≡ o → store_from (only_distinct o) ≡ Some count → Decoded s count
    by None q e = absurd (let z : ◌≡◌ {A = ℕ} 0 1 = cc in omega arith)
    by (Some rs) q e = is (distinct rs) refl
      where
        is : (t : Bool) → distinct rs ≡ t → Decoded s count
        is true t =
            let u : Some (length rs) ≡ Some count = (rw t at e) in
            record { records = rs; all = rw (q, t); whole = q; counted = (let v : length rs ≡ count = cc in sym v) }
        is false t = absurd (let u : None ≡ Some count = (rw t at e) in let z : ◌≡◌ {A = ℕ} 0 1 = cc in omega arith)

pub whole_given : (s : List ℕ) (count : ℕ) → Decoded s count → is_given (decode_all s) ≡ true
whole_given s count d = rw d.all

-- the records of a store that was read
pub records_stored : (s : List ℕ) → is_given (decode_all s) ≡ true → is_given (records_in (length s) s) ≡ true
unfolding decode_all
records_stored s e = by (records_in (length s) s) refl e
  where
    by : (o : Option (List Record)) → records_in (length s) s ≡ o → is_given (only_distinct o) ≡ true → is_given o ≡ true
    by None q e = e
    by (Some rs) q e = refl

-- the lines of the records and the total are the listing
pub listing_parts : (s : List ℕ) (count : ℕ) (d : Decoded s count) → listed_lines s ++ total_line count ≡ listing_of d.records
unfolding listing_of
listing_parts s count d =
    ap (λ (o : Option (List Record)). lines_from 1 (records_of o) ++ total_line count) d.whole
    ∙ ap (λ (n : ℕ). lines_from 1 d.records ++ total_line n) d.counted

-- ---- the refusals, in their order

module _ (L : LimitSet) (s : List ℕ) (room : ℕ) where
  pub too_long : L.listed_store < length s → listing L s room ≡ Err TextTooLong
  unfolding listing
  too_long h = rw (lt-ltb L.listed_store (length s) h)

  module _ (h : length s ≤ L.listed_store) where
    pub bad_store : decode_all s ≡ None → listing L s room ≡ Err BadStore
    unfolding listing
    bad_store e = rw (le-ltb L.listed_store (length s) h, e)

    pub no_room : {count : ℕ} (d : Decoded s count) → room < length (listing_of d.records) → listing L s room ≡ Err NoRoom
    unfolding listing
    no_room d l = rw (le-ltb L.listed_store (length s) h, d.all, lt-ltb room (length (listing_of d.records)) l)

    pub listed_all : {count : ℕ} (d : Decoded s count) → length (listing_of d.records) ≤ room → listing L s room ≡ Ok (listing_of d.records)
    unfolding listing
    listed_all d l = rw (le-ltb L.listed_store (length s) h, d.all, le-ltb room (length (listing_of d.records)) l)
