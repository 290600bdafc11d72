-- What the count of whole records and the comparison of their identifiers say of the store. Assumes nothing.
use Prim.Native.Nat.{ℕ}
use native.Mathlib.Omega.{arith}
use mathlib.Core.Path.{◌≡◌, refl, sym, ap, ◌∙◌}
use mathlib.Core.Bool.{Bool, true, false, cond}
use mathlib.Core.List.{List}
use lib.ListN.{length}
use Rattle.std.specs.Bool.{then_some}
use Rattle.std.specs.Prelude.{None, Option, Some}
use Rattle.record.specs.Record.{Record, is_given}
use Rattle.record.specs.Store.{distinct, only_distinct, decode_all}
use Rattle.distinct.specs.Distinct.{is_distinct}
use Rattle.store.specs.Reading.{store_from, whole_records}

-- the bytes are so many whole records
pub record Counted (s : List ℕ) (count : ℕ) : Type 0 where
  pub records : List Record
  pub are : whole_records s ≡ Some records
  pub many : length records ≡ count

-- what the answer of `read_records` says
pub counted : (s : List ℕ) {count : ℕ} → store_from (whole_records s) ≡ Some count → Counted s count
counted s {count} e = by (whole_records s) refl e
  where
    by : (o : Option (List Record)) → whole_records s ≡ o → store_from o ≡ Some count → Counted s count
    by None q e = absurd (let z : ◌≡◌ {A = ℕ} 0 1 = cc in omega arith)
    by (Some rs) q e = record { records = rs; are = q; many = cc }

-- bytes that aren't whole records aren't a store's
pub not_whole : (s : List ℕ) → store_from (whole_records s) ≡ None → None ≡ store_from (decode_all s)
unfolding decode_all
not_whole s e = by (whole_records s) e
  where
    by : (o : Option (List Record)) → store_from o ≡ None → None ≡ store_from (only_distinct o)
    by None e = refl
    by (Some rs) e = absurd (let z : ◌≡◌ {A = ℕ} 0 1 = cc in omega arith)

-- with an identifier for each they are a store's, and only then
pub decided : (s : List ℕ) (count : ℕ) → Counted s count → {unique : Bool} → unique ≡ is_distinct s → then_some unique count ≡ store_from (decode_all s)
unfolding decode_all
decided s count k e = ap (λ (b : Bool). then_some b count) e ∙ by (whole_records s) k.are
  where
    is : (rs : List Record) (b : Bool) → length rs ≡ count → then_some (is_given (cond b (Some rs) None)) count ≡ store_from (cond b (Some rs) None)
    is rs true n = ap Some (sym n)
    is rs false n = refl

    by : (o : Option (List Record)) → o ≡ Some k.records → then_some (is_given (only_distinct o)) count ≡ store_from (only_distinct o)
    by None q = refl
    by (Some rs) q = let w : rs ≡ k.records = cc in is rs (distinct rs) (ap length w ∙ k.many)
