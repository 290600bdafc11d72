-- The record of an identifier in a lent store: 3, 15, or where it stands. Assumes nothing.
use Prim.Native.Nat.{ℕ}
use native.Mathlib.Omega.{arith}
use mathlib.Core.Path.{◌≡◌, refl, sym, ap, ap₂, ◌∙◌}
use mathlib.Core.Bool.{Bool, true, false}
use mathlib.Core.List.{List}
use lib.ListN.{length, take}
use lib.Dec.{ltb}
use borrow.Author.Tests.{le-ltb}
use Rattle.std.specs.Prelude.{Err, None, Ok, Option, Result, Some}
use Rattle.limits.specs.Outcome.{refuse_if, and_then, or_refuse}
use Rattle.limits.specs.declared.Refusal.{Refusal}
use Rattle.limits.specs.declared.Refusal.TheVariants.{BadStore, NotFound}
use Rattle.limits.proofs.Laws.{some_pair}
use Rattle.record.specs.Record.{Record}
use Rattle.record.specs.Store.{decode_all}
use Rattle.image.specs.declared.RecordAt.{RecordAt}
use Rattle.image_edit.specs.declared.RecordPlace.{RecordPlace}
use Rattle.store.specs.Counting.{records_held, count_answer}
use Rattle.dialog_id.specs.Ident.{Ident}
use Rattle.book.specs.Book.{Book, is_of, first_place}
use Rattle.dialog_manager.specs.Search.{Spot, first, found_of, found_in}
use Rattle.dialog_manager.proofs.LookupLaws.{Kept, same_Err}
use Rattle.store_entries.specs.Entries.{spot_in, spot_named, standing_of}

module _ (bytes : List ℕ) (used : ℕ) where
  -- no identifier is named
  pub nowhere_unread : {cause : Refusal} → count_answer (records_held bytes used) ≡ Err cause → Err cause ≡ standing_of used (spot_named None bytes used)
  unfolding records_held
  nowhere_unread {cause} e = by (ltb (length bytes) used) (decode_all (take used bytes)) e
    where
      by : (t : Bool) (o : Option (List Record)) → count_answer (refuse_if t BadStore (or_refuse BadStore o)) ≡ Err cause
          → Err cause ≡ standing_of used (refuse_if t BadStore (and_then (or_refuse BadStore o) (λ b. Err NotFound)))
      by true o e = ap Err (sym (same_Err BadStore cause e))
      by false None e = ap Err (sym (same_Err BadStore cause e))
      by false (Some b) e = absurd (let z : ◌≡◌ {A = ℕ} 0 1 = cc in omega arith)

  pub nowhere_read : Kept bytes used → Err NotFound ≡ standing_of used (spot_named None bytes used)
  nowhere_read k = rw (le-ltb (length bytes) used k.within, k.are) refl

  module _ (i : Ident) where
    pub unread : {cause : Refusal} → count_answer (records_held bytes used) ≡ Err cause → Err cause ≡ standing_of used (spot_in i bytes used)
    unfolding records_held spot_in
    unread {cause} e = by (ltb (length bytes) used) (decode_all (take used bytes)) e
      where
        by : (t : Bool) (o : Option (List Record)) → count_answer (refuse_if t BadStore (or_refuse BadStore o)) ≡ Err cause
            → Err cause ≡ standing_of used (refuse_if t BadStore (and_then (or_refuse BadStore o) (λ b. or_refuse NotFound (first (is_of i) first_place b))))
        by true o e = ap Err (sym (same_Err BadStore cause e))
        by false None e = ap Err (sym (same_Err BadStore cause e))
        by false (Some b) e = absurd (let z : ◌≡◌ {A = ℕ} 0 1 = cc in omega arith)

    module _ (k : Kept bytes used) where
      opened : spot_in i bytes used ≡ or_refuse NotFound (first (is_of i) first_place k.contents.records)
      unfolding spot_in
      opened =
          ap (λ (t : Bool). refuse_if t BadStore (and_then (or_refuse BadStore (decode_all (take used bytes))) (λ b. or_refuse NotFound (first (is_of i) first_place b)))) (le-ltb (length bytes) used k.within)
          ∙ ap (λ (o : Option Book). and_then (or_refuse BadStore o) (λ b. or_refuse NotFound (first (is_of i) first_place b))) k.are

      pub nothing : None ≡ found_in (is_of i) (decode_all (take used bytes)) → Err NotFound ≡ standing_of used (spot_in i bytes used)
      nothing e = by (first (is_of i) first_place k.contents.records) refl (e ∙ ap (found_in (is_of i)) k.are)
        where
          by : (o : Option Spot) → first (is_of i) first_place k.contents.records ≡ o → None ≡ found_of o → Err NotFound ≡ standing_of used (spot_in i bytes used)
          by None q h = sym (ap (standing_of used) (opened ∙ ap (or_refuse NotFound) q))
          by (Some x) q h = absurd (let z : ◌≡◌ {A = ℕ} 0 1 = cc in omega arith)

      pub one : (at : ℕ) (r : RecordAt) → ◌≡◌ {A = Option (ℕ × RecordAt)} (Some (at, r)) (found_in (is_of i) (decode_all (take used bytes))) → ◌≡◌ {A = Result RecordPlace Refusal} (Ok (record { used = used; at = at; «record» = r })) (standing_of used (spot_in i bytes used))
      one at r e = by (first (is_of i) first_place k.contents.records) refl (e ∙ ap (found_in (is_of i)) k.are)
        where
          by : (o : Option Spot) → first (is_of i) first_place k.contents.records ≡ o → ◌≡◌ {A = Option (ℕ × RecordAt)} (Some (at, r)) (found_of o) → ◌≡◌ {A = Result RecordPlace Refusal} (Ok (record { used = used; at = at; «record» = r })) (standing_of used (spot_in i bytes used))
          by None q h = absurd (let z : ◌≡◌ {A = ℕ} 0 1 = cc in omega arith)
          by (Some x) q h =
              let p = some_pair h in
              let m : ◌≡◌ {A = Result RecordPlace Refusal} (Ok (record { used = used; at = at; «record» = r })) (standing_of used (or_refuse NotFound (Some x))) = ap₂ (λ (a : ℕ) (y : RecordAt). Ok (record { used = used; at = a; «record» = y })) p.0 p.1 in
              m ∙ sym (ap (standing_of used) (opened ∙ ap (or_refuse NotFound) q))
