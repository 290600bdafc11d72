-- Updates of one record given as its image: what the reading of it answered, and what the change of it makes of the used bytes.
-- Assumes nothing.
use Prim.Native.Nat.{ℕ, ◌≤◌, ◌<◌}
use native.Mathlib.Omega.{arith}
use mathlib.Core.Path.{◌≡◌, refl, sym, ap, ◌∙◌}
use mathlib.Core.Bool.{Bool, true, false}
use mathlib.Core.List.{List, [], ◌∷◌, ◌++◌, append-nil}
use lib.ListN.{length, take, get_or}
use lib.Dec.{ltb}
use borrow.Author.Tests.{le-ltb, ltb-false}
use Rattle.std.specs.Prelude.{Err, None, Ok, Option, Result, Some}
use Rattle.limits.specs.Outcome.{cause_if, refuse_by, refuse_if, or_refuse}
use Rattle.limits.specs.declared.Refusal.{Refusal}
use Rattle.limits.specs.declared.Refusal.TheVariants.{BadStore, NoRoom}
use Rattle.output.specs.Output.{written_from}
use Rattle.codec.specs.Codec.{Reading}
use Rattle.record.specs.NumbersForm.{meaning}
use Rattle.record.proofs.NumberLaws.{meaning_same}
use Rattle.record.specs.Record.{Record, image}
use Rattle.image.specs.Places.{record_from, record_places}
use Rattle.image.specs.declared.RecordAt.{RecordAt}
use Rattle.image_edit.specs.Changes.{read_at, changed}
use Rattle.image_edit.specs.Stands.{StandsAt}
use Rattle.image_edit.specs.declared.RecordPlace.{RecordPlace}
use Rattle.image_edit.proofs.ImageCuts.{held_used, changed_held}
use Rattle.dialog_rules.specs.OneImage.{alone, only_one, one_record}
use Rattle.dialog.specs.Readings.{image_answer}
use Rattle.dialog_changes.specs.ImageUpdates.{used_record, place_answer, image_after, local_raised, raised_record, raised_answer}
use Rattle.dialog_rules.specs.Updates.{local_update}
use Rattle.store_steps.specs.AtPlace.{raised_with}

-- ---- the record of the used bytes

pub within_used : (bytes : List ℕ) (used : ℕ) → used ≤ length bytes → used_record bytes used ≡ one_record (take used bytes)
within_used bytes used h = rw (le-ltb (length bytes) used h)

-- the refusal of the place is that of the record
pub used_refused : (bytes : List ℕ) (used : ℕ) {cause : Refusal} → Err cause ≡ place_answer used (used_record bytes used) → used_record bytes used ≡ Err cause
used_refused bytes used e = by (used_record bytes used) e
  where
    by : (o : Result Record Refusal) {cause : Refusal} → Err cause ≡ place_answer used o → o ≡ Err cause
    by (Err own) {cause} h = let z : own ≡ cause = cc in ap Err z
    by (Ok r) h = absurd (let z : ◌≡◌ {A = ℕ} 0 1 = cc in omega arith)

-- the record that was read, and where it lies: nothing stands after it
pub record One (bytes : List ℕ) (used : ℕ) (p : RecordAt) : Type 0 where
  pub value : Record
  pub one : used_record bytes used ≡ Ok value
  pub fits : used ≤ length bytes
  pub whole : record_from 0 (read_at 0 (take used bytes)) ≡ Some p
  pub reads : image.read (take used bytes) ≡ Some (record { value = value; rest = [] })
  pub placed : p ≡ record_places 0 value

one_read : (bytes : List ℕ) (used : ℕ) (p : RecordAt) → used ≤ length bytes → Ok p ≡ image_answer (one_record (take used bytes)) → One bytes used p
unfolding one_record
one_read bytes used p l e = by (image.read s) refl e
  where
    s : List ℕ
    s = take used bytes

    by : (o : Option (Reading Record)) → image.read s ≡ o → Ok p ≡ image_answer (or_refuse BadStore (only_one o)) → One bytes used p
    by None q h = absurd (let z : ◌≡◌ {A = ℕ} 0 1 = cc in omega arith)
    by (Some x) q h = is x.rest refl h
      where
        is : (t : List ℕ) → x.rest ≡ t → Ok p ≡ image_answer (or_refuse BadStore (alone x t)) → One bytes used p
        is [] r h =
            let k : p ≡ record_places 0 x.value = cc in
            record {
              value = x.value;
              one = within_used bytes used l ∙ rw (q, r);
              fits = l;
              whole = ap (record_from 0) q ∙ ap Some (sym k);
              reads = q ∙ ap (λ (u : List ℕ). Some (record { value = x.value; rest = u })) r;
              placed = k;
            }
        is (b ∷ t) r h = absurd (let z : ◌≡◌ {A = ℕ} 0 1 = cc in omega arith)

pub place_stands : (bytes : List ℕ) (used : ℕ) {r : RecordAt} → used ≤ length bytes → Ok r ≡ image_answer (one_record (take used bytes)) → StandsAt bytes (record { used = used; at = 0; «record» = r })
place_stands bytes used {r} l e = (l, omega arith, (one_read bytes used r l e).whole)

pub record Placed (bytes : List ℕ) (used : ℕ) (p : RecordPlace) : Type 0 where
  pub one : One bytes used p.record
  pub used_is : p.used ≡ used
  pub at_is : p.at ≡ 0

pub place_read : (bytes : List ℕ) (used : ℕ) (p : RecordPlace) → Ok p ≡ place_answer used (used_record bytes used) → Placed bytes used p
place_read bytes used p e = by (ltb (length bytes) used) refl
  where
    by : (t : Bool) → ltb (length bytes) used ≡ t → Placed bytes used p
    by true t = absurd (let u : Ok p ≡ Err BadStore = (rw t at e) in let z : ◌≡◌ {A = ℕ} 0 1 = cc in omega arith)
    by false t = of (one_record (take used bytes)) refl (rw t at e)
      where
        of : (o : Result Record Refusal) → one_record (take used bytes) ≡ o → Ok p ≡ place_answer used o → Placed bytes used p
        of (Err cause) q h = absurd (let z : ◌≡◌ {A = ℕ} 0 1 = cc in omega arith)
        of (Ok r) q h =
            let k : p ≡ record { used = used; at = 0; «record» = record_places 0 r } = cc in
            record {
              one = one_read bytes used p.record (ltb-false (length bytes) used t) (ap Ok (ap (λ (x : RecordPlace). x.record) k) ∙ ap image_answer (sym q));
              used_is = ap (λ (x : RecordPlace). x.used) k;
              at_is = ap (λ (x : RecordPlace). x.at) k;
            }

-- the numbers that were read are the record's
pub meaning_read : (bytes : List ℕ) (used : ℕ) (p : RecordAt) (h : One bytes used p) → meaning p.numbers ≡ h.value.numbers
meaning_read bytes used p h = ap (λ (q : RecordAt). meaning q.numbers) h.placed ∙ meaning_same h.value.numbers

-- ---- the change

-- the used bytes with the record changed are its image
pub changed_one : (bytes : List ℕ) (used : ℕ) (p : RecordAt) (h : One bytes used p) (f : Record → Record) → ((i : ℕ) → get_or bytes i 0 < 256) → changed f 0 (take used bytes) ≡ image.write (f h.value)
changed_one bytes used p h f b =
    let g = held_used bytes used 0 b h.fits (omega arith) h.whole in
    let m : Reading Record = record { value = g.value; rest = g.rest } in
    let n : Reading Record = record { value = h.value; rest = [] } in
    let q : ◌≡◌ {A = Option (Reading Record)} (Some m) (Some n) = sym g.reads ∙ h.reads in
    let o : m ≡ n = cc in
    let v : g.value ≡ h.value = ap (λ (z : Reading Record). z.value) o in
    let r : g.rest ≡ [] = ap (λ (z : Reading Record). z.rest) o in
    changed_held f (take used bytes) 0 g ∙ ap (λ (t : List ℕ). image.write (f g.value) ++ t) r ∙ append-nil (image.write (f g.value)) ∙ ap (λ (z : Record). image.write (f z)) v

-- ---- the new local number

module _ (bytes : List ℕ) (used : ℕ) where
  pub raised_refused : {cause : Refusal} → used_record bytes used ≡ Err cause → Err cause ≡ raised_answer (raised_record bytes used)
  unfolding raised_record
  raised_refused e = rw e

  -- the number that is answered beside the used length is the record's
  pub raised_is : (p : RecordAt) (h : One bytes used p) {n : ℕ} → n ≡ (local_update h.value).numbers.local → raised_with n (written_from (local_raised bytes used)) ≡ raised_answer (raised_record bytes used)
  unfolding image_after raised_record
  raised_is p h {n} f = rw h.one (by (ltb (length bytes) (length (image.write (local_update h.value)))))
    where
      by : (t : Bool) → raised_with n (written_from (refuse_by (cause_if t NoRoom) (Ok (image.write (local_update h.value))))) ≡ raised_answer (refuse_if t NoRoom (Ok (local_update h.value)))
      by true = refl
      by false = ap (λ (k : ℕ). Ok (k, length (image.write (local_update h.value)))) f
