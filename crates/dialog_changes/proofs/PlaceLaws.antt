-- A step on the one record of an image is the step on the record that stands at its place. Assumes nothing.
use Prim.Native.Nat.{ℕ, ◌<◌}
use native.Mathlib.Omega.{arith}
use mathlib.Core.Path.{◌≡◌, refl, sym, ap, ◌∙◌}
use mathlib.Core.List.{List, []}
use lib.ListN.{length, take, get_or}
use Rattle.std.specs.Prelude.{Err, Ok, Option, Result, Some}
use Rattle.limits.specs.Outcome.{and_then}
use Rattle.limits.specs.declared.Refusal.{Refusal}
use Rattle.output.specs.Output.{fitted, leaves, written_from}
use Rattle.codec.specs.Codec.{Reading}
use Rattle.record.specs.Record.{Record, image}
use Rattle.image.specs.declared.RecordAt.{RecordAt}
use Rattle.image_edit.specs.declared.RecordPlace.{RecordPlace}
use Rattle.image_edit.proofs.ImageCuts.{Held, held_used}
use Rattle.store_steps.specs.AtPlace.{stepped}
use Rattle.store_steps.proofs.PlaceLaws.{stepped_refused, stepped_given, result_as}
use Rattle.dialog_changes.specs.ImageUpdates.{used_record, place_answer, image_after}
use Rattle.dialog_changes.proofs.ImageUpdateLaws.{One, Placed, place_read, used_refused, changed_one}

module _ (bytes : List ℕ) (used : ℕ) (p : RecordAt) (h : One bytes used p) (byte : (i : ℕ) → get_or bytes i 0 < 256) (step : Record → Result Record Refusal) where
  held_one : Held (take used bytes) 0 p
  held_one = held_used bytes used 0 byte h.fits (omega arith) h.whole

  same_value : held_one.value ≡ h.value
  same_value =
      let m : Reading Record = record { value = held_one.value; rest = held_one.rest } in
      let n : Reading Record = record { value = h.value; rest = [] } in
      let e : ◌≡◌ {A = Option (Reading Record)} (Some m) (Some n) = sym held_one.reads ∙ h.reads in
      let q : m ≡ n = cc in
      ap (λ (x : Reading Record). x.value) q

  -- the step on the one record is the step on the record at 0
  stepped_one : image_after step bytes used ≡ stepped step (length bytes) 0 (take used bytes)
  unfolding image_after
  stepped_one = rw h.one (by (step h.value) refl)
    where
      by : (o : Result Record Refusal) → step h.value ≡ o → and_then o (λ v. fitted (length bytes) (image.write v)) ≡ stepped step (length bytes) 0 (take used bytes)
      by (Err cause) e = sym (stepped_refused (take used bytes) 0 p held_one step (length bytes) (ap step same_value ∙ e))
      by (Ok v) e =
          ap (fitted (length bytes)) (sym (changed_one bytes used p h (λ _. v) byte))
          ∙ sym (stepped_given (take used bytes) 0 p held_one step (length bytes) (λ _. v) (ap step same_value ∙ e))

-- the same at the place that the code has read
pub stepped_place : (bytes : List ℕ) (used : ℕ) (p : RecordPlace) (h : Placed bytes used p) → ((i : ℕ) → get_or bytes i 0 < 256) → (step : Record → Result Record Refusal)
    → image_after step bytes used ≡ stepped step (length bytes) p.at (take p.used bytes)
stepped_place bytes used p h byte step =
    stepped_one bytes used p.record h.one byte step
    ∙ ap (λ (n : ℕ). stepped step (length bytes) n (take used bytes)) (sym h.at_is)
    ∙ ap (λ (n : ℕ). stepped step (length bytes) p.at (take n bytes)) (sym h.used_is)

-- ---- the answers

module _ (bytes : List ℕ) (used : ℕ) (step : Record → Result Record Refusal) where
  -- the answer and the lent bytes are those of the step on the one record
  abbrev pub Ended : Result ℕ Refusal → List ℕ → Type 0
  Ended r after = (r ≡ written_from (image_after step bytes used)) × (after ≡ leaves (image_after step bytes used) bytes)

  -- 3
  pub unread_ended : {cause : Refusal} → Err cause ≡ place_answer used (used_record bytes used) → Ended (Err cause) bytes
  unfolding image_after
  unread_ended e = rw (used_refused bytes used e) (refl, refl)

  -- r and after are what the step at the place answers and leaves
  pub stepped_ended : {p : RecordPlace} → Ok p ≡ place_answer used (used_record bytes used) → ((i : ℕ) → get_or bytes i 0 < 256) → {r : Result ℕ Refusal} {after : List ℕ}
      → (r ≡ written_from (stepped step (length bytes) p.at (take p.used bytes))) × (after ≡ leaves (stepped step (length bytes) p.at (take p.used bytes)) bytes)
      → Ended r after
  stepped_ended {p} e byte {r} {after} w = result_as bytes (image_after step bytes used) (stepped step (length bytes) p.at (take p.used bytes)) r after (stepped_place bytes used p (place_read bytes used p e) byte step) w
