-- A step on the record that stands at a place of the used bytes. Assumes nothing.
use Prim.Native.Nat.{ℕ, ◌<◌}
use mathlib.Core.Path.{◌≡◌, refl, sym, ap, subst, ◌∙◌}
use mathlib.Core.List.{List, ◌++◌}
use lib.ListN.{length, take, get_or}
use Rattle.std.specs.Prelude.{Err, Ok, Result}
use Rattle.limits.specs.Outcome.{and_then}
use Rattle.limits.specs.declared.Refusal.{Refusal}
use Rattle.output.specs.Output.{fitted, leaves, written_from}
use Rattle.record.specs.Changes.{with_numbers}
use Rattle.record.specs.NumbersForm.{meaning}
use Rattle.record.specs.Record.{Numbers, Record, image}
use Rattle.record.proofs.NumberLaws.{meaning_same}
use Rattle.image.specs.declared.RecordAt.{RecordAt}
use Rattle.image_edit.specs.Changes.{changed}
use Rattle.image_edit.specs.Stands.{StandsAt}
use Rattle.image_edit.specs.declared.RecordPlace.{RecordPlace}
use Rattle.image_edit.proofs.ImageCuts.{Held, changed_held, stands_held}
use Rattle.store_steps.specs.AtPlace.{stepped}

module _ (s : List ℕ) (at : ℕ) (p : RecordAt) (h : Held s at p) where
  -- two changes that make the same of the record
  pub changed_as : (f g : Record → Record) → f h.value ≡ g h.value → changed f at s ≡ changed g at s
  changed_as f g e = changed_held f s at h ∙ ap (λ (v : Record). take at s ++ (image.write v ++ h.rest)) e ∙ sym (changed_held g s at h)

  -- the numbers that were read are the record's
  pub numbers_read : meaning p.numbers ≡ h.value.numbers
  numbers_read = ap (λ (q : RecordAt). meaning q.numbers) h.placed ∙ meaning_same h.value.numbers

  module _ (step : Record → Result Record Refusal) (room : ℕ) where
    pub stepped_refused : {cause : Refusal} → step h.value ≡ Err cause → stepped step room at s ≡ Err cause
    unfolding stepped
    stepped_refused e = rw (h.reads, e)

    pub stepped_given : (f : Record → Record) → step h.value ≡ Ok (f h.value) → stepped step room at s ≡ fitted room (changed f at s)
    unfolding stepped changed
    stepped_given f e = rw (h.reads, e)

-- what a refused step leaves
pub refused_leaves : (bytes : List ℕ) (o : Result (List ℕ) Refusal) {cause : Refusal} → o ≡ Err cause → (Err cause ≡ written_from o) × (bytes ≡ leaves o bytes)
refused_leaves bytes o e = rw e (refl, refl)

-- the same result by another name
pub result_as : (bytes : List ℕ) (o q : Result (List ℕ) Refusal) (r : Result ℕ Refusal) (after : List ℕ) → o ≡ q → (r ≡ written_from q) × (after ≡ leaves q bytes) → (r ≡ written_from o) × (after ≡ leaves o bytes)
result_as bytes o q r after e w = subst (λ (x : Result (List ℕ) Refusal). (r ≡ written_from x) × (after ≡ leaves x bytes)) (sym e) w

-- ---- a step that changes the record's numbers by a rule, which may refuse

module _ (bytes : List ℕ) (p : RecordPlace) (byte : (i : ℕ) → get_or bytes i 0 < 256) (stands : StandsAt bytes p) (rule : Numbers → Result Numbers Refusal) where
  abbrev by_rule : Result (List ℕ) Refusal
  by_rule = stepped (λ v. and_then (rule v.numbers) (λ x. Ok (with_numbers x v))) (length bytes) p.at (take p.used bytes)

  -- the answer and the lent bytes are those of the step
  abbrev pub Stepped : Result ℕ Refusal → List ℕ → Type 0
  Stepped r after = (r ≡ written_from by_rule) × (after ≡ leaves by_rule bytes)

  held : Held (take p.used bytes) p.at p.record
  held = stands_held bytes p byte stands

  rule_is : {o : Result Numbers Refusal} → rule (meaning p.record.numbers) ≡ o → rule held.value.numbers ≡ o
  rule_is e = ap rule (sym (numbers_read (take p.used bytes) p.at p.record held)) ∙ e

  pub rule_refused : {cause : Refusal} → rule (meaning p.record.numbers) ≡ Err cause → Stepped (Err cause) bytes
  rule_refused e =
      refused_leaves bytes by_rule
      (stepped_refused (take p.used bytes) p.at p.record held (λ v. and_then (rule v.numbers) (λ x. Ok (with_numbers x v))) (length bytes)
      (ap (λ (o : Result Numbers Refusal). and_then o (λ x. Ok (with_numbers x held.value))) (rule_is e)))

  -- r and after are what the change of the numbers answers and leaves
  pub rule_given : {x : Numbers} → rule (meaning p.record.numbers) ≡ Ok x → {r : Result ℕ Refusal} {after : List ℕ}
      → (r ≡ written_from (fitted (length bytes) (changed (with_numbers x) p.at (take p.used bytes)))) × (after ≡ leaves (fitted (length bytes) (changed (with_numbers x) p.at (take p.used bytes))) bytes)
      → Stepped r after
  rule_given {x} e {r} {after} w =
      result_as bytes by_rule (fitted (length bytes) (changed (with_numbers x) p.at (take p.used bytes))) r after
      (stepped_given (take p.used bytes) p.at p.record held (λ v. and_then (rule v.numbers) (λ y. Ok (with_numbers y v))) (length bytes) (with_numbers x)
      (ap (λ (o : Result Numbers Refusal). and_then o (λ y. Ok (with_numbers y held.value))) (rule_is e)))
      w
