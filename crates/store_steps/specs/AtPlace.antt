-- A step of the code: what an update makes of the record that stands at a place of a store's used bytes. Document 01, "Turned back": 3 where no record can be
-- read there, the update's own refusals, 18 where the used bytes with the changed record are more than the lent ones. The images around it stay.
use Rattle.std.specs.Prelude.{ℕ, List, length, Err, None, Ok, Option, Result, Some}
use Rattle.limits.specs.Outcome.{and_then}
use Rattle.limits.specs.declared.Refusal.{Refusal}
use Rattle.limits.specs.declared.Refusal.TheVariants.{BadStore}
use Rattle.edit.specs.Edit.{spliced}
use Rattle.output.specs.Output.{fitted}
use Rattle.codec.specs.Codec.{Reading}
use Rattle.record.specs.Record.{Record, image}
use Rattle.image_edit.specs.Changes.{read_at}

abbrev pub stepped_by : (Record → Result Record Refusal) → ℕ → ℕ → List ℕ → Option (Reading Record) → Result (List ℕ) Refusal
stepped_by step room at s None = Err BadStore
stepped_by step room at s (Some x) = and_then (step x.value) (λ v. fitted room (spliced at (length (image.write x.value)) (image.write v) s))

-- room is the length of the lent bytes, s the used ones
unfoldable pub stepped : (Record → Result Record Refusal) → ℕ → ℕ → List ℕ → Result (List ℕ) Refusal
stepped step room at s = stepped_by step room at s (read_at at s)

-- the number of the changed record beside the used length that was answered
abbrev pub raised_with : ℕ → Result ℕ Refusal → Result (ℕ × ℕ) Refusal
raised_with number (Err cause) = Err cause
raised_with number (Ok n) = Ok (number, n)
