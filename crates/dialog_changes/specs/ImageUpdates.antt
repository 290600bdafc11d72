-- Updates of one record given as its image, in lent bytes with room behind it: the image is changed in place, and every byte past it is what it was.
-- Document 01, "Turned back": 3 where the used bytes aren't exactly one record or are more than the lent; then the step's own refusals; 18
-- where the changed image is larger than the lent bytes. A refused call keeps every byte.
use Rattle.std.specs.Prelude.{ℕ, List, length, take, ltb, Err, Ok, Result}
use Rattle.limits.specs.Limits.{LimitSet}
use Rattle.limits.specs.Outcome.{refuse_if, and_then}
use Rattle.limits.specs.declared.Refusal.{Refusal}
use Rattle.limits.specs.declared.Refusal.TheVariants.{BadStore, NoRoom}
use Rattle.output.specs.Output.{fitted}
use Rattle.record.specs.Record.{Record, image}
use Rattle.image.specs.Places.{record_places}
use Rattle.image_edit.specs.declared.RecordPlace.{RecordPlace}
use Rattle.dialog_rules.specs.OneImage.{one_record}
use Rattle.dialog_rules.specs.Updates.{confirm_update, terminate_update, local_update, interval_update}

-- the record of the used bytes: 3
abbrev pub used_record : List ℕ → ℕ → Result Record Refusal
used_record bytes used = refuse_if (ltb (length bytes) used) BadStore (one_record (take used bytes))

-- where it lies: at the front of the used bytes
abbrev pub place_answer : ℕ → Result Record Refusal → Result RecordPlace Refusal
place_answer used (Err cause) = Err cause
place_answer used (Ok r) = Ok (record { used = used; at = 0; «record» = record_places 0 r })

-- 3, the step's refusals, 18; then the image of the changed record
unfoldable pub image_after : (Record → Result Record Refusal) → List ℕ → ℕ → Result (List ℕ) Refusal
image_after step bytes used = and_then (used_record bytes used) (λ r. and_then (step r) (λ s. fitted (length bytes) (image.write s)))

-- ---- the operations

-- `terminate`, `confirm`: 3
abbrev pub terminated : List ℕ → ℕ → Result (List ℕ) Refusal
terminated bytes used = image_after (λ r. Ok (terminate_update r)) bytes used

abbrev pub confirmed : List ℕ → ℕ → Result (List ℕ) Refusal
confirmed bytes used = image_after (λ r. Ok (confirm_update r)) bytes used

-- `next_local_cseq`: 3, 18
abbrev pub local_raised : List ℕ → ℕ → Result (List ℕ) Refusal
local_raised bytes used = image_after (λ r. Ok (local_update r)) bytes used

-- the changed record of `next_local_cseq`: 3, 18
unfoldable pub raised_record : List ℕ → ℕ → Result Record Refusal
raised_record bytes used = and_then (used_record bytes used) (λ r. refuse_if (ltb (length bytes) (length (image.write (local_update r)))) NoRoom (Ok (local_update r)))

-- its answer: the local number of the changed record, and the length of its image
abbrev pub raised_answer : Result Record Refusal → Result (ℕ × ℕ) Refusal
raised_answer (Err cause) = Err cause
raised_answer (Ok r) = Ok (r.numbers.local, length (image.write r))

-- `set_session_expires`: 3, 13 with the least, 14, 18
abbrev pub interval_set : LimitSet → ℕ → List ℕ → ℕ → Result (List ℕ) Refusal
interval_set L seconds bytes used = image_after (λ r. interval_update L seconds r) bytes used
