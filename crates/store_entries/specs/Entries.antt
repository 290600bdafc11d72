-- Steps of the code: the calls that change one held record (document 01, "A request arrives", "Entry"). What they leave and answer is `run`
-- (book/specs/Store.antt) of the call as data; here the call of each is set out, and what the functions below it promise.
use Rattle.limits.specs.declared.Refusal.{Refusal}
use Rattle.std.specs.Prelude.{ℕ, List, length, take, ltb, Err, None, Ok, Option, Result, Some}
use Rattle.limits.specs.Limits.{LimitSet}
use Rattle.limits.specs.Outcome.{refuse_if, and_then, or_refuse}
use Rattle.limits.specs.declared.Refusal.TheVariants.{BadStore, NotFound}
use Rattle.image.specs.Places.{record_places}
use Rattle.image_edit.specs.Stands.{StandsAt}
use Rattle.image_edit.specs.declared.RecordPlace.{RecordPlace}
use Rattle.dialog_id.specs.Ident.{Ident, ident}
use Rattle.book.specs.Calls.{Update, request, response, terminate, local_number, interval, update, Answer}
use Rattle.record.specs.Store.{decode_all}
use Rattle.book.specs.Book.{is_of, first_place}
use Rattle.book.specs.Store.{Left, run}
use Rattle.book.specs.Returned.{number_after}
use Rattle.dialog_manager.specs.Search.{Spot, first}

-- what an update of a lent store leaves
abbrev pub updating : LimitSet → Update → List ℕ → ℕ → Left
updating L u bytes used = run L (update (length bytes) u) bytes used

abbrev pub terminating : LimitSet → List ℕ → List ℕ → List ℕ → List ℕ → ℕ → Left
terminating L call_id local_tag remote_tag bytes used = updating L (terminate (ident call_id local_tag remote_tag)) bytes used

abbrev pub responding : LimitSet → List ℕ → List ℕ → List ℕ → ℕ → List ℕ → List ℕ → ℕ → Left
responding L call_id local_tag remote_tag status block bytes used = updating L (response (ident call_id local_tag remote_tag) status block) bytes used

abbrev pub setting : LimitSet → List ℕ → List ℕ → List ℕ → ℕ → List ℕ → ℕ → Left
setting L call_id local_tag remote_tag seconds bytes used = updating L (interval (ident call_id local_tag remote_tag) seconds) bytes used

abbrev pub raising : LimitSet → List ℕ → List ℕ → List ℕ → List ℕ → ℕ → Left
raising L call_id local_tag remote_tag bytes used = updating L (local_number (ident call_id local_tag remote_tag)) bytes used

abbrev pub requesting : LimitSet → List ℕ → List ℕ → List ℕ → ℕ → Left
requesting L method block bytes used = updating L (request method block) bytes used

-- the next local number and the used length, or the cause
abbrev pub raised_by : ℕ → Answer → Result (ℕ × ℕ) Refusal
raised_by n (Err cause) = Err cause
raised_by n (Ok v) = Ok (number_after (Ok v) 0, n)

abbrev pub raised_in : Left → Result (ℕ × ℕ) Refusal
raised_in l = raised_by l.used l.answer

-- the used length after the call
abbrev pub used_after : Result ℕ Refusal → ℕ → ℕ
used_after (Err cause) used = used
used_after (Ok n) used = n

abbrev pub used_raised : Result (ℕ × ℕ) Refusal → ℕ → ℕ
used_raised (Err cause) used = used
used_raised (Ok (number, n)) used = n

-- ---- steps of the code

-- where the record of an identifier stands in a lent store: 3, 15
unfoldable pub spot_in : Ident → List ℕ → ℕ → Result Spot Refusal
spot_in i bytes used =
    refuse_if (ltb (length bytes) used) BadStore
    (and_then (or_refuse BadStore (decode_all (take used bytes))) (λ b. or_refuse NotFound (first (is_of i) first_place b)))

-- the same for the identifier that a block names, if it names one
abbrev pub spot_named : Option Ident → List ℕ → ℕ → Result Spot Refusal
spot_named None bytes used = refuse_if (ltb (length bytes) used) BadStore (and_then (or_refuse BadStore (decode_all (take used bytes))) (λ b. Err NotFound))
spot_named (Some i) bytes used = spot_in i bytes used

-- the same as the code's place, of so many used bytes
abbrev pub standing_of : ℕ → Result Spot Refusal → Result RecordPlace Refusal
standing_of used (Err cause) = Err cause
standing_of used (Ok x) = Ok (record { used = used; at = x.place; «record» = record_places x.place x.value })

-- the record that was found is what is read at its place
abbrev pub Ready : List ℕ → Result RecordPlace Refusal → Type 0
Ready bytes (Ok p) = StandsAt bytes p
Ready bytes (Err cause) = Unit {0}
