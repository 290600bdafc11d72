-- The readings of a record that need no store, of its image given by itself (document 01, refusal 3): the Rust's accessors, and `needs_refresh`
-- (lib.rs).
use Rattle.std.specs.Prelude.{ℕ, Bool, true, false, List, Err, Ok, Result}
use Rattle.limits.specs.Outcome.{and_then}
use Rattle.limits.specs.declared.Refusal.{Refusal}
use Rattle.session_timer_manager.specs.Intervals.{refresh_due}
use Rattle.record.specs.Record.{Record}
use Rattle.image.specs.Places.{record_places}
use Rattle.image.specs.declared.RecordAt.{RecordAt}
use Rattle.dialog_rules.specs.OneImage.{one_record}

-- the accessors: where the parts lie, and the numbers
abbrev pub image_answer : Result Record Refusal → Result RecordAt Refusal
image_answer (Err cause) = Err cause
image_answer (Ok r) = Ok (record_places 0 r)

-- 3; then whether two thirds of the interval have passed; without an interval, no
abbrev pub refresh_of : List ℕ → ℕ → Result Bool Refusal
refresh_of bytes elapsed = and_then (one_record bytes) (λ r. Ok (refresh_due r.numbers.seconds elapsed))

abbrev pub refresh_answer : Result Bool Refusal → Result Bool Refusal
refresh_answer (Err cause) = Err cause
refresh_answer (Ok true) = Ok true
refresh_answer (Ok false) = Ok false
