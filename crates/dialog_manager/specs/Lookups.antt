-- Steps of the code: the answers of the look-ups (document 01, "A request arrives"), case by case. What they are is `run` (book/specs/Store.antt).
use Rattle.limits.specs.declared.Refusal.{Refusal}
use Rattle.std.specs.Prelude.{ℕ, Bool, List, Err, None, Ok, Option, Result, Some}
use Rattle.limits.specs.Outcome.{or_refuse}
use Rattle.limits.specs.declared.Refusal.TheVariants.{BadStore, NotFound}
use Rattle.record.specs.Record.{Record}
use Rattle.dialog_id.specs.Ident.{ident}
use Rattle.book.specs.Calls.{Reading, get, Value, image_at, Answer}
use Rattle.book.specs.Book.{Book, first_place, place_of}

abbrev pub getting : List ℕ → List ℕ → List ℕ → Reading
getting call_id local_tag remote_tag = get (ident call_id local_tag remote_tag)

-- the answer, case by case
abbrev pub answer_in : Result (ℕ × ℕ) Refusal → Answer
answer_in (Ok (at, length)) = Ok (image_at at length)
answer_in (Err cause) = Err cause

-- a step of the code: where the first record that passes the test lies in the records that were read; 3, 15
abbrev pub place_in : (Record → Bool) → Option Book → Result Value Refusal
place_in test None = Err BadStore
place_in test (Some b) = or_refuse NotFound (place_of test first_place b)
