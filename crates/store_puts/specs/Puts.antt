-- Steps of the code: the put of one record image (document 01, "A request arrives", "Entry": "a put is an `insert` of one record image"). What it leaves is
-- `run` (book/specs/Store.antt); here the call is set out, and what the functions below it promise.
use Rattle.std.specs.Prelude.{ℕ, ◌≤◌, ◌≡◌, Bool, false, not, ◌&&◌, List, length, take, get_or, leb, None, Ok, Option, Some}
use Rattle.limits.specs.Limits.{LimitSet}
use Rattle.record.specs.Record.{State, Record, state_byte_of, image}
use Rattle.record.specs.NumbersForm.{state_in}
use Rattle.record.specs.declared.numbers.State.{State as CodeState}
use Rattle.image.specs.declared.sections.IdsAt.{IdsAt}
use Rattle.dialog_rules.specs.OneImage.{one_record}
use Rattle.dialog_id.specs.Ident.{Ident, ident}
use Rattle.book.specs.Calls.{Call, put}
use Rattle.record.specs.Store.{decode_all}
use Rattle.book.specs.Book.{Book, ident_of, others, keep, is_early, early_of, is_full}
use Rattle.dialog_manager.specs.Search.{named_at, of_call_id_at}

-- the call, of a store of n lent bytes
abbrev pub putting : ℕ → List ℕ → Call
putting n img = put n img

-- ---- steps of the code

-- the bytes are the image of a record with this state and identifier
pub record Named (img : List ℕ) (state : CodeState) (call_id local_tag remote_tag : List ℕ) : Type 0 where
  pub value : Record
  pub one : one_record img ≡ Ok value
  pub is : image.write value ≡ img
  pub state_is : state_in state ≡ value.numbers.state
  pub ident_is : ident call_id local_tag remote_tag ≡ ident_of value

-- the used bytes are read as a store, which isn't full
pub record Open (L : LimitSet) (bytes : List ℕ) (used : ℕ) : Type 0 where
  pub records : Book
  pub within : used ≤ length bytes
  pub are : decode_all (take used bytes) ≡ Some records
  pub free : is_full L records ≡ false

-- how many Early records have the Call-ID of an identifier, but not the identifier
abbrev pub early_others : Ident → Option Book → ℕ
early_others i None = 0
early_others i (Some b) = early_of i.call_id (keep (others i) b)

-- 17, of a state and an identifier
abbrev pub crowded_in : LimitSet → State → Ident → Option Book → Bool
crowded_in L state i o = is_early state && leb L.early_per_call_id (early_others i o)

-- the state that the state byte at a place tells
abbrev pub state_at : List ℕ → ℕ → State
state_at s at = (state_byte_of (get_or s at 0)).state

-- an Early record with this Call-ID and another identifier, by the texts at the places of its identifier and the state byte past them
abbrev pub early_at : List ℕ → IdsAt → List ℕ → List ℕ → List ℕ → Bool
early_at s i c l r = is_early (state_at s i.end) && (of_call_id_at s i c && not (named_at s i c l r))
