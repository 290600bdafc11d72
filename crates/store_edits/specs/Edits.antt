-- Steps of the code: the calls that take records out of a store (document 01, "The book of demand 3": "A removal drops one, a sweep all that are Terminated").
-- What they leave is `run` (book/specs/Store.antt); here the call of each is set out, and what the functions below it promise.
use Rattle.std.specs.Prelude.{ℕ, ◌≡◌, Bool, List, [], drop, None, Option, Some}
use Rattle.codec.specs.Codec.{Reading}
use Rattle.record.specs.Record.{Record, image}
use Rattle.dialog_id.specs.Ident.{ident}
use Rattle.book.specs.Calls.{Call, remove, sweep}
use Rattle.book.specs.Book.{Book, records_image, is_terminated, living, keep}

-- the calls, of a store of n lent bytes
abbrev pub removing : ℕ → List ℕ → List ℕ → List ℕ → Call
removing n call_id local_tag remote_tag = remove n (ident call_id local_tag remote_tag)

abbrev pub sweeping : ℕ → Call
sweeping n = sweep n

-- ---- steps of the code

-- the images of the records that aren't Terminated
abbrev pub living_in : Option Book → List ℕ
living_in None = []
living_in (Some b) = records_image (keep living b)

-- whether the record that is read at a place is Terminated
abbrev pub TerminatedAt : List ℕ → ℕ → Bool → Type 0
TerminatedAt s at t = (x : Reading Record) → image.read (drop at s) ≡ Some x → t ≡ is_terminated x.value.numbers.state
