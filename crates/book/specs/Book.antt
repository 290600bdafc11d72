-- The book of demand 3. Document 01, "The book of demand 3": the book starts empty, is told the calls' arguments and nothing from the store or its
-- answers; it refuses a call exactly when the table of "Turned back", read over the book, turns it back. An accepted put sets its identifier's record,
-- a removal drops one, a sweep all that are Terminated; a taken request and the four calls by identifier change their record by the definitions of
-- demand 2 (dialog_rules/specs/Updates.antt); look-ups, other readings and refused calls change nothing.
use Rattle.std.specs.Prelude.{ℕ, ◌+◌, Bool, true, false, cond, not, ◌&&◌, List, [], ◌∷◌, ◌++◌, length, leb, ltb, Err, None, Ok, Option, Result, Some}
use Rattle.limits.specs.Limits.{LimitSet}
use Rattle.limits.specs.Outcome.{or_else, refuse_by, refuse_if, and_then, or_refuse}
use Rattle.limits.specs.declared.Refusal.{Refusal}
use Rattle.limits.specs.declared.Refusal.TheVariants.{BadStore, NotFound, TooManyDialogs, TooManyEarlyDialogs, NoRoom}
use Rattle.text.specs.Text.{equal}
use Rattle.text.specs.Answers.{length_cause}
use Rattle.msg.specs.Block.{block_cause}
use Rattle.dialog_id.specs.DialogId.{Identifier, identifier_of, from_name, to_name}
use Rattle.output.specs.Output.{fitted}
use Rattle.codec.specs.Codec.{text}
use Rattle.record.specs.Record.{State, early, confirmed, terminated, Record, image}
use Rattle.record.specs.Store.{encode_all, decode_all}
use Rattle.dialog_rules.specs.OneImage.{one_record}
use Rattle.dialog_rules.specs.Updates.{kind_of, request_update, response_update, terminate_update, local_update, interval_update}
use Rattle.dialog_id.specs.Ident.{Ident, ident, same_ident, ident_cause}
use Rattle.book.specs.Calls.{Update, request, response, terminate, local_number, interval, Reading, get, find_by_request, find_by_call_id, count, all_ids, Call, put, update, remove, sweep, read, lent, Value, no_value, number, image_at, written, Answer}

-- the records held, in order
abbrev pub Book : Type 0
Book = List Record

-- what a store holds
pub record Contents : Type 0 where
  pub records : Book

abbrev pub empty : Contents
empty = record { records = [] }

-- ---- its bytes

-- the images of records, one after another
abbrev pub records_image : Book → List ℕ
records_image b = encode_all b

abbrev pub records_size : Book → ℕ
records_size b = length (records_image b)

-- a store written from the book, and what a store's used bytes are read as
abbrev pub store_image : Contents → List ℕ
store_image x = records_image x.records

abbrev pub contents_of : Option Book → Option Contents
contents_of None = None
contents_of (Some b) = Some (record { records = b })

abbrev pub store_read : List ℕ → Option Contents
store_read bytes = contents_of (decode_all bytes)

-- the used bytes of an empty store
abbrev pub empty_store : List ℕ
empty_store = []

-- where the first record's image lies
abbrev pub first_place : ℕ
first_place = length empty_store

-- how many bytes the book takes
abbrev pub size : Contents → ℕ
size x = length (store_image x)

-- ---- identifiers

abbrev pub ident_of : Record → Ident
ident_of r = ident r.call_id r.local_tag r.remote_tag

-- the record has this identifier
abbrev pub is_of : Ident → Record → Bool
is_of i r = same_ident (ident_of r) i

-- a request from the peer has From as remote tag: `from_request` calls that tag local, and look-up swaps the two
abbrev pub swapped : Option Identifier → Option Ident
swapped None = None
swapped (Some i) = Some (ident i.call_id.text i.remote_tag.text i.local_tag.text)

-- the identifier that a request's block names, if all its parts can be read
unfoldable pub named_in : List ℕ → Option Ident
named_in block = swapped (identifier_of from_name to_name block)

-- the identifier that an update names
abbrev pub name_of : Update → Option Ident
name_of (request method block) = named_in block
name_of (response id status block) = Some id
name_of (terminate id) = Some id
name_of (local_number id) = Some id
name_of (interval id s) = Some id

-- ---- the records held

-- the record of an identifier
abbrev pub find : Ident → Book → Option Record
find i [] = None
find i (r ∷ b) = cond (is_of i r) (Some r) (find i b)

-- a block that names no identifier names no record
abbrev pub find_named : Option Ident → Book → Option Record
find_named None b = None
find_named (Some i) b = find i b

-- where an accepted put sets its record ("Record image"): a replacement keeps its place, a new record goes to the end
abbrev pub place : Record → Book → Book
place r [] = r ∷ []
place r (x ∷ b) = cond (is_of (ident_of r) x) (r ∷ b) (x ∷ place r b)

-- a changed record, in its place
abbrev pub amend : Record → Book → Book
amend r [] = []
amend r (x ∷ b) = cond (is_of (ident_of r) x) (r ∷ b) (x ∷ amend r b)

-- which records stay: all but an identifier's, and all but the Terminated
pub data Staying : Type 0 where
  others : Ident → Staying
  living : Staying

abbrev pub is_terminated : State → Bool
is_terminated early = false
is_terminated confirmed = false
is_terminated terminated = true

abbrev pub stays : Staying → Record → Bool
stays (others i) r = not (is_of i r)
stays living r = not (is_terminated r.numbers.state)

abbrev pub keep : Staying → Book → Book
keep k [] = []
keep k (r ∷ b) = cond (stays k r) (r ∷ keep k b) (keep k b)

-- ---- 16 and 17

abbrev pub is_early : State → Bool
is_early early = true
is_early confirmed = false
is_early terminated = false

-- an Early record of this Call-ID
unfoldable pub is_early_of : List ℕ → Record → Bool
is_early_of t r = equal r.call_id t && is_early r.numbers.state

-- how many there are
abbrev pub early_in : List ℕ → Record → ℕ
early_in t r = cond (is_early_of t r) 1 0

abbrev pub early_of : List ℕ → Book → ℕ
early_of t [] = 0
early_of t (r ∷ b) = early_in t r + early_of t b

-- 16: "10,000 held", even for a replacement
unfoldable pub is_full : LimitSet → Book → Bool
is_full L b = leb L.dialogs (length b)

-- 17: "Early put, 100 other Early of this Call-ID"; the set's Early cap in place of 100 (document 02, request 7)
unfoldable pub is_crowded : LimitSet → Record → Book → Bool
is_crowded L r b = is_early r.numbers.state && leb L.early_per_call_id (early_of r.call_id (keep (others (ident_of r)) b))

-- ---- 1, 2, and 3 of a put's image: what the arguments alone refuse

unfoldable pub update_cause : LimitSet → Update → Option Refusal
update_cause L (request method block) = or_else (length_cause L method) (block_cause L block)
update_cause L (response id status block) = or_else (ident_cause L id) (block_cause L block)
update_cause L (terminate id) = ident_cause L id
update_cause L (local_number id) = ident_cause L id
update_cause L (interval id s) = ident_cause L id

unfoldable pub reading_cause : LimitSet → Reading → Option Refusal
reading_cause L (get id) = ident_cause L id
reading_cause L (find_by_request block) = block_cause L block
reading_cause L (find_by_call_id t) = length_cause L t
reading_cause L count = None
reading_cause L (all_ids room) = None

-- 3 of a put's image; 3 of the store and this one are the same refusal
abbrev pub cause_in : {A : Type 0} → Result A Refusal → Option Refusal
cause_in (Err cause) = Some cause
cause_in (Ok a) = None

unfoldable pub argument_cause : LimitSet → Call → Option Refusal
argument_cause L (put n image) = cause_in (one_record image)
argument_cause L (update n u) = update_cause L u
argument_cause L (remove n id) = ident_cause L id
argument_cause L (sweep n) = None
argument_cause L (read n q) = reading_cause L q

-- ---- what an update makes of its record: the definitions of demand 2

-- request: 4, 9; ACK: 11; others: 10, 11, 12. Interval: 13 with the least, 14
unfoldable pub revised : LimitSet → Update → Record → Result Record Refusal
revised L (request method block) r = request_update L (kind_of method) block r
revised L (response id status block) r = Ok (response_update L status block r)
revised L (terminate id) r = Ok (terminate_update r)
revised L (local_number id) r = Ok (local_update r)
revised L (interval id s) r = interval_update L s r

-- the next local number is answered
abbrev pub told_by : Update → Record → Value
told_by (request method block) now = no_value
told_by (response id status block) now = no_value
told_by (terminate id) now = no_value
told_by (local_number id) now = number now.numbers.local
told_by (interval id s) now = no_value

-- ---- what a reading answers

-- where the image of the first record that passes the test lies, the first image at a place
unfoldable pub place_of : (Record → Bool) → ℕ → Book → Option Value
place_of test at [] = None
place_of test at (r ∷ b) = cond (test r) (Some (image_at at (length (image.write r)))) (place_of test (at + length (image.write r)) b)

abbrev pub place_named : Option Ident → Book → Option Value
place_named None b = None
place_named (Some i) b = place_of (is_of i) first_place b

-- three texts with two length bytes each, in order
unfoldable pub identifiers_of : Book → List ℕ
identifiers_of [] = []
identifiers_of (r ∷ b) = (text.write r.call_id ++ (text.write r.local_tag ++ text.write r.remote_tag)) ++ identifiers_of b

-- 15; of allIds, 18
unfoldable pub reply : Reading → Book → Result Value Refusal
reply (get id) b = or_refuse NotFound (place_of (is_of id) first_place b)
reply (find_by_request block) b = or_refuse NotFound (place_named (named_in block) b)
reply (find_by_call_id t) b = or_refuse NotFound (place_of (λ r. equal r.call_id t) first_place b)
reply count b = Ok (number (length b))
reply (all_ids room) b = and_then (fitted room (identifiers_of b)) (λ bytes. Ok (written bytes))

-- ---- the verdict on a call

-- what an accepted call changes
pub data Change : Type 0 where
  set : Record → Change
  alter : Record → Change
  only : Staying → Change
  unchanged : Change

abbrev pub revise : Change → Book → Book
revise (set r) b = place r b
revise (alter r) b = amend r b
revise (only k) b = keep k b
revise unchanged b = b

abbrev pub apply : Change → Contents → Contents
apply d x = record { records = revise d x.records }

-- an accepted call: its change, and the value that it answers
pub record Taken : Type 0 where
  pub change : Change
  pub value : Value

abbrev pub taking : Change → Value → Result Taken Refusal
taking c v = Ok (record { change = c; value = v })

-- the causes that are read over the records held: 3 of a put image, 15, 16, 17, and those of the update and of the reading
unfoldable pub judge : LimitSet → Call → Book → Result Taken Refusal
judge L (put n image) b =
    and_then (one_record image) (λ r.
    refuse_if (is_full L b) TooManyDialogs
    (refuse_if (is_crowded L r b) TooManyEarlyDialogs (taking (set r) no_value)))
judge L (update n u) b = and_then (or_refuse NotFound (find_named (name_of u) b)) (λ r. and_then (revised L u r) (λ now. taking (alter now) (told_by u now)))
judge L (remove n id) b = and_then (or_refuse NotFound (find id b)) (λ r. taking (only (others id)) no_value)
judge L (sweep n) b = taking (only living) no_value
judge L (read n q) b = and_then (reply q b) (λ v. taking unchanged v)

-- 18, last: the store written from the book with the change is larger than the lent bytes
unfoldable pub fitting : ℕ → Contents → Taken → Result Taken Refusal
fitting n x t = refuse_if (ltb n (size (apply t.change x))) NoRoom (Ok t)

-- the book's verdict: 1, 2; 3 where the used length is over the lent; then the causes over the records; 18
unfoldable pub decide : LimitSet → Call → Contents → Result Taken Refusal
decide L c x = refuse_by (argument_cause L c) (refuse_if (ltb (lent c) (size x)) BadStore (and_then (judge L c x.records) (λ t. fitting (lent c) x t)))

-- the book after the verdict, and the answer
abbrev pub after : Result Taken Refusal → Contents → Contents
after (Err cause) x = x
after (Ok t) x = apply t.change x

abbrev pub answer_of : Result Taken Refusal → Answer
answer_of (Err cause) = Err cause
answer_of (Ok t) = Ok t.value
