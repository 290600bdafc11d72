-- When each kind of call is taken, with which number it is refused, what the store then holds and what the caller is given: document 01's sentences about one
-- call ("Turned back": 1 to 4 and 9 to 18; "Entry", "CSeq", "Record image", "The book of demand 3"), of what its caller sees. Book and store share the verdict of
-- Book.antt; these rules are said without it and without its words (`find`, `is_of`, `named_in`, `place`, `amend`, `keep`, `kind_of`, `one_record`), so a book that refuses
-- what is to be taken, or takes a call and changes nothing, doesn't keep them. What they share with it: the readings of a block and the record's image, which are demand
-- 2's, the change by a response, likewise, and `store_read` and `size`.
use Rattle.std.specs.Prelude.{ℕ, ◌+◌, ◌-◌, ◌≤◌, ◌<◌, ◌^◌, min, ◌≡◌, ◌≢◌, ◌↔◌, Bool, true, false, cond, not, ◌&&◌, List, [], ◌∷◌, ◌++◌, length, eqb, ltb, None, Option, Some}
use Rattle.std.specs.Option.{option_map}
use Rattle.limits.specs.Limits.{LimitSet}
use Rattle.text.specs.Text.{Piece, equal}
use Rattle.msg.specs.Block.{is_block, value_named}
use Rattle.edit.specs.Edit.{over}
use Rattle.codec.specs.Codec.{text}
use Rattle.record.specs.Record.{early, confirmed, terminated, Record, WellFormed, image}
use Rattle.record.specs.Changes.{with_numbers}
use Rattle.record.specs.Rules.{with_ack, with_state, with_seconds}
use Rattle.prack_headers.specs.Sequence.{cseq_number}
use Rattle.dialog_rules.specs.Updates.{ack_name, retargeted, response_update}
use Rattle.dialog_id.specs.Ident.{Ident, ident}
use Rattle.dialog_id.specs.DialogId.{call_id_name, from_name, to_name, tag_named}
use Rattle.book.specs.Calls.{Update, request, response, terminate, local_number, interval, Reading, get, find_by_request, find_by_call_id, count, all_ids, Call, put, update, remove, sweep, read, lent, Value, no_value, number, image_at, written}
use Rattle.book.specs.Book.{Book, Contents, store_image, store_read, size}
use Rattle.book.specs.Returned.{Lent}
use Rattle.book.specs.Trace.{All, stage}
use Rattle.book.specs.History.{World, lending, next, world, used_bytes, heard, InWindow, Sent, Returned, Shows}

-- ---- identifiers

-- the record has this identifier
pub record Has (i : Ident) (r : Record) : Type 0 where
  pub call_id : r.call_id ≡ i.call_id
  pub local_tag : r.local_tag ≡ i.local_tag
  pub remote_tag : r.remote_tag ≡ i.remote_tag

abbrev pub text_of : Option Piece → Option (List ℕ)
text_of None = None
text_of (Some p) = Some p.text

-- the request names the record: "A request from the peer has From as remote tag"
pub record Names (block : List ℕ) (r : Record) : Type 0 where
  pub call_id : text_of (value_named call_id_name block) ≡ Some r.call_id
  pub remote_tag : text_of (tag_named from_name block) ≡ Some r.remote_tag
  pub local_tag : text_of (tag_named to_name block) ≡ Some r.local_tag

-- the update is of this record
abbrev pub Of : Update → Record → Type 0
Of (request method block) r = Names block r
Of (response id status block) r = Has id r
Of (terminate id) r = Has id r
Of (local_number id) r = Has id r
Of (interval id s) r = Has id r

-- no record of a list is such a one
abbrev pub NoneOf : (Record → Type 0) → Book → Type 0
NoneOf P b = All (λ y. P y → ⊥) b

abbrev pub own : Record → Ident
own r = ident r.call_id r.local_tag r.remote_tag

-- ---- the records that a call leaves

-- a store with these records
abbrev pub holding : Book → Contents
holding b = record { records = b }

-- those that pass a test, in their order
unfoldable pub those : (Record → Bool) → Book → Book
those test [] = []
those test (r ∷ b) = cond (test r) (r ∷ those test b) (those test b)

-- an ACK is remembered, and a readable Contact becomes the target
abbrev pub acknowledged : List ℕ → ℕ → Record → Record
acknowledged block n r = retargeted block (with_numbers (with_ack n r.numbers) r)

abbrev pub ended : Record → Record
ended r = with_numbers (with_state terminated r.numbers) r

-- "Local numbers rise by one and stop at 4,294,967,295"
abbrev pub next_local : Record → ℕ
next_local r = min (r.numbers.local + 1) (2 ^ 32 - 1)

abbrev pub numbered : Record → Record
numbered r = with_numbers (record { state = r.numbers.state; local = next_local r; remote = r.numbers.remote; last_ack = r.numbers.last_ack; seconds = r.numbers.seconds; refresher = r.numbers.refresher }) r

-- the interval set
abbrev pub lasting : ℕ → Record → Record
lasting s r = with_numbers (with_seconds s r.numbers) r

-- the 2xx that confirms an Early record
pub record Confirming (status : ℕ) (r : Record) : Type 0 where
  pub success : (200 ≤ status) × (status < 300)
  pub was_early : r.numbers.state ≡ early

-- what a response changes: it confirms an Early record by a 2xx, and only then the state and the routes change; identifier and sequence numbers never do
pub record Answered (status : ℕ) (r now : Record) : Type 0 where
  pub same_id : Has (own r) now
  pub same_numbers : (now.numbers.local ≡ r.numbers.local) × ((now.numbers.remote ≡ r.numbers.remote) × (now.numbers.last_ack ≡ r.numbers.last_ack))
  pub confirms : Confirming status r → now.numbers.state ≡ confirmed
  pub keeps_state : (Confirming status r → ⊥) → now.numbers.state ≡ r.numbers.state
  pub keeps_routes : (Confirming status r → ⊥) → now.routes ≡ r.routes

-- ---- what is given back

-- the new value of a number that was lent
abbrev pub instead : ℕ → Option ℕ → Option ℕ
instead n lent = option_map (λ (old : ℕ). n) lent

-- the created or terminated count of an accepted call: one more, up to the largest u64
abbrev pub one_more : Option ℕ → Option ℕ
one_more lent = option_map (λ (old : ℕ). min (old + 1) (2 ^ 64 - 1)) lent

-- an accepted call leaves its value in what was lent for it, and the rest as it was
abbrev pub given_back : Value → Lent → Lent
given_back no_value l = record { number = l.number; place = l.place; length = l.length; least = l.least; count = one_more l.count; output = l.output }
given_back (number n) l = record { number = instead n l.number; place = l.place; length = l.length; least = l.least; count = one_more l.count; output = l.output }
given_back (image_at p n) l = record { number = l.number; place = instead p l.place; length = instead n l.length; least = l.least; count = one_more l.count; output = l.output }
given_back (written s) l = record { number = l.number; place = l.place; length = instead (length s) l.length; least = l.least; count = one_more l.count; output = option_map (over s) l.output }

-- 13 leaves the least interval
abbrev pub least_given : ℕ → Lent → Lent
least_given n l = record { number = l.number; place = l.place; length = l.length; least = instead n l.least; count = l.count; output = l.output }

-- the identifiers in order: three texts each, with two length bytes
unfoldable pub id_texts : Book → List ℕ
id_texts [] = []
id_texts (r ∷ b) = (text.write r.call_id ++ (text.write r.local_tag ++ text.write r.remote_tag)) ++ id_texts b

-- ---- the conditions

-- another record of the same Call-ID that is Early
unfoldable pub is_early_other : Record → Record → Bool
is_early_other r y = equal y.call_id r.call_id && (eqb (stage y.numbers.state) 1 && not (equal y.local_tag r.local_tag && equal y.remote_tag r.remote_tag))

-- "10,000 held"; "Early put, 100 other Early of this Call-ID", the set's cap in place of 100: neither
pub record Free (L : LimitSet) (r : Record) (b : Book) : Type 0 where
  pub few : length b < L.dialogs
  pub few_early : r.numbers.state ≡ early → length (those (is_early_other r) b) < L.early_per_call_id

-- ACK "must equal a non-zero remote number"
pub record AtRemote (remote n : ℕ) : Type 0 where
  pub nonzero : n ≢ 0
  pub same : n ≡ remote

-- ---- 1, 2 and 3 of the store

-- the texts and blocks that a call is given
abbrev pub texts_in : Update → List (List ℕ)
texts_in (request method block) = method ∷ block ∷ []
texts_in (response id status block) = id.call_id ∷ id.local_tag ∷ id.remote_tag ∷ block ∷ []
texts_in (terminate id) = id.call_id ∷ id.local_tag ∷ id.remote_tag ∷ []
texts_in (local_number id) = id.call_id ∷ id.local_tag ∷ id.remote_tag ∷ []
texts_in (interval id s) = id.call_id ∷ id.local_tag ∷ id.remote_tag ∷ []

abbrev pub texts_asked : Reading → List (List ℕ)
texts_asked (get id) = id.call_id ∷ id.local_tag ∷ id.remote_tag ∷ []
texts_asked (find_by_request block) = block ∷ []
texts_asked (find_by_call_id t) = t ∷ []
texts_asked count = []
texts_asked (all_ids room) = []

abbrev pub texts_of : Call → List (List ℕ)
texts_of (put n s) = []
texts_of (update n u) = texts_in u
texts_of (remove n id) = id.call_id ∷ id.local_tag ∷ id.remote_tag ∷ []
texts_of (sweep n) = []
texts_of (read n q) = texts_asked q

-- its block; the empty one, which is valid, where it has none
abbrev pub block_in : Update → List ℕ
block_in (request method block) = block
block_in (response id status block) = block
block_in (terminate id) = []
block_in (local_number id) = []
block_in (interval id s) = []

abbrev pub block_asked : Reading → List ℕ
block_asked (get id) = []
block_asked (find_by_request block) = block
block_asked (find_by_call_id t) = []
block_asked count = []
block_asked (all_ids room) = []

abbrev pub block_of : Call → List ℕ
block_of (put n s) = []
block_of (update n u) = block_in u
block_of (remove n id) = []
block_of (sweep n) = []
block_of (read n q) = block_asked q

-- none of the three is true of the call: no text over 8,192 bytes, a block that is one, and the used bytes lent
pub record Admitted (L : LimitSet) (x : Contents) (c : Call) : Type 0 where
  pub fits : All (λ t. length t ≤ L.text) (texts_of c)
  pub formed : is_block (block_of c) ≡ true
  pub lends : size x ≤ lent c

-- ---- what a caller sees of one call: e is what it gave and got, held what the store then holds

-- the call is taken: 0 is returned, this is held, this value is given
pub record Done (e : Returned) (held now : Contents) (v : Value) : Type 0 where
  pub returns_0 : e.number ≡ 0
  pub holds : held ≡ now
  pub gives : e.left ≡ given_back v e.lent

-- lent n bytes for a result that fits, it is taken exactly if the condition is true; 18 only where the result is larger
pub record TakenIf (n : ℕ) (e : Returned) (held : Contents) (Condition : Type 0) (now : Contents) (v : Value) : Type 0 where
  pub taken : size now ≤ n → (e.number ≡ 0) ↔ Condition
  pub no_room : n < size now → Condition → e.number ≡ 18
  pub done : e.number ≡ 0 → Done e held now v

-- ---- the rules

-- of a call on a store that holds x
pub record CallRules (L : LimitSet) (x : Contents) (e : Returned) (held : Contents) : Type 0 where
  -- "Kept: all"; "refused calls change nothing". 13 gives its minimum beside the number, no other refusal gives anything
  pub refused_keeps : e.number ≢ 0 → held ≡ x
  pub refused_gives : e.number ≢ 0 → e.number ≢ 13 → e.left ≡ e.lent
  -- 1, 2, and 3 where fewer bytes are lent than are used, in this order
  pub long_1 : (before rest : List (List ℕ)) (t : List ℕ) → texts_of e.call ≡ before ++ (t ∷ rest) → L.text < length t → e.number ≡ 1
  pub malformed_2 : All (λ t. length t ≤ L.text) (texts_of e.call) → is_block (block_of e.call) ≡ false → e.number ≡ 2
  pub unlent_3 : All (λ t. length t ≤ L.text) (texts_of e.call) → is_block (block_of e.call) ≡ true → lent e.call < size x → e.number ≡ 3
  -- put: the image of one record is taken exactly when neither 16 nor 17 is true of it: a new one goes to the end, "a replacement keeps its place"
  pub put_new : (n : ℕ) (s : List ℕ) (r : Record) → e.call ≡ put n s → Admitted L x (put n s) → WellFormed r → s ≡ image.write r → NoneOf (Has (own r)) x.records
      → TakenIf n e held (Free L r x.records) (holding (x.records ++ (r ∷ []))) no_value
  pub put_again : (n : ℕ) (s : List ℕ) (r was : Record) (front rest : Book) → e.call ≡ put n s → Admitted L x (put n s) → WellFormed r → s ≡ image.write r
      → x.records ≡ front ++ (was ∷ rest) → Has (own r) was → TakenIf n e held (Free L r x.records) (holding (front ++ (r ∷ rest))) no_value
  pub put_3 : (n : ℕ) (s : List ℕ) → e.call ≡ put n s → Admitted L x (put n s) → ((r : Record) → WellFormed r → s ≢ image.write r) → e.number ≡ 3
  pub put_16 : (n : ℕ) (s : List ℕ) (r : Record) → e.call ≡ put n s → Admitted L x (put n s) → WellFormed r → s ≡ image.write r → L.dialogs ≤ length x.records → e.number ≡ 16
  pub put_17 : (n : ℕ) (s : List ℕ) (r : Record) → e.call ≡ put n s → Admitted L x (put n s) → WellFormed r → s ≡ image.write r → length x.records < L.dialogs
      → r.numbers.state ≡ early → L.early_per_call_id ≤ length (those (is_early_other r) x.records) → e.number ≡ 17
  -- requests: one other than ACK exactly in the window, an ACK exactly at the remote number; 4 where the CSeq can't be read
  pub request_rule : (n : ℕ) (method block : List ℕ) (cseq : ℕ) (r : Record) (front rest : Book) → e.call ≡ update n (request method block)
      → Admitted L x (update n (request method block)) → x.records ≡ front ++ (r ∷ rest) → Names block r → cseq_number block ≡ Some cseq → method ≢ ack_name
      → TakenIf n e held (InWindow L r.numbers.remote cseq) (holding (front ++ (heard block cseq r ∷ rest))) no_value
  pub ack_rule : (n : ℕ) (method block : List ℕ) (cseq : ℕ) (r : Record) (front rest : Book) → e.call ≡ update n (request method block)
      → Admitted L x (update n (request method block)) → x.records ≡ front ++ (r ∷ rest) → Names block r → cseq_number block ≡ Some cseq → method ≡ ack_name
      → TakenIf n e held (AtRemote r.numbers.remote cseq) (holding (front ++ (acknowledged block cseq r ∷ rest))) no_value
  pub request_4 : (n : ℕ) (method block : List ℕ) (r : Record) (front rest : Book) → e.call ≡ update n (request method block) → Admitted L x (update n (request method block))
      → x.records ≡ front ++ (r ∷ rest) → Names block r → cseq_number block ≡ None → e.number ≡ 4
  -- the number outside the window: 9, 10, 11, 12; of an ACK 9, 11
  pub request_9 : (n : ℕ) (method block : List ℕ) (r : Record) (front rest : Book) → e.call ≡ update n (request method block) → Admitted L x (update n (request method block))
      → x.records ≡ front ++ (r ∷ rest) → Names block r → cseq_number block ≡ Some 0 → e.number ≡ 9
  pub request_10 : (n : ℕ) (method block : List ℕ) (cseq : ℕ) (r : Record) (front rest : Book) → e.call ≡ update n (request method block)
      → Admitted L x (update n (request method block)) → x.records ≡ front ++ (r ∷ rest) → Names block r → cseq_number block ≡ Some cseq → method ≢ ack_name
      → 0 < cseq → L.cseq < cseq → e.number ≡ 10
  pub request_11 : (n : ℕ) (method block : List ℕ) (cseq : ℕ) (r : Record) (front rest : Book) → e.call ≡ update n (request method block)
      → Admitted L x (update n (request method block)) → x.records ≡ front ++ (r ∷ rest) → Names block r → cseq_number block ≡ Some cseq → method ≢ ack_name
      → 0 < cseq → cseq ≤ L.cseq → cseq ≤ r.numbers.remote → e.number ≡ 11
  pub request_12 : (n : ℕ) (method block : List ℕ) (cseq : ℕ) (r : Record) (front rest : Book) → e.call ≡ update n (request method block)
      → Admitted L x (update n (request method block)) → x.records ≡ front ++ (r ∷ rest) → Names block r → cseq_number block ≡ Some cseq → method ≢ ack_name
      → cseq ≤ L.cseq → 0 < r.numbers.remote → r.numbers.remote + L.cseq_jump < cseq → e.number ≡ 12
  pub ack_11 : (n : ℕ) (method block : List ℕ) (cseq : ℕ) (r : Record) (front rest : Book) → e.call ≡ update n (request method block)
      → Admitted L x (update n (request method block)) → x.records ≡ front ++ (r ∷ rest) → Names block r → cseq_number block ≡ Some cseq → method ≡ ack_name
      → 0 < cseq → cseq ≢ r.numbers.remote → e.number ≡ 11
  -- by identifier: a response, a termination and a next local number of a held record are taken wherever their change fits
  pub response_rule : (n : ℕ) (id : Ident) (status : ℕ) (block : List ℕ) (r : Record) (front rest : Book) → e.call ≡ update n (response id status block)
      → Admitted L x (update n (response id status block)) → x.records ≡ front ++ (r ∷ rest) → Has id r
      → TakenIf n e held (Unit {0}) (holding (front ++ (response_update L status block r ∷ rest))) no_value × Answered status r (response_update L status block r)
  pub terminate_rule : (n : ℕ) (id : Ident) (r : Record) (front rest : Book) → e.call ≡ update n (terminate id) → Admitted L x (update n (terminate id))
      → x.records ≡ front ++ (r ∷ rest) → Has id r → TakenIf n e held (Unit {0}) (holding (front ++ (ended r ∷ rest))) no_value
  pub local_rule : (n : ℕ) (id : Ident) (r : Record) (front rest : Book) → e.call ≡ update n (local_number id) → Admitted L x (update n (local_number id))
      → x.records ≡ front ++ (r ∷ rest) → Has id r → TakenIf n e held (Unit {0}) (holding (front ++ (numbered r ∷ rest))) (number (next_local r))
  -- an interval exactly from 90 to 86,400 s; 13 with 90, and 14
  pub interval_rule : (n : ℕ) (id : Ident) (s : ℕ) (r : Record) (front rest : Book) → e.call ≡ update n (interval id s) → Admitted L x (update n (interval id s))
      → x.records ≡ front ++ (r ∷ rest) → Has id r → TakenIf n e held ((L.min_expires ≤ s) × (s ≤ L.max_expires)) (holding (front ++ (lasting s r ∷ rest))) no_value
  pub interval_13 : (n : ℕ) (id : Ident) (s : ℕ) (r : Record) (front rest : Book) → e.call ≡ update n (interval id s) → Admitted L x (update n (interval id s))
      → x.records ≡ front ++ (r ∷ rest) → Has id r → s < L.min_expires → (e.number ≡ 13) × (e.left ≡ least_given L.min_expires e.lent)
  pub interval_14 : (n : ℕ) (id : Ident) (s : ℕ) (r : Record) (front rest : Book) → e.call ≡ update n (interval id s) → Admitted L x (update n (interval id s))
      → x.records ≡ front ++ (r ∷ rest) → Has id r → L.min_expires ≤ s → L.max_expires < s → e.number ≡ 14
  -- 15 where no such record is held
  pub update_15 : (n : ℕ) (u : Update) → e.call ≡ update n u → Admitted L x (update n u) → NoneOf (Of u) x.records → e.number ≡ 15
  -- "A removal drops one, a sweep all that are Terminated"
  pub remove_rule : (n : ℕ) (id : Ident) (r : Record) (front rest : Book) → e.call ≡ remove n id → Admitted L x (remove n id) → x.records ≡ front ++ (r ∷ rest) → Has id r
      → Done e held (holding (front ++ rest)) no_value
  pub remove_15 : (n : ℕ) (id : Ident) → e.call ≡ remove n id → Admitted L x (remove n id) → NoneOf (Has id) x.records → e.number ≡ 15
  pub sweep_rule : (n : ℕ) → e.call ≡ sweep n → Admitted L x (sweep n) → Done e held (holding (those (λ y. ltb (stage y.numbers.state) 3) x.records)) no_value
  -- look-ups: where the record's image lies, behind those of the records before it
  pub get_rule : (n : ℕ) (id : Ident) (r : Record) (front rest : Book) → e.call ≡ read n (get id) → Admitted L x (read n (get id)) → x.records ≡ front ++ (r ∷ rest) → Has id r
      → Done e held x (image_at (size (holding front)) (length (image.write r)))
  pub get_15 : (n : ℕ) (id : Ident) → e.call ≡ read n (get id) → Admitted L x (read n (get id)) → NoneOf (Has id) x.records → e.number ≡ 15
  pub find_by_request_rule : (n : ℕ) (block : List ℕ) (r : Record) (front rest : Book) → e.call ≡ read n (find_by_request block) → Admitted L x (read n (find_by_request block))
      → x.records ≡ front ++ (r ∷ rest) → Names block r → Done e held x (image_at (size (holding front)) (length (image.write r)))
  pub find_by_request_15 : (n : ℕ) (block : List ℕ) → e.call ≡ read n (find_by_request block) → Admitted L x (read n (find_by_request block)) → NoneOf (Names block) x.records → e.number ≡ 15
  -- "`find_by_call_id` gives the first in the store"
  pub find_by_call_id_rule : (n : ℕ) (t : List ℕ) (r : Record) (front rest : Book) → e.call ≡ read n (find_by_call_id t) → Admitted L x (read n (find_by_call_id t))
      → x.records ≡ front ++ (r ∷ rest) → NoneOf (λ (y : Record). y.call_id ≡ t) front → r.call_id ≡ t → Done e held x (image_at (size (holding front)) (length (image.write r)))
  pub find_by_call_id_15 : (n : ℕ) (t : List ℕ) → e.call ≡ read n (find_by_call_id t) → Admitted L x (read n (find_by_call_id t)) → NoneOf (λ (y : Record). y.call_id ≡ t) x.records → e.number ≡ 15
  -- the other readings
  pub count_rule : (n : ℕ) → e.call ≡ read n count → Admitted L x (read n count) → Done e held x (number (length x.records))
  pub all_ids_rule : (n room : ℕ) → e.call ≡ read n (all_ids room) → Admitted L x (read n (all_ids room)) → length (id_texts x.records) ≤ room → Done e held x (written (id_texts x.records))
  pub all_ids_18 : (n room : ℕ) → e.call ≡ read n (all_ids room) → Admitted L x (read n (all_ids room)) → room < length (id_texts x.records) → e.number ≡ 18

-- ---- one call after others

-- from one world to the next: what the used bytes are read as before it and after it, the rules, and every byte of the memory
pub record NextCall (L : LimitSet) (w : World) (e : Returned) (now : World) : Type 0 where
  pub was_held : Contents
  pub held : Contents
  pub reads_before : store_read (used_bytes w) ≡ Some was_held
  pub reads_after : store_read (used_bytes now) ≡ Some held
  pub used_before : w.used ≡ size was_held
  pub rules : CallRules L was_held e held
  -- a refused call keeps every byte and the used length
  pub refused_same : e.number ≢ 0 → now ≡ w
  -- an accepted one writes what it leaves over the front of the memory, and keeps every byte past it
  pub taken_over : e.number ≡ 0 → (now.used ≡ size held) × (now.memory ≡ over (store_image held) w.memory)

-- whatever the calls so far, the next one keeps to that
abbrev pub Ruled : LimitSet → List ℕ → List Call → Type 0
Ruled L m cs =
    (e : Returned) → Sent m e.call → Shows (record { call = e.call; answer = (lending L e.call (world L m cs)).answer }) e → NextCall L (world L m cs) e (next L e.call (world L m cs))
