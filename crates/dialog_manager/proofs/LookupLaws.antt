-- The look-ups of a store: their refusals in their order, then the place that was found. Assumes nothing.
use Prim.Native.Nat.{ℕ, ◌+◌, ◌-◌, ◌≤◌}
use native.Mathlib.Omega.{arith}
use mathlib.Core.Path.{◌≡◌, refl, sym, ap, ap₂, ◌∙◌}
use mathlib.Core.Bool.{Bool, true, false, cond}
use mathlib.Core.List.{List, [], ◌∷◌}
use lib.ListN.{length, take, drop}
use lib.Dec.{ltb}
use borrow.Author.Tests.{le-ltb, ltb-false}
use Rattle.std.proofs.lemmas.Option.{same_Some}
use Rattle.std.specs.Option.{ok_or}
use Rattle.std.specs.Prelude.{Err, None, Ok, Option, Result, Some}
use Rattle.limits.specs.Limits.{LimitSet}
use Rattle.limits.specs.Outcome.{cause_if, refuse_by, refuse_if, and_then, or_refuse}
use Rattle.limits.specs.declared.Refusal.{Refusal}
use Rattle.limits.specs.declared.Refusal.TheVariants.{TextTooLong, BadStore, NotFound}
use Rattle.limits.proofs.Laws.{some_pair}
use Rattle.text.specs.Answers.{too_long}
use Rattle.codec.specs.Codec as codec
use Rattle.record.specs.Record.{Record, image}
use Rattle.record.specs.Store.{decode_all}
use Rattle.codec.proofs.CodecLaws.{Bytes}
use Rattle.image.specs.declared.RecordAt.{RecordAt}
use Rattle.image.proofs.AnswerLaws.{record_got}
use Rattle.store.specs.Counting.{records_held, count_answer, ReadAs}
use Rattle.store.specs.declared.held.Held.{Held}
use Rattle.msg.specs.Block.{block_cause}
use Rattle.dialog_id.specs.DialogId.{identifier_of, from_name, to_name}
use Rattle.dialog_id.specs.declared.DialogId.{DialogId}
use Rattle.text.specs.Spans.{part_in}
use Rattle.dialog_rules.proofs.PlacedLaws.{Asked}
use Rattle.dialog_id.specs.Ident.{Ident, ident, ident_cause}
use Rattle.book.specs.Calls.{Reading, find_by_call_id, find_by_request, read, Value, image_at}
use Rattle.book.specs.Book.{Book, Contents, contents_of, store_read, is_of, find, named_in, first_place, place_of, reply, reading_cause}
use Rattle.book.specs.Store.{Left, run}
use Rattle.book.proofs.ReadingLaws.{reading_run}
use Rattle.dialog_manager.specs.Search.{named, of_call_id, Spot, first, found_of, found_in, Stored, Stands}
use Rattle.dialog_manager.specs.Lookups.{getting, place_in}
use Rattle.dialog_manager.proofs.SearchLaws.{stored_held, Turn, turn, spot_reads}

-- ---- the place of what was found

abbrev pub value_at : Option Spot → Option Value
value_at None = None
value_at (Some x) = Some (image_at x.place (length (image.write x.value)))

-- the first record's place
pub first_place_lem : (test : Record → Bool) (at : ℕ) (b : Book) → place_of test at b ≡ value_at (first test at b)
unfolding place_of first
first_place_lem test at [] = refl
first_place_lem test at (r ∷ b) = by (test r) (first_place_lem test (at + length (image.write r)) b)
  where
    by : (t : Bool) → place_of test (at + length (image.write r)) b ≡ value_at (first test (at + length (image.write r)) b)
        → cond t (Some (image_at at (length (image.write r)))) (place_of test (at + length (image.write r)) b)
        ≡ value_at (cond t (Some (record { place = at; value = r })) (first test (at + length (image.write r)) b))
    by true e = refl
    by false e = e

-- the first record of an identifier is the book's
abbrev pub record_in : Option Spot → Option Record
record_in None = None
record_in (Some x) = Some x.value

pub first_find : (i : Ident) (at : ℕ) (b : Book) → find i b ≡ record_in (first (is_of i) at b)
unfolding first
first_find i at [] = refl
first_find i at (r ∷ b) = by (is_of i r) (first_find i (at + length (image.write r)) b)
  where
    by : (t : Bool) → find i b ≡ record_in (first (is_of i) (at + length (image.write r)) b)
        → cond t (Some r) (find i b) ≡ record_in (cond t (Some (record { place = at; value = r })) (first (is_of i) (at + length (image.write r)) b))
    by true e = refl
    by false e = e

module _ (test : Record → Bool) (s : List ℕ) (k : Stored s) where
  placed : place_in test (decode_all s) ≡ or_refuse NotFound (value_at (first test first_place k.records))
  placed = ap (place_in test) k.are ∙ ap (or_refuse NotFound) (first_place_lem test first_place k.records)

  asked : found_in test (decode_all s) ≡ found_of (first test first_place k.records)
  asked = ap (found_in test) k.are

  pub none_found : None ≡ found_in test (decode_all s) → Err NotFound ≡ place_in test (decode_all s)
  none_found e = by (first test first_place k.records) refl (e ∙ asked)
    where
      by : (o : Option Spot) → first test first_place k.records ≡ o → None ≡ found_of o → Err NotFound ≡ place_in test (decode_all s)
      by None q h = sym (placed ∙ ap (λ (x : Option Spot). or_refuse NotFound (value_at x)) q)
      by (Some x) q h = absurd (let z : ◌≡◌ {A = ℕ} 0 1 = cc in omega arith)

  module _ (b : Bytes s) (at : ℕ) (r : RecordAt) (w : Stands s (Some (at, r))) where
    stood : Turn s at r
    stood = turn s at b w.0 (record_got s at w.0 w.1)

    pub ends_after : at ≤ r.end
    ends_after = omega (arith, stood.step.moves)

    pub one_found : ◌≡◌ {A = Option (ℕ × RecordAt)} (Some (at, r)) (found_in test (decode_all s)) → Ok (image_at at (r.end - at)) ≡ place_in test (decode_all s)
    one_found e = by (first test first_place k.records) refl (e ∙ asked)
      where
        by : (o : Option Spot) → first test first_place k.records ≡ o → ◌≡◌ {A = Option (ℕ × RecordAt)} (Some (at, r)) (found_of o) → Ok (image_at at (r.end - at)) ≡ place_in test (decode_all s)
        by None q h = absurd (let z : ◌≡◌ {A = ℕ} 0 1 = cc in omega arith)
        by (Some x) q h =
            let l = spot_reads test s k x b q in
            let p : at ≡ x.place = (some_pair h).0 in
            let u : image.read (drop at s) ≡ Some (record { value = x.value; rest = l.rest }) = ap (λ (m : ℕ). image.read (drop m s)) p ∙ l.reads in
            let v : stood.step.value ≡ x.value = ap (λ (y : codec.Reading Record). y.value) (same_Some _ _ (sym stood.step.reads ∙ u)) in
            let m : length (image.write stood.step.value) ≡ length (image.write x.value) = ap (λ (y : Record). length (image.write y)) v in
            let n : r.end - at ≡ length (image.write x.value) = omega (arith, stood.step.ends, m) in
            ap₂ (λ (i j : ℕ). Ok (image_at i j)) p n ∙ sym (placed ∙ ap (λ (y : Option Spot). or_refuse NotFound (value_at y)) q)

-- ---- refusals

-- two refusals with one cause
pub same_Err : {A : Type 0} (x y : Refusal) → ◌≡◌ {A = Result A Refusal} (Err x) (Err y) → x ≡ y
same_Err x y e = cc

-- what is refused for want of a value has none, and the cause that was given
pub refused : {A : Type 0} (o : Option A) {x cause : Refusal} {r : Result A Refusal} → r ≡ ok_or o x → r ≡ Err cause → (o ≡ None) × (cause ≡ x)
refused None {x} {cause} e h = (refl, same_Err cause x (sym h ∙ e))
refused {A} (Some v) {x} {cause} e h =
    let q : ◌≡◌ {A = Result A Refusal} (Err cause) (Ok v) = sym h ∙ e in
    absurd (let z : ◌≡◌ {A = ℕ} 0 1 = cc in omega arith)

-- ---- the whole answer

-- the records of a lent store
pub record Kept (bytes : List ℕ) (used : ℕ) : Type 0 where
  pub contents : Contents
  pub within : used ≤ length bytes
  pub read : store_read (take used bytes) ≡ Some contents
  pub are : decode_all (take used bytes) ≡ Some contents.records
  pub held : records_held bytes used ≡ Ok contents.records

-- what the count of a store says
pub kept : (bytes : List ℕ) (used : ℕ) {n : ℕ} → count_answer (records_held bytes used) ≡ Ok n → Kept bytes used
unfolding records_held
kept bytes used {n} e = by (ltb (length bytes) used) refl (decode_all (take used bytes)) refl e
  where
    by : (t : Bool) → ltb (length bytes) used ≡ t → (o : Option (List Record)) → decode_all (take used bytes) ≡ o → count_answer (refuse_if t BadStore (or_refuse BadStore o)) ≡ Ok n
        → Kept bytes used
    by true q o p e = absurd (let z : ◌≡◌ {A = ℕ} 0 1 = cc in omega arith)
    by false q None p e = absurd (let z : ◌≡◌ {A = ℕ} 0 1 = cc in omega arith)
    by false q (Some b) p e = record { contents = record { records = b }; within = ltb-false (length bytes) used q; read = ap contents_of p; are = p; held = rw (q, p) }

-- and what its reading says
pub kept_by : (bytes : List ℕ) (used : ℕ) (h : Held) → ReadAs bytes used (Ok h) → Kept bytes used
unfolding records_held
kept_by bytes used h w =
    let k = stored_held h in
    let e : decode_all (take used bytes) ≡ Some k.records = ap decode_all (sym w.1) ∙ k.are in
    let q : ltb (length bytes) used ≡ false = le-ltb (length bytes) used w.0 in
    record { contents = record { records = k.records }; within = w.0; read = ap contents_of e; are = e; held = rw (q, e) }

-- what is asked of the bytes that were read is asked of the used ones
pub of_used : (test : Record → Bool) (bytes : List ℕ) (used : ℕ) (h : Held) → ReadAs bytes used (Ok h) → place_in test (decode_all h.bytes.now) ≡ place_in test (decode_all (take used bytes))
of_used test bytes used h w = ap (λ (x : List ℕ). place_in test (decode_all x)) w.1

pub stored : (bytes : List ℕ) (used : ℕ) → Kept bytes used → Stored (take used bytes)
stored bytes used k = record { records = k.contents.records; are = k.are }

-- what is refused of a lent store is 3
pub is_three : (bytes : List ℕ) (used : ℕ) {cause : Refusal} → count_answer (records_held bytes used) ≡ Err cause → BadStore ≡ cause
unfolding records_held
is_three bytes used {cause} e = by (ltb (length bytes) used) (decode_all (take used bytes)) e
  where
    by : (t : Bool) (o : Option (List Record)) → count_answer (refuse_if t BadStore (or_refuse BadStore o)) ≡ Err cause → BadStore ≡ cause
    by true o e = same_Err BadStore cause e
    by false None e = same_Err BadStore cause e
    by false (Some b) e = absurd (let z : ◌≡◌ {A = ℕ} 0 1 = cc in omega arith)

not_kept : (bytes : List ℕ) (used : ℕ) {cause : Refusal} → count_answer (records_held bytes used) ≡ Err cause → records_held bytes used ≡ Err cause
unfolding records_held
not_kept bytes used {cause} e = by (ltb (length bytes) used) (decode_all (take used bytes)) e
  where
    by : (t : Bool) (o : Option (List Record)) → count_answer (refuse_if t BadStore (or_refuse BadStore o)) ≡ Err cause → refuse_if t BadStore (or_refuse BadStore o) ≡ Err cause
    by true o e = ap Err (same_Err BadStore cause e)
    by false None e = ap Err (same_Err BadStore cause e)
    by false (Some b) e = absurd (let z : ◌≡◌ {A = ℕ} 0 1 = cc in omega arith)

module _ (L : LimitSet) (n : ℕ) (q : Reading) (bytes : List ℕ) (used : ℕ) (h : Bytes bytes) where
  -- the causes of the arguments, 3, then the reply
  answered : (run L (read n q) bytes used).answer ≡ refuse_by (reading_cause L q) (and_then (records_held bytes used) (λ b. reply q b))
  unfolding records_held
  answered = ap (λ (l : Left). l.answer) (reading_run L n q bytes used h) ∙ ap (refuse_by (reading_cause L q)) (by (ltb (length bytes) used) (decode_all (take used bytes)))
    where
      by : (t : Bool) (o : Option Book) → refuse_if t BadStore (and_then (or_refuse BadStore (contents_of o)) (λ x. reply q x.records)) ≡ and_then (refuse_if t BadStore (or_refuse BadStore o)) (λ b. reply q b)
      by true o = refl
      by false None = refl
      by false (Some b) = refl

  pub arguments_refuse : {cause : Refusal} → reading_cause L q ≡ Some cause → Err cause ≡ (run L (read n q) bytes used).answer
  arguments_refuse e = sym (answered ∙ ap (λ (a : Option Refusal). refuse_by a (and_then (records_held bytes used) (λ b. reply q b))) e)

  module _ (clear : reading_cause L q ≡ None) where
    passed_on : (run L (read n q) bytes used).answer ≡ and_then (records_held bytes used) (λ b. reply q b)
    passed_on = answered ∙ ap (λ (a : Option Refusal). refuse_by a (and_then (records_held bytes used) (λ b. reply q b))) clear

    pub store_refuses : {cause : Refusal} → count_answer (records_held bytes used) ≡ Err cause → Err cause ≡ (run L (read n q) bytes used).answer
    store_refuses e = sym (passed_on ∙ ap (λ (o : Result Book Refusal). and_then o (λ b. reply q b)) (not_kept bytes used e))

    pub replies : (k : Kept bytes used) (v : Result Value Refusal) → v ≡ reply q k.contents.records → v ≡ (run L (read n q) bytes used).answer
    replies k v e = e ∙ sym (passed_on ∙ ap (λ (o : Result Book Refusal). and_then o (λ b. reply q b)) k.held)

-- ---- each look-up

pub get_cause : (L : LimitSet) (c l r : List ℕ) → reading_cause L (getting c l r) ≡ ident_cause L (ident c l r)
unfolding reading_cause
get_cause L c l r = refl

pub request_cause : (L : LimitSet) (block : List ℕ) → reading_cause L (find_by_request block) ≡ block_cause L block
unfolding reading_cause
request_cause L block = refl

pub call_cause : (L : LimitSet) (c : List ℕ) (t : Bool) → too_long L c ≡ t → reading_cause L (find_by_call_id c) ≡ cause_if t TextTooLong
unfolding reading_cause
call_cause L c t e = ap (λ (x : Bool). cause_if x TextTooLong) e

module _ (bytes : List ℕ) (used : ℕ) (k : Kept bytes used) where
  pub get_reply : (c l r : List ℕ) → place_in (named c l r) (decode_all (take used bytes)) ≡ reply (getting c l r) k.contents.records
  unfolding reply
  get_reply c l r = ap (place_in (named c l r)) k.are

  pub call_reply : (c : List ℕ) → place_in (of_call_id c) (decode_all (take used bytes)) ≡ reply (find_by_call_id c) k.contents.records
  unfolding reply
  call_reply c = ap (place_in (of_call_id c)) k.are

  -- the identifier that a request names, its tags swapped
  pub named_reply : (block : List ℕ) (i : DialogId) → Asked block i
      → place_in (named (part_in block i.call_id) (part_in block i.remote_tag) (part_in block i.local_tag)) (decode_all (take used bytes)) ≡ reply (find_by_request block) k.contents.records
  unfolding reply named_in
  named_reply block i a = rw (k.are, a.reads, a.spans, a.placed.call_id.there, a.placed.local_tag.there, a.placed.remote_tag.there)

  pub unnamed_reply : (block : List ℕ) → identifier_of from_name to_name block ≡ None → Err NotFound ≡ reply (find_by_request block) k.contents.records
  unfolding reply named_in
  unnamed_reply block e = rw e
