-- A put: its refusals in their order, then its image over the old one or after all others. Assumes nothing.
use Prim.Native.Nat.{ℕ, ◌+◌, ◌-◌, ◌≤◌, ◌<◌}
use native.Mathlib.Omega.{arith}
use mathlib.Core.Path.{◌≡◌, refl, sym, ap, ap₂, subst, ◌∙◌}
use mathlib.Core.Bool.{Bool, true, false}
use mathlib.Core.List.{List, ◌++◌, append_assoc, append-nil}
use lib.ListN.{length, take, drop, get_or, length-append, length-drop}
use lib.Seq.{length-take-le, take_all, drop-drop, drop-length}
use lib.Dec.{ltb}
use borrow.Author.Tests.{ltb-true, ltb-false, lt-ltb, le-ltb, le-leb, lt-leb}
use borrow.Rule.Slice.PartMut.{put_mid, put_same, Post-is}
use Rattle.std.specs.Prelude.{Err, None, Ok, Option, Result, Some}
use Rattle.limits.specs.Limits.{LimitSet}
use Rattle.limits.specs.Outcome.{cause_if, refuse_by, or_refuse}
use Rattle.output.specs.Output.{fitted, leaves, written_from}
use Rattle.limits.specs.declared.Refusal.{Refusal}
use Rattle.limits.specs.declared.Refusal.TheVariants.{BadStore, NotFound, TooManyDialogs, TooManyEarlyDialogs, NoRoom}
use Rattle.edit.specs.Edit.{over, spliced}
use Rattle.record.specs.Record.{State, Record, image}
use Rattle.record.specs.NumbersForm.{state_in}
use Rattle.record.specs.declared.numbers.State.{State as CodeState}
use Rattle.codec.proofs.CodecLaws.{Bytes, bytes_all, bytes_take}
use Rattle.record.proofs.NumberLaws.{state_same}
use Rattle.image.specs.Places.{ids_of}
use Rattle.image.specs.declared.RecordAt.{RecordAt}
use Rattle.image.proofs.AnswerLaws.{record_got}
use Rattle.image_writer.proofs.LieLaws.{Lie, record_lies}
use Rattle.text.specs.Spans.{part_in}
use Rattle.dialog_rules.specs.OneImage.{only_one, one_record}
use Rattle.dialog.specs.Readings.{image_answer}
use Rattle.dialog.proofs.ImageRouteLaws.{image_read}
use Rattle.dialog.proofs.MatchLaws as one
use Rattle.dialog.proofs.MatchLaws.{ids_within}
use Rattle.store.specs.Counting.{records_held, count_answer}
use Rattle.dialog_id.specs.Ident.{Ident, ident}
use Rattle.book.specs.Calls.{Value, no_value, image_at}
use Rattle.record.specs.Store.{decode_all}
use Rattle.book.specs.Book.{Book, contents_of, records_image, records_size, ident_of, is_of, place, set, Taken, first_place, place_of, is_full, is_crowded, argument_cause, judge}
use Rattle.book.specs.Store.{Left, run}
use Rattle.book.proofs.SpliceLaws.{place_held, amend_bytes, new_bytes}
use Rattle.book.proofs.JudgeLaws.{put_unread, put_clear, put_full, put_crowded, put_set}
use Rattle.book.proofs.WayLaws.{kept_with, way_arguments, way_judged, way_full, way_taken}
use Rattle.dialog_manager.specs.Lookups.{place_in}
use Rattle.dialog_manager.specs.Search.{named, found_in, IdsWithin, Stands}
use Rattle.dialog_manager.proofs.LookupLaws.{Kept, stored, same_Err, is_three, none_found, one_found}
use Rattle.dialog_manager.proofs.SearchLaws.{turn}
use Rattle.dialog_manager.specs.Answers.{written_in}
use Rattle.store_puts.specs.Puts.{putting, Named, Open, crowded_in}
use Rattle.store_edits.proofs.RemoveLaws.{images, unheld, standing, absent, spliced_length}

-- ---- 18

-- refused where the text is larger than the room, and otherwise given
pub larger : (room : ℕ) (t : List ℕ) → room < length t → fitted room t ≡ Err NoRoom
larger room t h = rw (lt-ltb room (length t) h)

pub fits : (room : ℕ) (t : List ℕ) → length t ≤ room → fitted room t ≡ Ok t
fits room t h = rw (le-ltb room (length t) h)

-- ---- the bytes after a piece is put

-- the image for n used bytes at a place: its length, and whether it fits in the lent bytes
module _ (s new : List ℕ) (used at n : ℕ) (h : at + n ≤ used) (w : used ≤ length s) where
  abbrev made : List ℕ
  made = spliced at n new (take used s)

  pub made_length : length made ≡ used - n + length new
  made_length = omega (arith, spliced_length at n new (take used s) (omega (arith, h, length-take-le used s w)), length-take-le used s w)

  pub no_room : length s - (used - n) < length new → fitted (length s) made ≡ Err NoRoom
  no_room l = larger (length s) made (omega (arith, l, made_length, h, w))

  pub has_room : length new ≤ length s - (used - n) → fitted (length s) made ≡ Ok made
  has_room l = fits (length s) made (omega (arith, l, made_length, h, w))

-- ---- the free end of the store, lent and back

-- the used length after the bytes that were written behind it
abbrev pub behind : ℕ → Result ℕ Refusal → Result ℕ Refusal
behind used (Ok n) = Ok (used + n)
behind used (Err cause) = Err cause

module _ (s img : List ℕ) (used : ℕ) (w : used ≤ length s) where
  -- the part that is lent
  abbrev pub free : List ℕ
  free = take (length s - used) (drop used s)

  free_is : free ≡ drop used s
  free_is = take_all (length s - used) (drop used s) (omega (arith, length-drop used s))

  long : length (take used s ++ img) ≡ used + length img
  long = length-append (take used s) img ∙ ap (λ (n : ℕ). n + length img) (length-take-le used s w)

  room : length free ≡ length s - used
  room = ap length free_is ∙ length-drop used s

  -- the image fits there exactly where the store with it fits in the lent bytes
  same_room : ltb (length free) (length img) ≡ ltb (length s) (length (take used s ++ img))
  same_room = by (ltb (length free) (length img)) refl
    where
      by : (t : Bool) → ltb (length free) (length img) ≡ t → ltb (length free) (length img) ≡ ltb (length s) (length (take used s ++ img))
      by true e = e ∙ sym (lt-ltb (length s) (length (take used s ++ img)) (omega (arith, ltb-true (length free) (length img) e, room, long, w)))
      by false e = e ∙ sym (le-ltb (length s) (length (take used s ++ img)) (omega (arith, ltb-false (length free) (length img) e, room, long, w)))

  -- the image over the front of the part
  over_end : put_mid used (length s - used) s (over img free) ≡ over (take used s ++ img) s
  over_end = rw (free_is, Post-is used (length s) s w, drop-length, append-nil, drop-drop (length img) used s, long, append_assoc)

  -- the answer of the writer, and the bytes that it leaves, are those of the store with the image after the used bytes
  pub end_answer : {answer : Result ℕ Refusal} → answer ≡ written_from (fitted (length free) img) → behind used answer ≡ written_from (fitted (length s) (take used s ++ img))
  end_answer e =
      ap (behind used) e ∙ (ap (λ (t : Bool). behind used (written_from (refuse_by (cause_if t NoRoom) (Ok img)))) same_room ∙ by (ltb (length s) (length (take used s ++ img))))
    where
      by : (t : Bool) → behind used (written_from (refuse_by (cause_if t NoRoom) (Ok img))) ≡ written_from (refuse_by (cause_if t NoRoom) (Ok (take used s ++ img)))
      by true = refl
      by false = ap Ok (sym long)

  pub end_bytes : {last : List ℕ} → last ≡ leaves (fitted (length free) img) free → put_mid used (length s - used) s last ≡ leaves (fitted (length s) (take used s ++ img)) s
  end_bytes e =
      ap (put_mid used (length s - used) s) e
      ∙ (ap (λ (t : Bool). put_mid used (length s - used) s (leaves (refuse_by (cause_if t NoRoom) (Ok img)) free)) same_room ∙ by (ltb (length s) (length (take used s ++ img))))
    where
      by : (t : Bool) → put_mid used (length s - used) s (leaves (refuse_by (cause_if t NoRoom) (Ok img)) free) ≡ leaves (refuse_by (cause_if t NoRoom) (Ok (take used s ++ img))) s
      by true = put_same used (length s - used) s
      by false = over_end

  -- a length that the writer answers is no larger than the part
  pub end_fits : (n : ℕ) → Ok n ≡ written_from (fitted (length free) img) → used + n ≤ length s
  end_fits n e = by (ltb (length free) (length img)) refl e
    where
      by : (t : Bool) → ltb (length free) (length img) ≡ t → Ok n ≡ written_from (refuse_by (cause_if t NoRoom) (Ok img)) → used + n ≤ length s
      by true q h = absurd (let z : ◌≡◌ {A = ℕ} 0 1 = cc in omega arith)
      by false q h = let z : n ≡ length img = cc in omega (arith, z, ltb-false (length free) (length img) q, room, w)

-- ---- the whole call

-- every refusal of an image is 3
bad_image : (img : List ℕ) {cause : Refusal} → Err cause ≡ image_answer (one_record img) → (one_record img ≡ Err BadStore) × (BadStore ≡ cause)
unfolding one_record
bad_image img {cause} e = by (only_one (image.read img)) e
  where
    by : (o : Option Record) → Err cause ≡ image_answer (or_refuse BadStore o) → (or_refuse BadStore o ≡ Err BadStore) × (BadStore ≡ cause)
    by None h = (refl, same_Err BadStore cause (sym h))
    by (Some r) h = absurd (let z : ◌≡◌ {A = ℕ} 0 1 = cc in omega arith)

-- 3, of the image
pub not_one : (L : LimitSet) (n : ℕ) (img s : List ℕ) (used : ℕ) {cause : Refusal} → Err cause ≡ image_answer (one_record img)
    → run L (putting n img) s used ≡ kept_with L (putting n img) s used cause
not_one L n img s used e =
    let b = bad_image img e in
    way_arguments L (putting n img) s used BadStore (put_unread L n img b.0) ∙ ap (kept_with L (putting n img) s used) b.1

-- 3, of the store
pub store_unread : (L : LimitSet) (n : ℕ) (img s : List ℕ) (used : ℕ) {cause : Refusal} → count_answer (records_held s used) ≡ Err cause
    → run L (putting n img) s used ≡ kept_with L (putting n img) s used cause
store_unread L n img s used {cause} e = by (one_record img) refl
  where
    by : (v : Result Record Refusal) → one_record img ≡ v → run L (putting n img) s used ≡ kept_with L (putting n img) s used cause
    by (Err x) q =
        let u : Err x ≡ image_answer (one_record img) = sym (ap image_answer q) in
        not_one L n img s used u ∙ ap (kept_with L (putting n img) s used) (sym (bad_image img u).1 ∙ is_three s used e)
    by (Ok r) q = unheld L (putting n img) s used (put_clear L n img r q) e

module _ (L : LimitSet) (n : ℕ) (img s : List ℕ) (used : ℕ) (k : Kept s used) where
  module _ (r : Record) (one : one_record img ≡ Ok r) where
    -- 16
    pub too_many : is_full L k.contents.records ≡ true → run L (putting n img) s used ≡ kept_with L (putting n img) s used TooManyDialogs
    too_many e = way_judged L (putting n img) s used (put_clear L n img r one) k.within k.contents k.read TooManyDialogs (put_full L n img r one k.contents.records e)

    -- 17
    pub too_many_early : is_full L k.contents.records ≡ false → is_crowded L r k.contents.records ≡ true → run L (putting n img) s used ≡ kept_with L (putting n img) s used TooManyEarlyDialogs
    too_many_early f e = way_judged L (putting n img) s used (put_clear L n img r one) k.within k.contents k.read TooManyEarlyDialogs (put_crowded L n img r one k.contents.records f e)

-- what a put leaves, by the bytes that it makes
pub record Sets (now : Left) (s t : List ℕ) : Type 0 where
  pub answer : written_from (fitted (length s) t) ≡ written_in now
  pub bytes : leaves (fitted (length s) t) s ≡ now.bytes

module _ (L : LimitSet) (n : ℕ) (img s : List ℕ) (used : ℕ) (hb : Bytes s) (k : Kept s used) (r : Record) (one : one_record img ≡ Ok r) (is : image.write r ≡ img)
    (free : is_full L k.contents.records ≡ false) (few : is_crowded L r k.contents.records ≡ false) where
  -- the call is accepted, but for 18
  abbrev taken : Taken
  taken = record { change = set r; value = no_value }

  clear : argument_cause L (putting n img) ≡ None
  clear = put_clear L n img r one

  judged : judge L (putting n img) k.contents.records ≡ Ok taken
  judged = put_set L n img r one k.contents.records free few

  -- 18, or the images of the records with this one in its place
  sets : Sets (run L (putting n img) s used) s (records_image (place r k.contents.records))
  sets = by (ltb (length s) (records_size (place r k.contents.records))) refl
    where
      by : (t : Bool) → ltb (length s) (records_size (place r k.contents.records)) ≡ t → Sets (run L (putting n img) s used) s (records_image (place r k.contents.records))
      by true e =
          let q = way_full L (putting n img) s used clear k.within k.contents k.read taken judged (ltb-true (length s) (records_size (place r k.contents.records)) e) in
          record { answer = rw e (sym (ap written_in q)); bytes = rw e (sym (ap (λ (l : Left). l.bytes) q)) }
      by false e =
          let q = way_taken L (putting n img) s used clear k.within k.contents k.read taken judged (ltb-false (length s) (records_size (place r k.contents.records)) e) in
          record { answer = rw e (sym (ap written_in q)); bytes = rw e (sym (ap (λ (l : Left). l.bytes) q)) }

  -- over the old image
  pub replaced : (at old : ℕ) → place_of (is_of (ident_of r)) first_place k.contents.records ≡ Some (image_at at old) → Sets (run L (putting n img) s used) s (spliced at old img (take used s))
  replaced at old e =
      let b : Book = k.contents.records in
      let d = standing (ident_of r) first_place b at old e in
      let g = images s used hb k in
      let at-is : at ≡ records_size d.there.front = omega (arith, d.place_is) in
      let x : records_image (place r b) ≡ spliced (records_size d.there.front) (length (image.write d.was)) (image.write r) (records_image b) =
      ap records_image (place_held r d.was b d.found) ∙ amend_bytes (ident_of r) d.was b d.there r refl in
      let y : spliced (records_size d.there.front) (length (image.write d.was)) (image.write r) (records_image b) ≡ spliced at old img (take used s) =
      ap₂ (λ (j w : ℕ). spliced j w (image.write r) (records_image b)) (sym at-is) (sym d.size_is) ∙ ap₂ (λ (u v : List ℕ). spliced at old u v) is (sym g.are) in
      subst (Sets (run L (putting n img) s used) s) (x ∙ y) sets

  -- after all others
  pub added : place_of (is_of (ident_of r)) first_place k.contents.records ≡ None → Sets (run L (putting n img) s used) s (take used s ++ img)
  added e =
      let b : Book = k.contents.records in
      let g = images s used hb k in
      let x : records_image (place r b) ≡ take used s ++ img = new_bytes r b (absent (ident_of r) first_place b e) ∙ ap₂ (λ (u v : List ℕ). u ++ v) (sym g.are) is in
      subst (Sets (run L (putting n img) s used) s) x sets

-- ---- what `put` has read

-- how many records were counted
counted_is : (s : List ℕ) (used n : ℕ) (k : Kept s used) → count_answer (records_held s used) ≡ Ok n → n ≡ length k.contents.records
counted_is s used n k e = let z : Ok n ≡ Ok (length k.contents.records) = sym e ∙ ap count_answer k.held in cc

-- 16, of that number
pub full : (L : LimitSet) (s : List ℕ) (used n : ℕ) (k : Kept s used) → count_answer (records_held s used) ≡ Ok n → L.dialogs ≤ n → is_full L k.contents.records ≡ true
unfolding is_full
full L s used n k e h = le-leb L.dialogs (length k.contents.records) (omega (arith, h, counted_is s used n k e))

-- the store has room for one record more
pub open_to : (L : LimitSet) (s : List ℕ) (used n : ℕ) → Kept s used → count_answer (records_held s used) ≡ Ok n → n < L.dialogs → Open L s used
unfolding is_full
open_to L s used n k e h = record { records = k.contents.records; within = k.within; are = k.are; free = lt-leb L.dialogs (length k.contents.records) (omega (arith, h, counted_is s used n k e)) }

module _ (img : List ℕ) (p : RecordAt) (e : Ok p ≡ image_answer (one_record img)) where
  -- the texts of its identifier lie within the image
  pub texts_within : IdsWithin img p.ids
  texts_within = ids_within img p (one.held img p e)

  -- the record of the image, its state and its identifier
  pub image_named : ((i : ℕ) → get_or img i 0 < 256) → Named img p.numbers.state (part_in img p.ids.id.call_id) (part_in img p.ids.id.local_tag) (part_in img p.ids.id.remote_tag)
  image_named b =
      let h = one.held img p e in
      let w = image_read img p b e in
      let v : w.value ≡ h.value = (let z : Ok w.value ≡ Ok h.value = sym w.one ∙ h.one in cc) in
      let l : Lie img 2 (ids_of h.value) = subst (λ (r : Record). Lie img 2 (ids_of r)) h.whole (record_lies img 0 h.reading (bytes_all img b) h.reads) in
      let c : part_in img p.ids.id.call_id ≡ h.value.call_id = ap (λ (q : RecordAt). part_in img q.ids.id.call_id) h.places ∙ l.call_id in
      let d : part_in img p.ids.id.local_tag ≡ h.value.local_tag = ap (λ (q : RecordAt). part_in img q.ids.id.local_tag) h.places ∙ l.local_tag in
      let f : part_in img p.ids.id.remote_tag ≡ h.value.remote_tag = ap (λ (q : RecordAt). part_in img q.ids.id.remote_tag) h.places ∙ l.remote_tag in
      record {
        value = h.value;
        one = h.one;
        is = ap image.write (sym v) ∙ sym w.bytes;
        state_is = ap (λ (q : RecordAt). state_in q.numbers.state) h.places ∙ state_same h.value.numbers.state;
        ident_is = ap₂ (λ (x y : List ℕ). ident x y (part_in img p.ids.id.remote_tag)) c d ∙ ap (ident h.value.call_id h.value.local_tag) f;
      }

-- ---- the place of the image

-- what 15 says of a place
not_placed : (o : Option Value) → Err NotFound ≡ or_refuse NotFound o → o ≡ None
not_placed None e = refl
not_placed (Some v) e = absurd (let z : ◌≡◌ {A = ℕ} 0 1 = cc in omega arith)

placed_at : (o : Option Value) (v : Value) → Ok v ≡ or_refuse NotFound o → o ≡ Some v
placed_at None v e = absurd (let z : ◌≡◌ {A = ℕ} 0 1 = cc in omega arith)
placed_at (Some w) v e = cc

module _ (L : LimitSet) (n : ℕ) (img s : List ℕ) (used : ℕ) (state : CodeState) (c l r : List ℕ) (a : Named img state c l r) (o : Open L s used) where
  -- the records of the store
  held_so : records_held s used ≡ Ok o.records
  unfolding records_held
  held_so = rw (le-ltb (length s) used o.within, o.are)

  abbrev read_so : Kept s used
  read_so = record { contents = record { records = o.records }; within = o.within; read = ap contents_of o.are; are = o.are; held = held_so }

  -- 17, of the record of the image
  crowded_is : crowded_in L (state_in state) (ident c l r) (decode_all (take used s)) ≡ is_crowded L a.value o.records
  unfolding is_crowded
  crowded_is =
      ap₂ (λ (x : State) (i : Ident). crowded_in L x i (decode_all (take used s))) a.state_is a.ident_is
      ∙ ap (crowded_in L a.value.numbers.state (ident_of a.value)) o.are

  pub crowded : crowded_in L (state_in state) (ident c l r) (decode_all (take used s)) ≡ true → run L (putting n img) s used ≡ kept_with L (putting n img) s used TooManyEarlyDialogs
  crowded e = too_many_early L n img s used read_so a.value a.one o.free (sym crowded_is ∙ e)

  abbrev test : Record → Bool
  test = named c l r

  module _ (hb : Bytes s) (e : crowded_in L (state_in state) (ident c l r) (decode_all (take used s)) ≡ false) where
    -- the place is asked of the record's own identifier
    asked : (v : Result Value Refusal) → v ≡ place_in test (decode_all (take used s)) → v ≡ or_refuse NotFound (place_of (is_of (ident_of a.value)) first_place o.records)
    asked v q = q ∙ (ap (place_in test) o.are ∙ ap (λ (i : Ident). or_refuse NotFound (place_of (is_of i) first_place o.records)) a.ident_is)

    -- no record of its identifier
    pub added_new : None ≡ found_in test (decode_all (take used s)) → Sets (run L (putting n img) s used) s (take used s ++ img)
    added_new q =
        added L n img s used hb read_so a.value a.one a.is o.free (sym crowded_is ∙ e)
        (not_placed (place_of (is_of (ident_of a.value)) first_place o.records) (asked (Err NotFound) (none_found test (take used s) (stored s used read_so) q)))

    module _ (at : ℕ) (p : RecordAt) (w : Stands (take used s) (Some (at, p))) where
      -- a record of its identifier
      pub replaced_old : ◌≡◌ {A = Option (ℕ × RecordAt)} (Some (at, p)) (found_in test (decode_all (take used s))) → Sets (run L (putting n img) s used) s (spliced at (p.end - at) img (take used s))
      replaced_old q =
          replaced L n img s used hb read_so a.value a.one a.is o.free (sym crowded_is ∙ e) at (p.end - at)
          (placed_at (place_of (is_of (ident_of a.value)) first_place o.records) (image_at at (p.end - at)) (asked (Ok (image_at at (p.end - at))) (one_found test (take used s) (stored s used read_so) (bytes_take used s hb) at p w q)))

-- the record that was found lies within the used bytes
pub found_within : (s : List ℕ) (used : ℕ) → Bytes s → used ≤ length s → (at : ℕ) (p : RecordAt) → Stands (take used s) (Some (at, p)) → (at ≤ p.end) × (p.end ≤ used)
found_within s used hb h at p w =
    let t = (turn (take used s) at (bytes_take used s hb) w.0 (record_got (take used s) at w.0 w.1)).step in
    (omega (arith, t.moves), omega (arith, t.within, length-take-le used s h))
