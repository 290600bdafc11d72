-- A removal: refused where the look-up of the record is, and otherwise its image cut out of the used bytes. Assumes nothing.
use Prim.Native.Nat.{ℕ, ◌+◌, ◌-◌, ◌≤◌}
use native.Mathlib.Omega.{arith}
use mathlib.Core.Path.{◌≡◌, refl, sym, ap, ap₂, subst, ◌∙◌}
use mathlib.Core.Bool.{Bool, true, false, cond, not, ◌&&◌}
use mathlib.Core.List.{List, [], ◌∷◌, ◌++◌}
use lib.ListN.{length, take, drop, length-append, length-drop}
use lib.Seq.{length-take-le}
use lib.Dec.{ltb}
use borrow.Author.Tests.{ltb-true, ltb-false}
use Rattle.std.proofs.lemmas.Bool.{and_parts}
use Rattle.std.specs.Prelude.{Err, None, Ok, Option, Result, Some}
use Rattle.limits.specs.Limits.{LimitSet}
use Rattle.limits.specs.Outcome.{refuse_if, or_refuse}
use Rattle.limits.specs.declared.Refusal.{Refusal}
use Rattle.limits.specs.declared.Refusal.TheVariants.{BadStore, NotFound}
use Rattle.edit.specs.Edit.{over, spliced}
use Rattle.codec.specs.Codec.{write_all}
use Rattle.record.specs.Record.{Record, image}
use Rattle.record.specs.Store.{same_id, lacks, distinct, decode_all}
use Rattle.codec.proofs.CodecLaws.{Bytes, bytes_take}
use Rattle.record.proofs.StoreLaws.{EachFormed, decoded}
use Rattle.store.specs.Counting.{records_held, count_answer}
use Rattle.dialog_id.specs.Ident.{Ident, ident, same_ident, ident_cause}
use Rattle.book.specs.Calls.{Call, read, Value, no_value, image_at}
use Rattle.book.specs.Book.{Book, contents_of, records_image, records_size, ident_of, is_of, find, keep, others, only, Taken, first_place, place_of, reply, argument_cause}
use Rattle.book.specs.Store.{Left, run}
use Rattle.book.proofs.SentenceLaws.{kept_size}
use Rattle.book.proofs.SpliceLaws.{Stands, images_append, removed_bytes}
use Rattle.book.proofs.IdentLaws.{ident_is}
use Rattle.book.proofs.JudgeLaws.{remove_causes, remove_unheld, remove_held}
use Rattle.book.proofs.WayLaws.{kept_with, way_arguments, way_over, way_unread, way_judged, way_taken}
use Rattle.dialog_manager.specs.Lookups.{getting}
use Rattle.dialog_manager.proofs.LookupLaws.{Kept, kept, same_Err, arguments_refuse, store_refuses, replies, get_cause}
use Rattle.dialog_manager.specs.Answers.{written_in}
use Rattle.store_edits.specs.Edits.{removing}

-- ---- the store as it was read

-- the used bytes are the images of the records, one for each identifier
pub record Images (s : List ℕ) (used : ℕ) (b : Book) : Type 0 where
  pub are : take used s ≡ records_image b
  pub formed : EachFormed b
  pub one_each : distinct b ≡ true
  pub long : used ≡ records_size b

pub images : (s : List ℕ) (used : ℕ) → Bytes s → (k : Kept s used) → Images s used k.contents.records
images s used hb k =
    let d = decoded (take used s) k.contents.records (bytes_take used s hb) k.are in
    record { are = d.0; formed = d.1; one_each = d.2; long = omega (arith, ap length d.0, length-take-le used s k.within) }

-- 3, of a call whose arguments are in order
pub unheld : (L : LimitSet) (c : Call) (s : List ℕ) (used : ℕ) {cause : Refusal} → argument_cause L c ≡ None → count_answer (records_held s used) ≡ Err cause
    → run L c s used ≡ kept_with L c s used cause
unfolding records_held
unheld L c s used {cause} a e = by (ltb (length s) used) refl (decode_all (take used s)) refl e
  where
    by : (t : Bool) → ltb (length s) used ≡ t → (o : Option (List Record)) → decode_all (take used s) ≡ o → count_answer (refuse_if t BadStore (or_refuse BadStore o)) ≡ Err cause
        → run L c s used ≡ kept_with L c s used cause
    by true q o p e = way_over L c s used a (ltb-true (length s) used q) ∙ ap (kept_with L c s used) (same_Err BadStore cause e)
    by false q None p e = way_unread L c s used a (ltb-false (length s) used q) (ap contents_of p) ∙ ap (kept_with L c s used) (same_Err BadStore cause e)
    by false q (Some b) p e = absurd (let z : ◌≡◌ {A = ℕ} 0 1 = cc in omega arith)

-- what a refused call answers and leaves
pub turned_back : {now : Left} {s : List ℕ} {used : ℕ} {cause : Refusal} → now ≡ record { bytes = s; used = used; answer = Err cause } → (Err cause ≡ written_in now) × (s ≡ now.bytes)
turned_back e = (sym (ap written_in e), sym (ap (λ (l : Left). l.bytes) e))

-- ---- one record of an identifier

lacks_find : (r : Record) (b : Book) → lacks b r ≡ true → find (ident_of r) b ≡ None
unfolding lacks same_ident
lacks_find r [] h = refl
lacks_find r (x ∷ b) h = by (same_id x r) refl h (lacks_find r b)
  where
    by : (t : Bool) → same_id x r ≡ t → not t && lacks b r ≡ true → (lacks b r ≡ true → find (ident_of r) b ≡ None) → find (ident_of r) (x ∷ b) ≡ None
    by true e h ih = absurd (let z : ◌≡◌ {A = ℕ} 0 1 = cc in omega arith)
    by false e h ih = ap (λ t. cond t (Some x) (find (ident_of r) b)) e ∙ ih h

-- none behind the first
behind : (front : Book) (r : Record) (back : Book) → distinct (front ++ (r ∷ back)) ≡ true → find (ident_of r) back ≡ None
unfolding distinct
behind [] r back h = lacks_find r back (and_parts (lacks back r) (distinct back) h).0
behind (x ∷ front) r back h = behind front r back (and_parts (lacks (front ++ (r ∷ back)) x) (distinct (front ++ (r ∷ back))) h).1

-- ---- the place of a record, and the record

pub record Standing (i : Ident) (at : ℕ) (b : Book) (p n : ℕ) : Type 0 where
  pub was : Record
  pub found : find i b ≡ Some was
  pub there : Stands i was b
  pub place_is : p ≡ at + records_size there.front
  pub size_is : n ≡ length (image.write was)

pub standing : (i : Ident) (at : ℕ) (b : Book) (p n : ℕ) → place_of (is_of i) at b ≡ Some (image_at p n) → Standing i at b p n
unfolding place_of write_all
standing i at [] p n h = absurd (let z : ◌≡◌ {A = ℕ} 0 1 = cc in omega arith)
standing i at (x ∷ b) p n h = by (is_of i x) refl h (standing i (at + length (image.write x)) b p n)
  where
    by : (t : Bool) → is_of i x ≡ t → cond t (Some (image_at at (length (image.write x)))) (place_of (is_of i) (at + length (image.write x)) b) ≡ Some (image_at p n)
        → (place_of (is_of i) (at + length (image.write x)) b ≡ Some (image_at p n) → Standing i (at + length (image.write x)) b p n) → Standing i at (x ∷ b) p n
    by true e h ih =
        let u : at ≡ p = cc in
        let v : length (image.write x) ≡ n = cc in
        record {
          was = x;
          found = ap (λ t. cond t (Some x) (find i b)) e;
          there = record { front = []; back = b; split = refl; first = refl; ident_is = ident_is (ident_of x) i e };
          place_is = omega (arith, u);
          size_is = sym v;
        }
    by false e h ih =
        let d = ih h in
        record {
          was = d.was;
          found = ap (λ t. cond t (Some x) (find i b)) e ∙ d.found;
          there = record {
            front = x ∷ d.there.front;
            back = d.there.back;
            split = ap (λ l. x ∷ l) d.there.split;
            first = ap (λ t. cond t (Some x) (find i d.there.front)) e ∙ d.there.first;
            ident_is = d.there.ident_is;
          };
          place_is = omega (arith, d.place_is, length-append (image.write x) (records_image d.there.front));
          size_is = d.size_is;
        }

pub absent : (i : Ident) (at : ℕ) (b : Book) → place_of (is_of i) at b ≡ None → find i b ≡ None
unfolding place_of
absent i at [] h = refl
absent i at (x ∷ b) h = by (is_of i x) refl h (absent i (at + length (image.write x)) b)
  where
    by : (t : Bool) → is_of i x ≡ t → cond t (Some (image_at at (length (image.write x)))) (place_of (is_of i) (at + length (image.write x)) b) ≡ None
        → (place_of (is_of i) (at + length (image.write x)) b ≡ None → find i b ≡ None) → find i (x ∷ b) ≡ None
    by true e h ih = absurd (let z : ◌≡◌ {A = ℕ} 0 1 = cc in omega arith)
    by false e h ih = ap (λ t. cond t (Some x) (find i b)) e ∙ ih h

-- ---- sizes

whole_size : (b front : Book) (r : Record) (back : Book) → b ≡ front ++ (r ∷ back) → records_size b ≡ records_size front + (length (image.write r) + records_size back)
unfolding write_all
whole_size b front r back e =
    ap records_size e ∙ (ap length (images_append front (r ∷ back)) ∙ (length-append (records_image front) (image.write r ++ records_image back) ∙ ap (λ (k : ℕ). records_size front + k) (length-append (image.write r) (records_image back))))

-- with n elements at a place replaced
pub spliced_length : (at n : ℕ) (new t : List ℕ) → at + n ≤ length t → length (spliced at n new t) ≡ length t - n + length new
spliced_length at n new t h = omega (arith, h, length-append (take at t) (new ++ drop (at + n) t), length-append new (drop (at + n) t), length-take-le at t (omega (arith, h)), length-drop (at + n) t)

-- ---- the removal

abbrev taken : Ident → Taken
taken i = record { change = only (others i); value = no_value }

reply_is : (c l r : List ℕ) (b : Book) → reply (getting c l r) b ≡ or_refuse NotFound (place_of (is_of (ident c l r)) first_place b)
unfolding reply
reply_is c l r b = refl

-- what a removal leaves
pub record Removes (now : Left) (s : List ℕ) (used at n : ℕ) : Type 0 where
  pub within : used ≤ length s
  pub inside : at + n ≤ used
  pub answer : Ok (used - n + 0) ≡ written_in now
  pub bytes : over (spliced at n [] (take used s)) s ≡ now.bytes

module _ (L : LimitSet) (m : ℕ) (c l r : List ℕ) (s : List ℕ) (used : ℕ) (hb : Bytes s) where
  abbrev gone : Call
  gone = removing m c l r

  abbrev looked : Result Value Refusal
  looked = (run L (read m (getting c l r)) s used).answer

  pub refuses : (cause : Refusal) → Err cause ≡ looked → run L gone s used ≡ kept_with L gone s used cause
  refuses cause e = by (ident_cause L (ident c l r)) refl (count_answer (records_held s used)) refl
    where
      same : (x : Refusal) → Err x ≡ looked → x ≡ cause
      same x w = let z : ◌≡◌ {A = Result Value Refusal} (Err x) (Err cause) = w ∙ sym e in cc

      on : (k : Kept s used) → ident_cause L (ident c l r) ≡ None → (o : Option Value) → place_of (is_of (ident c l r)) first_place k.contents.records ≡ o → run L gone s used ≡ kept_with L gone s used cause
      on k p None f =
          let z : NotFound ≡ cause = same NotFound (replies L m (getting c l r) s used hb (get_cause L c l r ∙ p) k (Err NotFound) (sym (reply_is c l r k.contents.records ∙ ap (or_refuse NotFound) f))) in
          subst (λ (y : Refusal). run L gone s used ≡ kept_with L gone s used y) z
          (way_judged L gone s used (remove_causes L m (ident c l r) ∙ p) k.within k.contents k.read NotFound (remove_unheld L m (ident c l r) k.contents.records (absent (ident c l r) first_place k.contents.records f)))
      on k p (Some v) f =
          let z : Ok v ≡ Err cause = replies L m (getting c l r) s used hb (get_cause L c l r ∙ p) k (Ok v) (sym (reply_is c l r k.contents.records ∙ ap (or_refuse NotFound) f)) ∙ sym e in
          absurd (let y : ◌≡◌ {A = ℕ} 0 1 = cc in omega arith)

      by : (o : Option Refusal) → ident_cause L (ident c l r) ≡ o → (a : Result ℕ Refusal) → count_answer (records_held s used) ≡ a → run L gone s used ≡ kept_with L gone s used cause
      by (Some x) p a w = way_arguments L gone s used cause (remove_causes L m (ident c l r) ∙ p ∙ ap Some (same x (arguments_refuse L m (getting c l r) s used hb (get_cause L c l r ∙ p))))
      by None p (Err x) w =
          let z : x ≡ cause = same x (store_refuses L m (getting c l r) s used hb (get_cause L c l r ∙ p) w) in
          subst (λ (y : Refusal). run L gone s used ≡ kept_with L gone s used y) z (unheld L gone s used (remove_causes L m (ident c l r) ∙ p) w)
      by None p (Ok x) w = let k = kept s used w in on k p (place_of (is_of (ident c l r)) first_place k.contents.records) refl

  module _ (at n : ℕ) (e : Ok (image_at at n) ≡ looked) where
    cut : (k : Kept s used) → ident_cause L (ident c l r) ≡ None → Standing (ident c l r) first_place k.contents.records at n → Removes (run L gone s used) s used at n
    unfolding write_all
    cut k p d =
        let i : Ident = ident c l r in
        let b : Book = k.contents.records in
        let g = images s used hb k in
        let none_behind : find i d.there.back ≡ None =
        subst (λ (j : Ident). find j d.there.back ≡ None) d.there.ident_is (behind d.there.front d.was d.there.back (ap distinct (sym d.there.split) ∙ g.one_each)) in
        let small : records_size (keep (others i) b) ≤ records_size b = kept_size (others i) b in
        let q : run L gone s used ≡ record { bytes = over (records_image (keep (others i) b)) s; used = records_size (keep (others i) b); answer = Ok no_value } =
        way_taken L gone s used (remove_causes L m i ∙ p) k.within k.contents k.read (taken i) (remove_held L m i b d.was d.found) (omega (arith, small, g.long, k.within)) in
        let x : records_image (keep (others i) b) ≡ spliced (records_size d.there.front) (length (image.write d.was)) [] (records_image b) = removed_bytes i d.was b d.there none_behind in
        let at-is : at ≡ records_size d.there.front = omega (arith, d.place_is) in
        let y : spliced at n [] (take used s) ≡ records_image (keep (others i) b) =
        ap (spliced at n []) g.are ∙ (ap₂ (λ (j w : ℕ). spliced j w [] (records_image b)) at-is d.size_is ∙ sym x) in
        let w : records_size b ≡ records_size d.there.front + (length (image.write d.was) + records_size d.there.back) = whole_size b d.there.front d.was d.there.back d.there.split in
        let ends : at + n ≤ used = omega (arith, w, g.long, d.place_is, d.size_is) in
        let len : used - n + 0 ≡ records_size (keep (others i) b) = omega (arith, sym (ap length y), spliced_length at n [] (take used s) (omega (arith, ends, length-take-le used s k.within)), length-take-le used s k.within) in
        record {
          within = k.within;
          inside = ends;
          answer = ap Ok len ∙ sym (ap written_in q);
          bytes = ap (λ (t : List ℕ). over t s) y ∙ sym (ap (λ (t : Left). t.bytes) q);
        }

    pub removes : Removes (run L gone s used) s used at n
    removes = by (ident_cause L (ident c l r)) refl (count_answer (records_held s used)) refl
      where
        on : (k : Kept s used) → ident_cause L (ident c l r) ≡ None → (o : Option Value) → place_of (is_of (ident c l r)) first_place k.contents.records ≡ o → Removes (run L gone s used) s used at n
        on k p None f =
            let z : Err NotFound ≡ Ok (image_at at n) = replies L m (getting c l r) s used hb (get_cause L c l r ∙ p) k (Err NotFound) (sym (reply_is c l r k.contents.records ∙ ap (or_refuse NotFound) f)) ∙ sym e in
            absurd (let y : ◌≡◌ {A = ℕ} 0 1 = cc in omega arith)
        on k p (Some v) f =
            let z : Ok v ≡ Ok (image_at at n) = replies L m (getting c l r) s used hb (get_cause L c l r ∙ p) k (Ok v) (sym (reply_is c l r k.contents.records ∙ ap (or_refuse NotFound) f)) ∙ sym e in
            let u : v ≡ image_at at n = cc in
            cut k p (standing (ident c l r) first_place k.contents.records at n (f ∙ ap Some u))

        by : (o : Option Refusal) → ident_cause L (ident c l r) ≡ o → (a : Result ℕ Refusal) → count_answer (records_held s used) ≡ a → Removes (run L gone s used) s used at n
        by (Some x) p a w =
            let z : Err x ≡ Ok (image_at at n) = arguments_refuse L m (getting c l r) s used hb (get_cause L c l r ∙ p) ∙ sym e in
            absurd (let y : ◌≡◌ {A = ℕ} 0 1 = cc in omega arith)
        by None p (Err x) w =
            let z : Err x ≡ Ok (image_at at n) = store_refuses L m (getting c l r) s used hb (get_cause L c l r ∙ p) w ∙ sym e in
            absurd (let y : ◌≡◌ {A = ℕ} 0 1 = cc in omega arith)
        by None p (Ok x) w = let k = kept s used w in on k p (place_of (is_of (ident c l r)) first_place k.contents.records) refl
