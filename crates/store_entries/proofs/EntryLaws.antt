-- An update of one held record in its place: the step on the record that stands at its place is what `run` makes of the store. Assumes nothing.
use Prim.Native.Nat.{ℕ, ◌+◌, ◌≤◌}
use native.Mathlib.Omega.{arith}
use mathlib.Core.Path.{◌≡◌, refl, sym, ap, subst, ◌∙◌}
use mathlib.Core.Logic.{◌≢◌}
use mathlib.Core.Bool.{Bool, true, false, cond}
use mathlib.Core.List.{List, [], ◌∷◌}
use lib.ListN.{length, take, length-append}
use lib.Dec.{ltb}
use borrow.Author.Tests.{ltb-false, ltb-true}
use Rattle.std.proofs.lemmas.Option.{same_Some}
use Rattle.std.specs.Prelude.{Err, None, Ok, Option, Result, Some}
use Rattle.limits.specs.Limits.{LimitSet, rust_limits}
use Rattle.limits.specs.Outcome.{cause_if, refuse_by, refuse_if, and_then, or_refuse}
use Rattle.limits.specs.declared.Refusal.{Refusal}
use Rattle.limits.specs.declared.Refusal.TheVariants.{BadStore, NotFound, NoRoom}
use Rattle.edit.specs.Edit.{over, spliced}
use Rattle.output.specs.Output.{fitted, leaves, written_from}
use Rattle.codec.specs.Codec.{write_all}
use Rattle.record.specs.Record.{Record, image}
use Rattle.codec.proofs.CodecLaws.{Bytes, bytes_take}
use Rattle.record.proofs.StoreLaws.{decoded}
use Rattle.image.specs.Places.{record_places}
use Rattle.image_edit.specs.declared.RecordPlace.{RecordPlace}
use Rattle.store_steps.specs.AtPlace.{stepped_by, stepped}
use Rattle.dialog_id.specs.Ident.{Ident}
use Rattle.book.specs.Calls.{Update, update, Call, Value, no_value}
use Rattle.record.specs.Store.{decode_all}
use Rattle.book.specs.Book.{Book, contents_of, records_image, records_size, ident_of, is_of, name_of, find, find_named, first_place, amend, alter, update_cause, argument_cause, revised, told_by, judge}
use Rattle.book.specs.Store.{Left}
use Rattle.book.specs.History.{Permitted}
use Rattle.book.proofs.IdentLaws.{id_cases, same_ident_lem, other_ident}
use Rattle.book.proofs.BookLaws.{find_here, find_there}
use Rattle.book.proofs.UpdateLaws.{revises}
use Rattle.book.proofs.SpliceLaws.{Stands, amend_bytes}
use Rattle.book.proofs.JudgeLaws.{update_causes, update_unheld, update_held}
use Rattle.book.proofs.WayLaws.{kept_with, way_arguments, way_over, way_unread, way_judged, way_full, way_taken}
use Rattle.dialog_manager.specs.Search.{Spot, first}
use Rattle.dialog_manager.proofs.SearchLaws.{Reads, spot_reads}
use Rattle.dialog_manager.specs.Answers.{written_in}
use Rattle.store_entries.specs.Entries.{updating, used_after, spot_in, spot_named, standing_of}

pub permitted : Permitted rust_limits
permitted = record { text = omega arith; routes = omega arith; seconds = omega arith }

-- ---- the first record of an identifier is the one that the book finds

first_here : (i : Ident) (at : ℕ) (r : Record) (b : Book) → ident_of r ≡ i → first (is_of i) at (r ∷ b) ≡ Some (record { place = at; value = r })
unfolding first
first_here i at r b e = ap (λ (t : Bool). cond t (Some (record { place = at; value = r })) (first (is_of i) (at + length (image.write r)) b)) (same_ident_lem (ident_of r) i e)

first_there : (i : Ident) (at : ℕ) (r : Record) (b : Book) → ident_of r ≢ i → first (is_of i) at (r ∷ b) ≡ first (is_of i) (at + length (image.write r)) b
unfolding first
first_there i at r b n = ap (λ (t : Bool). cond t (Some (record { place = at; value = r })) (first (is_of i) (at + length (image.write r)) b)) (other_ident (ident_of r) i n)

first_none : (i : Ident) (at : ℕ) (b : Book) → first (is_of i) at b ≡ None → find i b ≡ None
first_none i at [] h = refl
first_none i at (r ∷ b) h =
    id_cases i r
    (λ e. absurd (let z : Some (record { place = at; value = r }) ≡ None = sym (first_here i at r b e) ∙ h in let y : ◌≡◌ {A = ℕ} 0 1 = cc in omega arith))
    (λ n. find_there i r b n ∙ first_none i (at + length (image.write r)) b (sym (first_there i at r b n) ∙ h))

-- where it stands, and that its place is the length of what is in front
pub record Placed (i : Ident) (at : ℕ) (b : Book) (x : Spot) : Type 0 where
  pub finds : find i b ≡ Some x.value
  pub stands : Stands i x.value b
  pub place_is : x.place ≡ at + records_size stands.front

placed : (i : Ident) (at : ℕ) (b : Book) (x : Spot) → first (is_of i) at b ≡ Some x → Placed i at b x
unfolding first write_all
placed i at [] x h = absurd (let y : ◌≡◌ {A = ℕ} 0 1 = cc in omega arith)
placed i at (r ∷ b) x h =
    id_cases i r
    (λ e. let k : record { place = at; value = r } ≡ x = same_Some _ _ (sym (first_here i at r b e) ∙ h) in
    subst (Placed i at (r ∷ b)) k (front e))
    (λ n. deeper n (placed i (at + length (image.write r)) b x (sym (first_there i at r b n) ∙ h)))
  where
    front : ident_of r ≡ i → Placed i at (r ∷ b) (record { place = at; value = r })
    front e = record {
      finds = find_here i r b e;
      stands = record { front = []; back = b; split = refl; first = refl; ident_is = e };
      place_is = omega arith;
    }

    deeper : ident_of r ≢ i → Placed i (at + length (image.write r)) b x → Placed i at (r ∷ b) x
    deeper n p =
        let s = p.stands in
        record {
          finds = find_there i r b n ∙ p.finds;
          stands = record { front = r ∷ s.front; back = s.back; split = ap (λ l. r ∷ l) s.split; first = find_there i r s.front n ∙ s.first; ident_is = s.ident_is };
          place_is = omega (arith, p.place_is, length-append (image.write r) (records_image s.front));
        }

-- ---- what the reading of a lent store says

pub record Met (i : Ident) (bytes : List ℕ) (used : ℕ) (x : Spot) : Type 0 where
  pub records : Book
  pub within : used ≤ length bytes
  pub are : decode_all (take used bytes) ≡ Some records
  pub is : first (is_of i) first_place records ≡ Some x

met : (i : Ident) (bytes : List ℕ) (used : ℕ) (x : Spot) → spot_in i bytes used ≡ Ok x → Met i bytes used x
unfolding spot_in
met i bytes used x e = by (ltb (length bytes) used) refl (decode_all (take used bytes)) refl e
  where
    last : (b : Book) → ltb (length bytes) used ≡ false → decode_all (take used bytes) ≡ Some b → (o : Option Spot) → first (is_of i) first_place b ≡ o → or_refuse NotFound o ≡ Ok x → Met i bytes used x
    last b t r None q e = absurd (let y : ◌≡◌ {A = ℕ} 0 1 = cc in omega arith)
    last b t r (Some z) q e = record { records = b; within = ltb-false (length bytes) used t; are = r; is = let k : z ≡ x = cc in q ∙ ap Some k }

    by : (t : Bool) → ltb (length bytes) used ≡ t → (o : Option Book) → decode_all (take used bytes) ≡ o
        → refuse_if t BadStore (and_then (or_refuse BadStore o) (λ b. or_refuse NotFound (first (is_of i) first_place b))) ≡ Ok x → Met i bytes used x
    by true q o r e = absurd (let y : ◌≡◌ {A = ℕ} 0 1 = cc in omega arith)
    by false q None r e = absurd (let y : ◌≡◌ {A = ℕ} 0 1 = cc in omega arith)
    by false q (Some b) r e = last b q r (first (is_of i) first_place b) refl e

-- ---- an update

module _ (L : LimitSet) (p : Permitted L) (u : Update) (bytes : List ℕ) (used : ℕ) where
  -- the answer, the lent bytes and the used length are those of `run`
  abbrev pub Done : Result ℕ Refusal → List ℕ → Type 0
  Done r after = (r ≡ written_in (updating L u bytes used)) × ((after ≡ (updating L u bytes used).bytes) × (used_after r used ≡ (updating L u bytes used).used))

  abbrev DoneBy : Result ℕ Refusal → List ℕ → Left → Type 0
  DoneBy r after l = (r ≡ written_in l) × ((after ≡ l.bytes) × (used_after r used ≡ l.used))

  abbrev the_call : Call
  the_call = update (length bytes) u

  -- what is left where the used bytes became others, or the step was refused; the value is told beside them
  abbrev pub left_by : Result (List ℕ) Refusal → Value → Left
  left_by (Err cause) v = kept_with L the_call bytes used cause
  left_by (Ok s) v = record { bytes = over s bytes; used = length s; answer = Ok v }

  -- the value that a step tells
  abbrev pub told : Result Record Refusal → Value
  told (Err cause) = no_value
  told (Ok now) = told_by u now

  -- the record that stood at its place, and what its step leaves
  pub record Changed (q : RecordPlace) : Type 0 where
    pub value : Record
    pub placed : q.record ≡ record_places q.at value
    pub left : updating L u bytes used ≡ left_by (stepped (revised L u) (length bytes) q.at (take q.used bytes)) (told (revised L u value))

  -- what is left, read as the answer of a call that tells no value
  left_done : (o : Result (List ℕ) Refusal) (v : Value) → updating L u bytes used ≡ left_by o v → Done (written_from o) (leaves o bytes)
  left_done o v e = subst (DoneBy (written_from o) (leaves o bytes)) (sym e) (by o)
    where
      by : (o : Result (List ℕ) Refusal) → DoneBy (written_from o) (leaves o bytes) (left_by o v)
      by (Err cause) = (refl, (refl, refl))
      by (Ok s) = (refl, (refl, refl))

  refused_done : (cause : Refusal) → updating L u bytes used ≡ kept_with L the_call bytes used cause → Done (Err cause) bytes
  refused_done cause e = left_done (Err cause) no_value e

  pub arguments_done : {cause : Refusal} → update_cause L u ≡ Some cause → Done (Err cause) bytes
  arguments_done {cause} e = refused_done cause (way_arguments L the_call bytes used cause (update_causes L (length bytes) u ∙ e))

  module _ (a : update_cause L u ≡ None) where
    clear : argument_cause L the_call ≡ None
    clear = update_causes L (length bytes) u ∙ a

    -- no identifier is named: 3, 15
    pub unnamed : name_of u ≡ None → {cause : Refusal} → spot_named None bytes used ≡ Err cause → Done (Err cause) bytes
    unnamed named {cause} e = by (ltb (length bytes) used) refl (decode_all (take used bytes)) refl e
      where
        called : {one : Refusal} → ◌≡◌ {A = Result Spot Refusal} (Err one) (Err cause) → Done (Err one) bytes → Done (Err cause) bytes
        called {one} q d = let k : one ≡ cause = cc in subst (λ (y : Refusal). Done (Err y) bytes) k d

        by : (t : Bool) → ltb (length bytes) used ≡ t → (o : Option Book) → decode_all (take used bytes) ≡ o
            → ◌≡◌ {A = Result Spot Refusal} (refuse_if t BadStore (and_then (or_refuse BadStore o) (λ b. Err NotFound))) (Err cause) → Done (Err cause) bytes
        by true q o r e = called e (refused_done BadStore (way_over L the_call bytes used clear (ltb-true (length bytes) used q)))
        by false q None r e = called e (refused_done BadStore (way_unread L the_call bytes used clear (ltb-false (length bytes) used q) (ap contents_of r)))
        by false q (Some b) r e =
            called e (refused_done NotFound (way_judged L the_call bytes used clear (ltb-false (length bytes) used q) (record { records = b }) (ap contents_of r) NotFound
            (update_unheld L (length bytes) u b (ap (λ (o : Option Ident). find_named o b) named))))

    module _ (i : Ident) (named : name_of u ≡ Some i) where
      pub turned : {cause : Refusal} → spot_in i bytes used ≡ Err cause → Done (Err cause) bytes
      unfolding spot_in
      turned {cause} e = by (ltb (length bytes) used) refl (decode_all (take used bytes)) refl e
        where
          named_as : {one : Refusal} → ◌≡◌ {A = Result Spot Refusal} (Err one) (Err cause) → Done (Err one) bytes → Done (Err cause) bytes
          named_as {one} q d = let k : one ≡ cause = cc in subst (λ (y : Refusal). Done (Err y) bytes) k d

          last : (b : Book) → ltb (length bytes) used ≡ false → decode_all (take used bytes) ≡ Some b → (o : Option Spot) → first (is_of i) first_place b ≡ o → or_refuse NotFound o ≡ Err cause → Done (Err cause) bytes
          last b t r None q e =
              named_as e (refused_done NotFound (way_judged L the_call bytes used clear (ltb-false (length bytes) used t) (record { records = b }) (ap contents_of r) NotFound
              (update_unheld L (length bytes) u b (ap (λ (o : Option Ident). find_named o b) named ∙ first_none i first_place b q))))
          last b t r (Some z) q e = absurd (let y : ◌≡◌ {A = ℕ} 0 1 = cc in omega arith)

          by : (t : Bool) → ltb (length bytes) used ≡ t → (o : Option Book) → decode_all (take used bytes) ≡ o
              → refuse_if t BadStore (and_then (or_refuse BadStore o) (λ b. or_refuse NotFound (first (is_of i) first_place b))) ≡ Err cause → Done (Err cause) bytes
          by true q o r e = named_as e (refused_done BadStore (way_over L the_call bytes used clear (ltb-true (length bytes) used q)))
          by false q None r e = named_as e (refused_done BadStore (way_unread L the_call bytes used clear (ltb-false (length bytes) used q) (ap contents_of r)))
          by false q (Some b) r e = last b q r (first (is_of i) first_place b) refl e

      module _ (h : Bytes bytes) (x : Spot) (m : Met i bytes used x) where
        pl : Placed i 0 m.records x
        pl = placed i 0 m.records x m.is

        image_is : take used bytes ≡ records_image m.records
        image_is = (decoded (take used bytes) m.records (bytes_take used bytes h) m.are).0

        reads : Reads (take used bytes) x
        reads = spot_reads (is_of i) (take used bytes) (record { records = m.records; are = m.are }) x (bytes_take used bytes h) m.is

        stepped_is : stepped (revised L u) (length bytes) x.place (take used bytes)
            ≡ and_then (revised L u x.value) (λ v. fitted (length bytes) (spliced x.place (length (image.write x.value)) (image.write v) (take used bytes)))
        unfolding stepped
        stepped_is = ap (stepped_by (revised L u) (length bytes) x.place (take used bytes)) reads.reads

        found : find_named (name_of u) m.records ≡ Some x.value
        found = ap (λ (o : Option Ident). find_named o m.records) named ∙ pl.finds

        amended : (now : Record) → revised L u x.value ≡ Ok now
            → spliced x.place (length (image.write x.value)) (image.write now) (take used bytes) ≡ records_image (amend now m.records)
        amended now e =
            let k : ident_of now ≡ i = (revises L p u x.value now e).same ∙ pl.stands.ident_is in
            let q : x.place ≡ records_size pl.stands.front = omega (arith, pl.place_is) in
            ap (λ (n : ℕ). spliced n (length (image.write x.value)) (image.write now) (take used bytes)) q
            ∙ ap (λ (t : List ℕ). spliced (records_size pl.stands.front) (length (image.write x.value)) (image.write now) t) image_is
            ∙ sym (amend_bytes i x.value m.records pl.stands now k)

        -- an accepted step: 18, or the store with the changed record
        taken : (now : Record) → revised L u x.value ≡ Ok now → updating L u bytes used ≡ left_by (fitted (length bytes) (records_image (amend now m.records))) (told_by u now)
        taken now e = by (ltb (length bytes) (records_size (amend now m.records))) refl
          where
            j : judge L the_call m.records ≡ Ok (record { change = alter now; value = told_by u now })
            j = update_held L (length bytes) u m.records x.value found ∙ ap (λ (o : Result Record Refusal). and_then o (λ y. Ok (record { change = alter y; value = told_by u y }))) e

            by : (f : Bool) → ltb (length bytes) (records_size (amend now m.records)) ≡ f → updating L u bytes used ≡ left_by (refuse_by (cause_if f NoRoom) (Ok (records_image (amend now m.records)))) (told_by u now)
            by true f = way_full L the_call bytes used clear m.within (record { records = m.records }) (ap contents_of m.are) (record { change = alter now; value = told_by u now }) j (ltb-true (length bytes) (records_size (amend now m.records)) f)
            by false f = way_taken L the_call bytes used clear m.within (record { records = m.records }) (ap contents_of m.are) (record { change = alter now; value = told_by u now }) j (ltb-false (length bytes) (records_size (amend now m.records)) f)

        -- the step at its place leaves what `run` leaves, and answers the changed record's value
        after_step : updating L u bytes used ≡ left_by (stepped (revised L u) (length bytes) x.place (take used bytes)) (told (revised L u x.value))
        after_step = subst (λ (o : Result (List ℕ) Refusal). updating L u bytes used ≡ left_by o (told (revised L u x.value))) (sym stepped_is) (by (revised L u x.value) refl)
          where
            by : (o : Result Record Refusal) → revised L u x.value ≡ o
                → updating L u bytes used ≡ left_by (and_then o (λ v. fitted (length bytes) (spliced x.place (length (image.write x.value)) (image.write v) (take used bytes)))) (told o)
            by (Err cause) e =
                way_judged L the_call bytes used clear m.within (record { records = m.records }) (ap contents_of m.are) cause
                (update_held L (length bytes) u m.records x.value found ∙ ap (λ (o : Result Record Refusal). and_then o (λ y. Ok (record { change = alter y; value = told_by u y }))) e)
            by (Ok now) e = subst (λ (l : List ℕ). updating L u bytes used ≡ left_by (fitted (length bytes) l) (told_by u now)) (sym (amended now e)) (taken now e)

      -- what is left where a record was found
      pub step_left : Bytes bytes → (q : RecordPlace) → Ok q ≡ standing_of used (spot_in i bytes used) → Changed q
      step_left h q e = by (spot_in i bytes used) refl e
        where
          by : (o : Result Spot Refusal) → spot_in i bytes used ≡ o → Ok q ≡ standing_of used o → Changed q
          by (Err cause) f e = absurd (let y : ◌≡◌ {A = ℕ} 0 1 = cc in omega arith)
          by (Ok x) f e =
              let k : record { used = used; at = x.place; «record» = record_places x.place x.value } ≡ q = cc in
              subst Changed k (record { value = x.value; placed = refl; left = after_step h x (met i bytes used x f) })

      -- the step on the record that was found
      pub step_done : Bytes bytes → (q : RecordPlace) → Ok q ≡ standing_of used (spot_in i bytes used) → (r : Result ℕ Refusal) (after : List ℕ)
          → (r ≡ written_from (stepped (revised L u) (length bytes) q.at (take q.used bytes))) × (after ≡ leaves (stepped (revised L u) (length bytes) q.at (take q.used bytes)) bytes) → Done r after
      step_done h q e r after w =
          let l = step_left h q e in
          let d = left_done (stepped (revised L u) (length bytes) q.at (take q.used bytes)) (told (revised L u l.value)) l.left in
          (w.0 ∙ d.0, (w.1 ∙ d.1.0, ap (λ (y : Result ℕ Refusal). used_after y used) w.0 ∙ d.1.1))

-- nothing was found
pub not_standing : (i : Ident) (bytes : List ℕ) (used : ℕ) {cause : Refusal} → Err cause ≡ standing_of used (spot_in i bytes used) → spot_in i bytes used ≡ Err cause
not_standing i bytes used {cause} e = by (spot_in i bytes used) e
  where
    by : (o : Result Spot Refusal) → Err cause ≡ standing_of used o → o ≡ Err cause
    by (Err one) e = let k : one ≡ cause = cc in ap Err k
    by (Ok x) e = absurd (let y : ◌≡◌ {A = ℕ} 0 1 = cc in omega arith)

-- where no identifier is named, nothing is found
pub never_at : {X : Type 0} (bytes : List ℕ) (used : ℕ) {q : RecordPlace} → Ok q ≡ standing_of used (spot_named None bytes used) → X
never_at {X} bytes used {q} e = by (ltb (length bytes) used) (decode_all (take used bytes)) e
  where
    by : (t : Bool) (o : Option Book) → Ok q ≡ standing_of used (refuse_if t BadStore (and_then (or_refuse BadStore o) (λ b. Err NotFound))) → X
    by true o e = absurd (let y : ◌≡◌ {A = ℕ} 0 1 = cc in omega arith)
    by false None e = absurd (let y : ◌≡◌ {A = ℕ} 0 1 = cc in omega arith)
    by false (Some b) e = absurd (let y : ◌≡◌ {A = ℕ} 0 1 = cc in omega arith)

pub not_named : (o : Option Ident) (bytes : List ℕ) (used : ℕ) {cause : Refusal} → Err cause ≡ standing_of used (spot_named o bytes used) → spot_named o bytes used ≡ Err cause
not_named o bytes used {cause} e = by (spot_named o bytes used) e
  where
    by : (s : Result Spot Refusal) → Err cause ≡ standing_of used s → s ≡ Err cause
    by (Err one) e = let k : one ≡ cause = cc in ap Err k
    by (Ok x) e = absurd (let y : ◌≡◌ {A = ℕ} 0 1 = cc in omega arith)
