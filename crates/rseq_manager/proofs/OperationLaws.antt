-- What each call leaves, by the slot of its identifier: the entries changed, and the bytes that change with them. Assumes nothing.
use Prim.Native.Nat.{ℕ, ◌+◌, ◌-◌, ◌≤◌}
use native.Mathlib.Omega.{arith}
use mathlib.Core.Path.{◌≡◌, refl, sym, ap, ap₂, subst, ◌∙◌}
use mathlib.Core.Logic.{⊎_elim}
use mathlib.Core.Bool.{Bool, true, false}
use mathlib.Core.List.{List, [], ◌++◌, append_assoc}
use lib.ListN.{length, take, drop, length-append, length-drop, take-append-drop}
use lib.Seq.{length-take-le, drop-drop}
use lib.Dec.{ltb}
use borrow.Author.Tests.{ltb-true, ltb-false}
use Rattle.std.specs.Prelude.{Err, None, Ok, Result, Some}
use Rattle.limits.specs.Limits.{LimitSet}
use Rattle.limits.specs.Outcome.{cause_if, refuse_by, and_then, or_refuse}
use Rattle.limits.specs.declared.Refusal.{Refusal}
use Rattle.limits.specs.declared.Refusal.TheVariants.{BadStore, NotFound, NoRoom}
use Rattle.edit.specs.Edit.{over, put_at, spliced, tail_moved}
use Rattle.edit.proofs.EditLaws.{replace_law}
use Rattle.output.specs.Output.{fitted}
use Rattle.codec.specs.Codec.{text, four}
use Rattle.codec.proofs.CodecLaws.{Bytes, bytes_take, GoodAll}
use Rattle.ordered_store.specs.Entries.{Key, encode_entries, decode_entries, ascending, entry_of, set_entry, without_entry}
use Rattle.ordered_store.specs.Run.{Left}
use Rattle.ordered_store.proofs.BytesLaws.{decoded}
use Rattle.ordered_store.proofs.EntryLaws.{instead, Held, Free, held_at, free_at, held_entry, held_key, whole, at_front, held_parts, held_without, held_within, free_entry, free_without, free_set, free_within}
use Rattle.ordered_store.proofs.SlotLaws.{Unreadable}
use Rattle.ordered_store.proofs.RunLaws.{kept_with, way_arguments, way_over, way_unread, way_judged, way_full, way_taken}
use Rattle.dialog_id.specs.Ident.{Ident}
use Rattle.rseq_entries.specs.Entries.{key_of_ident, Entry, key_of, entry_form, WellFormed}
use Rattle.rseq_manager.specs.RSeq.{first_number, next_number, number_after, Action, next, current, remove, action_cause, deciding, numbered, judge, ran}
use Rattle.rseq_entries.proofs.FormLaws.{form_exact, entry_size_lem}
use Rattle.rseq_entries.proofs.SlotLaws.{Holds, Lacks}

-- ---- bytes

-- a piece put over bytes of the used ones
pub put_within : (s piece : List ℕ) (used at : ℕ) → at + length piece ≤ used → used ≤ length s → put_at at piece s ≡ over (spliced at (length piece) piece (take used s)) s
put_within s piece used at a b = ap (put_at at piece) (sym stays) ∙ replace_law s piece used at (length piece) a b (omega arith)
  where
    -- the bytes after it stay where they are
    stays : tail_moved used at (length piece) (length piece) s ≡ s
    stays =
        let k : ℕ = at + length piece in
        let t : List ℕ = take (used - k) (drop k s) in
        let l : length t ≡ used - k = length-take-le (used - k) (drop k s) (omega (arith, length-drop k s)) in
        ap (λ (n : ℕ). take k s ++ (t ++ drop (k + n) s)) l
        ∙ ap (λ (u : List ℕ). take k s ++ (t ++ u)) (sym (drop-drop (used - k) k s))
        ∙ ap (λ (u : List ℕ). take k s ++ u) (take-append-drop (used - k) (drop k s))
        ∙ take-append-drop k s

-- the used bytes over themselves
pub over_itself : (s : List ℕ) (used : ℕ) → used ≤ length s → over (take used s) s ≡ s
over_itself s used h = ap (λ (n : ℕ). take used s ++ drop n s) (length-take-le used s h) ∙ take-append-drop used s

-- the number of an entry in place of another's: four bytes change
new_number : (f x k : List ℕ) (n m : ℕ) → f ++ ((x ++ four.write m) ++ k) ≡ spliced (length f + length x) 4 (four.write m) (f ++ ((x ++ four.write n) ++ k))
new_number f x k n m =
    let together : (y : List ℕ) → f ++ ((x ++ y) ++ k) ≡ (f ++ x) ++ (y ++ k) = λ y. ap (λ (l : List ℕ). f ++ l) (append_assoc x y k) ∙ sym (append_assoc f x (y ++ k)) in
    together (four.write m) ∙ instead (f ++ x) (four.write n) k (four.write m)
    ∙ ap₂ (λ (i : ℕ) (l : List ℕ). spliced i 4 (four.write m) l) (length-append f x) (sym (together (four.write n)))

-- an entry's bytes: its texts, then its number
abbrev texts : Ident → List ℕ
texts i = text.write i.call_id ++ (text.write i.local_tag ++ text.write i.remote_tag)

texts_then : (i : Ident) (n : ℕ) → entry_form.write (numbered i n) ≡ texts i ++ four.write n
texts_then i n =
    let c : List ℕ = text.write i.call_id in
    let l : List ℕ = text.write i.local_tag in
    let r : List ℕ = text.write i.remote_tag in
    ap (λ (t : List ℕ). c ++ t) (sym (append_assoc l r (four.write n))) ∙ sym (append_assoc c (l ++ r) (four.write n))

-- identifiers of one key have the same texts
same_texts : (i j : Ident) → key_of_ident i ≡ key_of_ident j → texts i ≡ texts j
same_texts i j e =
    let c : i.call_id ≡ j.call_id = cc in
    let l : i.local_tag ≡ j.local_tag = cc in
    let r : i.remote_tag ≡ j.remote_tag = cc in
    rw (c, l, r)

-- ---- every call

-- what is left where the call is accepted, or refused
abbrev pub accepted : List ℕ → ℕ → ℕ → Left ℕ
accepted bytes used n = record { bytes = bytes; used = used; answer = Ok n }

module _ (L : LimitSet) (bytes : List ℕ) (used : ℕ) (a : Action) where
  pub by_arguments : {cause : Refusal} → action_cause L a ≡ Some cause → ran L a bytes used ≡ kept_with bytes used cause
  by_arguments {cause} e = way_arguments entry_form key_of (action_cause L a) (judge a) bytes used cause e

  module _ (clear : action_cause L a ≡ None) where
    -- 3
    pub by_store : (k : Key) → Unreadable entry_form key_of k bytes used → ran L a bytes used ≡ kept_with bytes used BadStore
    by_store k u =
        ⊎_elim (λ h. way_over entry_form key_of (action_cause L a) (judge a) bytes used clear h)
        (λ h. way_unread entry_form key_of (action_cause L a) (judge a) bytes used clear h.0 h.1) u

    -- the entries stay: so does every byte
    pub by_keeping : Bytes bytes → used ≤ length bytes → (es : List Entry) → decode_entries entry_form key_of (take used bytes) ≡ Some es → (n : ℕ) → judge a es ≡ deciding es n
        → ran L a bytes used ≡ accepted bytes used n
    by_keeping b h es r n j =
        let d = decoded entry_form key_of WellFormed form_exact (take used bytes) es (bytes_take used bytes b) r in
        let e : encode_entries entry_form es ≡ take used bytes = sym d.0 in
        let l : length (encode_entries entry_form es) ≡ used = ap length e ∙ length-take-le used bytes h in
        way_taken entry_form key_of (action_cause L a) (judge a) bytes used clear h es r (record { entries = es; answer = Ok n }) j (omega (arith, l))
        ∙ ap₂ (λ (x : List ℕ) (m : ℕ). record { bytes = x; used = m; answer = Ok n }) (ap (λ (t : List ℕ). over t bytes) e ∙ over_itself bytes used h) l

-- ---- what was found

module _ (bytes : List ℕ) (used : ℕ) (b : Bytes bytes) (id : Ident) where
  abbrev k : Key
  k = key_of_ident id

  module _ {at number end : ℕ} (w : Holds k bytes used at number end) where
    h : Held entry_form key_of k 0 at w.entry w.among.list
    h = held_at entry_form key_of k w.among.list w.among.slot_is

    were : encode_entries entry_form w.among.list ≡ take used bytes
    were = sym (decoded entry_form key_of WellFormed form_exact (take used bytes) w.among.list (bytes_take used bytes b) w.among.are).0

    size : length (encode_entries entry_form w.among.list) ≡ used
    size = ap length were ∙ length-take-le used bytes w.among.within

    found : entry_of key_of k w.among.list ≡ Some w.entry
    found = held_entry entry_form key_of k w.among.list at w.entry h

    -- the entry lies in the used bytes
    pub end_within : end ≤ used
    end_within = omega (arith, w.end_is, held_within entry_form key_of k w.among.list at w.entry h, size)

    pub number_within : at + 10 ≤ end
    number_within = omega (arith, w.end_is, entry_size_lem w.entry)

    module _ (L : LimitSet) where
      pub current_held : action_cause L (current id) ≡ None → ran L (current id) bytes used ≡ accepted bytes used number
      unfolding judge
      current_held clear =
          by_keeping L bytes used (current id) clear b w.among.within w.among.list w.among.are number
          (ap (λ o. and_then (or_refuse NotFound o) (λ e. deciding w.among.list e.number)) found ∙ ap (deciding w.among.list) (sym w.number_is))

      pub remove_held : action_cause L (remove id) ≡ None
          → ran L (remove id) bytes used ≡ accepted (over (spliced at (end - at) [] (take used bytes)) bytes) (used - (end - at) + 0) 0
      unfolding judge
      remove_held clear =
          let n : end - at ≡ length (entry_form.write w.entry) = omega (arith, w.end_is) in
          let new : encode_entries entry_form (without_entry key_of k w.among.list) ≡ spliced at (end - at) [] (take used bytes) =
          held_without entry_form key_of k w.among.list at w.entry h ∙ ap₂ (λ (m : ℕ) (t : List ℕ). spliced at m [] t) (sym n) were in
          let l : length (encode_entries entry_form (without_entry key_of k w.among.list)) ≡ used - (end - at) + 0 = ap length new ∙ cut_length_lem in
          way_taken entry_form key_of (action_cause L (remove id)) (judge (remove id)) bytes used clear w.among.within w.among.list w.among.are (record { entries = without_entry key_of k w.among.list; answer = Ok 0 }) refl (omega (arith, l, w.among.within))
          ∙ ap₂ (λ (x : List ℕ) (m : ℕ). accepted x m 0) (ap (λ (t : List ℕ). over t bytes) new) l
        where
          cut_length_lem : length (spliced at (end - at) [] (take used bytes)) ≡ used - (end - at) + 0
          cut_length_lem =
              omega (arith, length-append (take at (take used bytes)) (drop (at + (end - at)) (take used bytes)), length-take-le used bytes w.among.within, length-take-le at (take used bytes) (omega (arith, length-take-le used bytes w.among.within, end_within, number_within)), length-drop (at + (end - at)) (take used bytes), end_within, number_within)

      pub next_held : (n : ℕ) → action_cause L (next id n) ≡ None → ran L (next id n) bytes used ≡ accepted (put_at (end - 4) (four.write (next_number number)) bytes) used (next_number number)
      unfolding judge
      next_held n clear =
          let m : ℕ = next_number number in
          let e : Entry = w.entry in
          let front : List ℕ = encode_entries entry_form h.front in
          let back : List ℕ = encode_entries entry_form h.back in
          let j : judge (next id n) w.among.list ≡ deciding (set_entry key_of (numbered id m) w.among.list) m =
          ap (λ o. deciding (set_entry key_of (numbered id (number_after n o)) w.among.list) (number_after n o)) found
          ∙ ap (λ (q : ℕ). deciding (set_entry key_of (numbered id (next_number q)) w.among.list) (next_number q)) (sym w.number_is) in
          let same : texts id ≡ texts e.id = same_texts id e.id (sym (held_key entry_form key_of k w.among.list at e h)) in
          let old : take used bytes ≡ front ++ ((texts e.id ++ four.write e.number) ++ back) =
          sym were ∙ whole entry_form key_of k w.among.list at e h ∙ ap (λ (t : List ℕ). front ++ (t ++ back)) (texts_then e.id e.number) in
          let place : length front + length (texts e.id) ≡ end - 4 =
          omega (arith, at_front entry_form key_of k w.among.list at e h, w.end_is, ap length (texts_then e.id e.number), length-append (texts e.id) (four.write e.number)) in
          let new : encode_entries entry_form (set_entry key_of (numbered id m) w.among.list) ≡ spliced (end - 4) 4 (four.write m) (take used bytes) =
          held_parts entry_form key_of k w.among.list at e h (numbered id m) refl
          ∙ ap (λ (t : List ℕ). front ++ (t ++ back)) (texts_then id m ∙ ap (λ (t : List ℕ). t ++ four.write m) same)
          ∙ new_number front (texts e.id) back e.number m
          ∙ ap₂ (λ (i : ℕ) (t : List ℕ). spliced i 4 (four.write m) t) place (sym old) in
          let l : length (encode_entries entry_form (set_entry key_of (numbered id m) w.among.list)) ≡ used = ap length new ∙ stays_long m in
          way_taken entry_form key_of (action_cause L (next id n)) (judge (next id n)) bytes used clear w.among.within w.among.list w.among.are (record { entries = set_entry key_of (numbered id m) w.among.list; answer = Ok m }) j (omega (arith, l, w.among.within))
          ∙ ap₂ (λ (x : List ℕ) (q : ℕ). accepted x q m) (ap (λ (t : List ℕ). over t bytes) new ∙ sym (put_within bytes (four.write m) used (end - 4) (omega (arith, end_within, number_within)) w.among.within)) l
        where
          stays_long : (m : ℕ) → length (spliced (end - 4) 4 (four.write m) (take used bytes)) ≡ used
          stays_long m =
              omega (arith, length-append (take (end - 4) (take used bytes)) (four.write m ++ drop (end - 4 + 4) (take used bytes)), length-append (four.write m) (drop (end - 4 + 4) (take used bytes)), length-take-le used bytes w.among.within, length-take-le (end - 4) (take used bytes) (omega (arith, length-take-le used bytes w.among.within, end_within, number_within)), length-drop (end - 4 + 4) (take used bytes), end_within, number_within)

  module _ {at : ℕ} (w : Lacks k bytes used at) where
    f : Free entry_form key_of k 0 at w.list
    f = free_at entry_form key_of k w.list w.slot_is

    read : (take used bytes ≡ encode_entries entry_form w.list) × GoodAll WellFormed w.list × (ascending key_of w.list ≡ true)
    read = decoded entry_form key_of WellFormed form_exact (take used bytes) w.list (bytes_take used bytes b) w.are

    -- its place lies in the used bytes
    pub place_within : at ≤ used
    place_within = omega (arith, free_within entry_form key_of k w.list at f read.2, ap length read.0, length-take-le used bytes w.within)

    module _ (L : LimitSet) where
      pub current_free : action_cause L (current id) ≡ None → ran L (current id) bytes used ≡ kept_with bytes used NotFound
      unfolding judge
      current_free clear =
          way_judged entry_form key_of (action_cause L (current id)) (judge (current id)) bytes used clear w.within w.list w.are NotFound
          (ap (λ o. and_then (or_refuse NotFound o) (λ e. deciding w.list e.number)) (free_entry entry_form key_of k w.list at f read.2))

      pub remove_free : action_cause L (remove id) ≡ None → ran L (remove id) bytes used ≡ accepted bytes used 0
      unfolding judge
      remove_free clear =
          by_keeping L bytes used (remove id) clear b w.within w.list w.are 0
          (ap (λ es. deciding es 0) (free_without entry_form key_of k w.list at f read.2))

      -- what is left by a new entry, where it fits and where it doesn't
      abbrev pub left_by : ℕ → Result (List ℕ) Refusal → Left ℕ
      left_by m (Err cause) = kept_with bytes used cause
      left_by m (Ok s) = accepted (over s bytes) (length s) m

      pub next_free : (n : ℕ) → action_cause L (next id n) ≡ None
          → ran L (next id n) bytes used ≡ left_by (first_number n) (fitted (length bytes) (spliced at 0 (entry_form.write (numbered id (first_number n))) (take used bytes)))
      unfolding judge
      next_free n clear = subst (λ (t : List ℕ). ran L (next id n) bytes used ≡ left_by (first_number n) (fitted (length bytes) t)) new (by (ltb (length bytes) (length (encode_entries entry_form (set_entry key_of a w.list)))) refl)
        where
          a : Entry
          a = numbered id (first_number n)

          new : encode_entries entry_form (set_entry key_of a w.list) ≡ spliced at 0 (entry_form.write a) (take used bytes)
          new = free_set entry_form key_of k w.list at f read.2 a refl ∙ ap (λ (t : List ℕ). spliced at 0 (entry_form.write a) t) (sym read.0)

          j : judge (next id n) w.list ≡ deciding (set_entry key_of a w.list) (first_number n)
          j = ap (λ o. deciding (set_entry key_of (numbered id (number_after n o)) w.list) (number_after n o)) (free_entry entry_form key_of k w.list at f read.2)

          by : (t : Bool) → ltb (length bytes) (length (encode_entries entry_form (set_entry key_of a w.list))) ≡ t
              → ran L (next id n) bytes used ≡ left_by (first_number n) (refuse_by (cause_if t NoRoom) (Ok (encode_entries entry_form (set_entry key_of a w.list))))
          by true t = way_full entry_form key_of (action_cause L (next id n)) (judge (next id n)) bytes used clear w.within w.list w.are (record { entries = set_entry key_of a w.list; answer = Ok (first_number n) }) j (ltb-true (length bytes) (length (encode_entries entry_form (set_entry key_of a w.list))) t)
          by false t = way_taken entry_form key_of (action_cause L (next id n)) (judge (next id n)) bytes used clear w.within w.list w.are (record { entries = set_entry key_of a w.list; answer = Ok (first_number n) }) j (ltb-false (length bytes) (length (encode_entries entry_form (set_entry key_of a w.list))) t)
