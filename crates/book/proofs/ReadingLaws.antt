-- A reading on the lent bytes: it keeps all, and its answer is `reply`. And what the value of an accepted call is, where only one kind of value is
-- answered. Assumes nothing.
use Prim.Native.Nat.{ℕ, ◌≤◌}
use native.Mathlib.Omega.{arith}
use mathlib.Core.Path.{◌≡◌, refl, sym, ap, ap₂, subst, ◌∙◌}
use mathlib.Core.Bool.{Bool, true, false}
use mathlib.Core.List.{List, ◌++◌}
use lib.ListN.{length, take, drop, take-append-drop}
use lib.Seq.{length-take-le}
use lib.Dec.{ltb}
use borrow.Author.Tests.{ltb-true, ltb-false}
use Rattle.std.specs.Prelude.{Err, None, Ok, Option, Some}
use Rattle.limits.specs.Limits.{LimitSet}
use Rattle.limits.specs.Outcome.{refuse_by, refuse_if, and_then, or_refuse}
use Rattle.limits.specs.declared.Refusal.{Refusal}
use Rattle.limits.specs.declared.Refusal.TheVariants.{BadStore}
use Rattle.output.specs.Output.{fitted}
use Rattle.edit.specs.Edit.{over}
use Rattle.record.specs.Record.{Record}
use Rattle.record.specs.Store.{decode_all}
use Rattle.codec.proofs.CodecLaws.{Bytes, bytes_take}
use Rattle.record.proofs.StoreLaws.{decoded}
use Rattle.dialog_id.specs.Ident.{Ident}
use Rattle.dialog_rules.specs.Updates.{local_update}
use Rattle.dialog_rules.proofs.StepLaws.{given_same, never_given}
use Rattle.dialog_rules.proofs.RefusalLaws.{both_given}
use Rattle.book.specs.Calls.{local_number, Reading, all_ids, update, read, Value, number, written, Answer}
use Rattle.book.specs.Book.{Book, Contents, contents_of, store_image, store_read, size, find, identifiers_of, reading_cause, revised, reply, Taken, alter, unchanged, taking, judge}
use Rattle.book.specs.Store.{Left, run}
use Rattle.book.proofs.JudgeLaws.{update_unheld, update_held, reading_causes, reading_judged}
use Rattle.book.proofs.WayLaws.{way_arguments, way_over, way_unread, way_judged, way_taken, Accepted, given_accepted}

-- the bytes that a store was read from are those of what was read
pub read_from : (s : List ℕ) (x : Contents) → Bytes s → store_read s ≡ Some x → s ≡ store_image x
read_from s x h e = by (decode_all s) refl e
  where
    by : (o : Option Book) → decode_all s ≡ o → contents_of o ≡ Some x → s ≡ store_image x
    by None q k = absurd (let z : ◌≡◌ {A = ℕ} 0 1 = cc in omega arith)
    by (Some b) q k = let same : record { records = b } ≡ x = cc in subst (λ (y : Contents). s ≡ store_image y) same (decoded s b h q).0

-- ---- a reading keeps every byte and the used length, and answers its arguments' cause, 3, or `reply`

module _ (L : LimitSet) (n : ℕ) (q : Reading) (bytes : List ℕ) (used : ℕ) (h : Bytes bytes) where
  abbrev pub replied : Answer
  replied = refuse_by (reading_cause L q) (refuse_if (ltb (length bytes) used) BadStore (and_then (or_refuse BadStore (store_read (take used bytes))) (λ x. reply q x.records)))

  -- all kept
  abbrev answering : Answer → Left
  answering a = record { bytes = bytes; used = used; answer = a }

  -- the images that were read, over the bytes that they were read from
  back : (x : Contents) → used ≤ length bytes → store_read (take used bytes) ≡ Some x → (size x ≡ used) × (over (store_image x) bytes ≡ bytes)
  back x w r =
      let d : take used bytes ≡ store_image x = read_from (take used bytes) x (bytes_take used bytes h) r in
      let k : size x ≡ used = omega (arith, ap length d, length-take-le used bytes w) in
      (k, ap₂ (λ (s : List ℕ) (m : ℕ). s ++ drop m bytes) (sym d) k ∙ take-append-drop used bytes)

  pub reading_run : run L (read n q) bytes used ≡ answering replied
  reading_run = arguments (reading_cause L q) refl
    where
      records : reading_cause L q ≡ None → used ≤ length bytes → (x : Contents) → store_read (take used bytes) ≡ Some x → (a : Answer) → reply q x.records ≡ a
          → run L (read n q) bytes used ≡ answering a
      records clear w x r (Err cause) e =
          way_judged L (read n q) bytes used (reading_causes L n q ∙ clear) w x r cause (reading_judged L n q x.records ∙ ap (λ (o : Answer). and_then o (λ y. taking unchanged y)) e)
      records clear w x r (Ok v) e =
          let j : judge L (read n q) x.records ≡ taking unchanged v = reading_judged L n q x.records ∙ ap (λ (o : Answer). and_then o (λ y. taking unchanged y)) e in
          let k = back x w r in
          way_taken L (read n q) bytes used (reading_causes L n q ∙ clear) w x r (record { change = unchanged; value = v }) j (omega (arith, k.0, w))
          ∙ ap₂ (λ (s : List ℕ) (m : ℕ). record { bytes = s; used = m; answer = Ok v }) k.1 k.0

      bytes_read : reading_cause L q ≡ None → used ≤ length bytes → (o : Option Contents) → store_read (take used bytes) ≡ o
          → run L (read n q) bytes used ≡ answering (and_then (or_refuse BadStore o) (λ x. reply q x.records))
      bytes_read clear w None r = way_unread L (read n q) bytes used (reading_causes L n q ∙ clear) w r
      bytes_read clear w (Some x) r = records clear w x r (reply q x.records) refl

      length_lent : reading_cause L q ≡ None → (t : Bool) → ltb (length bytes) used ≡ t
          → run L (read n q) bytes used ≡ answering (refuse_if t BadStore (and_then (or_refuse BadStore (store_read (take used bytes))) (λ x. reply q x.records)))
      length_lent clear true e = way_over L (read n q) bytes used (reading_causes L n q ∙ clear) (ltb-true (length bytes) used e)
      length_lent clear false e = bytes_read clear (ltb-false (length bytes) used e) (store_read (take used bytes)) refl

      arguments : (o : Option Refusal) → reading_cause L q ≡ o
          → run L (read n q) bytes used ≡ answering (refuse_by o (refuse_if (ltb (length bytes) used) BadStore (and_then (or_refuse BadStore (store_read (take used bytes))) (λ x. reply q x.records))))
      arguments (Some cause) e = way_arguments L (read n q) bytes used cause (reading_causes L n q ∙ e)
      arguments None clear = length_lent clear (ltb (length bytes) used) refl

-- ---- the kind of value that an accepted call answers

module _ (L : LimitSet) (n : ℕ) (bytes : List ℕ) (used : ℕ) (v : Value) where
  -- a next local number is answered as a number
  pub local_value : (i : Ident) → (run L (update n (local_number i)) bytes used).answer ≡ Ok v → (m : ℕ) × (v ≡ number m)
  unfolding revised
  local_value i e = by (find i a.contents.records) refl
    where
      g : (x : Accepted L (update n (local_number i)) bytes used) × (x.told.value ≡ v)
      g = given_accepted L (update n (local_number i)) bytes used v e

      a : Accepted L (update n (local_number i)) bytes used
      a = g.0

      by : (o : Option Record) → find i a.contents.records ≡ o → (m : ℕ) × (v ≡ number m)
      by None f = absurd (never_given (sym (update_unheld L n (local_number i) a.contents.records f) ∙ a.judged))
      by (Some r) f =
          let t : record { change = alter (local_update r); value = number (local_update r).numbers.local } ≡ a.told = given_same (sym (update_held L n (local_number i) a.contents.records r f) ∙ a.judged) in
          ((local_update r).numbers.local, sym (ap (λ (x : Taken). x.value) t ∙ g.1))

  -- the identifiers are answered as the bytes that are written
  pub identifiers_value : (room : ℕ) → (run L (read n (all_ids room)) bytes used).answer ≡ Ok v → (s : List ℕ) × (v ≡ written s)
  unfolding reply
  identifiers_value room e =
      let g = given_accepted L (read n (all_ids room)) bytes used v e in
      let a : Accepted L (read n (all_ids room)) bytes used = g.0 in
      let b : Book = a.contents.records in
      let p = both_given (reply (all_ids room) b) (λ (w : Value). taking unchanged w) (sym (reading_judged L n (all_ids room) b) ∙ a.judged) in
      let s = both_given (fitted room (identifiers_of b)) (λ (l : List ℕ). Ok (written l)) p.1 in
      (s.0, sym (given_same s.2 ∙ (ap (λ (x : Taken). x.value) (given_same p.2) ∙ g.1)))
