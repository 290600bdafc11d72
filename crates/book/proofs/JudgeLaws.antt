-- The book's verdict on each kind of call: which causes its arguments have (`argument_cause`), and what is said of it over the records (`judge`). The
-- crates above cite these laws, and look into neither definition. Assumes nothing.
use Prim.Native.Nat.{ℕ}
use mathlib.Core.Path.{◌≡◌, refl, ap}
use mathlib.Core.Bool.{true, false}
use mathlib.Core.List.{List}
use Rattle.std.specs.Prelude.{Err, None, Ok, Some}
use Rattle.limits.specs.Limits.{LimitSet}
use Rattle.limits.specs.Outcome.{and_then}
use Rattle.limits.specs.declared.Refusal.{Refusal}
use Rattle.limits.specs.declared.Refusal.TheVariants.{NotFound, TooManyDialogs, TooManyEarlyDialogs}
use Rattle.record.specs.Record.{Record}
use Rattle.dialog_rules.specs.OneImage.{one_record}
use Rattle.dialog_id.specs.Ident.{Ident, ident_cause}
use Rattle.book.specs.Calls.{Update, Reading, put, update, remove, sweep, read, no_value}
use Rattle.book.specs.Book.{Book, name_of, find, find_named, others, living, is_full, is_crowded, update_cause, reading_cause, cause_in, argument_cause, revised, told_by, reply, set, alter, only, unchanged, taking, judge}

-- ---- a put

module _ (L : LimitSet) (n : ℕ) (img : List ℕ) where
  -- bytes that aren't one image: 3
  pub put_unread : {cause : Refusal} → one_record img ≡ Err cause → argument_cause L (put n img) ≡ Some cause
  unfolding argument_cause
  put_unread e = ap cause_in e

  module _ (r : Record) (one : one_record img ≡ Ok r) where
    -- the image of one record has no cause of its own
    pub put_clear : argument_cause L (put n img) ≡ None
    unfolding argument_cause
    put_clear = ap cause_in one

    -- 16
    pub put_full : (b : Book) → is_full L b ≡ true → judge L (put n img) b ≡ Err TooManyDialogs
    unfolding judge
    put_full b full = rw (one, full)

    -- 17
    pub put_crowded : (b : Book) → is_full L b ≡ false → is_crowded L r b ≡ true → judge L (put n img) b ≡ Err TooManyEarlyDialogs
    unfolding judge
    put_crowded b free crowded = rw (one, free, crowded)

    -- otherwise the record is set
    pub put_set : (b : Book) → is_full L b ≡ false → is_crowded L r b ≡ false → judge L (put n img) b ≡ taking (set r) no_value
    unfolding judge
    put_set b free few = rw (one, free, few)

-- ---- a change of one held record

module _ (L : LimitSet) (n : ℕ) (u : Update) where
  -- its causes are those of the update's arguments
  pub update_causes : argument_cause L (update n u) ≡ update_cause L u
  unfolding argument_cause
  update_causes = refl

  -- no record is named: 15
  pub update_unheld : (b : Book) → find_named (name_of u) b ≡ None → judge L (update n u) b ≡ Err NotFound
  unfolding judge
  update_unheld b e = rw e

  -- a record is named: what the update makes of it is refused, or stands in its place
  pub update_held : (b : Book) (r : Record) → find_named (name_of u) b ≡ Some r → judge L (update n u) b ≡ and_then (revised L u r) (λ now. taking (alter now) (told_by u now))
  unfolding judge
  update_held b r e = rw e

-- ---- a removal

module _ (L : LimitSet) (n : ℕ) (i : Ident) where
  -- its causes are those of its identifier
  pub remove_causes : argument_cause L (remove n i) ≡ ident_cause L i
  unfolding argument_cause
  remove_causes = refl

  -- no record of the identifier: 15
  pub remove_unheld : (b : Book) → find i b ≡ None → judge L (remove n i) b ≡ Err NotFound
  unfolding judge
  remove_unheld b e = rw e

  -- a held record goes
  pub remove_held : (b : Book) (r : Record) → find i b ≡ Some r → judge L (remove n i) b ≡ taking (only (others i)) no_value
  unfolding judge
  remove_held b r e = rw e

-- ---- a sweep

module _ (L : LimitSet) (n : ℕ) where
  -- it has no arguments to refuse
  pub sweep_clear : argument_cause L (sweep n) ≡ None
  unfolding argument_cause
  sweep_clear = refl

  -- it is never refused over the records: the Terminated ones go
  pub sweep_judged : (b : Book) → judge L (sweep n) b ≡ taking (only living) no_value
  unfolding judge
  sweep_judged b = refl

-- ---- a reading

module _ (L : LimitSet) (n : ℕ) (q : Reading) where
  -- its causes are those of its arguments
  pub reading_causes : argument_cause L (read n q) ≡ reading_cause L q
  unfolding argument_cause
  reading_causes = refl

  -- it answers `reply`, and changes nothing
  pub reading_judged : (b : Book) → judge L (read n q) b ≡ and_then (reply q b) (λ v. taking unchanged v)
  unfolding judge
  reading_judged b = refl
