-- One record's image given by itself: what the reading of it answered. Assumes nothing.
use Prim.Native.Nat.{ℕ, ◌≤◌, ◌<◌}
use native.Mathlib.Omega.{arith}
use mathlib.Core.Path.{◌≡◌, refl, ap}
use mathlib.Core.List.{List, [], ◌∷◌}
use lib.ListN.{length, drop, length-drop, drop_of_length-le}
use Rattle.std.specs.Prelude.{Err, None, Ok, Some}
use Rattle.limits.specs.declared.Refusal.TheVariants.{BadStore}
use Rattle.record.specs.Record.{image}
use Rattle.image.specs.Places.{record_from}
use Rattle.image.specs.declared.RecordAt.{RecordAt}
use Rattle.image.proofs.AnswerLaws.{RecordGot, record_got, record_not}
use Rattle.dialog_rules.specs.OneImage.{alone, one_record}
use Rattle.dialog.specs.Readings.{image_answer}

-- ---- exactly one image

module _ (s : List ℕ) where
  pub not_one : record_from 0 (image.read (drop 0 s)) ≡ None → Err BadStore ≡ image_answer (one_record s)
  unfolding one_record
  not_one e = let n : image.read s ≡ None = record_not 0 (image.read s) e in rw n

  module _ (p : RecordAt) (e : record_from 0 (image.read (drop 0 s)) ≡ Some p) where
    got : RecordGot s 0 p
    got = record_got s 0 (omega arith) e

    -- bytes after the image
    pub more_after : p.end < length s → Err BadStore ≡ image_answer (one_record s)
    unfolding one_record
    more_after h = rw (got.got.reads, filled (drop p.end s) (omega (arith, length-drop p.end s)))
      where
        filled : (t : List ℕ) → 0 < length t → alone (record { value = got.value; rest = drop p.end s }) t ≡ None
        filled [] k = absurd (let z : 0 < 0 = k in omega arith)
        filled (b ∷ t) k = refl

    pub just_one : length s ≤ p.end → Ok p ≡ image_answer (one_record s)
    unfolding one_record
    just_one h = let d : drop p.end s ≡ [] = drop_of_length-le s h in rw (got.got.reads, d) (ap Ok got.placed)
