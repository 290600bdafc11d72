-- The state byte of the record that stands at a place, and whether its bytes stay in a sweep. Assumes nothing.
use Prim.Native.Nat.{ℕ, ◌+◌, ◌*◌, ◌%◌, ◌<◌}
use native.Mathlib.Omega.{arith}
use mathlib.Core.Path.{◌≡◌, refl, sym, ap, ◌∙◌}
use mathlib.Core.Bool.{Bool}
use mathlib.Core.List.{List, ◌++◌}
use lib.ListN.{length, get_or, length-append}
use lib.Dec.{eqb}
use Rattle.record.specs.Record.{State, early, confirmed, terminated, StateByte, state_number, state_byte_number, fields_of}
use Rattle.codec.proofs.CodecLaws.{Bytes}
use Rattle.image.specs.Places.{record_places}
use Rattle.image_edit.proofs.ImageCuts.{ids_end_lem}
use Rattle.record_walk.specs.Walk.{At, id_bytes, ids_end}
use Rattle.record_walk.proofs.Parts.{lies_length, lies_get_or}
use Rattle.record_walk.proofs.Images.{ids, after, third_end, after_at, ids_end_is}
use Rattle.book.specs.Book.{is_terminated}
use Rattle.store_edits.specs.Edits.{TerminatedAt}

-- ---- the low two bits

low_two : (t : State) (u v : ℕ) → (state_number t + 4 * u + 8 * v) % 4 ≡ state_number t
low_two early u v = omega arith
low_two confirmed u v = omega arith
low_two terminated u v = omega arith

is_three : (t : State) → eqb (state_number t) 3 ≡ is_terminated t
is_three early = refl
is_three confirmed = refl
is_three terminated = refl

-- ---- where the state byte lies: past the identifier

module _ (s : List ℕ) (p : ℕ) (b : Bytes s) (x : At s p) where
  abbrev pub byte : StateByte
  byte = (fields_of x.reading.value).second.first

  abbrev pub place : ℕ
  place = (record_places p x.reading.value).ids.end

  behind_ids : place ≡ third_end s p b x
  behind_ids =
      let k = ids s p b x in
      ids_end_lem (p + 2) k
      ∙ omega (arith, length-append (id_bytes k.first) (id_bytes k.second.first ++ id_bytes k.second.second), length-append (id_bytes k.second.first) (id_bytes k.second.second))

  pub state_here : place < length s
  state_here = omega (arith, behind_ids, lies_length s (third_end s p b x) (after s p b x) (after_at s p b x))

  pub state_is : get_or s place 0 ≡ state_byte_number byte
  state_is =
      let z : place ≡ third_end s p b x + 0 = omega (arith, behind_ids) in
      ap (λ (n : ℕ). get_or s n 0) z ∙ lies_get_or s (third_end s p b x) (after s p b x) (after_at s p b x) 0

-- ---- whether it is Terminated, by the state byte past the identifier

module _ (s : List ℕ) (p : ℕ) (b : Bytes s) (e : ℕ) (r : e ≡ ids_end s p) where
  at_end_lem : (x : At s p) → e ≡ place s p b x
  at_end_lem x = r ∙ sym (ids_end_is s p b x) ∙ sym (behind_ids s p b x)

  pub state_within : At s p → e < length s
  state_within x = omega (arith, at_end_lem x, state_here s p b x)

  low_bits : (x : At s p) → get_or s e 0 % 4 ≡ state_number (byte s p b x).state
  low_bits x = ap (λ (n : ℕ). get_or s n 0 % 4) (at_end_lem x) ∙ ap (λ (m : ℕ). m % 4) (state_is s p b x) ∙ low_two (byte s p b x).state _ _

  pub told_terminated : {t : Bool} → t ≡ eqb (get_or s e 0 % 4) 3 → TerminatedAt s p t
  told_terminated q y f =
      let x : At s p = record { reading = y; reads = f } in
      q ∙ ap (λ (n : ℕ). eqb n 3) (low_bits x) ∙ is_three (byte s p b x).state
