-- The identifier of the record at a place, and where it lies in the bytes. Assumes nothing.
use Prim.Native.Nat.{ℕ, ◌+◌, ◌/◌, ◌%◌, ◌<◌}
use native.Mathlib.Omega.{arith}
use mathlib.Core.Path.{◌≡◌, ap, subst, ◌∙◌}
use mathlib.Core.Bool.{Bool}
use mathlib.Core.List.{List, ◌++◌, append_assoc}
use lib.ListN.{length, drop, length-append, length-drop}
use lib.Dec.{eqb}
use Rattle.codec.specs.Codec.{two}
use Rattle.record.specs.Record.{Record, Fields, Ids, WellFormed, is_filled, ids_field, state_byte, uris_field, tail_field, map_of, fields_of, image}
use Rattle.codec.proofs.CodecLaws.{Bytes, bytes_drop}
use Rattle.record.proofs.MapLaws.{stands_0, stands_1, stands_2}
use Rattle.record.proofs.WellFormedLaws.{image_back}
use Rattle.record_walk.specs.Walk.{At, two_at, past_text, id_bytes, ids_bytes, ids_end}
use Rattle.record_walk.proofs.Parts.{Lies, lies_past, lies_length, lies_two, lies_id}

-- the bytes of the identifier under a map are those of its own flags
ids_bytes_lem : (f : Fields) → (ids_field (map_of f)).write f.first ≡ ids_bytes f.first
ids_bytes_lem f = rw (stands_0 f, stands_1 f, stands_2 f)

module _ (s : List ℕ) (p : ℕ) (b : Bytes s) (x : At s p) where
  abbrev pub rec : Record
  rec = x.reading.value

  abbrev pub ids : Ids
  ids = (fields_of rec).first

  -- what follows the identifier
  abbrev pub after : List ℕ
  after = (state_byte.write (fields_of rec).second.first ++ (uris_field.write (fields_of rec).second.second.first ++ (tail_field (map_of (fields_of rec))).write (fields_of rec).second.second.second)) ++ x.reading.rest

  pub back : (drop p s ≡ image.write rec ++ x.reading.rest) × WellFormed rec
  back = image_back (drop p s) x.reading (bytes_drop p s b) x.reads

  pub image_at_lem : Lies s p (image.write rec ++ x.reading.rest)
  image_at_lem = record { here = omega (arith, length-drop p s, ap length back.0); are = back.0 }

  pub map_at : two_at s p ≡ map_of (fields_of rec)
  map_at = lies_two s p (map_of (fields_of rec)) _ image_at_lem

  pub ids_at : Lies s (p + 2) (ids_bytes ids ++ after)
  ids_at = let l = lies_past s p (two.write (map_of (fields_of rec))) _ image_at_lem in subst (Lies s (p + 2)) (append_assoc ((ids_field (map_of (fields_of rec))).write ids) _ _ ∙ ap (λ (t : List ℕ). t ++ after) (ids_bytes_lem (fields_of rec))) l

  -- the map lies within the bytes
  pub map_here : p + 1 < length s
  map_here = omega (arith, lies_length s p _ image_at_lem)

  -- ---- the three texts, one after another

  abbrev pub first_end : ℕ
  first_end = p + 2 + length (id_bytes ids.first)

  abbrev pub second_end : ℕ
  second_end = first_end + length (id_bytes ids.second.first)

  abbrev pub third_end : ℕ
  third_end = second_end + length (id_bytes ids.second.second)

  first_at : Lies s (p + 2) (id_bytes ids.first ++ (id_bytes ids.second.first ++ (id_bytes ids.second.second ++ after)))
  first_at = subst (Lies s (p + 2)) (append_assoc (id_bytes ids.first) (id_bytes ids.second.first ++ id_bytes ids.second.second) after ∙ ap (λ (t : List ℕ). id_bytes ids.first ++ t) (append_assoc (id_bytes ids.second.first) (id_bytes ids.second.second) after)) ids_at

  pub second_at : Lies s first_end (id_bytes ids.second.first ++ (id_bytes ids.second.second ++ after))
  second_at = lies_past s (p + 2) (id_bytes ids.first) _ first_at

  pub third_at : Lies s second_end (id_bytes ids.second.second ++ after)
  third_at = lies_past s first_end (id_bytes ids.second.first) _ second_at

  pub after_at : Lies s third_end after
  after_at = lies_past s second_end (id_bytes ids.second.second) _ third_at

  pub first_past : (m : ℕ) → m ≡ two_at s p → past_text s (p + 2) (eqb (m % 2) 1) ≡ first_end
  first_past m e =
      let k : m % 2 ≡ map_of (fields_of rec) / 1 % 2 = omega (arith, map_at) in
      let f : eqb (m % 2) 1 ≡ is_filled ids.first = ap (λ (n : ℕ). eqb n 1) k ∙ stands_0 (fields_of rec) in
      ap (λ (t : Bool). past_text s (p + 2) t) f ∙ lies_id s (p + 2) (is_filled ids.first) ids.first _ first_at

  pub second_past : (m a : ℕ) → m ≡ two_at s p → a ≡ first_end → past_text s a (eqb (m / 2 % 2) 1) ≡ second_end
  second_past m a e q =
      let k : m ≡ map_of (fields_of rec) = e ∙ map_at in
      let f : eqb (m / 2 % 2) 1 ≡ is_filled ids.second.first = ap (λ (n : ℕ). eqb (n / 2 % 2) 1) k ∙ stands_1 (fields_of rec) in
      rw (q, f) (lies_id s first_end (is_filled ids.second.first) ids.second.first _ second_at)

  pub third_past : (m a : ℕ) → m ≡ two_at s p → a ≡ second_end → past_text s a (eqb (m / 4 % 2) 1) ≡ third_end
  third_past m a e q =
      let k : m ≡ map_of (fields_of rec) = e ∙ map_at in
      let f : eqb (m / 4 % 2) 1 ≡ is_filled ids.second.second = ap (λ (n : ℕ). eqb (n / 4 % 2) 1) k ∙ stands_2 (fields_of rec) in
      rw (q, f) (lies_id s second_end (is_filled ids.second.second) ids.second.second _ third_at)

  pub ids_end_is : third_end ≡ ids_end s p
  unfolding ids_end
  ids_end_is = rw x.reads (omega (arith, length-append (id_bytes ids.first) (id_bytes ids.second.first ++ id_bytes ids.second.second), length-append (id_bytes ids.second.first) (id_bytes ids.second.second)))
