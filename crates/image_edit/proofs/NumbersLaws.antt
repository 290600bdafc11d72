-- The sections of a record's image, and where they lie. Assumes nothing.
use mathlib.Core.Path.{◌≡◌, refl, ap, ◌∙◌}
use mathlib.Core.List.{List, [], ◌∷◌, ◌++◌}
use Prim.Native.Nat.{ℕ, suc, ◌+◌}
use native.Mathlib.Omega.{arith}
use borrow.Author.Tests.{lt-ltb}
use lib.Dec.{ltb}
use lib.ListN.{length, length-append}
use Rattle.codec.specs.Codec.{two}
use Rattle.record.specs.Record.{Numbers, Record, bit_of, is_filled, routes_field, image}
use Rattle.image.specs.declared.RecordAt.{RecordAt}
use Rattle.image.specs.Places.{ids_of, uris_of}
use Rattle.image_writer.specs.Parts.{ids_bytes, uris_bytes, numbers_bytes, map_of_parts, state_byte_of, image_of}
use Rattle.image_writer.proofs.FieldLaws.{uris_size_lem}
use Rattle.image_writer.proofs.ImageLaws.{parts_in, routes_bytes, image_parts}
use Rattle.image_edit.proofs.ImageCuts.{Held, ids_end_lem}

-- ---- bits

-- by the length, and by the list
pub filled_bit : {A : Type 0} (l : List A) → bit_of (ltb 0 (length l)) ≡ bit_of (is_filled l)
filled_bit [] = refl
filled_bit (x ∷ l) = rw (lt-ltb 0 (suc (length l)) (omega arith))

pub routes_bit : (l : List (List ℕ)) → bit_of (ltb 0 (length l)) ≡ bit_of (is_filled ((routes_field (is_filled l)).write l))
routes_bit [] = refl
routes_bit (t ∷ l) = rw (lt-ltb 0 (suc (length l)) (omega arith))

-- ---- the record

-- its image in six sections
pub image_cut : (v : Record) → image.write v ≡ two.write (map_of_parts (parts_in v)) ++ (ids_bytes (ids_of v) ++ ((state_byte_of (parts_in v) ∷ []) ++ (uris_bytes (uris_of v) ++ (numbers_bytes v.numbers ++ routes_bytes v))))
unfolding image_of
image_cut v = image_parts v

pub sized : {u : List ℕ} (g a b c d e f r : List ℕ) → u ≡ g ++ ((a ++ (b ++ (c ++ (d ++ (e ++ f))))) ++ r) → length u ≡ length g + (length a + (length b + (length c + (length d + (length e + length f))))) + length r
sized g a b c d e f r q = ap length q ∙ simp length-append (omega arith)

module _ (s : List ℕ) (at : ℕ) (p : RecordAt) (h : Held s at p) (x : Numbers) where
  -- where the sections lie
  pub state_is : p.state ≡ at + 2 + length (ids_bytes (ids_of h.value))
  state_is = ap (λ (q : RecordAt). q.state) h.placed ∙ ids_end_lem (at + 2) (ids_of h.value)

  pub end_is : p.uris.end ≡ p.state + 1 + length (uris_bytes (uris_of h.value))
  end_is =
      let e = ap (λ (q : RecordAt). q.uris.end) h.placed in
      let f = ap (λ (q : RecordAt). q.state) h.placed in
      omega (arith, e, f, uris_size_lem (uris_of h.value))
