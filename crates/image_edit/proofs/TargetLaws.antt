-- Where a record's target lies in the used bytes. Assumes nothing.
use mathlib.Core.Path.{◌≡◌, ap, ◌∙◌}
use mathlib.Core.List.{List, [], ◌∷◌, ◌++◌}
use Prim.Native.Nat.{ℕ, ◌+◌}
use native.Mathlib.Omega.{arith}
use lib.ListN.{length, length-append}
use Rattle.codec.specs.Codec.{two}
use Rattle.record.specs.Record.{Record}
use Rattle.image.specs.declared.RecordAt.{RecordAt}
use Rattle.image.specs.Places.{ids_of}
use Rattle.image_writer.specs.Parts.{ids_bytes, map_of_parts, state_byte_of}
use Rattle.image_writer.proofs.ImageLaws.{parts_in}
use Rattle.image_edit.proofs.ImageCuts.{Held, ids_end_lem}

-- what stands before the target's length
abbrev pub before : Record → List ℕ
before v = two.write (map_of_parts (parts_in v)) ++ (ids_bytes (ids_of v) ++ (state_byte_of (parts_in v) ∷ []))

module _ (s : List ℕ) (at : ℕ) (p : RecordAt) (h : Held s at p) where
  -- where the text lies
  pub start_is : p.uris.target.start ≡ at + length (before h.value) + 2
  start_is =
      let v = h.value in
      let e : p.uris.target.start ≡ at + 2 + length (ids_bytes (ids_of v)) + 1 + 2 = ap (λ (q : RecordAt). q.uris.target.start) h.placed ∙ ap (λ (n : ℕ). n + 1 + 2) (ids_end_lem (at + 2) (ids_of v)) in
      omega (arith, e, length-append (two.write (map_of_parts (parts_in v))) (ids_bytes (ids_of v) ++ (state_byte_of (parts_in v) ∷ [])), length-append (ids_bytes (ids_of v)) (state_byte_of (parts_in v) ∷ []))

  pub length_is : p.uris.target.length ≡ length h.value.target
  length_is = ap (λ (q : RecordAt). q.uris.target.length) h.placed
