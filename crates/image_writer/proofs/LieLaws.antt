-- Where an image was read, the texts of its identifier lie at their places. Assumes nothing.
use Prim.Native.Nat.{ℕ, ◌+◌}
use native.Mathlib.Nat.{add-zero}
use mathlib.Core.Path.{◌≡◌, refl, sym, ap, ◌∙◌}
use mathlib.Core.List.{List, [], ◌∷◌, ◌++◌, append_assoc}
use lib.ListN.{length, take, drop}
use lib.Seq.{drop-drop, take-append_seam, drop-append_seam}
use Rattle.std.specs.Prelude.{Some}
use Rattle.codec.specs.Codec.{Reading, two}
use Rattle.record.specs.Record.{Record, Ids, is_filled, id_text, image}
use Rattle.codec.proofs.CodecLaws.{Bytes}
use Rattle.record.proofs.WellFormedLaws.{image_back}
use Rattle.image.specs.Places.{lead, id_end}
use Rattle.image_writer.specs.Parts.{ids_bytes, uris_bytes, numbers_bytes, map_of_parts, state_byte_of, image_of}
use Rattle.image_writer.proofs.ImageLaws.{parts_in, image_parts}

-- one text: it lies past its length bytes, and what comes after it comes after
id_lies : (s : List ℕ) (at : ℕ) (t rest : List ℕ) → drop at s ≡ (id_text (is_filled t)).write t ++ rest → (take (length t) (drop (at + lead t) s) ≡ t) × (drop (id_end at t) s ≡ rest)
id_lies s at [] rest e = (refl, rw (add-zero, add-zero) e)
id_lies s at (x ∷ t) rest e =
    let h : drop (at + 2) s ≡ (x ∷ t) ++ rest = sym (drop-drop 2 at s) ∙ ap (drop 2) e in (
      ap (take (length (x ∷ t))) h ∙ take-append_seam (x ∷ t) rest,
      sym (drop-drop (length (x ∷ t)) (at + 2) s) ∙ ap (drop (length (x ∷ t))) h ∙ drop-append_seam (x ∷ t) rest,
    )

-- the three texts of an identifier
pub record Lie (s : List ℕ) (at : ℕ) (i : Ids) : Type 0 where
  pub call_id : take (length i.first) (drop (at + lead i.first) s) ≡ i.first
  pub local_tag : take (length i.second.first) (drop (id_end at i.first + lead i.second.first) s) ≡ i.second.first
  pub remote_tag : take (length i.second.second) (drop (id_end (id_end at i.first) i.second.first + lead i.second.second) s) ≡ i.second.second

ids_lie : (s : List ℕ) (at : ℕ) (i : Ids) (rest : List ℕ) → drop at s ≡ ids_bytes i ++ rest → Lie s at i
ids_lie s at i rest e =
    let b = (id_text (is_filled i.second.first)).write i.second.first in
    let c = (id_text (is_filled i.second.second)).write i.second.second in
    let f = id_lies s at i.first ((b ++ c) ++ rest) (e ∙ append_assoc ((id_text (is_filled i.first)).write i.first) (b ++ c) rest) in
    let g = id_lies s (id_end at i.first) i.second.first (c ++ rest) (f.1 ∙ append_assoc b c rest) in
    let h = id_lies s (id_end (id_end at i.first) i.second.first) i.second.second rest g.1 in
    record { call_id = f.0; local_tag = g.0; remote_tag = h.0 }

-- where a record was read
pub record_lies : (s : List ℕ) (at : ℕ) (x : Reading Record) → Bytes (drop at s) → image.read (drop at s) ≡ Some x → Lie s (at + 2) (parts_in x.value).ids
unfolding image_of
record_lies s at x b e =
    let p = parts_in x.value in
    let more = (state_byte_of p ∷ []) ++ (uris_bytes p.uris ++ (numbers_bytes p.numbers ++ p.routes)) in
    let w : drop at s ≡ (two.write (map_of_parts p) ++ (ids_bytes p.ids ++ more)) ++ x.rest = (image_back (drop at s) x b e).0 ∙ ap (λ (l : List ℕ). l ++ x.rest) (image_parts x.value) in
    let v : drop (at + 2) s ≡ ids_bytes p.ids ++ (more ++ x.rest) = sym (drop-drop 2 at s) ∙ ap (drop 2) w ∙ append_assoc (ids_bytes p.ids) more x.rest in
    ids_lie s (at + 2) p.ids (more ++ x.rest) v
