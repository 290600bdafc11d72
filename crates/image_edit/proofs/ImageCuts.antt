-- The used bytes around a record that was read at a place: those before, its image, those after. What a change makes of them. Assumes nothing.
use mathlib.Core.Path.{◌≡◌, refl, sym, ap, ◌∙◌}
use mathlib.Core.List.{List, [], ◌∷◌, ◌++◌}
use Prim.Native.Nat.{ℕ, ◌+◌, ◌≤◌, ◌<◌}
use native.Mathlib.Omega.{arith}
use lib.ListN.{length, take, drop, get_or, take-append-drop}
use lib.Seq.{length-take-le}
use Rattle.std.specs.Prelude.{Some}
use Rattle.record.specs.Record.{Record, Ids, is_filled, id_text, image}
use Rattle.codec.proofs.CodecLaws.{Bytes, bytes_take, bytes_drop, bytes_all}
use Rattle.record.proofs.WellFormedLaws.{image_back}
use Rattle.image.specs.Places.{lead, ids_places, record_places, record_from}
use Rattle.image.specs.declared.RecordAt.{RecordAt}
use Rattle.image.proofs.AnswerLaws.{record_got}
use Rattle.image_writer.specs.Parts.{ids_bytes}
use Rattle.image_writer.proofs.FieldLaws.{ids_size_lem}
use Rattle.image_edit.specs.Changes.{read_at, changed_by, changed}
use Rattle.image_edit.specs.Stands.{StandsAt}
use Rattle.image_edit.specs.declared.RecordPlace.{RecordPlace}
use Rattle.image_edit.proofs.CutLaws.{splice_cut}

-- ---- the record among the used bytes

-- the record that was read, the bytes after it, and the places that were answered
pub record Held (s : List ℕ) (at : ℕ) (p : RecordAt) : Type 0 where
  pub value : Record
  pub rest : List ℕ
  pub reads : read_at at s ≡ Some (record { value = value; rest = rest })
  pub whole : s ≡ take at s ++ (image.write value ++ rest)
  pub front : length (take at s) ≡ at
  pub placed : p ≡ record_places at value

held : (s : List ℕ) (at : ℕ) {p : RecordAt} → Bytes s → at ≤ length s → record_from at (read_at at s) ≡ Some p → Held s at p
held s at {p} b h e =
    let g = record_got s at h e in
    let k = (image_back (drop at s) (record { value = g.value; rest = drop p.end s }) (bytes_drop at s b) g.got.reads).0 in
    record {
      value = g.value;
      rest = drop p.end s;
      reads = g.got.reads;
      whole = sym (take-append-drop at s) ∙ ap (λ (t : List ℕ). take at s ++ t) k;
      front = length-take-le at s h;
      placed = g.placed;
    }

-- the same of the used bytes at the front of lent ones
pub held_used : (bytes : List ℕ) (used at : ℕ) {p : RecordAt} → ((i : ℕ) → get_or bytes i 0 < 256) → used ≤ length bytes → at ≤ used → record_from at (read_at at (take used bytes)) ≡ Some p → Held (take used bytes) at p
held_used bytes used at b h k e =
    let n : length (take used bytes) ≡ used = length-take-le used bytes h in
    held (take used bytes) at (bytes_take used bytes (bytes_all bytes b)) (omega arith) e

-- the record that stands at a place of the code
pub stands_held : (bytes : List ℕ) (p : RecordPlace) → ((i : ℕ) → get_or bytes i 0 < 256) → StandsAt bytes p → Held (take p.used bytes) p.at p.record
stands_held bytes p b s = held_used bytes p.used p.at b s.0 s.1 s.2

-- the change of the record is the change of its image
pub changed_held : (f : Record → Record) (s : List ℕ) (at : ℕ) {p : RecordAt} (h : Held s at p) → changed f at s ≡ take at s ++ (image.write (f h.value) ++ h.rest)
unfolding changed
changed_held f s at h =
    let v = image.write h.value in
    let w = image.write (f h.value) in
    ap (changed_by f at s) h.reads
    ∙ ap (λ (t : List ℕ). take at t ++ (w ++ drop (at + length v) t)) h.whole
    ∙ splice_cut (take at s) v w h.rest at (length v) h.front refl

-- ---- the identifiers

id_length : (t : List ℕ) → length ((id_text (is_filled t)).write t) ≡ lead t + length t
id_length [] = refl
id_length (b ∷ t) = omega arith

pub ids_end_lem : (at : ℕ) (i : Ids) → (ids_places at i).end ≡ at + length (ids_bytes i)
ids_end_lem at i = omega (arith, ids_size_lem i, id_length i.first, id_length i.second.first, id_length i.second.second)
