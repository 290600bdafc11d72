-- The routes of one image: their texts lie one after another behind the count byte, and the one at an index lies past so many texts. Assumes nothing.
use Prim.Native.Nat.{ℕ, zero, suc, ◌+◌, ◌*◌, ◌/◌, ◌%◌, ◌≤◌, ◌<◌}
use native.Mathlib.Omega.{arith}
use mathlib.Core.Path.{◌≡◌, refl, sym, ap, subst, ◌∙◌}
use mathlib.Core.Bool.{true}
use mathlib.Core.List.{List, [], ◌∷◌, ◌++◌, append_assoc, append-nil}
use lib.ListN.{length, drop, get_or, length-append}
use lib.Seq.{drop_at}
use Rattle.std.specs.Prelude.{Err, None, Ok, Option, Some}
use Rattle.limits.specs.Outcome.{and_then, or_refuse}
use Rattle.limits.specs.declared.Refusal.{Refusal}
use Rattle.limits.specs.declared.Refusal.TheVariants.{BadStore}
use Rattle.text.specs.Text.{Piece}
use Rattle.text.specs.Answers.{lookup_of}
use Rattle.codec.specs.Codec.{Reading, two, text, write_all}
use Rattle.record.specs.Record.{Record, is_filled, uri_text, routes_field, image}
use Rattle.codec.proofs.CodecLaws.{bytes_all}
use Rattle.record.proofs.WellFormedLaws.{image_back}
use Rattle.record_walk.specs.Walk.{past_text, texts_end}
use Rattle.record_walk.proofs.Parts.{Lies, lies_length, lies_past, lies_text}
use Rattle.image.specs.Places.{ids_of, uris_of, record_places}
use Rattle.image.specs.declared.RecordAt.{RecordAt}
use Rattle.image_writer.specs.Parts.{ids_bytes, uris_bytes, numbers_bytes, map_of_parts, state_byte_of, image_of}
use Rattle.image_writer.proofs.FieldLaws.{uris_size_lem, numbers_size_lem}
use Rattle.image_writer.proofs.ImageLaws.{parts_in, routes_bytes, image_parts}
use Rattle.image_edit.proofs.ImageCuts.{ids_end_lem}
use Rattle.dialog_rules.specs.OneImage.{alone, only_one, one_record}
use Rattle.dialog.specs.Readings.{image_answer}
use Rattle.dialog.specs.ImageRoutes.{text_at, route_at, image_route}

-- ---- the one record

pub no_route : (s : List ℕ) (index : ℕ) {cause : Refusal} → Err cause ≡ image_answer (one_record s) → Err cause ≡ lookup_of (image_route s index)
unfolding one_record
no_route s index e = by (only_one (image.read s)) e
  where
    by : (o : Option Record) {cause : Refusal} → Err cause ≡ image_answer (or_refuse BadStore o) → Err cause ≡ lookup_of (and_then (or_refuse BadStore o) (λ r. Ok (route_at index r)))
    by None {cause} h = let z : cause ≡ BadStore = cc in ap Err z
    by (Some r) h = absurd (let z : ◌≡◌ {A = ℕ} 0 1 = cc in omega arith)

-- the record, where its parts lie, and that the bytes are its image
pub record Read (s : List ℕ) (p : RecordAt) : Type 0 where
  pub value : Record
  pub one : one_record s ≡ Ok value
  pub placed : p ≡ record_places 0 value
  pub bytes : s ≡ image.write value

pub image_read : (s : List ℕ) (p : RecordAt) → ((i : ℕ) → get_or s i 0 < 256) → Ok p ≡ image_answer (one_record s) → Read s p
unfolding one_record
image_read s p b e = by (image.read s) refl e
  where
    by : (o : Option (Reading Record)) → image.read s ≡ o → Ok p ≡ image_answer (or_refuse BadStore (only_one o)) → Read s p
    by None q h = absurd (let z : ◌≡◌ {A = ℕ} 0 1 = cc in omega arith)
    by (Some x) q h = is x.rest refl h
      where
        is : (t : List ℕ) → x.rest ≡ t → Ok p ≡ image_answer (or_refuse BadStore (alone x t)) → Read s p
        is [] r h =
            record {
              value = x.value;
              one = rw (q, r);
              placed = cc;
              bytes = (image_back s x (bytes_all s b) q).0 ∙ ap (λ (t : List ℕ). image.write x.value ++ t) r ∙ append-nil (image.write x.value);
            }
        is (c ∷ t) r h = absurd (let z : ◌≡◌ {A = ℕ} 0 1 = cc in omega arith)

-- ---- where the routes lie

-- all before the routes' section
abbrev front : Record → List ℕ
front v = two.write (map_of_parts (parts_in v)) ++ (ids_bytes (ids_of v) ++ ((state_byte_of (parts_in v) ∷ []) ++ (uris_bytes (uris_of v) ++ numbers_bytes v.numbers)))

shape : (a b c d e f : List ℕ) → a ++ (b ++ (c ++ (d ++ (e ++ f)))) ≡ (a ++ (b ++ (c ++ (d ++ e)))) ++ f
shape a b c d e f = simp append_assoc

image_front : (v : Record) → image.write v ≡ front v ++ routes_bytes v
unfolding image_of
image_front v = image_parts v ∙ shape (two.write (map_of_parts (parts_in v))) (ids_bytes (ids_of v)) (state_byte_of (parts_in v) ∷ []) (uris_bytes (uris_of v)) (numbers_bytes v.numbers) (routes_bytes v)

front_size : (a b c d e : List ℕ) → length (a ++ (b ++ (c ++ (d ++ e)))) ≡ length a + (length b + (length c + (length d + length e)))
front_size a b c d e = simp length-append

front_length : (v : Record) → length (front v) ≡ (record_places 0 v).routes
front_length v =
    omega (arith, front_size (two.write (map_of_parts (parts_in v))) (ids_bytes (ids_of v)) (state_byte_of (parts_in v) ∷ []) (uris_bytes (uris_of v)) (numbers_bytes v.numbers), ids_end_lem 2 (ids_of v), uris_size_lem (uris_of v), numbers_size_lem v.numbers)

-- a count byte, and the texts
counted : (l : List (List ℕ)) → 0 < length l → (routes_field (is_filled l)).write l ≡ (length l ∷ []) ++ write_all uri_text l
counted [] h = absurd (omega arith)
counted (t ∷ l) h = refl

-- what lies past the front of bytes
past_front : (s a b : List ℕ) (n : ℕ) → s ≡ a ++ b → length a ≡ n → Lies s n b
past_front s a b n e l = record { here = omega (arith, ap length e, length-append a b); are = ap (drop n) e ∙ drop_at a b n l }

module _ (s : List ℕ) (p : RecordAt) (g : Read s p) where
  routes_there : Lies s p.routes (routes_bytes g.value)
  routes_there = past_front s (front g.value) (routes_bytes g.value) p.routes (g.bytes ∙ image_front g.value) (front_length g.value ∙ ap (λ (q : RecordAt). q.routes) (sym g.placed))

  texts_there : 0 < length g.value.routes → Lies s (p.routes + 1) (write_all uri_text g.value.routes)
  texts_there h = lies_past s p.routes (length g.value.routes ∷ []) (write_all uri_text g.value.routes) (subst (Lies s p.routes) (counted g.value.routes h) routes_there)

  count_is : p.route_count ≡ length g.value.routes
  count_is = ap (λ (q : RecordAt). q.route_count) g.placed

-- ---- the text at an index

-- a text that lies at a place, as the piece that is answered
pub record Placed (s : List ℕ) (at : ℕ) (o : Option Piece) : Type 0 where
  pub value : List ℕ
  pub after : List ℕ
  pub lies : Lies s at (text.write value ++ after)
  pub is : o ≡ Some (record { place = at + 2; text = value })

-- no text from the count on
past : (ts : List (List ℕ)) (at index : ℕ) → length ts ≤ index → text_at at index ts ≡ None
unfolding text_at
past [] at index h = refl
past (t ∷ ts) at zero h = absurd (omega arith)
past (t ∷ ts) at (suc index) h = past ts (at + 2 + length t) index (omega arith)

-- of texts that lie one after another, the one at an index lies past so many of them
text_past : (s : List ℕ) (l : List (List ℕ)) (at index : ℕ) → index < length l → Lies s at (write_all uri_text l) → Placed s (texts_end index s at) (text_at at index l)
unfolding texts_end text_at write_all
text_past s [] at index h e = absurd (omega arith)
text_past s (t ∷ l) at zero h e = record { value = t; after = write_all uri_text l; lies = e; is = refl }
text_past s (t ∷ l) at (suc index) h e =
    let step : at + length (text.write t) ≡ past_text s at true = sym (lies_text s at t (write_all uri_text l) e) in
    let m : Lies s (past_text s at true) (write_all uri_text l) = subst (λ (n : ℕ). Lies s n (write_all uri_text l)) step (lies_past s at (text.write t) (write_all uri_text l) e) in
    let same : at + 2 + length t ≡ past_text s at true = omega (arith, step) in
    rw same (text_past s l (past_text s at true) index (omega arith) m)

-- the number that is read in front of a text is its length
length_is : (k n : ℕ) (t : List ℕ) {w u : List ℕ} → w ≡ k / 256 ∷ k % 256 ∷ t → two.read w ≡ Some (record { value = n; rest = u }) → n ≡ k
length_is k n t {w} {u} e r =
    let a : Reading ℕ = record { value = k / 256 * 256 + k % 256; rest = t } in
    let b : Reading ℕ = record { value = n; rest = u } in
    let q : ◌≡◌ {A = Option (Reading ℕ)} (Some a) (Some b) = ap two.read (sym e) ∙ r in
    let o : a ≡ b = cc in
    omega (arith, ap (λ (x : Reading ℕ). x.value) o)

module _ (s : List ℕ) (index : ℕ) (p : RecordAt) (g : Read s p) where
  route_is : image_route s index ≡ Ok (text_at (p.routes + 1) index g.value.routes)
  route_is = rw g.one (ap (λ (q : RecordAt). Ok (text_at (q.routes + 1) index g.value.routes)) (sym g.placed))

  pub nothing_there : p.route_count ≤ index → Ok None ≡ lookup_of (image_route s index)
  nothing_there h = let e : text_at (p.routes + 1) index g.value.routes ≡ None = past g.value.routes (p.routes + 1) index (omega (arith, count_is s p g)) in rw (route_is, e)

  module _ (h : index < p.route_count) where
    texts : Lies s (p.routes + 1) (write_all uri_text g.value.routes)
    texts = texts_there s p g (omega (arith, count_is s p g))

    placed : Placed s (texts_end index s (p.routes + 1)) (text_at (p.routes + 1) index g.value.routes)
    placed = text_past s g.value.routes (p.routes + 1) index (omega (arith, count_is s p g)) texts

    -- the texts begin within
    pub begin_within : p.routes + 1 ≤ length s
    begin_within = texts.here

    -- its two length bytes lie within
    pub length_within : texts_end index s (p.routes + 1) + 2 ≤ length s
    length_within = omega (arith, lies_length s (texts_end index s (p.routes + 1)) (text.write placed.value ++ placed.after) placed.lies)

    -- the answer at its place, with the length read there
    pub found : (at n : ℕ) → at ≡ texts_end index s (p.routes + 1) → two.read (drop at s) ≡ Some (record { value = n; rest = drop (at + 2) s })
        → Ok (Some (record { start = at + 2; length = n })) ≡ lookup_of (image_route s index)
    found at n e r =
        let f : Placed s at (text_at (p.routes + 1) index g.value.routes) = subst (λ (i : ℕ). Placed s i (text_at (p.routes + 1) index g.value.routes)) (sym e) placed in
        let m : n ≡ length f.value = length_is (length f.value) n (f.value ++ f.after) f.lies.are r in
        rw (route_is, f.is, m)
