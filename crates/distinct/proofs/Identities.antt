-- Two well-formed records have one identifier exactly if they have one key. Assumes nothing.
use Prim.Native.Nat.{ℕ}
use native.Mathlib.Omega.{arith}
use mathlib.Core.Path.{◌≡◌, refl, sym, ap, ◌∙◌}
use mathlib.Core.Bool.{Bool, true, false, ◌&&◌}
use mathlib.Core.List.{List, [], ◌∷◌, ◌++◌}
use Rattle.std.proofs.lemmas.Bool.{and_parts}
use Rattle.std.specs.Prelude.{Option, Some}
use Rattle.text.specs.Text.{is_value, all, equal}
use Rattle.text.specs.Number.{non_empty}
use Rattle.codec.specs.Codec.{Reading, Codec, then}
use Rattle.record.specs.Record.{Record, Ids, WellFormed, bit_of, is_filled, id_text, ids_map, fields_of}
use Rattle.record.specs.Store.{same_id}
use Rattle.codec.proofs.CodecLaws.{Exact, text_exact, then_exact, such_exact, GoodFlag, flagged_exact}
use Rattle.record.proofs.MapLaws.{bit_le, stands_0, stands_1, stands_2}
use Rattle.record.proofs.RecordLaws.{GoodId}
use Rattle.record.proofs.WellFormedLaws.{good}
use Rattle.record_walk.specs.Walk.{ids_bytes}
use Rattle.distinct.specs.Keys.{key_of}
use Rattle.text.proofs.Sames.{equal_same, equal_is}

-- ---- the bytes of an identifier under its flags

abbrev ids_form : Bool → Bool → Bool → Codec Ids
ids_form f g h = then (id_text f) (then (id_text g) (id_text h))

abbrev GoodIds : Bool → Bool → Bool → Ids → Type 0
GoodIds f g h i = GoodFlag f [] GoodId i.first × (GoodFlag g [] GoodId i.second.first × GoodFlag h [] GoodId i.second.second)

id_exact : (flag : Bool) → Exact (id_text flag) (GoodFlag flag [] GoodId)
id_exact flag = flagged_exact flag [] (such_exact text_exact (λ t. non_empty t && all is_value t))

ids_exact : (f g h : Bool) → Exact (ids_form f g h) (GoodIds f g h)
ids_exact f g h = then_exact (id_exact f) (then_exact (id_exact g) (id_exact h))

reading_same : (i j : Ids) → ◌≡◌ {A = Option (Reading Ids)} (Some (record { value = i; rest = [] })) (Some (record { value = j; rest = [] })) → i ≡ j
reading_same i j e =
    let q : ◌≡◌ {A = Reading Ids} (record { value = i; rest = [] }) (record { value = j; rest = [] }) = cc in
    ap (λ (r : Reading Ids). r.value) q

same_bytes : (f g h : Bool) (i j : Ids) → GoodIds f g h i → GoodIds f g h j → (ids_form f g h).write i ≡ (ids_form f g h).write j → i ≡ j
same_bytes f g h i j a b e =
    let x = (ids_exact f g h).round i a [] in
    let y = (ids_exact f g h).round j b [] in
    let z = ap (λ (w : List ℕ). (ids_form f g h).read (w ++ [])) e in
    reading_same i j (sym x ∙ z ∙ y)

good_ids : (r : Record) → WellFormed r → GoodIds (is_filled r.call_id) (is_filled r.local_tag) (is_filled r.remote_tag) (fields_of r).first
good_ids r w =
    let g = (good r w).0.0 in
    rw (stands_0 (fields_of r), stands_1 (fields_of r), stands_2 (fields_of r)) at g

-- ---- flags

pub bit_same : (a b : Bool) → bit_of a ≡ bit_of b → a ≡ b
bit_same true true e = refl
bit_same true false e = absurd (omega arith)
bit_same false true e = absurd (omega arith)
bit_same false false e = refl

same_flags : (i j : Ids) → ids_map i ≡ ids_map j → (is_filled i.first ≡ is_filled j.first) × (is_filled i.second.first ≡ is_filled j.second.first) × (is_filled i.second.second ≡ is_filled j.second.second)
same_flags i j e =
    let a = bit_le (is_filled i.first) in
    let b = bit_le (is_filled i.second.first) in
    let c = bit_le (is_filled i.second.second) in
    let d = bit_le (is_filled j.first) in
    let f = bit_le (is_filled j.second.first) in
    let g = bit_le (is_filled j.second.second) in
    (bit_same _ _ (omega arith), bit_same _ _ (omega arith), bit_same _ _ (omega arith))

-- ---- keys

first_same : (x y : ℕ) (a b : List ℕ) → x ∷ a ≡ y ∷ b → (x ≡ y) × (a ≡ b)
first_same x y a b e = (cc, cc)

-- one key, one identifier
pub key_ids : (a b : Record) → WellFormed a → WellFormed b → key_of a ≡ key_of b → (fields_of a).first ≡ (fields_of b).first
unfolding key_of
key_ids a b v w e =
    let i = (fields_of a).first in
    let j = (fields_of b).first in
    let k = first_same (ids_map i) (ids_map j) (ids_bytes i) (ids_bytes j) e in
    let f = same_flags i j k.0 in
    let g : GoodIds (is_filled a.call_id) (is_filled a.local_tag) (is_filled a.remote_tag) j = rw (f.0, f.1, f.2) (good_ids b w) in
    same_bytes (is_filled a.call_id) (is_filled a.local_tag) (is_filled a.remote_tag) i j (good_ids a v) g (k.1 ∙ rw (f.0, f.1, f.2))

-- one identifier, one key
ids_key : (a b : Record) → a.call_id ≡ b.call_id → a.local_tag ≡ b.local_tag → a.remote_tag ≡ b.remote_tag → key_of a ≡ key_of b
unfolding key_of
ids_key a b p q r = rw (p, q, r)

-- ---- the two tests

equivalent : (x y : Bool) → (x ≡ true → y ≡ true) → (y ≡ true → x ≡ true) → x ≡ y
equivalent true true f g = refl
equivalent true false f g = sym (f refl)
equivalent false true f g = g refl
equivalent false false f g = refl

pub same_key : (a b : Record) → WellFormed a → WellFormed b → same_id a b ≡ equal (key_of a) (key_of b)
same_key a b v w = equivalent (same_id a b) (equal (key_of a) (key_of b)) there back
  where
    there : same_id a b ≡ true → equal (key_of a) (key_of b) ≡ true
    there e =
        let x = and_parts (equal a.call_id b.call_id) (equal a.local_tag b.local_tag && equal a.remote_tag b.remote_tag) e in
        let y = and_parts (equal a.local_tag b.local_tag) (equal a.remote_tag b.remote_tag) x.1 in
        let p : a.call_id ≡ b.call_id = equal_is _ _ x.0 in
        let q : a.local_tag ≡ b.local_tag = equal_is _ _ y.0 in
        let r : a.remote_tag ≡ b.remote_tag = equal_is _ _ y.1 in
        rw (ids_key a b p q r) (equal_same (key_of b))

    back : equal (key_of a) (key_of b) ≡ true → same_id a b ≡ true
    back e =
        let i = key_ids a b v w (equal_is (key_of a) (key_of b) e) in
        let p : a.call_id ≡ b.call_id = ap (λ (x : Ids). x.first) i in
        let q : a.local_tag ≡ b.local_tag = ap (λ (x : Ids). x.second.first) i in
        let r : a.remote_tag ≡ b.remote_tag = ap (λ (x : Ids). x.second.second) i in
        rw (p, q, r, equal_same b.call_id, equal_same b.local_tag, equal_same b.remote_tag)
