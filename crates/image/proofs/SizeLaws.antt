-- What is read at a place ends at a place, as far on as the value is long; stated once for each way to make a form. Assumes nothing.
use Prim.Native.Nat.{ℕ, zero, suc, ◌+◌, ◌-◌, ◌*◌, ◌%◌, ◌≤◌}
use native.Mathlib.Omega.{arith}
use mathlib.Core.Path.{◌≡◌, refl, ap, subst, ◌∙◌}
use mathlib.Core.Bool.{Bool, true, false, cond, ◌&&◌, ◌||◌, false≢true}
use mathlib.Core.List.{List, [], ◌∷◌}
use lib.ListN.{length, drop, length-drop}
use lib.Seq.{drop-drop}
use lib.Dec.{leb, ltb, eqb}
use Rattle.std.specs.Prelude.{None, Option, Some}
use Rattle.text.specs.Text.{is_value, all}
use Rattle.text.specs.Number.{non_empty}
use Rattle.codec.specs.Codec.{Reading, read_byte, in_front, and_more, read_all, read_counted, counted}
use Rattle.codec.proofs.CodecLaws.{no_reading}
use Rattle.codec.proofs.SizeLaws.{Sized, byte_ends, byte_sized, four_sized, text_sized, then_sized, such_sized, flagged_sized, mapped_sized, keyed_sized}
use Rattle.record.specs.Record.{uac, uas, is_readable, id_text, uri_text, number, optional, value_or, side_of, side_number, refresher_field, routes_field, state_byte_of, state_byte_number, state_byte, bit_of, stands, Ids, Uris, Tail, ids_field, uris_field, tail_field, Record, Fields, fields, map_of, secure_right, record_of, fields_of, image}
use Rattle.image.specs.Places.{lead, number_size, option_size, texts_size, routes_size}

-- ---- the fields

-- an identifier part: its length bytes, if it isn't empty, and its bytes
abbrev pub id_size : List ℕ → ℕ
id_size t = lead t + length t

filled_size : (t : List ℕ) → (non_empty t && all is_value t) ≡ true → id_size t ≡ 2 + length t
filled_size [] e = absurd (false≢true e)
filled_size (b ∷ t) e = refl

pub id_sized : (flag : Bool) → Sized (id_text flag) id_size
id_sized flag = flagged_sized flag [] (such_sized text_sized (λ t. non_empty t && all is_value t) id_size filled_size) refl

abbrev pub uri_size : List ℕ → ℕ
uri_size t = 2 + length t

pub uri_sized : Sized uri_text uri_size
uri_sized = such_sized text_sized is_readable uri_size (λ t e. refl)

pub number_sized : (flag : Bool) → Sized (number flag) number_size
number_sized flag = flagged_sized flag 0 (such_sized four_sized (λ n. ltb 0 n) number_size (λ n e. ap (λ (b : Bool). 4 * bit_of b) e)) refl

pub optional_sized : (flag : Bool) → Sized (optional flag) option_size
optional_sized flag = flagged_sized flag None (mapped_sized four_sized Some value_or option_size (λ n. refl)) refl

side_size : (n : ℕ) → option_size (side_of n) ≡ 4
side_size n = by (eqb n 1)
  where
    by : (b : Bool) → option_size (cond b (Some uac) (Some uas)) ≡ 4
    by true = refl
    by false = refl

pub side_sized : (flag : Bool) → Sized (refresher_field flag) option_size
side_sized flag = flagged_sized flag None (mapped_sized (such_sized four_sized (λ n. eqb n 1 || eqb n 2) (λ n. 4) (λ n e. refl)) side_of side_number option_size side_size) refl

pub state_sized : Sized state_byte (λ b. 1)
state_sized = mapped_sized (such_sized byte_sized (λ n. ltb n 16 && ltb 0 (n % 4)) (λ n. 1) (λ n e. refl)) state_byte_of state_byte_number (λ b. 1) (λ n. refl)

-- ---- the routes

-- so many texts as were asked for, and where they end
abbrev Texts : List ℕ → ℕ → Reading (List (List ℕ)) → Type 0
Texts t n x = (x.rest ≡ drop (texts_size x.value) t) × ((texts_size x.value ≤ length t) × (length x.value ≡ n))

by_others : (t : List ℕ) (n : ℕ) (a : Reading (List ℕ)) (o : Option (Reading (List (List ℕ)))) (x : Reading (List (List ℕ))) → (a.rest ≡ drop (uri_size a.value) t) × (uri_size a.value ≤ length t)
    → ((b : Reading (List (List ℕ))) → o ≡ Some b → Texts a.rest n b) → in_front a.value o ≡ Some x → Texts t (suc n) x
unfolding texts_size
by_others t n a None x k more r = absurd (no_reading r)
by_others t n a (Some b) x k more r =
    let w : record { value = a.value ∷ b.value; rest = b.rest } ≡ x = cc in
    let m = more b refl in
    let l : length a.rest ≡ length t - uri_size a.value = ap length k.0 ∙ length-drop (uri_size a.value) t in
    subst (λ (z : Reading (List (List ℕ))). Texts t (suc n) z) w
    (m.0 ∙ ap (λ (u : List ℕ). drop (texts_size b.value) u) k.0 ∙ drop-drop (texts_size b.value) (uri_size a.value) t, (omega (arith, m.1.0, k.1, l), ap suc m.1.1))

by_one : (t : List ℕ) (n : ℕ) (o : Option (Reading (List ℕ))) (x : Reading (List (List ℕ))) → uri_text.read t ≡ o
    → ((u : List ℕ) (b : Reading (List (List ℕ))) → read_all uri_text n u ≡ Some b → Texts u n b) → and_more o (read_all uri_text n) ≡ Some x → Texts t (suc n) x
by_one t n None x e more r = absurd (no_reading r)
by_one t n (Some a) x e more r = by_others t n a (read_all uri_text n a.rest) x (uri_sized.ends t a e) (λ b. more a.rest b) r

pub texts_end_lem : (n : ℕ) (t : List ℕ) (x : Reading (List (List ℕ))) → read_all uri_text n t ≡ Some x → Texts t n x
unfolding read_all texts_size
texts_end_lem zero t x e =
    let w : record { value = []; rest = t } ≡ x = cc in
    subst (λ (z : Reading (List (List ℕ))). Texts t 0 z) w (refl, (omega arith, refl))
texts_end_lem (suc n) t x e = by_one t n (uri_text.read t) x refl (texts_end_lem n) e

abbrev counted_size : List (List ℕ) → ℕ
counted_size l = 1 + texts_size l

by_count : (t : List ℕ) (o : Option (Reading ℕ)) (x : Reading (List (List ℕ))) → read_byte t ≡ o → read_counted uri_text o ≡ Some x → (x.rest ≡ drop (counted_size x.value) t) × (counted_size x.value ≤ length t)
by_count t None x e r = absurd (no_reading r)
by_count t (Some n) x e r =
    let k = byte_ends t n e in
    let m = texts_end_lem n.value n.rest x r in
    let l : length n.rest ≡ length t - 1 = ap length k.0 ∙ length-drop 1 t in
    (m.0 ∙ ap (λ (u : List ℕ). drop (texts_size x.value) u) k.0 ∙ drop-drop (texts_size x.value) 1 t, omega (arith, m.1.0, k.1, l))

counted_sized : Sized (counted uri_text) counted_size
counted_sized = record { ends = λ t x e. by_count t (read_byte t) x refl e }

routes_size_lem : (l : List (List ℕ)) → (ltb 0 (length l) && leb (length l) 50) ≡ true → routes_size l ≡ counted_size l
routes_size_lem [] e = absurd (false≢true e)
routes_size_lem (t ∷ l) e = refl

no_routes : routes_size [] ≡ 0
unfolding texts_size
no_routes = refl

pub routes_sized : (flag : Bool) → Sized (routes_field flag) routes_size
routes_sized flag = flagged_sized flag [] (such_sized counted_sized (λ l. ltb 0 (length l) && leb (length l) 50) routes_size routes_size_lem) no_routes

-- ---- the sections

abbrev pub ids_size : Ids → ℕ
ids_size i = id_size i.first + (id_size i.second.first + id_size i.second.second)

pub ids_sized : (m : ℕ) → Sized (ids_field m) ids_size
ids_sized m = then_sized (id_sized (stands 0 m)) (then_sized (id_sized (stands 1 m)) (id_sized (stands 2 m)))

abbrev pub uris_size : Uris → ℕ
uris_size u = uri_size u.first + (uri_size u.second.first + uri_size u.second.second)

pub uris_sized : Sized uris_field uris_size
uris_sized = then_sized uri_sized (then_sized uri_sized uri_sized)

abbrev pub tail_size : Tail → ℕ
tail_size t =
    number_size t.first
    + (number_size t.second.first
    + (option_size t.second.second.first
    + (option_size t.second.second.second.first
    + (option_size t.second.second.second.second.first + routes_size t.second.second.second.second.second))))

pub tail_sized : (m : ℕ) → Sized (tail_field m) tail_size
tail_sized m =
    then_sized (number_sized (stands 7 m))
    (then_sized (number_sized (stands 8 m))
    (then_sized (optional_sized (stands 9 m))
    (then_sized (optional_sized (stands 10 m))
    (then_sized (side_sized (stands 11 m)) (routes_sized (stands 12 m))))))

-- ---- the record

abbrev fields_size : Fields → ℕ
fields_size f = ids_size f.first + (1 + (uris_size f.second.second.first + tail_size f.second.second.second))

abbrev pub record_size : Record → ℕ
record_size r = 2 + fields_size (fields_of r)

pub record_sized : Sized image record_size
record_sized =
    mapped_sized
    (such_sized (keyed_sized map_of fields (λ m. then_sized (ids_sized m) (then_sized state_sized (then_sized uris_sized (tail_sized m))))) secure_right (λ f. 2 + fields_size f) (λ f e. refl))
    record_of
    fields_of
    record_size
    (λ f. refl)
