-- The image of a record is exact. Assumes nothing.
use Prim.Native.Nat.{ℕ, ◌/◌, ◌%◌, ◌<◌}
use native.Mathlib.Omega.{arith}
use mathlib.Core.Path.{◌≡◌, refl, sym, ap, subst}
use mathlib.Core.Bool.{Bool, true, false, ◌&&◌, ◌||◌, beq, false≢true}
use mathlib.Core.List.{List, []}
use lib.ListN.{length}
use lib.Dec.{leb, ltb, eqb}
use borrow.Author.Tests.{eqb-true, eqb-false, ltb-true}
use Rattle.std.proofs.lemmas.Bool.{and_parts}
use Rattle.std.specs.Prelude.{None, Option, Some}
use Rattle.text.specs.Text.{is_value, all}
use Rattle.text.specs.Number.{non_empty}
use Rattle.record.specs.Record.{State, early, confirmed, terminated, Side, uac, uas, Record, is_readable, is_sips, id_text, uri_text, number, value_or, optional, side_number, side_of, refresher_field, routes_field, bit_of, state_number, state_of, StateByte, state_byte_number, state_byte_of, state_byte, stands, Fields, fields, map_of, fields_of, record_of, secure_right, image}
use Rattle.codec.proofs.CodecLaws.{Exact, byte_exact, four_exact, text_exact, then_exact, such_exact, GoodFlag, flagged_exact, mapped_exact, GoodAll, counted_exact, keyed_exact}

-- ---- fields

abbrev pub GoodId : List ℕ → Type 0
GoodId t = (length t < 65536) × ((non_empty t && all is_value t) ≡ true)

id_exact : (flag : Bool) → Exact (id_text flag) (GoodFlag flag [] GoodId)
id_exact flag = flagged_exact flag [] (such_exact text_exact (λ t. non_empty t && all is_value t))

abbrev pub GoodUri : List ℕ → Type 0
GoodUri t = (length t < 65536) × (is_readable t ≡ true)

uri_exact : Exact uri_text GoodUri
uri_exact = such_exact text_exact is_readable

abbrev pub GoodNumber : ℕ → Type 0
GoodNumber n = (n < 4294967296) × (ltb 0 n ≡ true)

number_exact : (flag : Bool) → Exact (number flag) (GoodFlag flag 0 GoodNumber)
number_exact flag = flagged_exact flag 0 (such_exact four_exact (λ n. ltb 0 n))

abbrev pub GoodOptional : Option ℕ → Type 0
GoodOptional None = ⊥
GoodOptional (Some n) = n < 4294967296

optional_exact : (flag : Bool) → Exact (optional flag) (GoodFlag flag None GoodOptional)
optional_exact flag = flagged_exact flag None (mapped_exact four_exact GoodOptional Some value_or there (λ a g. (refl, g)))
  where
    there : (o : Option ℕ) → GoodOptional o → (Some (value_or o) ≡ o) × (value_or o < 4294967296)
    there None g = absurd g
    there (Some n) g = (refl, g)

abbrev pub GoodSide : Option Side → Type 0
GoodSide None = ⊥
GoodSide (Some s) = Unit {0}

side_exact : (flag : Bool) → Exact (refresher_field flag) (GoodFlag flag None GoodSide)
side_exact flag = flagged_exact flag None (mapped_exact (such_exact four_exact (λ n. eqb n 1 || eqb n 2)) GoodSide side_of side_number there again)
  where
    there : (o : Option Side) → GoodSide o → (side_of (side_number o) ≡ o) × ((side_number o < 4294967296) × ((eqb (side_number o) 1 || eqb (side_number o) 2) ≡ true))
    there None g = absurd g
    there (Some uac) g = (refl, (omega arith, refl))
    there (Some uas) g = (refl, (omega arith, refl))

    one_or_two : (t u : Bool) (n : ℕ) → eqb n 1 ≡ t → eqb n 2 ≡ u → (t || u) ≡ true → (side_number (side_of n) ≡ n) × GoodSide (side_of n)
    one_or_two true u n p q e = rw p (sym (eqb-true n 1 p), tt)
    one_or_two false true n p q e = rw p (sym (eqb-true n 2 q), tt)
    one_or_two false false n p q e = absurd (false≢true e)

    again : (n : ℕ) → (n < 4294967296) × ((eqb n 1 || eqb n 2) ≡ true) → (side_number (side_of n) ≡ n) × GoodSide (side_of n)
    again n g = one_or_two (eqb n 1) (eqb n 2) n refl refl g.1

abbrev pub GoodRoutes : List (List ℕ) → Type 0
GoodRoutes l = (GoodAll GoodUri l × (length l < 256)) × ((ltb 0 (length l) && leb (length l) 50) ≡ true)

routes_exact : (flag : Bool) → Exact (routes_field flag) (GoodFlag flag [] GoodRoutes)
routes_exact flag = flagged_exact flag [] (such_exact (counted_exact uri_exact) (λ l. ltb 0 (length l) && leb (length l) 50))

-- ---- the state byte

bit_back : (x : ℕ) → x < 2 → bit_of (eqb x 1) ≡ x
bit_back x h = by (eqb x 1) refl
  where
    by : (t : Bool) → eqb x 1 ≡ t → bit_of (eqb x 1) ≡ x
    by true t = rw t (sym (eqb-true x 1 t))
    by false t = let k : x ≡ 1 → ⊥ = eqb-false x 1 t in rw t (omega arith)

state_back : (x : ℕ) → 0 < x → x < 4 → state_number (state_of x) ≡ x
state_back x p h = by (eqb x 1) (eqb x 2) refl refl
  where
    by : (t u : Bool) → eqb x 1 ≡ t → eqb x 2 ≡ u → state_number (state_of x) ≡ x
    by true u e f = rw e (sym (eqb-true x 1 e))
    by false true e f = rw (e, f) (sym (eqb-true x 2 f))
    by false false e f =
        let k : x ≡ 1 → ⊥ = eqb-false x 1 e in
        let l : x ≡ 2 → ⊥ = eqb-false x 2 f in
        rw (e, f) (omega arith)

abbrev state_test : ℕ → Bool
state_test n = ltb n 16 && ltb 0 (n % 4)

state_there : (b : StateByte) → Unit {0} → (state_byte_of (state_byte_number b) ≡ b) × ((state_byte_number b < 256) × (state_test (state_byte_number b) ≡ true))
state_there b g = by b.state b.we_are_uac b.secure
  where
    by : (s : State) (u c : Bool) → (state_byte_of (state_byte_number (record { state = s; we_are_uac = u; secure = c })) ≡ record { state = s; we_are_uac = u; secure = c })
        × ((state_byte_number (record { state = s; we_are_uac = u; secure = c }) < 256) × (state_test (state_byte_number (record { state = s; we_are_uac = u; secure = c })) ≡ true))
    by early true true = (refl, (omega arith, refl))
    by early true false = (refl, (omega arith, refl))
    by early false true = (refl, (omega arith, refl))
    by early false false = (refl, (omega arith, refl))
    by confirmed true true = (refl, (omega arith, refl))
    by confirmed true false = (refl, (omega arith, refl))
    by confirmed false true = (refl, (omega arith, refl))
    by confirmed false false = (refl, (omega arith, refl))
    by terminated true true = (refl, (omega arith, refl))
    by terminated true false = (refl, (omega arith, refl))
    by terminated false true = (refl, (omega arith, refl))
    by terminated false false = (refl, (omega arith, refl))

state_again : (n : ℕ) → (n < 256) × (state_test n ≡ true) → (state_byte_number (state_byte_of n) ≡ n) × Unit {0}
state_again n g =
    let k = and_parts (ltb n 16) (ltb 0 (n % 4)) g.1 in
    let l : n < 16 = ltb-true _ _ k.0 in
    let m : 0 < n % 4 = ltb-true _ _ k.1 in
    let a : state_number (state_of (n % 4)) ≡ n % 4 = state_back (n % 4) m (omega arith) in
    let b : bit_of (eqb (n / 4 % 2) 1) ≡ n / 4 % 2 = bit_back (n / 4 % 2) (omega arith) in
    let c : bit_of (eqb (n / 8) 1) ≡ n / 8 = bit_back (n / 8) (omega arith) in
    let d : n / 4 / 2 ≡ n / 8 = omega arith in
    (rw (a, b, c) (omega arith), tt)

state_exact : Exact state_byte (λ b. Unit {0})
state_exact = mapped_exact (such_exact byte_exact state_test) (λ b. Unit {0}) state_byte_of state_byte_number state_there state_again

-- ---- the fields under a map, and the image

abbrev pub GoodFields : ℕ → Fields → Type 0
GoodFields m f =
    (GoodFlag (stands 0 m) [] GoodId f.first.first × (GoodFlag (stands 1 m) [] GoodId f.first.second.first × GoodFlag (stands 2 m) [] GoodId f.first.second.second))
    × (Unit {0}
    × ((GoodUri f.second.second.first.first × (GoodUri f.second.second.first.second.first × GoodUri f.second.second.first.second.second))
    × (GoodFlag (stands 7 m) 0 GoodNumber f.second.second.second.first
    × (GoodFlag (stands 8 m) 0 GoodNumber f.second.second.second.second.first
    × (GoodFlag (stands 9 m) None GoodOptional f.second.second.second.second.second.first
    × (GoodFlag (stands 10 m) None GoodOptional f.second.second.second.second.second.second.first
    × (GoodFlag (stands 11 m) None GoodSide f.second.second.second.second.second.second.second.first
    × GoodFlag (stands 12 m) [] GoodRoutes f.second.second.second.second.second.second.second.second)))))))

fields_exact : (m : ℕ) → Exact (fields m) (GoodFields m)
fields_exact m =
    then_exact (then_exact (id_exact (stands 0 m)) (then_exact (id_exact (stands 1 m)) (id_exact (stands 2 m))))
    (then_exact state_exact
    (then_exact (then_exact uri_exact (then_exact uri_exact uri_exact))
    (then_exact (number_exact (stands 7 m))
    (then_exact (number_exact (stands 8 m))
    (then_exact (optional_exact (stands 9 m))
    (then_exact (optional_exact (stands 10 m))
    (then_exact (side_exact (stands 11 m)) (routes_exact (stands 12 m)))))))))

same_bit : (a b : Bool) → beq a b ≡ true → a ≡ b
same_bit true true e = refl
same_bit true false e = absurd (false≢true e)
same_bit false true e = absurd (false≢true e)
same_bit false false e = refl

same_bits : (a : Bool) → beq a a ≡ true
same_bits true = refl
same_bits false = refl

-- a record whose fields are good under their own map
abbrev pub GoodRecord : Record → Type 0
GoodRecord r = GoodFields (map_of (fields_of r)) (fields_of r) × (map_of (fields_of r) < 65536)

abbrev GoodMapped : Fields → Type 0
GoodMapped f = (GoodFields (map_of f) f × (map_of f < 65536)) × (secure_right f ≡ true)

record_there : (r : Record) → GoodRecord r → (record_of (fields_of r) ≡ r) × GoodMapped (fields_of r)
record_there r g = (refl, (g, same_bits (is_sips r.local_uri || is_sips r.remote_uri)))

record_again : (f : Fields) → GoodMapped f → (fields_of (record_of f) ≡ f) × GoodRecord (record_of f)
record_again f g =
    let e : f.second.first.secure ≡ (is_sips f.second.second.first.second.first || is_sips f.second.second.first.second.second) = same_bit _ _ g.1 in
    let q : fields_of (record_of f) ≡ f = ap (λ (c : Bool). record { first = f.first; second = record { first = record { state = f.second.first.state; we_are_uac = f.second.first.we_are_uac; secure = c }; second = f.second.second } }) (sym e) in
    (q, subst (λ (x : Fields). GoodFields (map_of x) x × (map_of x < 65536)) (sym q) g.0)

-- a record's image, then other bytes, is read as that record and the other bytes; and what was read was that image
pub image_exact : Exact image GoodRecord
image_exact = mapped_exact (such_exact (keyed_exact map_of fields GoodFields fields_exact) secure_right) GoodRecord record_of fields_of record_there record_again
