-- The bytes of a store and its records: each gives the other back. Assumes nothing.
use Prim.Native.Nat.{ℕ, zero, suc, ◌≤◌}
use native.Mathlib.Omega.{arith}
use mathlib.Core.Path.{◌≡◌, refl, ap, subst, ◌∙◌}
use mathlib.Core.Bool.{Bool, true, false}
use mathlib.Core.List.{List, [], ◌∷◌, ◌++◌}
use lib.ListN.{length, length-append}
use Rattle.std.specs.Prelude.{None, Option, Some}
use Rattle.codec.specs.Codec.{Reading, write_all}
use Rattle.record.specs.Record.{Record, WellFormed, image}
use Rattle.record.specs.Store.{distinct, encode_all, record_before, read_on, records_in, only_distinct, decode_all}
use Rattle.codec.proofs.CodecLaws.{Bytes, bytes_after}
use Rattle.record.proofs.WellFormedLaws.{image_round, image_back}

-- every record is well-formed
abbrev pub EachFormed : List Record → Type 0
EachFormed [] = Unit {0}
EachFormed (r ∷ rs) = WellFormed r × EachFormed rs

-- ---- from records to bytes and back

records_round : (fuel : ℕ) (rs : List Record) → EachFormed rs → length (encode_all rs) ≤ fuel → records_in fuel (encode_all rs) ≡ Some rs
unfolding records_in write_all
records_round zero [] w h = refl
records_round (suc fuel) [] w h = refl
records_round zero (r ∷ rs) w h = absurd (omega (arith, length-append (image.write r) (write_all image rs)))
records_round (suc fuel) (r ∷ rs) w h = rw (image_round r w.0 (write_all image rs), records_round fuel rs w.1 (omega (arith, length-append (image.write r) (write_all image rs))))

pub decode_encode : (rs : List Record) → EachFormed rs → distinct rs ≡ true → decode_all (encode_all rs) ≡ Some rs
unfolding decode_all
decode_encode rs w d = rw (records_round (length (encode_all rs)) rs w (omega arith), d)

-- ---- from bytes to records and back

-- what the bytes of a store were
abbrev Were : List ℕ → List Record → Type 0
Were s rs = (s ≡ encode_all rs) × EachFormed rs

by_more : (s : List ℕ) (x : Reading Record) (o : Option (List Record)) (rs : List Record) → (s ≡ image.write x.value ++ x.rest) × WellFormed x.value
    → ((ts : List Record) → o ≡ Some ts → Were x.rest ts) → record_before x.value o ≡ Some rs → Were s rs
unfolding write_all
by_more s x None rs k more q = absurd (let z : ◌≡◌ {A = ℕ} 0 1 = cc in omega arith)
by_more s x (Some ts) rs k more q =
    let m : x.value ∷ ts ≡ rs = cc in
    let l = more ts refl in
    subst (Were s) m (k.0 ∙ ap (λ (t : List ℕ). image.write x.value ++ t) l.0, (k.1, l.1))

by_read : (s : List ℕ) (fuel : ℕ) (o : Option (Reading Record)) (rs : List Record) → Bytes s → image.read s ≡ o
    → ((t : List ℕ) (ts : List Record) → Bytes t → records_in fuel t ≡ Some ts → Were t ts) → read_on o (λ t. records_in fuel t) ≡ Some rs → Were s rs
by_read s fuel None rs h e more q = absurd (let z : ◌≡◌ {A = ℕ} 0 1 = cc in omega arith)
by_read s fuel (Some x) rs h e more q =
    let k = image_back s x h e in
    by_more s x (records_in fuel x.rest) rs k (λ ts. more x.rest ts (bytes_after (image.write x.value) x.rest (subst Bytes k.0 h))) q

records_back : (fuel : ℕ) (s : List ℕ) (rs : List Record) → Bytes s → records_in fuel s ≡ Some rs → Were s rs
unfolding records_in write_all
records_back zero [] rs h e = let q : [] ≡ rs = cc in subst (Were []) q (refl, tt)
records_back zero (b ∷ s) rs h e = absurd (let z : ◌≡◌ {A = ℕ} 0 1 = cc in omega arith)
records_back (suc fuel) [] rs h e = let q : [] ≡ rs = cc in subst (Were []) q (refl, tt)
records_back (suc fuel) (b ∷ s) rs h e = by_read (b ∷ s) fuel (image.read (b ∷ s)) rs h refl (records_back fuel) e

-- what a store's bytes are read as are well-formed records, one per identifier, and the bytes were theirs
pub decoded : (s : List ℕ) (rs : List Record) → Bytes s → decode_all s ≡ Some rs → (s ≡ encode_all rs) × EachFormed rs × (distinct rs ≡ true)
unfolding decode_all
decoded s rs h e = by (records_in (length s) s) refl e
  where
    by : (o : Option (List Record)) → records_in (length s) s ≡ o → only_distinct o ≡ Some rs → (s ≡ encode_all rs) × EachFormed rs × (distinct rs ≡ true)
    by None q e = absurd (let z : ◌≡◌ {A = ℕ} 0 1 = cc in omega arith)
    by (Some ts) q e = is (distinct ts) refl
      where
        is : (t : Bool) → distinct ts ≡ t → (s ≡ encode_all rs) × EachFormed rs × (distinct rs ≡ true)
        is true t =
            let u : Some ts ≡ Some rs = (rw t at e) in
            let v : ts ≡ rs = cc in
            let k = records_back (length s) s ts h q in
            subst (λ (x : List Record). (s ≡ encode_all x) × EachFormed x × (distinct x ≡ true)) v (k.0, k.1, t)
        is false t = absurd (let u : None ≡ Some rs = (rw t at e) in let z : ◌≡◌ {A = ℕ} 0 1 = cc in omega arith)
