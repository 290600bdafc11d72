-- The fields that are read under a map have that map exactly if bits 3 to 6 stand in it, and none above 12. Assumes nothing.
use Prim.Native.Nat.{ℕ, ◌+◌, ◌*◌, ◌/◌, ◌%◌, ◌≤◌, ◌<◌}
use native.Mathlib.Omega.{arith}
use mathlib.Core.Path.{◌≡◌, refl, sym, ap, subst, ◌∙◌}
use mathlib.Core.Bool.{Bool, true, false, cond, ◌&&◌, ◌||◌, false≢true}
use mathlib.Core.List.{List, [], ◌∷◌}
use lib.ListN.{length}
use lib.Dec.{leb, ltb, eqb}
use borrow.Author.Tests.{eq-eqb, ne_eqb, eqb-true, eqb-false, lt-ltb, ltb-true}
use Rattle.std.proofs.lemmas.Bool.{and_parts}
use Rattle.std.specs.Prelude.{None, Option, Some}
use Rattle.text.specs.Text.{is_value, all}
use Rattle.text.specs.Number.{non_empty}
use Rattle.codec.specs.Codec.{Reading, Codec, Pair, four, text, counted, paired, read_then, then, passing, such, flagged, renamed}
use Rattle.record.specs.Record.{uac, uas, id_text, uri_text, number, optional, side_of, refresher_field, routes_field, bit_of, stands, is_filled, is_given, Ids, Tail, Fields, ids_field, tail_field, map_of}
use Rattle.codec.proofs.CodecLaws.{no_reading}
use Rattle.record.proofs.MapLaws.{bit_le}

-- ---- arithmetic

-- the map as a sum of powers times bits, as MapLaws has it
abbrev pub sum : ℕ → ℕ → ℕ → ℕ → ℕ → ℕ → ℕ → ℕ → ℕ → ℕ
sum a b c g h i j k l = a + 2 * b + 4 * c + 120 + (128 * g + 256 * h + 512 * i + 1024 * j + 2048 * k + 4096 * l)

-- the low bits, and those above the middle
low : (m : ℕ) → m / 1 % 2 + 2 * (m / 2 % 2) + 4 * (m / 4 % 2) ≡ m % 8
low m =
    let q1 : m / 2 / 2 ≡ m / 4 = omega arith in
    let q2 : m / 4 / 2 ≡ m / 8 = omega arith in
    omega arith

high_3 : (m : ℕ) → 128 * (m / 128 % 2) + 256 * (m / 256 % 2) + 512 * (m / 512 % 2) + 1024 * (m / 1024) ≡ 128 * (m / 128)
high_3 m =
    let q4 : m / 128 / 2 ≡ m / 256 = omega arith in
    let q5 : m / 256 / 2 ≡ m / 512 = omega arith in
    let q6 : m / 512 / 2 ≡ m / 1024 = omega arith in
    omega arith

times : (a b c x : ℕ) → a + 2 * b + 4 * c ≡ x → 1024 * a + 2048 * b + 4096 * c ≡ 1024 * x
times a b c x e = omega arith

high_6 : (m : ℕ) → m < 8192 → 1024 * (m / 1024 % 2) + 2048 * (m / 2048 % 2) + 4096 * (m / 4096 % 2) ≡ 1024 * (m / 1024)
high_6 m h =
    let q0 : m / 1024 / 1 ≡ m / 1024 = omega arith in
    let q1 : m / 1024 / 2 ≡ m / 2048 = omega arith in
    let q2 : m / 1024 / 4 ≡ m / 4096 = omega arith in
    let q3 : m / 1024 % 8 ≡ m / 1024 = omega arith in
    times (m / 1024 % 2) (m / 2048 % 2) (m / 4096 % 2) (m / 1024) (rw (q0, q1, q2, q3) at (low (m / 1024)))

middle : (m : ℕ) → m / 8 % 16 ≡ 15 → m % 8 + 120 + 128 * (m / 128) ≡ m
middle m e =
    let q3 : m / 8 / 16 ≡ m / 128 = omega arith in
    omega arith

gather : (a b c g h i j k l x y z m : ℕ) → a + 2 * b + 4 * c ≡ x → 128 * g + 256 * h + 512 * i + 1024 * y ≡ 128 * z → 1024 * j + 2048 * k + 4096 * l ≡ 1024 * y → x + 120 + 128 * z ≡ m → sum a b c g h i j k l ≡ m
gather a b c g h i j k l x y z m p q r t = omega arith

pub sum_is : (m : ℕ) → m / 8 % 16 ≡ 15 → m < 8192 → sum (m / 1 % 2) (m / 2 % 2) (m / 4 % 2) (m / 128 % 2) (m / 256 % 2) (m / 512 % 2) (m / 1024 % 2) (m / 2048 % 2) (m / 4096 % 2) ≡ m
sum_is m e h = gather (m / 1 % 2) (m / 2 % 2) (m / 4 % 2) (m / 128 % 2) (m / 256 % 2) (m / 512 % 2) (m / 1024 % 2) (m / 2048 % 2) (m / 4096 % 2) (m % 8) (m / 1024) (m / 128) m (low m) (high_3 m) (high_6 m h) (middle m e)

-- and every such sum is a map
module _ (a b c g h i j k l : ℕ) (ha : a ≤ 1) (hb : b ≤ 1) (hc : c ≤ 1) (hg : g ≤ 1) (hh : h ≤ 1) (hi : i ≤ 1) (hj : j ≤ 1) (hk : k ≤ 1) (hl : l ≤ 1) where
  pub sum_middle : sum a b c g h i j k l / 8 % 16 ≡ 15
  sum_middle = omega arith

  pub sum_small : sum a b c g h i j k l < 8192
  sum_small = omega arith

-- ---- what every value that a form reads is known for

pub record Gives {A : Type 0} (c : Codec A) (P : A → Type 0) : Type 0 where
  pub holds : (t : List ℕ) (x : Reading A) → c.read t ≡ Some x → P x.value

module _ {A B : Type 0} {c : Codec A} {d : Codec B} {P : A → Type 0} {Q : B → Type 0} (p : Gives c P) (q : Gives d Q) where
  by_second : (a : A) (t : List ℕ) (o : Option (Reading B)) (x : Reading (Pair A B)) → P a → d.read t ≡ o → paired a o ≡ Some x → P x.value.first × Q x.value.second
  by_second a t None x g e r = absurd (no_reading r)
  by_second a t (Some b) x g e r =
      let w : record { value = record { first = a; second = b.value }; rest = b.rest } ≡ x = cc in
      subst (λ (z : Reading (Pair A B)). P z.value.first × Q z.value.second) w (g, q.holds t b e)

  by_first : (t : List ℕ) (o : Option (Reading A)) (x : Reading (Pair A B)) → c.read t ≡ o → read_then o d.read ≡ Some x → P x.value.first × Q x.value.second
  by_first t None x e r = absurd (no_reading r)
  by_first t (Some a) x e r = by_second a.value a.rest (d.read a.rest) x (p.holds t a e) refl r

  then_gives : Gives (then c d) (λ x. P x.first × Q x.second)
  then_gives = record { holds = λ t x e. by_first t (c.read t) x refl e }

passed : {A : Type 0} (test : A → Bool) (o : Option (Reading A)) (x : Reading A) → passing test o ≡ Some x → test x.value ≡ true
passed test None x r = absurd (no_reading r)
passed {A} test (Some a) x r = by (test a.value) refl
  where
    by : (b : Bool) → test a.value ≡ b → test x.value ≡ true
    by true b =
        let m : Some a ≡ Some x = (rw b at r) in
        let w : a ≡ x = cc in
        subst (λ (z : Reading A). test z.value ≡ true) w b
    by false b = absurd (no_reading (rw b at r))

named : {A B : Type 0} (f : A → B) (P : B → Type 0) → ((a : A) → P (f a)) → (o : Option (Reading A)) (x : Reading B) → renamed f o ≡ Some x → P x.value
named f P all None x r = absurd (no_reading r)
named {A} {B} f P all (Some a) x r =
    let w : record { value = f a.value; rest = a.rest } ≡ x = cc in
    subst (λ (z : Reading B). P z.value) w (all a.value)

-- the field is there exactly if its bit stands
flagged_gives : {A : Type 0} {c : Codec A} {there : A → Bool} (flag : Bool) (absent : A) → there absent ≡ false → Gives c (λ a. there a ≡ true) → Gives (flagged flag absent c) (λ a. there a ≡ flag)
flagged_gives true absent z p = p
flagged_gives {A} {c} {there} false absent z p = record { holds = nothing }
  where
    nothing : (t : List ℕ) (x : Reading A) → Some (record { value = absent; rest = t }) ≡ Some x → there x.value ≡ false
    nothing t x e =
        let w : record { value = absent; rest = t } ≡ x = cc in
        subst (λ (y : Reading A). there y.value ≡ false) w z

-- ---- the fields

filled_text : (t : List ℕ) (b : Bool) → (non_empty t && b) ≡ true → is_filled t ≡ true
filled_text [] b e = e
filled_text (a ∷ t) b e = refl

filled_list : (l : List (List ℕ)) (b : Bool) → (ltb 0 (length l) && b) ≡ true → is_filled l ≡ true
filled_list [] b e = e
filled_list (a ∷ l) b e = refl

id_gives : (flag : Bool) → Gives (id_text flag) (λ t. is_filled t ≡ flag)
id_gives flag = flagged_gives flag [] refl (record { holds = λ t x e. filled_text x.value (all is_value x.value) (passed (λ v. non_empty v && all is_value v) (text.read t) x e) })

number_gives : (flag : Bool) → Gives (number flag) (λ n. ltb 0 n ≡ flag)
number_gives flag = flagged_gives flag 0 refl (record { holds = λ t x e. passed (λ n. ltb 0 n) (four.read t) x e })

optional_gives : (flag : Bool) → Gives (optional flag) (λ o. is_given o ≡ flag)
optional_gives flag = flagged_gives flag None refl (record { holds = λ t x e. named Some (λ o. is_given o ≡ true) (λ n. refl) (four.read t) x e })

given_side : (n : ℕ) → is_given (side_of n) ≡ true
given_side n = by (eqb n 1)
  where
    by : (b : Bool) → is_given (cond b (Some uac) (Some uas)) ≡ true
    by true = refl
    by false = refl

side_gives : (flag : Bool) → Gives (refresher_field flag) (λ o. is_given o ≡ flag)
side_gives flag = flagged_gives flag None refl (record { holds = λ t x e. named side_of (λ o. is_given o ≡ true) given_side ((such four (λ n. eqb n 1 || eqb n 2)).read t) x e })

routes_gives : (flag : Bool) → Gives (routes_field flag) (λ l. is_filled l ≡ flag)
routes_gives flag = flagged_gives flag [] refl (record { holds = λ t x e. filled_list x.value (leb (length x.value) 50) (passed (λ l. ltb 0 (length l) && leb (length l) 50) ((counted uri_text).read t) x e) })

-- the fields that are there are those whose bit stands
abbrev pub IdsThere : ℕ → Ids → Type 0
IdsThere m i = (is_filled i.first ≡ stands 0 m) × ((is_filled i.second.first ≡ stands 1 m) × (is_filled i.second.second ≡ stands 2 m))

pub ids_give : (m : ℕ) → Gives (ids_field m) (IdsThere m)
ids_give m = then_gives (id_gives (stands 0 m)) (then_gives (id_gives (stands 1 m)) (id_gives (stands 2 m)))

abbrev pub TailThere : ℕ → Tail → Type 0
TailThere m t =
    (ltb 0 t.first ≡ stands 7 m)
    × ((ltb 0 t.second.first ≡ stands 8 m)
    × ((is_given t.second.second.first ≡ stands 9 m)
    × ((is_given t.second.second.second.first ≡ stands 10 m)
    × ((is_given t.second.second.second.second.first ≡ stands 11 m) × (is_filled t.second.second.second.second.second ≡ stands 12 m)))))

pub tail_gives : (m : ℕ) → Gives (tail_field m) (TailThere m)
tail_gives m =
    then_gives (number_gives (stands 7 m))
    (then_gives (number_gives (stands 8 m))
    (then_gives (optional_gives (stands 9 m))
    (then_gives (optional_gives (stands 10 m))
    (then_gives (side_gives (stands 11 m)) (routes_gives (stands 12 m))))))

-- ---- the map

-- bits 3 to 6 stand, and none above 12
abbrev pub is_map : ℕ → Bool
is_map m = eqb (m / 8 % 16) 15 && ltb m 8192

bit_is : (x : ℕ) {b : Bool} → x < 2 → b ≡ eqb x 1 → bit_of b ≡ x
bit_is x {b} h e = rw e (by (eqb x 1) refl)
  where
    by : (t : Bool) → eqb x 1 ≡ t → bit_of t ≡ x
    by true t = sym (eqb-true x 1 t)
    by false t = let k : x ≡ 1 → ⊥ = eqb-false x 1 t in omega arith

sums : {a b c g h i j k l a' b' c' g' h' i' j' k' l' : ℕ} → a ≡ a' → b ≡ b' → c ≡ c' → g ≡ g' → h ≡ h' → i ≡ i' → j ≡ j' → k ≡ k' → l ≡ l' → sum a b c g h i j k l ≡ sum a' b' c' g' h' i' j' k' l'
sums x1 x2 x3 x4 x5 x6 x7 x8 x9 = cc

-- the fields have the map under which they were read
pub map_is : (m : ℕ) (f : Fields) → is_map m ≡ true → IdsThere m f.first → TailThere m f.second.second.second → eqb (map_of f) m ≡ true
unfolding map_of
map_is m f e i t =
    let k = and_parts (eqb (m / 8 % 16) 15) (ltb m 8192) e in
    eq-eqb _ _
    (sums (bit_is (m / 1 % 2) (omega arith) i.0) (bit_is (m / 2 % 2) (omega arith) i.1.0) (bit_is (m / 4 % 2) (omega arith) i.1.1)
    (bit_is (m / 128 % 2) (omega arith) t.0) (bit_is (m / 256 % 2) (omega arith) t.1.0) (bit_is (m / 512 % 2) (omega arith) t.1.1.0)
    (bit_is (m / 1024 % 2) (omega arith) t.1.1.1.0) (bit_is (m / 2048 % 2) (omega arith) t.1.1.1.1.0) (bit_is (m / 4096 % 2) (omega arith) t.1.1.1.1.1)
    ∙ sum_is m (eqb-true _ _ k.0) (ltb-true _ _ k.1))

-- and the map of fields is one
map_of_lem : (f : Fields) → is_map (map_of f) ≡ true
unfolding map_of
map_of_lem f =
    let i = f.first in
    let t = f.second.second.second in
    let a = is_filled i.first in
    let b = is_filled i.second.first in
    let c = is_filled i.second.second in
    let g = ltb 0 t.first in
    let h = ltb 0 t.second.first in
    let j = is_given t.second.second.first in
    let k = is_given t.second.second.second.first in
    let l = is_given t.second.second.second.second.first in
    let n = is_filled t.second.second.second.second.second in
    rw (eq-eqb _ _ (sum_middle (bit_of a) (bit_of b) (bit_of c) (bit_of g) (bit_of h) (bit_of j) (bit_of k) (bit_of l) (bit_of n) (bit_le a) (bit_le b) (bit_le c) (bit_le g) (bit_le h) (bit_le j) (bit_le k) (bit_le l) (bit_le n)))
    (lt-ltb _ _ (sum_small (bit_of a) (bit_of b) (bit_of c) (bit_of g) (bit_of h) (bit_of j) (bit_of k) (bit_of l) (bit_of n) (bit_le a) (bit_le b) (bit_le c) (bit_le g) (bit_le h) (bit_le j) (bit_le k) (bit_le l) (bit_le n)))

pub map_not : (m : ℕ) (f : Fields) → is_map m ≡ false → eqb (map_of f) m ≡ false
map_not m f e = ne_eqb (map_of f) m (λ q. false≢true (sym e ∙ ap is_map (sym q) ∙ map_of_lem f))
