-- The fields of an image after the identifier, place by place, up to its end. Assumes nothing.
use Prim.Native.Nat.{ℕ, ◌+◌, ◌*◌, ◌/◌, ◌%◌, ◌≤◌, ◌<◌}
use native.Mathlib.Omega.{arith}
use mathlib.Core.Path.{◌≡◌, refl, sym, ap, subst, ◌∙◌}
use mathlib.Core.Bool.{Bool, true, false}
use mathlib.Core.List.{List, [], ◌∷◌, ◌++◌, append_assoc}
use lib.ListN.{length, get_or}
use lib.Dec.{eqb}
use borrow.Author.Tests.{eq-eqb, ne_eqb, eqb-true, eqb-false}
use Rattle.std.specs.Prelude.{Option}
use Rattle.codec.specs.Codec.{text, write_all}
use Rattle.record.specs.Record.{Record, Side, bit_of, stands, uri_text, number, optional, refresher_field, routes_field, tail_field, state_byte_number, Tail, map_of, fields_of, image}
use Rattle.codec.proofs.CodecLaws.{Bytes}
use Rattle.record_walk.specs.Walk.{At, two_at, past_text, ids_end, end_at, texts_end}
use Rattle.record_walk.proofs.Parts.{Lies, lies_past, lies_length, lies_get_or, lies_text}
use Rattle.record_walk.proofs.Images.{rec, image_at_lem, map_at, third_end, after_at, ids_end_is}
use Rattle.record_walk.proofs.Texts.{texts_lie}

-- ---- a bit as a number

bit_is : (x : ℕ) → x < 2 → bit_of (eqb x 1) ≡ x
bit_is x h = by (eqb x 1) refl
  where
    by : (t : Bool) → eqb x 1 ≡ t → bit_of (eqb x 1) ≡ x
    by true t = rw t (sym (eqb-true x 1 t))
    by false t = let k : x ≡ 1 → ⊥ = eqb-false x 1 t in rw t (omega arith)

-- ---- lengths of fields of numbers

number_length : (flag : Bool) (n : ℕ) → length ((number flag).write n) ≡ 4 * bit_of flag
number_length true n = refl
number_length false n = refl

optional_length : (flag : Bool) (n : Option ℕ) → length ((optional flag).write n) ≡ 4 * bit_of flag
optional_length true n = refl
optional_length false n = refl

side_length : (flag : Bool) (n : Option Side) → length ((refresher_field flag).write n) ≡ 4 * bit_of flag
side_length true n = refl
side_length false n = refl

-- how many of bits 7 to 11 stand
abbrev pub number_count : ℕ → ℕ
number_count m = m / 128 % 2 + m / 256 % 2 + m / 512 % 2 + m / 1024 % 2 + m / 2048 % 2

grouped : (a b c d e r t : List ℕ) → (a ++ (b ++ (c ++ (d ++ (e ++ r))))) ++ t ≡ a ++ (b ++ (c ++ (d ++ (e ++ (r ++ t)))))
grouped a b c d e r t = simp append_assoc

-- the routes' bytes
abbrev route_bytes : ℕ → Tail → List ℕ
route_bytes m x = (routes_field (stands 12 m)).write x.second.second.second.second.second

module _ (s : List ℕ) (m : ℕ) (x : Tail) where
  -- past the numbers
  past_numbers : (at : ℕ) (t : List ℕ) → Lies s at ((tail_field m).write x ++ t) → Lies s (at + 4 * number_count m) (route_bytes m x ++ t)
  past_numbers at t l =
      let a = (number (stands 7 m)).write x.first in
      let b = (number (stands 8 m)).write x.second.first in
      let c = (optional (stands 9 m)).write x.second.second.first in
      let d = (optional (stands 10 m)).write x.second.second.second.first in
      let e = (refresher_field (stands 11 m)).write x.second.second.second.second.first in
      let l0 : Lies s at (a ++ (b ++ (c ++ (d ++ (e ++ (route_bytes m x ++ t)))))) = subst (Lies s at) (grouped a b c d e (route_bytes m x) t) l in
      let l1 = lies_past s at a (b ++ (c ++ (d ++ (e ++ (route_bytes m x ++ t))))) l0 in
      let l2 = lies_past s (at + length a) b (c ++ (d ++ (e ++ (route_bytes m x ++ t)))) l1 in
      let l3 = lies_past s (at + length a + length b) c (d ++ (e ++ (route_bytes m x ++ t))) l2 in
      let l4 = lies_past s (at + length a + length b + length c) d (e ++ (route_bytes m x ++ t)) l3 in
      let l5 = lies_past s (at + length a + length b + length c + length d) e (route_bytes m x ++ t) l4 in
      subst (λ (n : ℕ). Lies s n (route_bytes m x ++ t)) (sums at (length a) (length b) (length c) (length d) (length e) (number_length (stands 7 m) x.first) (number_length (stands 8 m) x.second.first) (optional_length (stands 9 m) x.second.second.first) (optional_length (stands 10 m) x.second.second.second.first) (side_length (stands 11 m) x.second.second.second.second.first)) l5
    where
      sums : (n a b c d e : ℕ) → a ≡ 4 * bit_of (stands 7 m) → b ≡ 4 * bit_of (stands 8 m) → c ≡ 4 * bit_of (stands 9 m) → d ≡ 4 * bit_of (stands 10 m) → e ≡ 4 * bit_of (stands 11 m) → n + a + b + c + d + e ≡ n + 4 * number_count m
      sums n a b c d e f g h i j =
          let f2 : bit_of (stands 7 m) ≡ m / 128 % 2 = bit_is (m / 128 % 2) (omega arith) in
          let g2 : bit_of (stands 8 m) ≡ m / 256 % 2 = bit_is (m / 256 % 2) (omega arith) in
          let h2 : bit_of (stands 9 m) ≡ m / 512 % 2 = bit_is (m / 512 % 2) (omega arith) in
          let i2 : bit_of (stands 10 m) ≡ m / 1024 % 2 = bit_is (m / 1024 % 2) (omega arith) in
          let j2 : bit_of (stands 11 m) ≡ m / 2048 % 2 = bit_is (m / 2048 % 2) (omega arith) in
          rw (f ∙ ap (λ (z : ℕ). 4 * z) f2, g ∙ ap (λ (z : ℕ). 4 * z) g2, h ∙ ap (λ (z : ℕ). 4 * z) h2, i ∙ ap (λ (z : ℕ). 4 * z) i2, j ∙ ap (λ (z : ℕ). 4 * z) j2) (omega arith)

-- the routes: a count byte and the texts, or nothing
no_routes : (m : ℕ) (x : Tail) → m / 4096 % 2 ≡ 0 → route_bytes m x ≡ []
no_routes m x h =
    let e : stands 12 m ≡ false = ne_eqb (m / 4096 % 2) 1 (λ q. omega arith) in
    ap (λ (f : Bool). (routes_field f).write x.second.second.second.second.second) e

some_routes : (m : ℕ) (x : Tail) → (m / 4096 % 2 ≡ 0 → ⊥) → route_bytes m x ≡ length x.second.second.second.second.second ∷ write_all uri_text x.second.second.second.second.second
some_routes m x h =
    let e : stands 12 m ≡ true = eq-eqb (m / 4096 % 2) 1 (omega arith) in
    ap (λ (f : Bool). (routes_field f).write x.second.second.second.second.second) e

-- ---- the places of a record's fields

module _ (s : List ℕ) (p : ℕ) (b : Bytes s) (x : At s p) where
  abbrev r : Record
  r = rec s p b x

  abbrev rest : List ℕ
  rest = x.reading.rest

  abbrev tail : Tail
  tail = (fields_of r).second.second.second

  abbrev tail_bytes : List ℕ
  tail_bytes = (tail_field (map_of (fields_of r))).write tail

  abbrev pub target : ℕ
  target = third_end s p b x + 1

  abbrev pub local_uri_start : ℕ
  local_uri_start = target + length (text.write r.target)

  abbrev pub remote_uri_start : ℕ
  remote_uri_start = local_uri_start + length (text.write r.local_uri)

  abbrev pub numbers : ℕ
  numbers = remote_uri_start + length (text.write r.remote_uri)

  target_at : Lies s target (text.write r.target ++ (text.write r.local_uri ++ (text.write r.remote_uri ++ (tail_bytes ++ rest))))
  target_at =
      let l = lies_past s (third_end s p b x) (state_byte_number (fields_of r).second.first ∷ []) _ (after_at s p b x) in
      let u = text.write r.target in
      let v = text.write r.local_uri in
      let w = text.write r.remote_uri in
      subst (Lies s target) (append_assoc (u ++ (v ++ w)) tail_bytes rest ∙ append_assoc u (v ++ w) (tail_bytes ++ rest) ∙ ap (λ (t : List ℕ). u ++ t) (append_assoc v w (tail_bytes ++ rest))) l

  pub local_uri_at : Lies s local_uri_start (text.write r.local_uri ++ (text.write r.remote_uri ++ (tail_bytes ++ rest)))
  local_uri_at = lies_past s target (text.write r.target) _ target_at

  pub remote_uri_at : Lies s remote_uri_start (text.write r.remote_uri ++ (tail_bytes ++ rest))
  remote_uri_at = lies_past s local_uri_start (text.write r.local_uri) _ local_uri_at

  pub numbers_at_lem : Lies s numbers (tail_bytes ++ rest)
  numbers_at_lem = lies_past s remote_uri_start (text.write r.remote_uri) _ remote_uri_at

  pub target_is : (d : ℕ) → d ≡ ids_end s p → d + 1 ≡ target
  target_is d q = omega (arith, ids_end_is s p b x)

  pub target_past : (d : ℕ) → d ≡ target → past_text s d true ≡ local_uri_start
  target_past d q = ap (λ (n : ℕ). past_text s n true) q ∙ lies_text s target r.target _ target_at

  pub local_uri_past : (d : ℕ) → d ≡ local_uri_start → past_text s d true ≡ remote_uri_start
  local_uri_past d q = ap (λ (n : ℕ). past_text s n true) q ∙ lies_text s local_uri_start r.local_uri _ local_uri_at

  pub remote_uri_past : (d : ℕ) → d ≡ remote_uri_start → past_text s d true ≡ numbers
  remote_uri_past d q = ap (λ (n : ℕ). past_text s n true) q ∙ lies_text s remote_uri_start r.remote_uri _ remote_uri_at

  -- ---- the end

  end_at_lem : Lies s (end_at s p) rest
  unfolding end_at
  end_at_lem = rw x.reads (lies_past s p (image.write r) rest (image_at_lem s p b x))

  ends_where : (at : ℕ) → Lies s at rest → at ≡ end_at s p
  ends_where at l = omega (arith, lies_length s at rest l, lies_length s (end_at s p) rest end_at_lem)

  module _ (m d : ℕ) (q : m ≡ two_at s p) (e : d ≡ numbers) where
    routes_at_lem : Lies s (d + 4 * number_count m) (route_bytes m tail ++ rest)
    routes_at_lem = rw (e, q, map_at s p b x) (past_numbers s (map_of (fields_of r)) tail numbers rest numbers_at_lem)

    pub without_routes : m / 4096 % 2 ≡ 0 → d + 4 * number_count m ≡ end_at s p
    without_routes h = ends_where (d + 4 * number_count m) (subst (λ (w : List ℕ). Lies s (d + 4 * number_count m) (w ++ rest)) (no_routes m tail h) routes_at_lem)

    module _ (h : m / 4096 % 2 ≡ 0 → ⊥) where
      counted_at : Lies s (d + 4 * number_count m) (length r.routes ∷ (write_all uri_text r.routes ++ rest))
      counted_at = subst (λ (w : List ℕ). Lies s (d + 4 * number_count m) (w ++ rest)) (some_routes m tail h) routes_at_lem

      pub count_here : d + 4 * number_count m < length s
      count_here = omega (arith, lies_length s _ _ counted_at)

      pub count_is : get_or s (d + 4 * number_count m) 0 ≡ length r.routes
      count_is =
          let z : d + 4 * number_count m + 0 ≡ d + 4 * number_count m = omega arith in
          ap (λ (i : ℕ). get_or s i 0) (sym z) ∙ lies_get_or s _ _ counted_at 0

      texts_at_lem : Lies s (d + 4 * number_count m + 1) (write_all uri_text r.routes ++ rest)
      texts_at_lem = lies_past s _ (length r.routes ∷ []) _ counted_at

      pub texts_end_lem : (n : ℕ) → n ≡ get_or s (d + 4 * number_count m) 0 → texts_end n s (d + 4 * number_count m + 1) ≡ end_at s p
      texts_end_lem n k =
          ap (λ (i : ℕ). texts_end i s (d + 4 * number_count m + 1)) (k ∙ count_is)
          ∙ texts_lie s r.routes (d + 4 * number_count m + 1) rest texts_at_lem
          ∙ ends_where _ (lies_past s _ (write_all uri_text r.routes) rest texts_at_lem)

  pub end_here : end_at s p ≤ length s
  end_here = end_at_lem.here
