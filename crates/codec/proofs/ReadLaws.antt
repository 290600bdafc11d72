-- Texts and numbers at a place of bytes: the tests that the code makes pick what is answered. Assumes nothing.
use Prim.Native.Nat.{ℕ, suc, ◌+◌, ◌-◌, ◌*◌, ◌≤◌, ◌<◌}
use native.Mathlib.Numerals.{add-one}
use native.Mathlib.Omega.{arith}
use mathlib.Core.Path.{◌≡◌, refl, ap, ◌∙◌}
use mathlib.Core.Bool.{Bool, true, false}
use mathlib.Core.List.{List, [], ◌∷◌}
use lib.ListN.{length, take, drop, get_or, length-drop}
use lib.Seq.{get_or-take, get_or-drop, drop-cons}
use lib.Dec.{leb}
use borrow.Author.Tests.{leb-true, leb-false}
use Rattle.std.specs.Prelude.{None, Some}
use Rattle.std.specs.Int.{w16, w32, w64, from_be_bytes}
use Rattle.codec.specs.Codec.{byte, two, read_two, four, read_four, eight, text}
use Rattle.codec.specs.Places.{text_from}

-- a byte of a part
byte_of : (s : List ℕ) (at n i j : ℕ) {bs : List ℕ} → bs ≡ take n (drop at s) → i < n → j ≡ at + i → get_or bs i 0 ≡ get_or s j 0
byte_of s at n i j {bs} p h e = rw (p, e) (get_or-take n (drop at s) i 0 h ∙ get_or-drop at s i 0)

-- the bytes that make a number, the highest first
be_two : (s : List ℕ) → from_be_bytes w16 s ≡ get_or s 0 0 * 256 + get_or s 1 0
be_two s = omega arith

be_four : (s : List ℕ) → from_be_bytes w32 s ≡ ((get_or s 0 0 * 256 + get_or s 1 0) * 256 + get_or s 2 0) * 256 + get_or s 3 0
be_four s = omega arith

be_eight : (s : List ℕ) → from_be_bytes w64 s ≡ (((get_or s 0 0 * 256 + get_or s 1 0) * 256 + get_or s 2 0) * 256 + get_or s 3 0) * 4294967296 + (((get_or s 4 0 * 256 + get_or s 5 0) * 256 + get_or s 6 0) * 256 + get_or s 7 0)
be_eight s = omega arith

-- ---- one, two and four bytes

short_two : (t : List ℕ) → length t < 2 → read_two t ≡ None
short_two [] h = refl
short_two (a ∷ []) h = refl
short_two (a ∷ b ∷ t) h = absurd (omega arith)

short_four : (t : List ℕ) → length t < 4 → read_four t ≡ None
short_four [] h = refl
short_four (a ∷ []) h = refl
short_four (a ∷ b ∷ []) h = refl
short_four (a ∷ b ∷ c ∷ []) h = refl
short_four (a ∷ b ∷ c ∷ d ∷ t) h = absurd (omega arith)

module _ (s : List ℕ) (at : ℕ) where
  pub byte_at : at < length s → byte.read (drop at s) ≡ Some (record { value = get_or s at 0; rest = drop (at + 1) s })
  byte_at h = rw (drop-cons s at 0 h, add-one at)

  pub two_at : at + 2 ≤ length s → two.read (drop at s) ≡ Some (record { value = get_or s at 0 * 256 + get_or s (at + 1) 0; rest = drop (at + 2) s })
  two_at h =
      let a : at < length s = omega arith in
      let b : suc at < length s = omega arith in
      let e : suc (suc at) ≡ at + 2 = omega arith in
      rw (drop-cons s at 0 a, drop-cons s (suc at) 0 b, add-one at, e)

  pub two_told : at + 2 ≤ length s → {bs : List ℕ} {n : ℕ} → bs ≡ take 2 (drop at s) → n ≡ from_be_bytes w16 bs → two.read (drop at s) ≡ Some (record { value = n; rest = drop (at + 2) s })
  two_told h {bs} {n} p q = rw (two_at h) (ap (λ (k : ℕ). Some (record { value = k; rest = drop (at + 2) s })) (omega (arith, q ∙ be_two bs, byte_of s at 2 0 at p (omega arith) (omega arith), byte_of s at 2 1 (at + 1) p (omega arith) (omega arith))))

  pub two_none : length s - at < 2 → two.read (drop at s) ≡ None
  two_none h = short_two (drop at s) (omega (arith, length-drop at s))

  pub four_at_lem : at + 4 ≤ length s → four.read (drop at s) ≡ Some (record { value = ((get_or s at 0 * 256 + get_or s (at + 1) 0) * 256 + get_or s (at + 2) 0) * 256 + get_or s (at + 3) 0; rest = drop (at + 4) s })
  four_at_lem h =
      let a : at < length s = omega arith in
      let b : suc at < length s = omega arith in
      let c : suc (suc at) < length s = omega arith in
      let d : suc (suc (suc at)) < length s = omega arith in
      let e : at + 2 ≡ suc (suc at) = omega arith in
      let f : at + 3 ≡ suc (suc (suc at)) = omega arith in
      let g : at + 4 ≡ suc (suc (suc (suc at))) = omega arith in
      rw (drop-cons s at 0 a, drop-cons s (suc at) 0 b, drop-cons s (suc (suc at)) 0 c, drop-cons s (suc (suc (suc at))) 0 d, add-one at, e, f, g)

  pub four_told : at + 4 ≤ length s → {bs : List ℕ} {n : ℕ} → bs ≡ take 4 (drop at s) → n ≡ from_be_bytes w32 bs → four.read (drop at s) ≡ Some (record { value = n; rest = drop (at + 4) s })
  four_told h {bs} {n} p q = rw (four_at_lem h) (ap (λ (k : ℕ). Some (record { value = k; rest = drop (at + 4) s })) (omega (arith, q ∙ be_four bs, byte_of s at 4 0 at p (omega arith) (omega arith), byte_of s at 4 1 (at + 1) p (omega arith) (omega arith), byte_of s at 4 2 (at + 2) p (omega arith) (omega arith), byte_of s at 4 3 (at + 3) p (omega arith) (omega arith))))

  pub four_none : length s - at < 4 → four.read (drop at s) ≡ None
  four_none h = short_four (drop at s) (omega (arith, length-drop at s))

  -- ---- texts

  pub text_short : length s - at < 2 → None ≡ text_from at (text.read (drop at s))
  text_short h = rw (two_none h)

-- ---- eight bytes

module _ (s : List ℕ) (at : ℕ) where
  pub eight_told : at + 8 ≤ length s → {bs : List ℕ} {n : ℕ} → bs ≡ take 8 (drop at s) → n ≡ from_be_bytes w64 bs → eight.read (drop at s) ≡ Some (record { value = n; rest = drop (at + 8) s })
  eight_told h {bs} {n} p q =
      let e : at + 4 + 4 ≡ at + 8 = omega arith in
      rw (four_at_lem s at (omega arith), four_at_lem s (at + 4) (omega arith), e) (ap (λ (k : ℕ). Some (record { value = k; rest = drop (at + 8) s })) (omega (arith, q ∙ be_eight bs, byte_of s at 8 0 at p (omega arith) (omega arith), byte_of s at 8 1 (at + 1) p (omega arith) (omega arith), byte_of s at 8 2 (at + 2) p (omega arith) (omega arith), byte_of s at 8 3 (at + 3) p (omega arith) (omega arith), byte_of s at 8 4 (at + 4) p (omega arith) (omega arith), byte_of s at 8 5 (at + 4 + 1) p (omega arith) (omega arith), byte_of s at 8 6 (at + 4 + 2) p (omega arith) (omega arith), byte_of s at 8 7 (at + 4 + 3) p (omega arith) (omega arith))))

-- too few
pub eight_none : (s : List ℕ) (at : ℕ) → length s - at < 8 → eight.read (drop at s) ≡ None
eight_none s at h = by (leb 4 (length s - at)) refl
  where
    by : (b : Bool) → leb 4 (length s - at) ≡ b → eight.read (drop at s) ≡ None
    by true e = let l : 4 ≤ length s - at = leb-true _ _ e in rw (four_at_lem s at (omega arith), four_none s (at + 4) (omega arith))
    by false e = let l : length s - at < 4 = leb-false _ _ e in rw (four_none s at l)
