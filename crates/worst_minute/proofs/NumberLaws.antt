-- Numbers of bytes, the highest first: each gives the other back, over the width. Assumes nothing.
use Prim.Native.Nat.{ℕ, zero, suc, ◌+◌, ◌*◌, ◌/◌, ◌%◌, ◌^◌, ◌≤◌, ◌<◌}
use native.Mathlib.Nat.{add-zero, add-suc, suc-add, zero-add, pow-suc, div-div-eq-div-mul}
use native.Mathlib.Omega.{arith}
use mathlib.Core.Path.{◌≡◌, refl, sym, ap, ap₂, ◌∙◌}
use mathlib.Core.List.{List, [], ◌∷◌, ◌++◌, append_assoc, append-nil}
use lib.ListN.{length, take, drop, get_or, length-append, length-drop}
use lib.Seq.{get_or-drop, drop-drop, take-add, length-take-le}
use Rattle.std.specs.Prelude.{Option, Some}
use Rattle.codec.specs.Codec.{Reading, eight}
use Rattle.codec.proofs.ReadLaws.{four_at_lem}
use Rattle.worst_minute.specs.Layout.{value_of, bytes_of}

-- every element is a byte
abbrev pub Bytes : List ℕ → Type 0
Bytes s = (i : ℕ) → get_or s i 0 < 256

pub bytes_take : (n : ℕ) (s : List ℕ) → Bytes s → Bytes (take n s)
bytes_take zero s h i = omega arith
bytes_take (suc n) [] h i = omega arith
bytes_take (suc n) (b ∷ s) h zero = h 0
bytes_take (suc n) (b ∷ s) h (suc i) = bytes_take n s (λ j. h (suc j)) i

pub bytes_drop : (n : ℕ) (s : List ℕ) → Bytes s → Bytes (drop n s)
bytes_drop zero s h i = h i
bytes_drop (suc n) [] h i = omega arith
bytes_drop (suc n) (b ∷ s) h i = bytes_drop n s (λ j. h (suc j)) i

pub length_bytes : (k n : ℕ) → length (bytes_of k n) ≡ k
unfolding bytes_of
length_bytes zero n = refl
length_bytes (suc k) n = omega (arith, length-append (bytes_of k (n / 256)) (n % 256 ∷ []), length_bytes k (n / 256))

-- bytes after others
pub value_append : (n : ℕ) (s t : List ℕ) → value_of n (s ++ t) ≡ value_of (value_of n s) t
unfolding value_of
value_append n [] t = refl
value_append n (b ∷ s) t = value_append (n * 256 + b) s t

-- a number's bytes are read as the number
pub value_bytes : (k n : ℕ) → n < 256 ^ k → value_of 0 (bytes_of k n) ≡ n
unfolding value_of bytes_of
value_bytes zero n h = omega arith
value_bytes (suc k) n h =
    let p : 256 ^ suc k ≡ 256 ^ k * 256 = pow-suc 256 k in
    let q : n < 256 ^ k * 256 = (rw p at h) in
    let less : n / 256 < 256 ^ k = omega arith in
    value_append 0 (bytes_of k (n / 256)) (n % 256 ∷ []) ∙ ap (λ m. m * 256 + n % 256) (value_bytes k (n / 256) less) ∙ omega arith

-- and what was read was the number's bytes
pub bytes_after : (k n : ℕ) (s : List ℕ) → Bytes s → bytes_of (k + length s) (value_of n s) ≡ bytes_of k n ++ s
unfolding value_of bytes_of
bytes_after k n [] h = ap (λ j. bytes_of j n) (add-zero k) ∙ sym (append-nil (bytes_of k n))
bytes_after k n (b ∷ s) h =
    let byte : b < 256 = h 0 in
    let high : (n * 256 + b) / 256 ≡ n = omega arith in
    let low : (n * 256 + b) % 256 ≡ b = omega arith in
    ap (λ j. bytes_of j (value_of (n * 256 + b) s)) (add-suc k (length s) ∙ sym (suc-add k (length s)))
    ∙ bytes_after (suc k) (n * 256 + b) s (λ i. h (suc i))
    ∙ append_assoc (bytes_of k ((n * 256 + b) / 256)) ((n * 256 + b) % 256 ∷ []) s
    ∙ ap₂ (λ x y. bytes_of k x ++ (y ∷ s)) high low

pub bytes_value : (s : List ℕ) → Bytes s → bytes_of (length s) (value_of 0 s) ≡ s
unfolding bytes_of
bytes_value s h = ap (λ j. bytes_of j (value_of 0 s)) (sym (zero-add (length s))) ∙ bytes_after 0 0 s h

-- ---- eight bytes, as `codec` reads them

-- a word behind a number
four_after : (n : ℕ) (t : List ℕ) → length t ≡ 4 → value_of n t ≡ n * 4294967296 + value_of 0 t
unfolding value_of
four_after n [] h = absurd (omega (arith, h))
four_after n (a ∷ []) h = absurd (omega (arith, h))
four_after n (a ∷ b ∷ []) h = absurd (omega (arith, h))
four_after n (a ∷ b ∷ c ∷ []) h = absurd (omega (arith, h))
four_after n (a ∷ b ∷ c ∷ d ∷ []) h = omega arith
four_after n (a ∷ b ∷ c ∷ d ∷ e ∷ t) h = absurd (omega (arith, h))

-- the first four bytes
four_first : (t : List ℕ) → 4 ≤ length t → ((get_or t 0 0 * 256 + get_or t 1 0) * 256 + get_or t 2 0) * 256 + get_or t 3 0 ≡ value_of 0 (take 4 t)
unfolding value_of
four_first [] h = absurd (omega (arith, h))
four_first (a ∷ []) h = absurd (omega (arith, h))
four_first (a ∷ b ∷ []) h = absurd (omega (arith, h))
four_first (a ∷ b ∷ c ∷ []) h = absurd (omega (arith, h))
four_first (a ∷ b ∷ c ∷ d ∷ t) h = omega arith

-- those at a place
pub word_told : (s : List ℕ) (at : ℕ) → at + 4 ≤ length s → ((get_or s at 0 * 256 + get_or s (at + 1) 0) * 256 + get_or s (at + 2) 0) * 256 + get_or s (at + 3) 0 ≡ value_of 0 (take 4 (drop at s))
word_told s at h =
    let e : get_or (drop at s) 0 0 ≡ get_or s at 0 = get_or-drop at s 0 0 ∙ ap (λ i. get_or s i 0) (add-zero at) in
    omega (arith, e, get_or-drop at s 1 0, get_or-drop at s 2 0, get_or-drop at s 3 0, four_first (drop at s) (simp length-drop (omega arith)))

same_value : {x y : ℕ} {s t : List ℕ} → ◌≡◌ {A = Option (Reading ℕ)} (Some (record { value = x; rest = s })) (Some (record { value = y; rest = t })) → x ≡ y
same_value {x} {y} {s} {t} e = let q : ◌≡◌ {A = Reading ℕ} (record { value = x; rest = s }) (record { value = y; rest = t }) = cc in ap (λ (r : Reading ℕ). r.value) q

-- two words, one after the other
pub time_told : (s : List ℕ) (at : ℕ) → at + 8 ≤ length s → {n : ℕ} {rest : List ℕ} → eight.read (drop at s) ≡ Some (record { value = n; rest = rest }) → n ≡ value_of 0 (take 8 (drop at s))
time_told s at h {n} {rest} q =
    let t : List ℕ = take 4 (drop (at + 4) s) in
    let l : length t ≡ 4 = length-take-le 4 (drop (at + 4) s) (simp length-drop (omega arith)) in
    let e : take 8 (drop at s) ≡ take 4 (drop at s) ++ t = take-add 4 4 (drop at s) ∙ ap (λ u. take 4 (drop at s) ++ take 4 u) (drop-drop 4 at s) in
    let k : value_of 0 (take 8 (drop at s)) ≡ value_of (value_of 0 (take 4 (drop at s))) t = ap (value_of 0) e ∙ value_append 0 (take 4 (drop at s)) t in
    let v = same_value (rw (four_at_lem s at (omega arith), four_at_lem s (at + 4) (omega arith)) at q) in
    omega (arith, v, k, four_after (value_of 0 (take 4 (drop at s))) t l, word_told s at (omega arith), word_told s (at + 4) (omega arith))

-- ---- eight bytes, as `codec` writes them

low_24 : (n : ℕ) → n / 16777216 % 256 ≡ n % 4294967296 / 16777216
low_24 n = omega arith

low_16 : (n : ℕ) → n / 65536 % 256 ≡ n % 4294967296 / 65536 % 256
low_16 n = omega arith

low_8 : (n : ℕ) → n / 256 % 256 ≡ n % 4294967296 / 256 % 256
low_8 n = omega arith

low_0 : (n : ℕ) → n % 256 ≡ n % 4294967296 % 256
low_0 n = omega arith

high_24 : (n : ℕ) → n < 18446744073709551616 → n / 4294967296 / 16777216 % 256 ≡ n / 4294967296 / 16777216
high_24 n h = omega arith

pub eight_written : (n : ℕ) → n < 18446744073709551616 → bytes_of 8 n ≡ eight.write n
unfolding bytes_of
eight_written n h =
    rw (
      div-div-eq-div-mul n 256 256,
      div-div-eq-div-mul n 65536 256,
      div-div-eq-div-mul n 16777216 256,
      div-div-eq-div-mul (n / 4294967296) 256 256,
      div-div-eq-div-mul (n / 4294967296) 65536 256,
      high_24 n h,
      low_24 n,
      low_16 n,
      low_8 n,
      low_0 n,
    )
