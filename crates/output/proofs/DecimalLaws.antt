-- The decimal text of a number: that it is what `io::decimal` writes, and that it reads as the number. Assumes nothing.
use Prim.Native.Nat.{ℕ, zero, suc, ◌+◌, ◌-◌, ◌*◌, ◌/◌, ◌%◌, ◌^◌, ◌≤◌, ◌<◌}
use native.Mathlib.Nat.{pow-suc, pow-succ', one-le-pow, mod-eq_of_lt, div-add-mod', mul_assoc, add-mul, add_assoc}
use native.Mathlib.Numerals.{add-one}
use native.Mathlib.Omega.{arith}
use mathlib.Core.Path.{◌≡◌, refl, ap, ◌∙◌}
use mathlib.Core.Bool.{Bool, true, false, cond}
use mathlib.Core.List.{List, [], ◌∷◌, ◌++◌}
use lib.ListN.{length, take, length-append}
use lib.Dec.{ltb, lit<}
use borrow.Author.Tests.{lt-ltb, ltb-true, ltb-false, le-leb, ne_eqb}
use Rattle.std.proofs.lemmas.Bool.{and_parts}
use Rattle.std.specs.Prelude.{Some}
use Rattle.io.specs.Counts.{IsPrefixLen}
use Rattle.io.specs.Digits.{hex_digit_ascii, last_digits, IsDigitCount}
use Rattle.text.specs.Text.{is_digit, all}
use Rattle.text.specs.Number.{value, non_empty, without_plus, digits_below, read_number}
use Rattle.output.specs.Decimal.{decimal_in, decimal_of}
use Rattle.output.proofs.ClassLaws.{within_range, all_append}

-- what holds of one digit, and of a digit after digits of which it holds, holds of the decimal text
module _ (P : ℕ → List ℕ → Type 0) (one : (n : ℕ) → n < 10 → P n ((48 + n) ∷ [])) (more : (n : ℕ) (s : List ℕ) → 10 ≤ n → P (n / 10) s → P n (s ++ ((48 + n % 10) ∷ []))) where
  by_size : (n : ℕ) (s : List ℕ) (t : Bool) → ltb n 10 ≡ t → (10 ≤ n → P (n / 10) s) → P n (cond t ((48 + n) ∷ []) (s ++ ((48 + n % 10) ∷ [])))
  by_size n s true e h = one n (ltb-true n 10 e)
  by_size n s false e h = more n s (ltb-false n 10 e) (h (ltb-false n 10 e))

  in_decimal : (steps n : ℕ) → n ≤ steps → P n (decimal_in steps n)
  unfolding decimal_in
  in_decimal zero n h = one n (omega arith)
  in_decimal (suc steps) n h = by_size n (decimal_in steps (n / 10)) (ltb n 10) refl (λ l. in_decimal steps (n / 10) (omega arith))

  of_decimal : (n : ℕ) → P n (decimal_of n)
  of_decimal n = in_decimal n n (omega arith)

-- ---- what `io::decimal` writes

digit : (d : ℕ) → d < 10 → hex_digit_ascii d ≡ 48 + d
digit d h = rw (lt-ltb d 10 h)

-- ten to a power above 0 is at least 10
ten_le : (j : ℕ) → 10 ≤ 10 ^ suc j
ten_le j = omega (arith, pow-succ' 10 j, one-le-pow j 10 (lit< tt))

one_digit : (k n : ℕ) → n < 10 → IsDigitCount 10 1 n k → last_digits 10 k n ≡ (48 + n) ∷ []
one_digit zero n h f = absurd (omega (arith, f.0))
one_digit (suc zero) n h f = rw (mod-eq_of_lt h, digit n h)
one_digit (suc (suc j)) n h f =
    let q : suc (suc j) - 1 ≡ suc j = omega arith in
    absurd (omega (arith, ten_le j, rw q at (f.2 (omega arith))))

-- one digit fewer of a number that has two or more
shorter : (j n : ℕ) → IsDigitCount 10 1 n (suc (suc j)) → IsDigitCount 10 1 (n / 10) (suc j)
shorter j n f =
    let q : suc (suc j) - 1 ≡ suc j = omega arith in
    let p : suc j - 1 ≡ j = omega arith in
    (omega arith, omega (arith, f.1, pow-suc 10 (suc j)), λ l. rw p (omega (arith, pow-suc 10 j, rw q at (f.2 (omega arith)))))

more_digits : (n : ℕ) (s : List ℕ) → 10 ≤ n → ((k : ℕ) → IsDigitCount 10 1 (n / 10) k → last_digits 10 k (n / 10) ≡ s) → (k : ℕ) → IsDigitCount 10 1 n k → last_digits 10 k n ≡ s ++ ((48 + n % 10) ∷ [])
more_digits n s l h zero f = absurd (omega (arith, f.0))
more_digits n s l h (suc zero) f = absurd (omega (arith, f.1))
more_digits n s l h (suc (suc j)) f = rw (digit (n % 10) (omega arith), h (suc j) (shorter j n f))

pub decimal_is : (n k : ℕ) → IsDigitCount 10 1 n k → last_digits 10 k n ≡ decimal_of n
decimal_is n = of_decimal (λ n s. (k : ℕ) → IsDigitCount 10 1 n k → last_digits 10 k n ≡ s) (λ n h k. one_digit k n h) more_digits n

-- ---- it reads as the number

value_last : (s : List ℕ) (d : ℕ) → value (s ++ ((48 + d) ∷ [])) ≡ value s * 10 + d
unfolding value
value_last [] d = omega arith
value_last (b ∷ s) d =
    let p : 10 ^ length (s ++ ((48 + d) ∷ [])) ≡ 10 ^ length s * 10 = ap (λ (n : ℕ). 10 ^ n) (length-append s ((48 + d) ∷ []) ∙ add-one (length s)) ∙ pow-suc 10 (length s) in
    rw (p, value_last s d, add-mul, mul_assoc, add_assoc)

is_digit_lem : (d : ℕ) → d < 10 → is_digit (48 + d) ≡ true
is_digit_lem d h = rw (le-leb 48 (48 + d) (omega arith), le-leb (48 + d) 57 (omega arith))

-- what the text of a number is
pub record Decimal (n : ℕ) (s : List ℕ) : Type 0 where
  pub says : value s ≡ n
  pub are_digits : all is_digit s ≡ true
  pub some_digit : non_empty s ≡ true

one_decimal : (n : ℕ) → n < 10 → Decimal n ((48 + n) ∷ [])
unfolding value all
one_decimal n h = record { says = omega arith; are_digits = rw (is_digit_lem n h); some_digit = refl }

last_some : (s : List ℕ) (b : ℕ) → non_empty (s ++ (b ∷ [])) ≡ true
last_some [] b = refl
last_some (x ∷ s) b = refl

more_decimal : (n : ℕ) (s : List ℕ) → 10 ≤ n → Decimal (n / 10) s → Decimal n (s ++ ((48 + n % 10) ∷ []))
more_decimal n s l r = record {
  says = value_last s (n % 10) ∙ rw r.says (div-add-mod' n 10);
  are_digits = all_append is_digit s ((48 + n % 10) ∷ []) r.are_digits (one_decimal (n % 10) (omega arith)).are_digits;
  some_digit = last_some s (48 + n % 10);
}

pub decimal : (n : ℕ) → Decimal n (decimal_of n)
decimal n = of_decimal Decimal one_decimal more_decimal n

no_sign : (s : List ℕ) → all is_digit s ≡ true → without_plus s ≡ s
unfolding all
no_sign [] e = refl
no_sign (b ∷ s) e =
    let r = within_range 48 57 b (and_parts (is_digit b) (all is_digit s) e).0 in
    rw (ne_eqb b 43 (λ z. omega arith))

-- the decimal text of a number of a width reads as it
pub reads : (width n : ℕ) → n < 2 ^ width → read_number width (decimal_of n) ≡ Some n
unfolding digits_below
reads width n h = rw (no_sign (decimal_of n) (decimal n).are_digits, (decimal n).some_digit, (decimal n).are_digits, (decimal n).says, lt-ltb n (2 ^ width) h)

-- ---- how long it is

more_length : (n : ℕ) (s : List ℕ) → 10 ≤ n → ((j : ℕ) → n / 10 < 10 ^ suc j → length s ≤ suc j) → (j : ℕ) → n < 10 ^ suc j → length (s ++ ((48 + n % 10) ∷ [])) ≤ suc j
more_length n s l h zero q = absurd (omega arith)
more_length n s l h (suc j) q = omega (arith, length-append s ((48 + n % 10) ∷ []), h j (omega (arith, pow-suc 10 (suc j))))

-- as many digits as the power of ten that is larger
pub few_digits : (n j : ℕ) → n < 10 ^ suc j → length (decimal_of n) ≤ suc j
few_digits n = of_decimal (λ n s. (j : ℕ) → n < 10 ^ suc j → length s ≤ suc j) (λ n h j q. omega arith) more_length n

-- a number of 32 bits has at most ten digits, one of 64 bits at most twenty
pub ten_digits : (n : ℕ) → n < 2 ^ 32 → length (decimal_of n) ≤ 10
ten_digits n h = few_digits n 9 (omega arith)

pub twenty_digits : (n : ℕ) → n < 2 ^ 64 → length (decimal_of n) ≤ 20
twenty_digits n h = few_digits n 19 (omega arith)

-- what `io::decimal` leaves of n in the bytes `out`
pub record Spelled (n k : ℕ) (out : List ℕ) : Type 0 where
  pub text : take k out ≡ decimal_of n
  pub size : k ≡ length (decimal_of n)
  pub small : k ≤ 10

pub spelled : (n k : ℕ) (out : List ℕ) → n < 2 ^ 32 → IsPrefixLen k out → IsDigitCount 10 1 n k → take k out ≡ last_digits 10 k n → Spelled n k out
spelled n k out h p f e =
    let t : take k out ≡ decimal_of n = e ∙ decimal_is n k f in
    let z : k ≡ length (decimal_of n) = p.1 ∙ ap length t in
    record { text = t; size = z; small = omega (arith, ten_digits n h) }
