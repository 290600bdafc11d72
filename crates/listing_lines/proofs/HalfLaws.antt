-- The refresh second in the words of document 02, request 8: the nearest whole second to half of the seconds, and the even one of two that are as
-- near. Assumes nothing.
use Prim.Native.Nat.{ℕ, zero, suc, ◌+◌, ◌*◌, ◌≤◌, ◌<◌, ◌/◌, ◌%◌}
use native.Mathlib.Omega.{arith}
use mathlib.Core.Path.{◌≡◌, refl, sym, ap, subst, ◌∙◌}
use mathlib.Core.Bool.{Bool, true, false}
use mathlib.Core.Logic.{◌⊎◌, inl, inr}
use lib.Dec.{eqb}
use borrow.Author.Tests.{eqb-true, eqb-false}
use Rattle.listing_lines.specs.Listing.{apart, NearestHalf, half_to_even}

-- it is not over the seconds
pub half_least : (n : ℕ) → half_to_even n ≤ n
half_least n = omega arith

-- an odd one is exactly half
odd_exact : (n : ℕ) → (half_to_even n % 2 ≡ 0 → ⊥) → 2 * half_to_even n ≡ n
odd_exact n h = by (n % 4) (n / 4) (omega arith) (omega arith)
  where
    even : (k : ℕ) → half_to_even n ≡ 2 * k → half_to_even n % 2 ≡ 0
    even k e = ap (λ i. i % 2) e ∙ omega arith

    by : (r q : ℕ) → n ≡ 4 * q + r → r < 4 → 2 * half_to_even n ≡ n
    by zero q e l = omega (arith, e)
    by (suc zero) q e l = absurd (h (even q (omega (arith, e))))
    by (suc (suc zero)) q e l = omega (arith, e)
    by (suc (suc (suc zero))) q e l = absurd (h (even (q + 1) (omega (arith, e))))
    by (suc (suc (suc (suc r)))) q e l = absurd (omega (arith, l))

-- where it is as far as another, it is that one, or even
even_half : (n k : ℕ) → apart (2 * k) n ≡ apart (2 * half_to_even n) n → (k ≡ half_to_even n) ⊎ (half_to_even n % 2 ≡ 0)
even_half n k e = by (eqb (half_to_even n % 2) 0) refl
  where
    by : (t : Bool) → eqb (half_to_even n % 2) 0 ≡ t → (k ≡ half_to_even n) ⊎ (half_to_even n % 2 ≡ 0)
    by true t = inr (eqb-true (half_to_even n % 2) 0 t)
    by false t = inl (omega (arith, e, odd_exact n (eqb-false (half_to_even n % 2) 0 t)))

pub nearest_half : (n : ℕ) → NearestHalf n (half_to_even n)
nearest_half n = record { nearest = λ k. omega arith; even_of_two = even_half n }

-- twice it is at most one from the seconds
close : (n : ℕ) → apart (2 * half_to_even n) n ≤ 1
close n = omega arith

within_one : (a n : ℕ) → apart a n ≤ 1 → (a ≤ n + 1) × (n ≤ a + 1)
within_one a n h = (omega (arith, h), omega (arith, h))

same_quarter : (n a b : ℕ) → 4 * a ≤ n + 1 → n ≤ 4 * a + 1 → 4 * b ≤ n + 1 → n ≤ 4 * b + 1 → a ≡ b
same_quarter n a b h i j k = omega (arith, h, i, j, k)

-- two even numbers whose doubles are at most one from n
both_even : (n h k : ℕ) → h % 2 ≡ 0 → k % 2 ≡ 0 → (2 * h ≤ n + 1) × (n ≤ 2 * h + 1) → (2 * k ≤ n + 1) × (n ≤ 2 * k + 1) → h ≡ k
both_even n h k e f p q =
    let a : h ≡ 2 * (h / 2) = omega (arith, e) in
    let b : k ≡ 2 * (k / 2) = omega (arith, f) in
    a ∙ ap (λ i. 2 * i) (same_quarter n (h / 2) (k / 2) (omega (arith, a, p.0)) (omega (arith, a, p.1)) (omega (arith, b, q.0)) (omega (arith, b, q.1))) ∙ sym b

-- and no other number is
pub nearest_half_only : (n h : ℕ) → NearestHalf n h → h ≡ half_to_even n
nearest_half_only n h x = by (even_half n h apart_same) (x.even_of_two (half_to_even n) (sym apart_same))
  where
    -- each of the two is as near as the other
    apart_same : apart (2 * h) n ≡ apart (2 * half_to_even n) n
    apart_same = omega (arith, x.nearest (half_to_even n), (nearest_half n).nearest h)

    by : (h ≡ half_to_even n) ⊎ (half_to_even n % 2 ≡ 0) → (half_to_even n ≡ h) ⊎ (h % 2 ≡ 0) → h ≡ half_to_even n
    by (inl e) _ = e
    by (inr e) (inl f) = sym f
    by (inr e) (inr f) =
        both_even n h (half_to_even n) f e
        (within_one (2 * h) n (subst (λ k. k ≤ 1) (sym apart_same) (close n)))
        (within_one (2 * half_to_even n) n (close n))
