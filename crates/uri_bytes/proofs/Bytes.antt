-- Bytes of a host, of an address and of a scheme are bytes of a URI: tests that antt computes at every byte. Assumes nothing.
use Prim.Native.Nat.{ℕ, ◌≤◌}
use native.Mathlib.Omega.{arith}
use mathlib.Core.Path.{◌≡◌, refl, sym, ap, ◌∙◌}
use mathlib.Core.Bool.{Bool, true, false, not, ◌&&◌, true≢false}
use mathlib.Core.List.{List, [], ◌∷◌}
use lib.Dec.{ltb, eqb}
use borrow.Author.Tests.{ne_eqb, le-leb, lt-leb, ltb-true, ltb-false, eqb-true, not-false}
use Rattle.std.proofs.lemmas.Bool.{agree_below, agree_below_at}
use Rattle.text.specs.Text.{all, alike, lower}
use Rattle.uri_bytes.specs.Bytes.{is_uri, is_host, is_address, ends_host}

-- a test that fails at every number from 256 on, and doesn't pass below where q fails, implies q
implied : (p q : ℕ → Bool) → agree_below (λ b. p b && not (q b)) (λ b. false) 256 ≡ true → ((b : ℕ) → 256 ≤ b → p b ≡ false) → (b : ℕ) → p b ≡ true → q b ≡ true
implied p q t large b e = by (ltb b 256) refl
  where
    by : (u : Bool) → ltb b 256 ≡ u → q b ≡ true
    by true f =
        let g : (p b && not (q b)) ≡ false = agree_below_at (λ b. p b && not (q b)) (λ b. false) 256 b t (ltb-true b 256 f) in
        not-false _ (rw e at g)
    by false f = absurd (true≢false (sym e ∙ large b (ltb-false b 256 f)))

host_large : (b : ℕ) → 256 ≤ b → is_host b ≡ false
host_large b h = rw (le-leb 65 b (omega arith), lt-leb b 90 (omega arith), le-leb 97 b (omega arith), lt-leb b 122 (omega arith), le-leb 48 b (omega arith), lt-leb b 57 (omega arith), ne_eqb b 46 (λ e. omega arith), ne_eqb b 45 (λ e. omega arith))

address_large : (b : ℕ) → 256 ≤ b → is_address b ≡ false
address_large b h = rw (le-leb 48 b (omega arith), lt-leb b 57 (omega arith), le-leb 65 b (omega arith), lt-leb b 70 (omega arith), le-leb 97 b (omega arith), lt-leb b 102 (omega arith), ne_eqb b 58 (λ e. omega arith), ne_eqb b 46 (λ e. omega arith))

pub host_uri : (b : ℕ) → is_host b ≡ true → is_uri b ≡ true
host_uri = implied is_host is_uri refl host_large

-- a byte of a host's name doesn't end a host
pub host_goes_on : (b : ℕ) → is_host b ≡ true → not (ends_host b) ≡ true
host_goes_on = implied is_host (λ b. not (ends_host b)) refl host_large

pub address_uri : (b : ℕ) → is_address b ≡ true → is_uri b ≡ true
address_uri = implied is_address is_uri refl address_large

-- a letter's case doesn't matter
lower_uri : (b : ℕ) → is_uri (lower b) ≡ is_uri b
lower_uri b = by (ltb b 256) refl
  where
    large : 256 ≤ b → lower b ≡ b
    large h = rw (le-leb 65 b (omega arith), lt-leb b 90 (omega arith))

    by : (u : Bool) → ltb b 256 ≡ u → is_uri (lower b) ≡ is_uri b
    by true f = agree_below_at (λ b. is_uri (lower b)) is_uri 256 b refl (ltb-true b 256 f)
    by false f = ap is_uri (large (ltb-false b 256 f))

pub alike_uri : (a b : List ℕ) → alike lower a b ≡ true → all is_uri a ≡ all is_uri b
unfolding alike all
alike_uri [] [] e = refl
alike_uri [] (y ∷ b) e = absurd (true≢false (sym e))
alike_uri (x ∷ a) [] e = absurd (true≢false (sym e))
alike_uri (x ∷ a) (y ∷ b) e = by (eqb (lower x) (lower y)) refl e (alike_uri a b)
  where
    by : (t : Bool) → eqb (lower x) (lower y) ≡ t → (t && alike lower a b) ≡ true → (alike lower a b ≡ true → all is_uri a ≡ all is_uri b) → (is_uri x && all is_uri a) ≡ (is_uri y && all is_uri b)
    by true f e more = rw (more e, sym (lower_uri x) ∙ ap is_uri (eqb-true (lower x) (lower y) f) ∙ lower_uri y)
    by false f e more = absurd (true≢false (sym e))
