-- What the answer of a number reading says of the number. Assumes nothing.
use Prim.Native.Nat.{ℕ}
use native.Mathlib.Omega.{arith}
use mathlib.Core.Path.{◌≡◌, refl}
use Rattle.std.specs.Prelude.{None, Option, Some}
use Rattle.text.specs.Number.{number_from}

pub unreadable : (o : Option ℕ) {r : Option ℕ} → r ≡ number_from o → r ≡ None → o ≡ None
unreadable None h e = refl
unreadable (Some n) h e = absurd (let z : ◌≡◌ {A = ℕ} 0 1 = cc in omega arith)

pub readable : (o : Option ℕ) {r : Option ℕ} {n : ℕ} → r ≡ number_from o → r ≡ Some n → o ≡ Some n
readable None h e = absurd (let z : ◌≡◌ {A = ℕ} 0 1 = cc in omega arith)
readable (Some m) h e = cc
