-- Each class is its set: a test that antt computes at every byte. Assumes nothing.
use Prim.Native.Nat.{ℕ, suc, ◌<◌}
use mathlib.Core.Path.{◌≡◌, refl}
use mathlib.Core.List.{List, [], ◌∷◌}
use lib.ListN.{get_or}
use Rattle.std.proofs.lemmas.Bool.{agree_below_at}
use Rattle.text.specs.Text.{span}
use Rattle.uri_bytes.specs.Classes.{in_class, in_set, set_of}
use Rattle.uri_bytes.specs.declared.Class.{Class}
use Rattle.uri_bytes.specs.declared.Class.TheVariants as class

-- a byte is of the set exactly where it is of the class
set_is : (k : Class) (b : ℕ) → b < 256 → in_set (set_of k) b ≡ in_class k b
set_is class.Uri b h = agree_below_at (in_set (set_of class.Uri)) (in_class class.Uri) 256 b refl h
set_is class.User b h = agree_below_at (in_set (set_of class.User)) (in_class class.User) 256 b refl h
set_is class.Host b h = agree_below_at (in_set (set_of class.Host)) (in_class class.Host) 256 b refl h
set_is class.Address b h = agree_below_at (in_set (set_of class.Address)) (in_class class.Address) 256 b refl h
set_is class.Digit b h = agree_below_at (in_set (set_of class.Digit)) (in_class class.Digit) 256 b refl h

-- so a run of the set is a run of the class
pub run_is : (k : Class) (s : List ℕ) → ((i : ℕ) → get_or s i 0 < 256) → span (in_set (set_of k)) s ≡ span (in_class k) s
unfolding span
run_is k [] h = refl
run_is k (b ∷ s) h = rw (set_is k b (h 0), run_is k s (λ i. h (suc i)))
