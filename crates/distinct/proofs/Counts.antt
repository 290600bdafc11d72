-- Records are distinct exactly if no key stands twice among them. Assumes nothing.
use Prim.Native.Nat.{ℕ, ◌+◌, ◌≤◌}
use native.Mathlib.Omega.{arith}
use mathlib.Core.Path.{◌≡◌, refl}
use mathlib.Core.Bool.{Bool, true, false, not, ◌&&◌, and-false}
use mathlib.Core.List.{List, [], ◌∷◌}
use Rattle.text.specs.Text.{equal}
use Rattle.record.specs.Record.{Record, WellFormed, bit_of}
use Rattle.record.specs.Store.{same_id, lacks, distinct}
use Rattle.record.proofs.StoreLaws.{EachFormed}
use Rattle.distinct.specs.Keys.{key_of}
use Rattle.distinct.specs.Runs.{count}
use Rattle.distinct.proofs.Identities.{same_key}
use Rattle.text.proofs.Sames.{equal_same, equal_is}

-- ---- a record among others

lacks_none : (a : Record) (rs : List Record) → WellFormed a → EachFormed rs → count (key_of a) rs ≡ 0 → lacks rs a ≡ true
unfolding count lacks
lacks_none a [] v w e = refl
lacks_none a (r ∷ rs) v w e = by (equal (key_of r) (key_of a)) refl (lacks_none a rs v w.1)
  where
    by : (t : Bool) → equal (key_of r) (key_of a) ≡ t → (count (key_of a) rs ≡ 0 → lacks rs a ≡ true) → (not (same_id r a) && lacks rs a) ≡ true
    by true t more = absurd (let z : bit_of true + count (key_of a) rs ≡ 0 = (rw t at e) in omega arith)
    by false t more =
        let z : bit_of false + count (key_of a) rs ≡ 0 = (rw t at e) in
        rw (same_key r a w.0 v, t) (more (omega arith))

lacks_one : (a : Record) (rs : List Record) → WellFormed a → EachFormed rs → 1 ≤ count (key_of a) rs → lacks rs a ≡ false
unfolding count lacks
lacks_one a [] v w e = absurd (omega arith)
lacks_one a (r ∷ rs) v w e = by (equal (key_of r) (key_of a)) refl (lacks_one a rs v w.1)
  where
    by : (t : Bool) → equal (key_of r) (key_of a) ≡ t → (1 ≤ count (key_of a) rs → lacks rs a ≡ false) → (not (same_id r a) && lacks rs a) ≡ false
    by true t more = rw (same_key r a w.0 v, t)
    by false t more =
        let z : 1 ≤ bit_of false + count (key_of a) rs = (rw t at e) in
        rw (same_key r a w.0 v, t) (more (omega arith))

-- ---- all records

pub all_once : (rs : List Record) → EachFormed rs → ((k : List ℕ) → count k rs ≤ 1) → distinct rs ≡ true
unfolding count distinct
all_once [] w h = refl
all_once (r ∷ rs) w h =
    let z : bit_of (equal (key_of r) (key_of r)) + count (key_of r) rs ≤ 1 = h (key_of r) in
    let y : bit_of true + count (key_of r) rs ≤ 1 = (rw (equal_same (key_of r)) at z) in
    rw (lacks_none r rs w.0 w.1 (omega arith)) (all_once rs w.1 (λ k. let x = h k in omega arith))

pub some_twice : (rs : List Record) → EachFormed rs → (k : List ℕ) → 2 ≤ count k rs → distinct rs ≡ false
unfolding count distinct
some_twice [] w k h = absurd (omega arith)
some_twice (r ∷ rs) w k h = by (equal (key_of r) k) refl (some_twice rs w.1 k)
  where
    by : (t : Bool) → equal (key_of r) k ≡ t → (2 ≤ count k rs → distinct rs ≡ false) → (lacks rs r && distinct rs) ≡ false
    by true t more =
        let z : 2 ≤ bit_of true + count k rs = (rw t at h) in
        let q : 1 ≤ count (key_of r) rs = rw (equal_is (key_of r) k t) (omega arith) in
        rw (lacks_one r rs w.0 w.1 q)
    by false t more =
        let z : 2 ≤ bit_of false + count k rs = (rw t at h) in
        rw (more (omega arith)) (and-false (lacks rs r))
