-- A step of the code: places of records in the order of their keys.
use Rattle.std.specs.Prelude.{ℕ, ◌+◌, ◌≤◌, ◌≡◌, Bool, true, false, List, [], ◌∷◌, ◌++◌, length, take, drop}
use Rattle.text.specs.Text.{equal}
use Rattle.record.specs.Record.{bit_of}
use Rattle.ordered_store.specs.Order.{order}
use Rattle.std.specs.declared.cmp.Ordering.TheVariants.{Less}
use Rattle.record_walk.specs.Walk.{At}
use Rattle.distinct.specs.Keys.{key_at}

-- a record stands at each of the places
unfoldable pub EachAt : List ℕ → List ℕ → Type 0
EachAt s [] = Unit {0}
EachAt s (p ∷ ps) = At s p × EachAt s ps

-- each key is less than the next
unfoldable pub Ascending : List ℕ → List ℕ → Type 0
Ascending s [] = Unit {0}
Ascending s (p ∷ []) = Unit {0}
Ascending s (p ∷ q ∷ ps) = (order (key_at s p) (key_at s q) ≡ Less) × Ascending s (q ∷ ps)

-- two ascending runs, the places before mid and the others, and a list as long
pub record Runs (s ps : List ℕ) (mid : ℕ) (out : List ℕ) : Type 0 where
  pub each : EachAt s ps
  pub low : Ascending s (take mid ps)
  pub high : Ascending s (drop mid ps)
  pub within : mid ≤ length ps
  pub wide : length out ≡ length ps

-- how many of the places have a key
unfoldable pub tally : List ℕ → List ℕ → List ℕ → ℕ
tally s k [] = 0
tally s k (p ∷ ps) = bit_of (equal (key_at s p) k) + tally s k ps

-- the same keys, as often, in ascending order
pub record Sorted (s ps qs : List ℕ) : Type 0 where
  pub each : EachAt s qs
  pub ascending : Ascending s qs
  pub kept : (k : List ℕ) → tally s k qs ≡ tally s k ps

-- a key that stands more than once
pub record Twice (s ps : List ℕ) : Type 0 where
  pub key : List ℕ
  pub often : 2 ≤ tally s key ps

-- the answer of a sort: sorted, or why not
abbrev pub SortedOr : Bool → List ℕ → List ℕ → List ℕ → Type 0
SortedOr true s ps qs = Sorted s ps qs
SortedOr false s ps qs = Twice s ps

-- a list with a piece over the elements from a place on
unfoldable pub put : List ℕ → ℕ → List ℕ → List ℕ
put s at piece = take at s ++ (piece ++ drop (at + length piece) s)
