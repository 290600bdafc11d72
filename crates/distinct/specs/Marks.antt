-- A step of the code: marks of keys in slots, three in each. A key whose mark isn't there was not marked.
use Rattle.std.specs.Prelude.{ℕ, ◌+◌, ◌*◌, ◌-◌, ◌/◌, ◌%◌, ◌≤◌, ◌≡◌, ◌⊎◌, Bool, true, false, cond, ltb, List, length, get_or}
use Rattle.distinct.specs.Sorting.{tally}

-- eight bytes as a number, the first the lowest
abbrev pub eight_at : List ℕ → ℕ → ℕ
eight_at s at =
    get_or s at 0
    + 256 * (get_or s (at + 1) 0 + 256 * (get_or s (at + 2) 0 + 256 * (get_or s (at + 3) 0 + 256 * (get_or s (at + 4) 0 + 256 * (get_or s (at + 5) 0 + 256 * (get_or s (at + 6) 0 + 256 * get_or s (at + 7) 0))))))

-- a number by which most keys differ
unfoldable pub head_of : List ℕ → ℕ
head_of k = cond (ltb (length k) 11) 0 (eight_at k 3 % 1000000007 + eight_at k (length k - 8) % 1000000007)

-- a slot has a mark, or is full
abbrev pub Has : ℕ → ℕ → Type 0
Has w f = (w ≡ 4294967295) ⊎ ((w % 1024 ≡ f) ⊎ ((w / 1024 % 1024 ≡ f) ⊎ (w / 1048576 ≡ f)))

-- the new mark stands, and none is lost
pub record Kept (w f r : ℕ) : Type 0 where
  pub new : Has r f
  pub kept : (g : ℕ) → 1 ≤ g → Has w g → Has r g

-- where a slot lacks a mark it doesn't stand there
abbrev pub MarkOr : Bool → ℕ → ℕ → Type 0
MarkOr true w f = Unit {0}
MarkOr false w f = Has w f → ⊥

-- the mark of a key stands
unfoldable pub Stands : List ℕ → List ℕ → Type 0
Stands ms k = Has (get_or ms (head_of k % length ms) 0) (head_of k / length ms % 1023 + 1)

-- the same, where the answer is that it doesn't
abbrev pub StandsOr : Bool → List ℕ → List ℕ → Type 0
StandsOr true ms k = Unit {0}
StandsOr false ms k = Stands ms k → ⊥

-- the marks of all keys of the places stand
abbrev pub Marked : List ℕ → List ℕ → List ℕ → Type 0
Marked s ms ps = (k : List ℕ) → 1 ≤ tally s k ps → Stands ms k
