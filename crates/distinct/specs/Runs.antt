-- A step of the code: the records of a store in runs. A key stands as often as it does in the run and after it.
use Rattle.std.specs.Prelude.{ℕ, ◌+◌, ◌≤◌, ◌<◌, ◌≡◌, Bool, true, false, List, [], ◌∷◌, length, take, drop, None, Option, Some}
use Rattle.text.specs.Text.{equal}
use Rattle.record.specs.Record.{Record, bit_of}
use Rattle.record.specs.Store.{records_in}
use Rattle.distinct.specs.Keys.{key_of, key_at}
use Rattle.distinct.specs.Pairs.{WholeFrom}
use Rattle.distinct.specs.Sorting.{EachAt, Ascending, tally}
use Rattle.distinct.specs.declared.runs.Run.{Run}

-- how many of the records have a key
unfoldable pub count : List ℕ → List Record → ℕ
count k [] = 0
count k (r ∷ rs) = bit_of (equal (key_of r) k) + count k rs

-- the same of records that were read
abbrev pub count_in : List ℕ → Option (List Record) → ℕ
count_in k None = 0
count_in k (Some rs) = count k rs

-- how many of the records from a place on have a key
unfoldable pub held : List ℕ → List ℕ → ℕ → ℕ
held s k at = count_in k (records_in (length s) (drop at s))

-- the front of the table has the records from a place on, up to the end of the run
pub record Gathered (s : List ℕ) (at : ℕ) (ps : List ℕ) (r : Run) : Type 0 where
  pub some : 0 < r.count
  pub within : r.count ≤ length ps
  pub each : EachAt s (take r.count ps)
  pub kept : (k : List ℕ) → held s k at ≡ tally s k (take r.count ps) + held s k r.end
  pub others : WholeFrom s r.end
  pub moves : at < r.end

-- no key stands twice in a run, and none of its keys after it
pub record Alone (s ps : List ℕ) (end : ℕ) : Type 0 where
  pub once : (k : List ℕ) → tally s k ps ≤ 1
  pub apart : (k : List ℕ) → 1 ≤ tally s k ps → held s k end ≡ 0

-- a key that stands more than once in a run and after it
pub record NotAlone (s ps : List ℕ) (end : ℕ) : Type 0 where
  pub key : List ℕ
  pub often : 2 ≤ tally s key ps + held s key end

abbrev pub AloneOr : Bool → List ℕ → List ℕ → ℕ → Type 0
AloneOr true s ps end = Alone s ps end
AloneOr false s ps end = NotAlone s ps end

-- places of records in the order of their keys
pub record Sought (s ps : List ℕ) : Type 0 where
  pub each : EachAt s ps
  pub ascending : Ascending s ps

-- whether the key of the record at a place is one of theirs
abbrev pub AmongOr : Bool → List ℕ → List ℕ → ℕ → Type 0
AmongOr true s ps q = 1 ≤ tally s (key_at s q) ps
AmongOr false s ps q = tally s (key_at s q) ps ≡ 0

-- a key that stands in a run and after it
pub record Shared (s ps : List ℕ) (from : ℕ) : Type 0 where
  pub key : List ℕ
  pub here : 1 ≤ tally s key ps
  pub there : 1 ≤ held s key from

abbrev pub ApartOr : Bool → List ℕ → List ℕ → ℕ → Type 0
ApartOr true s ps from = (k : List ℕ) → 1 ≤ tally s k ps → held s k from ≡ 0
ApartOr false s ps from = Shared s ps from
