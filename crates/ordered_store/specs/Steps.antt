-- A step of the code: the walk over the entries of bytes. Each turn gives what is read at a place, with the place, and goes on where that ends.
use Rattle.std.specs.Prelude.{ℕ, ◌≤◌, ◌<◌, ◌≡◌, List, length, drop, None, Option, Some}
use Rattle.codec.specs.Codec.{Codec}
use Rattle.ordered_store.specs.Layout.{Parts, places_read}

module _ {A P : Type 0} (parts : Parts A P) where
  -- where the walk goes on: past the bytes, where nothing can be read
  abbrev pub goes_on : List ℕ → Option P → ℕ
  goes_on s None = length s
  goes_on s (Some p) = parts.end_of p

  -- a turn at a place, and where the walk stands after it; none where no bytes are left
  abbrev pub StepsEntry : Codec A → List ℕ → ℕ → Option (ℕ × Option P) → List ℕ → ℕ → Type 0
  StepsEntry form s at None t to = (length s ≤ at) × ((t ≡ s) × (to ≡ at))
  StepsEntry form s at (Some (place, o)) t to = (at < length s) × (place ≡ at) × (o ≡ places_read parts at (form.read (drop at s))) × (t ≡ s) × (to ≡ goes_on s o)
