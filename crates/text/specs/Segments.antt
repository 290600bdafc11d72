-- Steps of the code: the segments of a text that start at a place or after it. f says what the segments of a text are (`split` of Text.antt, or another
-- way to cut); one byte stands between two of them.
use Rattle.std.specs.Prelude.{ℕ, ◌+◌, ◌<◌, ◌≤◌, ◌≡◌, cond, List, [], ◌∷◌, length, take, drop, leb}
use Rattle.text.specs.Text.{Piece}
use Rattle.text.specs.declared.segments.Segments.{Segments}

-- n bytes of s are its first segment, and one byte after them stand the others, if there are any
abbrev pub Cuts : (List ℕ → List (List ℕ)) → List ℕ → ℕ → Type 0
Cuts f s n = (n ≤ length s) × (n < length s → f s ≡ take n s ∷ f (drop (n + 1) s)) × (length s ≤ n → f s ≡ s ∷ [])

-- segments with their places, of which the first stands at `at`
unfoldable pub placed : ℕ → List (List ℕ) → List Piece
placed at [] = []
placed at (g ∷ gs) = record { place = at; text = g } ∷ placed (at + length g + 1) gs

-- the segments of s that start at `at` or after it: none past the end
abbrev pub segments_left : (List ℕ → List (List ℕ)) → List ℕ → ℕ → List (List ℕ)
segments_left f s at = cond (leb at (length s)) (f (drop at s)) []

abbrev pub pieces_left : (List ℕ → List (List ℕ)) → List ℕ → ℕ → List Piece
pieces_left f s at = placed at (segments_left f s at)

-- those that are still to come
abbrev pub segments_ahead : {C : Type 0} → (C → List ℕ → List (List ℕ)) → Segments C → List Piece
segments_ahead f s = pieces_left (f s.cut) s.text.now s.at
