-- Steps of the code: the elements of a value one after another.
use Rattle.std.specs.Prelude.{ℕ, List}
use Rattle.text.specs.Text.{Piece}
use Rattle.route_set.specs.Parts.{segments_from, elements}
use Rattle.route_set.specs.declared.elements.Elements.{Elements}

-- the elements that start at a place or after it
abbrev pub elements_left : List ℕ → ℕ → List Piece
elements_left v at = elements at (segments_from v at)

-- those that are still to come
abbrev pub elements_ahead : Elements → List Piece
elements_ahead s = elements_left s.value.now s.from
