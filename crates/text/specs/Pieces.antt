-- A step of the code: a part of a text as the code holds it.
use Rattle.text.specs.Text.{Piece}
use Rattle.text.specs.declared.piece.Part.{Part}

abbrev pub piece_of : Part → Piece
piece_of p = record { place = p.place; text = p.text.now }
