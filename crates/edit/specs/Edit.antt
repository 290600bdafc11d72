-- Lent bytes after an edit in place. Document 01, "Turned back": a refused call keeps every byte, an accepted one every byte past its result.
use Rattle.std.specs.Prelude.{ℕ, ◌+◌, ◌-◌, List, ◌++◌, length, take, drop}

-- the bytes with a text over their front: those past the text are what they were
abbrev pub over : List ℕ → List ℕ → List ℕ
over s bytes = s ++ drop (length s) bytes

-- the bytes with a text over those from a place on
abbrev pub put_at : ℕ → List ℕ → List ℕ → List ℕ
put_at at s bytes = take at bytes ++ (s ++ drop (at + length s) bytes)

-- a list with the n elements at a place replaced by a text
abbrev pub spliced : ℕ → ℕ → List ℕ → List ℕ → List ℕ
spliced at n s bytes = take at bytes ++ (s ++ drop (at + n) bytes)

-- the bytes with the used ones after the n at a place moved to where they follow m bytes: a piece of m bytes put at the place then makes
-- the spliced list over the front of the bytes (the law `replace_law`)
abbrev pub tail_moved : ℕ → ℕ → ℕ → ℕ → List ℕ → List ℕ
tail_moved used at n m bytes = put_at (at + m) (take (used - (at + n)) (drop (at + n) bytes)) bytes
