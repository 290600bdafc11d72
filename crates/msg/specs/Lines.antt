-- Steps of the code: the lines of a block one after another (document 01, "Block"; see Block).
use Rattle.std.specs.Prelude.{ℕ, ◌+◌, List, map, length, drop}
use Rattle.text.specs.Text.{blanks, trimmed, Piece}
use Rattle.msg.specs.Block.{HeaderLine, lines_from, all_named}
use Rattle.msg.specs.declared.lines.Line.{Line}
use Rattle.msg.specs.declared.lines.Lines.{Lines}
use Rattle.msg.specs.declared.lines.Values.{Values}

-- the line at a place with this name, and this value with the blanks around it
abbrev pub line_read : ℕ → List ℕ → List ℕ → HeaderLine
line_read at name value = record {
  start = at;
  name = name;
  value = record {
    place = at + (length name + 1) + blanks value;
    text = trimmed value;
  };
  next = at + (length name + length value + 3);
}

-- a line of the code
abbrev pub line_in : Line → HeaderLine
line_in l = line_read l.start l.name.now l.value.now

-- those that are still to come
abbrev pub lines_ahead : Lines → List HeaderLine
lines_ahead s = lines_from 0 s.at (drop s.at s.block.now)

-- the values of some lines
abbrev pub values_of : List HeaderLine → List Piece
values_of ls = map (λ l. l.value) ls

-- those that are still to come
abbrev pub values_ahead : Values → List Piece
values_ahead s = values_of (all_named s.name.now (lines_from 0 s.at (drop s.at s.block.now)))
