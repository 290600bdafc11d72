-- The words of a text by their index, as prack_validator.rs has them in the parts of `split_whitespace`.
use Rattle.std.specs.Prelude.{ℕ, List, [], get_or}
use Rattle.text.specs.Text.{words}

-- counted from 0, empty where there are fewer: no number and no method is empty
abbrev pub word_at : ℕ → List ℕ → List ℕ
word_at k s = get_or (words s) k []
