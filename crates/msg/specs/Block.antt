-- The header block of document 01, "Block": lines `name:value` CRLF; names of letters, digits, `-`, at least one; values of
-- bytes 9 and 32 to 126, space and tab trimmed at both ends. An empty block is valid. RFC 3261 section 7.3.1 also has folded
-- lines and other bytes; here they are refused. Of the short names of its section 7.3.3 five are known (document 02, request 1).
use Rattle.text.specs.declared.Span.{Span}
use Rattle.std.specs.Prelude.{ℕ, zero, suc, ◌+◌, Bool, true, false, cond, not, ◌&&◌, ◌||◌, List, [], ◌∷◌, length, take, drop, get_or, ltb, eqb, None, Ok, Option, Result, Some}
use Rattle.limits.specs.Limits.{LimitSet}
use Rattle.limits.specs.Outcome.{refuse_by, cause_if, or_else}
use Rattle.limits.specs.declared.Refusal.{Refusal}
use Rattle.limits.specs.declared.Refusal.TheVariants.{Malformed}
use Rattle.text.specs.Text.{is_letter, is_digit, is_value, span, blanks, trimmed, same, Piece}
use Rattle.text.specs.Answers.{length_cause, Stop, span_of}

-- ---- one line

abbrev pub is_name : ℕ → Bool
is_name b = is_letter b || (is_digit b || eqb b 45)

-- how long the name is that stands first, and the value after it and one byte more
abbrev pub name_length : List ℕ → ℕ
name_length s = span is_name s

abbrev pub value_length : List ℕ → ℕ
value_length s = span is_value (drop (name_length s + 1) s)

-- the line that stands first: a name of at least one byte, a colon, a value, CR and LF
unfoldable pub line_at : List ℕ → Option (ℕ × ℕ)
line_at s =
    cond (ltb 0 (name_length s)
    && (eqb (get_or s (name_length s) 0) 58
    && (eqb (get_or s (name_length s + 1 + value_length s) 0) 13
    && eqb (get_or s (name_length s + 1 + value_length s + 1) 0) 10)))
    (Some (name_length s, value_length s))
    None

-- a line's length, less one
abbrev pub tail_of : Option (ℕ × ℕ) → ℕ
tail_of (Some (n, m)) = n + m + 2
tail_of None = 0

abbrev pub is_line : Option (ℕ × ℕ) → Bool
is_line (Some (n, m)) = true
is_line None = false

-- ---- all lines

-- after `skip` bytes, nothing but lines
unfoldable pub lines_after : ℕ → List ℕ → Bool
lines_after skip [] = true
lines_after zero (b ∷ s) = is_line (line_at (b ∷ s)) && lines_after (tail_of (line_at (b ∷ s))) s
lines_after (suc skip) (b ∷ s) = lines_after skip s

-- the bytes are a header block
abbrev pub is_block : List ℕ → Bool
is_block s = lines_after 0 s

-- a line of a block: where it starts, its name, its trimmed value with its place, and where the next line starts
pub record HeaderLine : Type 0 where
  pub start : ℕ
  pub name : List ℕ
  pub value : Piece
  pub next : ℕ

-- the line with a name of n bytes and a value of m that stands first in s; s stands at `at`
abbrev pub line_of : ℕ → List ℕ → ℕ → ℕ → HeaderLine
line_of at s n m = record {
  start = at;
  name = take n s;
  value = record {
    place = at + (n + 1) + blanks (take m (drop (n + 1) s));
    text = trimmed (take m (drop (n + 1) s));
  };
  next = at + (n + m + 3);
}

abbrev pub with_line : Option (ℕ × ℕ) → ℕ → List ℕ → List HeaderLine → List HeaderLine
with_line None at s more = []
with_line (Some (n, m)) at s more = line_of at s n m ∷ more

-- the lines, up to the first bytes that are none; s stands at `at`, and `skip` bytes of it belong to a line before
unfoldable pub lines_from : ℕ → ℕ → List ℕ → List HeaderLine
lines_from skip at [] = []
lines_from zero at (b ∷ s) = with_line (line_at (b ∷ s)) at (b ∷ s) (lines_from (tail_of (line_at (b ∷ s))) (at + 1) s)
lines_from (suc skip) at (b ∷ s) = lines_from skip (at + 1) s

-- the lines of a block, in order
abbrev pub lines_of : List ℕ → List HeaderLine
lines_of s = lines_from 0 0 s

-- ---- look-up

-- the names with two spellings, the short one and the full one, as document 02, request 1, has them: `i` and `Call-ID`, `f` and
-- `From`, `t` and `To`, `m` and `Contact` (RFC 3261, sections 7.3.3 and 20), `x` and `Session-Expires` (RFC 4028, section 4)
abbrev pub short_names : List (List ℕ × List ℕ)
short_names =
    (105 ∷ [], 67 ∷ 97 ∷ 108 ∷ 108 ∷ 45 ∷ 73 ∷ 68 ∷ [])
    ∷ (102 ∷ [], 70 ∷ 114 ∷ 111 ∷ 109 ∷ [])
    ∷ (116 ∷ [], 84 ∷ 111 ∷ [])
    ∷ (109 ∷ [], 67 ∷ 111 ∷ 110 ∷ 116 ∷ 97 ∷ 99 ∷ 116 ∷ [])
    ∷ (120 ∷ [], 83 ∷ 101 ∷ 115 ∷ 115 ∷ 105 ∷ 111 ∷ 110 ∷ 45 ∷ 69 ∷ 120 ∷ 112 ∷ 105 ∷ 114 ∷ 101 ∷ 115 ∷ [])
    ∷ []

-- the full spelling of a name by such a list, letter case ignored; the name itself where it is none of the short ones
unfoldable pub full_in : List (List ℕ × List ℕ) → List ℕ → List ℕ
full_in [] name = name
full_in ((short, full) ∷ more) name = cond (same name short) full (full_in more name)

abbrev pub full_of : List ℕ → List ℕ
full_of name = full_in short_names name

-- a line of this name is one that is asked for: both have the same full spelling, letter case ignored
abbrev pub named : List ℕ → List ℕ → Bool
named asked name = same (full_of name) (full_of asked)

-- `header` and `Headers::get`: the first line of that name
unfoldable pub first_named : List ℕ → List HeaderLine → Option HeaderLine
first_named asked [] = None
first_named asked (l ∷ ls) = cond (named asked l.name) (Some l) (first_named asked ls)

-- `get_all_smol`: all of them, in order
unfoldable pub all_named : List ℕ → List HeaderLine → List HeaderLine
all_named asked [] = []
all_named asked (l ∷ ls) = cond (named asked l.name) (l ∷ all_named asked ls) (all_named asked ls)

-- the lines that start at `from` or after it
unfoldable pub lines_since : ℕ → List HeaderLine → List HeaderLine
lines_since from [] = []
lines_since from (l ∷ ls) = cond (ltb l.start from) (lines_since from ls) (l ∷ ls)

abbrev pub value_of : Option HeaderLine → Option Piece
value_of None = None
value_of (Some l) = Some l.value

-- the value's bytes, none where there is no line
abbrev pub text_of : Option HeaderLine → List ℕ
text_of None = []
text_of (Some l) = l.value.text

-- the value of a name in a block, if a line has it
abbrev pub value_named : List ℕ → List ℕ → Option Piece
value_named asked block = value_of (first_named asked (lines_of block))

-- the value as the block's own bytes: so many, from a place on
abbrev pub part_of : Option Piece → List ℕ → List ℕ
part_of None block = []
part_of (Some p) block = take (length p.text) (drop p.place block)

-- the place of that part in the block; the empty part, where there is no line, stands at the front
abbrev pub part_place : Option Piece → ℕ
part_place None = 0
part_place (Some p) = p.place

-- the pointer to a place of lent bytes, by the pointer to their start. A pointer is the memory that it points into, and an offset there
abbrev pub pointer_at : ℕ × ℕ → ℕ → ℕ × ℕ
pointer_at start place = (start.0, place + start.1)

abbrev pub stop_of : Option HeaderLine → Option Stop
stop_of None = None
stop_of (Some l) = Some (record { piece = l.value; next = l.next })

-- ---- the operations

-- 1, then 2: a block
unfoldable pub block_cause : LimitSet → List ℕ → Option Refusal
block_cause L block = or_else (length_cause L block) (cause_if (not (is_block block)) Malformed)

-- 1 of the block and of the name, then 2 of the block
unfoldable pub lookup_cause : LimitSet → List ℕ → List ℕ → Option Refusal
lookup_cause L block asked = or_else (length_cause L asked) (block_cause L block)

-- the first value of a name, or nothing
unfoldable pub lookup : LimitSet → List ℕ → List ℕ → Result (Option Piece) Refusal
lookup L block asked = refuse_by (lookup_cause L block asked) (Ok (value_named asked block))

-- the first value of a name in the lines that start at `from` or after it
unfoldable pub lookup_from : LimitSet → List ℕ → List ℕ → ℕ → Result (Option Stop) Refusal
lookup_from L block asked from = refuse_by (lookup_cause L block asked) (Ok (stop_of (first_named asked (lines_since from (lines_of block)))))

-- ---- the answers of readings without refusals

abbrev pub found_of : Option HeaderLine → Option (Span × ℕ)
found_of None = None
found_of (Some l) = Some (span_of l.value, l.next)
