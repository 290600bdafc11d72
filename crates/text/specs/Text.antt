-- Texts as lists of bytes: classes of bytes, runs, blanks at both ends, letter case, segments and words.
-- Document 01, "Block": "values of bytes 9 and 32 to 126, space and tab trimmed at both ends"; the Rust's `trim` and
-- `split_whitespace` see no other white space in such bytes.
use Rattle.std.specs.Prelude.{ℕ, suc, ◌+◌, ◌-◌, Bool, true, false, cond, not, ◌&&◌, ◌||◌, List, [], ◌∷◌, reverse, length, take, drop, leb, eqb, None, Option, Some}
use Rattle.text.specs.declared.Span.{Span}

-- ---- classes of bytes

abbrev pub within : ℕ → ℕ → ℕ → Bool
within lo hi b = leb lo b && leb b hi

abbrev pub is_digit : ℕ → Bool
is_digit b = within 48 57 b

abbrev pub is_letter : ℕ → Bool
is_letter b = within 65 90 b || within 97 122 b

-- space or tab
abbrev pub is_blank : ℕ → Bool
is_blank b = eqb b 32 || eqb b 9

-- allowed in a value: the tab, and the space to `~`
abbrev pub is_value : ℕ → Bool
is_value b = eqb b 9 || within 32 126 b

-- the byte x, and any byte but x
abbrev pub is : ℕ → ℕ → Bool
is x b = eqb b x

abbrev pub other : ℕ → ℕ → Bool
other x b = not (eqb b x)

-- ---- runs

-- how many bytes from the front on pass the test
unfoldable pub span : (ℕ → Bool) → List ℕ → ℕ
span p [] = 0
span p (b ∷ s) = cond (p b) (suc (span p s)) 0

-- every byte passes the test
unfoldable pub all : (ℕ → Bool) → List ℕ → Bool
all p [] = true
all p (b ∷ s) = p b && all p s

-- ---- blanks at both ends

-- how many blanks stand first
abbrev pub blanks : List ℕ → ℕ
blanks s = span is_blank s

-- the length without the blanks that stand last
abbrev pub text_end : List ℕ → ℕ
text_end s = length s - span is_blank (reverse s)

-- the bytes without the blanks at both ends
unfoldable pub trimmed : List ℕ → List ℕ
trimmed s = take (text_end (drop (blanks s) s)) (drop (blanks s) s)

-- where the trimmed text stands
abbrev pub trimmed_span : List ℕ → Span
trimmed_span s = record { start = blanks s; length = length (trimmed s) }

-- ---- equality

-- the small letter of a letter
abbrev pub lower : ℕ → ℕ
lower b = cond (within 65 90 b) (b + 32) b

-- the same bytes, as far as `f` tells bytes apart
unfoldable pub alike : (ℕ → ℕ) → List ℕ → List ℕ → Bool
alike f [] [] = true
alike f [] (y ∷ b) = false
alike f (x ∷ a) [] = false
alike f (x ∷ a) (y ∷ b) = eqb (f x) (f y) && alike f a b

-- the same bytes, letter case ignored
abbrev pub same : List ℕ → List ℕ → Bool
same a b = alike lower a b

-- the same bytes
abbrev pub equal : List ℕ → List ℕ → Bool
equal a b = alike (λ x. x) a b

-- ---- parts of a text

-- a part of a text: where it stands, and its bytes
pub record Piece : Type 0 where
  pub place : ℕ
  pub text : List ℕ

-- a part of a part: its place in the whole, where the part that it was read in stands at `at`
abbrev pub moved_piece : ℕ → Piece → Piece
moved_piece at p = record { place = at + p.place; text = p.text }

abbrev pub moved : ℕ → Option Piece → Option Piece
moved at None = None
moved at (Some p) = Some (moved_piece at p)

-- a text that stands at `at`, without the blanks at both ends
abbrev pub trimmed_piece : ℕ → List ℕ → Piece
trimmed_piece at s = record { place = at + blanks s; text = trimmed s }

-- the segments between the bytes that pass the test: one more than there are such bytes
abbrev pub on_head : ℕ → List (List ℕ) → List (List ℕ)
on_head b [] = (b ∷ []) ∷ []
on_head b (g ∷ gs) = (b ∷ g) ∷ gs

unfoldable pub split : (ℕ → Bool) → List ℕ → List (List ℕ)
split p [] = [] ∷ []
split p (b ∷ s) = cond (p b) ([] ∷ split p s) (on_head b (split p s))

-- the texts that are not empty
unfoldable pub filled : List (List ℕ) → List (List ℕ)
filled [] = []
filled ([] ∷ gs) = filled gs
filled ((b ∷ g) ∷ gs) = (b ∷ g) ∷ filled gs

-- the words of a text, as `split_whitespace` gives them: the segments between blanks that are not empty
unfoldable pub words : List ℕ → List (List ℕ)
words s = filled (split is_blank s)

-- the run of bytes that are no blanks after the first blanks: where the first word stands, of length 0 where there is none
abbrev pub word_span : List ℕ → Span
word_span s = record { start = blanks s; length = span (λ b. not (is_blank b)) (drop (blanks s) s) }
