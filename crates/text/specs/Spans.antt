-- A step of the code: the bytes of a text that a span names. Definitions of operations speak of the bytes themselves.
use Rattle.std.specs.Prelude.{ℕ, ◌+◌, ◌≤◌, List, length, take, drop}
use Rattle.text.specs.declared.Span.{Span}

abbrev pub part_in : List ℕ → Span → List ℕ
part_in s p = take p.length (drop p.start s)

abbrev pub PartWithin : List ℕ → Span → Type 0
PartWithin s p = p.start + p.length ≤ length s

-- the same part, in a text in which the one that it was read in stands at `by`
abbrev pub moved_span : ℕ → Span → Span
moved_span by p = record { start = by + p.start; length = p.length }
