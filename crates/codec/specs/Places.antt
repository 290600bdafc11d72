-- Where a text lies that is read at a place of lent bytes. Document 01, "Record image": a text lies past its two length bytes. What it is, is
-- `text.read` alone (specs/Codec.antt); here is only its place.
use Rattle.std.specs.Prelude.{ℕ, ◌+◌, List, length, None, Option, Some}
use Rattle.text.specs.declared.Span.{Span}
use Rattle.codec.specs.Codec.{Reading}

-- what a reader answers: that it is broken, or what it tells of the value
abbrev pub answered : {A R : Type 0} → R → (A → R) → Option (Reading A) → R
answered broken tell None = broken
answered broken tell (Some x) = tell x.value

abbrev pub text_span : ℕ → List ℕ → Span
text_span at t = record { start = at + 2; length = length t }

abbrev pub text_end : ℕ → List ℕ → ℕ
text_end at t = at + 2 + length t

abbrev pub text_from : ℕ → Option (Reading (List ℕ)) → Option Span
text_from at o = answered None (λ v. Some (text_span at v)) o
