-- One reading of a block of document 01, "Block": the first line of each name that a request, a response or a creation looks up
-- ("Identifier", "CSeq", "Contact", "Routes" and "Intervals, PRACK, RSeq" say of which). Each is the look-up of Block.antt.
use Rattle.text.specs.declared.Span.{Span}
use Rattle.std.specs.Prelude.{ℕ, zero, suc, ◌+◌, ◌<◌, ◌≡◌, Bool, cond, List, [], ◌∷◌, take, drop, eqb, Err, None, Ok, Option, Result, Some}
use Rattle.limits.specs.declared.Refusal.{Refusal}
use Rattle.text.specs.Text.{Piece}
use Rattle.msg.specs.Block.{HeaderLine, named, first_named, found_of}
use Rattle.msg.specs.declared.table.HeaderTable.{HeaderTable}

-- ---- the names

-- `Call-ID`, `From`, `To`, `CSeq`, `Contact`, `Session-Expires`, `RSeq`, `Record-Route`
abbrev pub names : List (List ℕ)
names =
    (67 ∷ 97 ∷ 108 ∷ 108 ∷ 45 ∷ 73 ∷ 68 ∷ [])
    ∷ (70 ∷ 114 ∷ 111 ∷ 109 ∷ [])
    ∷ (84 ∷ 111 ∷ [])
    ∷ (67 ∷ 83 ∷ 101 ∷ 113 ∷ [])
    ∷ (67 ∷ 111 ∷ 110 ∷ 116 ∷ 97 ∷ 99 ∷ 116 ∷ [])
    ∷ (83 ∷ 101 ∷ 115 ∷ 115 ∷ 105 ∷ 111 ∷ 110 ∷ 45 ∷ 69 ∷ 120 ∷ 112 ∷ 105 ∷ 114 ∷ 101 ∷ 115 ∷ [])
    ∷ (82 ∷ 83 ∷ 101 ∷ 113 ∷ [])
    ∷ (82 ∷ 101 ∷ 99 ∷ 111 ∷ 114 ∷ 100 ∷ 45 ∷ 82 ∷ 111 ∷ 117 ∷ 116 ∷ 101 ∷ [])
    ∷ []

-- the k-th of some names
abbrev pub name_in : List (List ℕ) → ℕ → List ℕ
name_in [] k = []
name_in (asked ∷ more) zero = asked
name_in (asked ∷ more) (suc k) = name_in more k

abbrev pub name_at : ℕ → List ℕ
name_at k = name_in names k

-- which of some names a line has, their number where it has none of them
unfoldable pub slot_in : List (List ℕ) → List ℕ → ℕ
slot_in [] name = 0
slot_in (asked ∷ more) name = cond (named asked name) 0 (suc (slot_in more name))

abbrev pub slot_of : List ℕ → ℕ
slot_of name = slot_in names name

-- the place of a line's name in the table, none where it has none of them
abbrev pub SlotIs : List ℕ → Option ℕ → Type 0
SlotIs name None = 8 ≡ slot_of name
SlotIs name (Some k) = (k ≡ slot_of name) × (k < 8)

-- ---- the table

-- what was looked up for each name
abbrev pub tabled : (ℕ → Option (Span × ℕ)) → HeaderTable
tabled f = record {
  call_id = f 0;
  from = f 1;
  to = f 2;
  cseq = f 3;
  contact = f 4;
  session_expires = f 5;
  rseq = f 6;
  record_route = f 7;
}

-- the first line of each name
abbrev pub table_of : List HeaderLine → HeaderTable
table_of ls = tabled (λ k. found_of (first_named (name_at k) ls))

-- what the reading of a block answers
abbrev pub headers_of : Option Refusal → HeaderTable → Result HeaderTable Refusal
headers_of None t = Ok t
headers_of (Some cause) t = Err cause

-- ---- its steps

-- what was found before, or else this
abbrev pub or_found : Option (Span × ℕ) → Option (Span × ℕ) → Option (Span × ℕ)
or_found (Some (v, next)) here = Some (v, next)
or_found None here = here

-- a line of the name, where the test says that it is one
abbrev pub kept : Bool → Option (Span × ℕ) → Option (Span × ℕ) → Option (Span × ℕ)
kept hit have here = cond hit (or_found have here) have

-- the k-th look-up of a table
abbrev pub looked_up : HeaderTable → ℕ → Option (Span × ℕ)
looked_up t zero = t.call_id
looked_up t (suc zero) = t.from
looked_up t (suc (suc zero)) = t.to
looked_up t (suc (suc (suc zero))) = t.cseq
looked_up t (suc (suc (suc (suc zero)))) = t.contact
looked_up t (suc (suc (suc (suc (suc zero))))) = t.session_expires
looked_up t (suc (suc (suc (suc (suc (suc zero)))))) = t.rseq
looked_up t (suc (suc (suc (suc (suc (suc (suc k))))))) = t.record_route

-- the table with one more line, of the k-th name
abbrev pub noted : ℕ → Option (Span × ℕ) → HeaderTable → HeaderTable
noted k here t = tabled (λ j. kept (eqb k j) (looked_up t j) here)

-- ---- readings at a line that was looked up

-- the bytes of its value, none where there is no line
abbrev pub text_at : Option (Span × ℕ) → List ℕ → List ℕ
text_at None block = []
text_at (Some (v, next)) block = take v.length (drop v.start block)

abbrev pub value_at : Option (Span × ℕ) → List ℕ → Option Piece
value_at None block = None
value_at (Some (v, next)) block = Some (record { place = v.start; text = take v.length (drop v.start block) })

-- where its value ends
abbrev pub end_of : Option (Span × ℕ) → ℕ
end_of None = 0
end_of (Some (v, next)) = v.start + v.length
