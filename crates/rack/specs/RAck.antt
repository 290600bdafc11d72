-- RAck (RFC 3262 section 7.2): the RSeq number, the CSeq number and the method of the response that a PRACK acknowledges.
-- Document 01, refusal 19: "not three parts, or a part unreadable". Numbers and method are read as those of CSeq are; where the RFC has any
-- method name, here, as in the Rust, it is one of the fourteen.
use Rattle.limits.specs.declared.Refusal.{Refusal}
use Rattle.std.specs.Prelude.{ℕ, cond, List, ◌∷◌, ◌++◌, length, eqb, Err, None, Ok, Option, Result, Some}
use Rattle.limits.specs.Limits.{LimitSet}
use Rattle.limits.specs.Outcome.{refuse_by, or_refuse}
use Rattle.limits.specs.declared.Refusal.TheVariants.{InvalidRAck}
use Rattle.text.specs.Text.{words}
use Rattle.text.specs.Number.{read_number}
use Rattle.text.specs.Answers.{value_cause}
use Rattle.output.specs.Decimal.{decimal_of}
use Rattle.methods.specs.Methods.{method_of, method_cause, name_of}
use Rattle.output.specs.Output.{fitted}
use Rattle.words.specs.Words.{word_at}
use Rattle.rack.specs.declared.RAck.{RAck}

-- the three parts, where each is read
abbrev pub rack_of : Option ℕ → Option ℕ → Option ℕ → Option RAck
rack_of None c m = None
rack_of (Some r) None m = None
rack_of (Some r) (Some c) None = None
rack_of (Some r) (Some c) (Some m) = Some (record { rseq = r; cseq = c; method = m })

-- exactly three words: a number, a number and a method
unfoldable pub read_rack : List ℕ → Option RAck
read_rack s =
    cond (eqb (length (words s)) 3)
    (rack_of (read_number 32 (word_at 0 s)) (read_number 32 (word_at 1 s)) (method_of (word_at 2 s)))
    None

-- three parts with a space between them
abbrev pub spaced : List ℕ → List ℕ → List ℕ → List ℕ
spaced a b c = a ++ (32 ∷ (b ++ (32 ∷ c)))

-- the numbers in decimal, and the method's name
unfoldable pub rack_text : ℕ → ℕ → ℕ → List ℕ
rack_text r c m = spaced (decimal_of r) (decimal_of c) (name_of m)

-- ---- the operations

-- 1, 2, then 19
unfoldable pub parse_rack : LimitSet → List ℕ → Result RAck Refusal
parse_rack L s = refuse_by (value_cause L s) (or_refuse InvalidRAck (read_rack s))

-- 28, then 18; then the text
abbrev pub format_rack : ℕ → ℕ → ℕ → ℕ → Result (List ℕ) Refusal
format_rack r c m room = refuse_by (method_cause m) (fitted room (rack_text r c m))

-- ---- the answers

abbrev pub rack_from : Option RAck → Option RAck
rack_from None = None
rack_from (Some r) = Some r

abbrev pub rack_answer : Result RAck Refusal → Result RAck Refusal
rack_answer (Err cause) = Err cause
rack_answer (Ok r) = Ok r
