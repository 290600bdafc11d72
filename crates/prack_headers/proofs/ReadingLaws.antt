-- Readings of a block: the refusals in their order, and that a value's part of the block is its text. Assumes nothing.
use Prim.Native.Nat.{ℕ}
use native.Mathlib.Omega.{arith}
use mathlib.Core.Path.{◌≡◌, refl, sym, ap, subst, ◌∙◌}
use mathlib.Core.Bool.{Bool, true, false}
use mathlib.Core.List.{List}
use lib.ListN.{length, take, drop}
use Rattle.std.specs.Prelude.{is_some, ok_or, Err, None, Ok, Option, Result, Some}
use Rattle.limits.specs.Limits.{LimitSet}
use Rattle.limits.specs.Outcome.{check_of, or_refuse}
use Rattle.limits.proofs.Laws.{passed, stopped}
use Rattle.limits.specs.declared.Refusal.{Refusal}
use Rattle.limits.specs.declared.Refusal.TheVariants.{MissingHeader}
use Rattle.text.specs.Answers.{span_of}
use Rattle.text.specs.declared.Span.{Span}
use Rattle.msg.specs.Block.{HeaderLine, lines_of, first_named, value_of, value_named, text_of, part_of, found_of, block_cause}
use Rattle.msg.specs.Table.{text_at}
use Rattle.msg.proofs.LookupLaws.{Says, found_at}
use Rattle.msg.proofs.TableLaws.{text_at_lem}
use Rattle.text.specs.Number.{number_from, read_number}
use Rattle.methods.specs.Methods.{method_from}
use Rattle.words.specs.Words.{word_at}
use Rattle.prack_headers.specs.Sequence.{cseq_name, cseq_number, value_text, read_in, stands, is_reliable, reliable_provisional, number_answer, method_answer, reliable_answer}

-- the value's bytes in the block are its text
pub value_text_lem : (name block : List ℕ) → part_of (value_named name block) block ≡ value_text name block
value_text_lem name block = by (first_named name (lines_of block)) refl
  where
    by : (o : Option HeaderLine) → first_named name (lines_of block) ≡ o → part_of (value_of o) block ≡ text_of o
    by None e = refl
    by (Some l) e =
        let r : Says block (first_named name (lines_of block)) (span_of l.value) l.next = found_at block name 0 (span_of l.value) l.next (omega arith) (ap found_of e) in
        let q : r.line ≡ l = cc r.is in
        subst (λ (h : HeaderLine). take (length h.value.text) (drop h.value.place block) ≡ h.value.text) q r.placed.there

-- the number of CSeq by its look-up
pub cseq_found : (block : List ℕ) (f : Option (Span × ℕ)) → f ≡ found_of (first_named cseq_name (lines_of block)) → number_from (read_number 32 (word_at 0 (text_at f block))) ≡ number_from (cseq_number block)
cseq_found block f e = rw (e, text_at_lem cseq_name block)

-- r is what the check of the block answers
module _ {A : Type 0} (L : LimitSet) (block : List ℕ) (o : Option A) {r : Result (Unit {0}) Refusal} (h : r ≡ check_of (block_cause L block)) where
  pub stopped_read : {cause : Refusal} → r ≡ Err cause → read_in L block o ≡ Err cause
  unfolding read_in
  stopped_read e = rw (stopped (block_cause L block) (sym h ∙ e))

  pub clear_read : r ≡ Ok tt → read_in L block o ≡ or_refuse MissingHeader o
  unfolding read_in
  clear_read e = rw (passed (block_cause L block) (sym h ∙ e))

-- what is answered of a number that was read, or that nothing was
number_required : (o r : Option ℕ) → number_from o ≡ r → ok_or r MissingHeader ≡ number_answer (or_refuse MissingHeader o)
number_required None r e = rw (← e) refl
number_required (Some n) r e = rw (← e) refl

pub number_extracted : (L : LimitSet) (block : List ℕ) (o : Option ℕ) {r : Result (Unit {0}) Refusal} {p q : Option ℕ} → r ≡ check_of (block_cause L block) → r ≡ Ok tt → p ≡ number_from o → p ≡ q → ok_or q MissingHeader ≡ number_answer (read_in L block o)
number_extracted L block o {q = q} h k e f = number_required o q (sym e ∙ f) ∙ ap number_answer (sym (clear_read L block o h k))

pub method_required : (o : Option ℕ) → ok_or (method_from o) MissingHeader ≡ method_answer (or_refuse MissingHeader o)
method_required None = refl
method_required (Some n) = refl

module _ (L : LimitSet) (status : ℕ) (block : List ℕ) {r : Result (Unit {0}) Refusal} (h : r ≡ check_of (block_cause L block)) where
  pub stopped_test : {cause : Refusal} → r ≡ Err cause → reliable_provisional L status block ≡ Err cause
  unfolding reliable_provisional
  stopped_test e = rw (stopped (block_cause L block) (sym h ∙ e))

  pub done_test : (t : Bool) → r ≡ Ok tt → is_reliable status block ≡ t → reliable_provisional L status block ≡ Ok t
  unfolding reliable_provisional
  done_test t e q = rw (passed (block_cause L block) (sym h ∙ e), q)

-- whether a look-up found a line
pub line_stands : (o : Option HeaderLine) → stands o ≡ is_some (found_of o)
line_stands None = refl
line_stands (Some l) = refl

pub reliable_same : (t : Bool) → Ok t ≡ reliable_answer (Ok t)
reliable_same true = refl
reliable_same false = refl
