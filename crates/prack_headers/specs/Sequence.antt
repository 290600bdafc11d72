-- CSeq (RFC 3261 section 20.16) and RSeq (RFC 3262 section 7.1) of a block.
-- Document 01, "CSeq": "First token, read as Rust reads u32"; RSeq is the whole value. The RFCs' numbers are digits alone; here, as in the
-- Rust, one `+` may stand first, and an RSeq of 0 is read. The method is the second token, read by itself: a bad number doesn't spoil it.
use Rattle.limits.specs.declared.Refusal.{Refusal}
use Rattle.std.specs.Prelude.{ℕ, Bool, true, false, ◌&&◌, List, [], ◌∷◌, Err, None, Ok, Option, Result, Some}
use Rattle.limits.specs.Limits.{LimitSet}
use Rattle.limits.specs.Outcome.{refuse_by, or_refuse}
use Rattle.limits.specs.declared.Refusal.TheVariants.{MissingHeader}
use Rattle.text.specs.Text.{within}
use Rattle.text.specs.Number.{read_number}
use Rattle.msg.specs.Block.{HeaderLine, lines_of, first_named, text_of, block_cause}
use Rattle.methods.specs.Methods.{method_of}
use Rattle.words.specs.Words.{word_at}

-- CSeq, RSeq
abbrev pub cseq_name : List ℕ
cseq_name = 67 ∷ 83 ∷ 101 ∷ 113 ∷ []

abbrev pub rseq_name : List ℕ
rseq_name = 82 ∷ 83 ∷ 101 ∷ 113 ∷ []

-- the value of a name, empty where no line has it: an empty text is no number and no method
abbrev pub value_text : List ℕ → List ℕ → List ℕ
value_text name block = text_of (first_named name (lines_of block))

-- ---- what a block says

abbrev pub rseq_number : List ℕ → Option ℕ
rseq_number block = read_number 32 (value_text rseq_name block)

abbrev pub cseq_number : List ℕ → Option ℕ
cseq_number block = read_number 32 (word_at 0 (value_text cseq_name block))

abbrev pub cseq_method : List ℕ → Option ℕ
cseq_method block = method_of (word_at 1 (value_text cseq_name block))

abbrev pub stands : Option HeaderLine → Bool
stands None = false
stands (Some l) = true

-- a provisional response other than 100 with an RSeq line, readable or not. By RFC 3262 (sections 3 and 4) `Require` with `100rel` makes it reliable, and it then has an RSeq;
-- here, as in the Rust, the line alone decides
abbrev pub is_reliable : ℕ → List ℕ → Bool
is_reliable status block = within 101 199 status && stands (first_named rseq_name (lines_of block))

-- ---- the operations

-- 1, 2, then 4 where nothing is read
unfoldable pub read_in : {A : Type 0} → LimitSet → List ℕ → Option A → Result A Refusal
read_in L block o = refuse_by (block_cause L block) (or_refuse MissingHeader o)

abbrev pub extract_rseq : LimitSet → List ℕ → Result ℕ Refusal
extract_rseq L block = read_in L block (rseq_number block)

abbrev pub extract_cseq_number : LimitSet → List ℕ → Result ℕ Refusal
extract_cseq_number L block = read_in L block (cseq_number block)

abbrev pub extract_cseq_method : LimitSet → List ℕ → Result ℕ Refusal
extract_cseq_method L block = read_in L block (cseq_method block)

-- 1, 2
unfoldable pub reliable_provisional : LimitSet → ℕ → List ℕ → Result Bool Refusal
reliable_provisional L status block = refuse_by (block_cause L block) (Ok (is_reliable status block))

-- ---- the answers

abbrev pub number_answer : Result ℕ Refusal → Result ℕ Refusal
number_answer (Err cause) = Err cause
number_answer (Ok n) = Ok n

abbrev pub method_answer : Result ℕ Refusal → Result ℕ Refusal
method_answer (Err cause) = Err cause
method_answer (Ok n) = Ok n

abbrev pub reliable_answer : Result Bool Refusal → Result Bool Refusal
reliable_answer (Err cause) = Err cause
reliable_answer (Ok true) = Ok true
reliable_answer (Ok false) = Ok false
