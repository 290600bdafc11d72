-- What the calls answer, by what `ran` (Validator.antt) leaves: the answer, the used length, and what the lent output then is. Document 01, "Turned back": a
-- refused call keeps the output; 19 to 24 may move the used length, since the cleaned list stands.
use Rattle.std.specs.Prelude.{ℕ, Bool, false, List, length, Err, Ok, Result}
use Rattle.limits.specs.declared.Refusal.{Refusal}
use Rattle.edit.specs.Edit.{over}
use Rattle.rack.specs.declared.RAck.{RAck}
use Rattle.ordered_store.specs.Run.{Left}
use Rattle.prack_validator.specs.Validator.{Value, no_value, rack, flag, written}
use Rattle.prack_validator.specs.declared.Validated.{Validated}

-- ---- values: each keeps what it was except where its answer is given

-- the RAck that was accepted
abbrev pub rack_after : Result Value Refusal → RAck → RAck
rack_after (Err cause) old = old
rack_after (Ok no_value) old = old
rack_after (Ok (rack k)) old = k
rack_after (Ok (flag f)) old = old
rack_after (Ok (written bytes)) old = old

-- yes or no
abbrev pub flag_after : Result Value Refusal → Bool → Bool
flag_after (Err cause) old = old
flag_after (Ok no_value) old = old
flag_after (Ok (rack k)) old = old
flag_after (Ok (flag f)) old = f
flag_after (Ok (written bytes)) old = old

-- how many bytes of the lent output were written, and the output
abbrev pub length_after : Result Value Refusal → ℕ → ℕ
length_after (Err cause) old = old
length_after (Ok no_value) old = old
length_after (Ok (rack k)) old = old
length_after (Ok (flag f)) old = old
length_after (Ok (written bytes)) old = length bytes

abbrev pub output_after : Result Value Refusal → List ℕ → List ℕ
output_after (Err cause) old = old
output_after (Ok no_value) old = old
output_after (Ok (rack k)) old = old
output_after (Ok (flag f)) old = old
output_after (Ok (written bytes)) old = over bytes old

-- ---- the answers of the functions, case by case; those that answer the new used length alone: `written_in`, ordered_store/specs/Answers.antt

-- `validate_prack`: the RAck, or the cause; the new used length beside both
abbrev pub no_rack : RAck
no_rack = record { rseq = 0; cseq = 0; method = 0 }

abbrev pub validated_by : Result Value Refusal → ℕ → Validated
validated_by (Err cause) used = record { verdict = Err cause; used = used }
validated_by (Ok v) used = record { verdict = Ok (rack_after (Ok v) no_rack); used = used }

abbrev pub validated_in : Left Value → Validated
validated_in l = validated_by l.answer l.used

-- `is_pracked`
abbrev pub pracked_of : Result Value Refusal → Result Bool Refusal
pracked_of (Err cause) = Err cause
pracked_of (Ok v) = Ok (flag_after (Ok v) false)

-- `get_pending`: how many bytes of the output were written, and the new used length
abbrev pub listed_by : Result Value Refusal → ℕ → Result (ℕ × ℕ) Refusal
listed_by (Err cause) used = Err cause
listed_by (Ok v) used = Ok (length_after (Ok v) 0, used)

abbrev pub listed_in : Left Value → Result (ℕ × ℕ) Refusal
listed_in l = listed_by l.answer l.used

abbrev pub used_listed : Result (ℕ × ℕ) Refusal → ℕ → ℕ
used_listed (Err cause) used = used
used_listed (Ok (n, after)) used = after

-- ---- steps of the code

-- a verdict on a PRACK, or a refusal that keeps all
abbrev pub validated_or : Result Validated Refusal → ℕ → Validated
validated_or (Err cause) used = record { verdict = Err cause; used = used }
validated_or (Ok v) used = v
