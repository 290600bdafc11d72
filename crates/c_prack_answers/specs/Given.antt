-- What a C caller of the calls on a PRACK store gets beside `Returns` (ordered_store/specs/Run.antt): what the lent numbers then are, by what `ran`
-- (prack_validator/specs/Validator.antt) leaves. Document 01, "Turned back" and "The shape of each place": a lent number keeps its value except where its
-- answer is given.
use Rattle.std.specs.Prelude.{ℕ, Err, Ok, Result}
use Rattle.std.specs.Int.{from_bool}
use Rattle.limits.specs.Outcome.{number_in}
use Rattle.limits.specs.declared.Refusal.{Refusal}
use Rattle.rack.specs.declared.RAck.{RAck}
use Rattle.prack_validator.specs.Validator.{Value, no_value, rack, flag, written}
use Rattle.prack_validator.specs.declared.Validated.{Validated}
use Rattle.c_answers.specs.Given.{Gives}

-- three lent numbers as a RAck
abbrev pub rack_of : ℕ → ℕ → ℕ → RAck
rack_of rseq cseq method = record { rseq = rseq; cseq = cseq; method = method }

-- whether a response is acknowledged: 1 or 0
abbrev pub pracked_after : Result Value Refusal → ℕ → ℕ
pracked_after (Err cause) old = old
pracked_after (Ok no_value) old = old
pracked_after (Ok (rack k)) old = old
pracked_after (Ok (flag f)) old = from_bool f
pracked_after (Ok (written bytes)) old = old

-- ---- a step of the code: the answer to a PRACK handed over; c_answers/specs/Given.antt says it of the other answers

pub record ValidatedNumbers : Type 0 where
  pub used : ℕ
  pub rack : RAck

abbrev pub validated_number : Validated → ℕ
validated_number answer = number_in answer.verdict

-- the three numbers of the RAck that was accepted
abbrev pub rack_given : Result RAck Refusal → RAck → RAck
rack_given (Ok k) old = k
rack_given (Err cause) old = old

abbrev pub validated_after : Validated → ValidatedNumbers → ValidatedNumbers
validated_after answer old = record { used = answer.used; rack = rack_given answer.verdict old.rack }

abbrev pub ValidatedGives : Validated → ValidatedNumbers → ℕ → ValidatedNumbers → Type 0
ValidatedGives answer old r left = Gives (validated_number answer) (validated_after answer old) r left
