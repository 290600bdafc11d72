-- What the calls of `RSeqManager` (lib.rs) answer, by what `ran` leaves: the number and the used length, and the lent bytes beside them.
use Rattle.std.specs.Prelude.{ℕ, Bool, List, length, eqb, Err, Ok, Result}
use Rattle.limits.specs.declared.Refusal.{Refusal}
use Rattle.ordered_store.specs.Run.{Left}
use Rattle.rseq_manager.specs.RSeq.{empty_flag}

-- `next_rseq`: the number, and the new used length
abbrev pub numbered_by : Result ℕ Refusal → ℕ → Result (ℕ × ℕ) Refusal
numbered_by (Err cause) used = Err cause
numbered_by (Ok n) used = Ok (n, used)

abbrev pub numbered_in : Left ℕ → Result (ℕ × ℕ) Refusal
numbered_in l = numbered_by l.answer l.used

-- the used length after it
abbrev pub used_after : Result (ℕ × ℕ) Refusal → ℕ → ℕ
used_after (Err cause) used = used
used_after (Ok (n, after)) used = after

-- `current_rseq`
abbrev pub current_of : Result ℕ Refusal → Result ℕ Refusal
current_of (Err cause) = Err cause
current_of (Ok n) = Ok n

-- `len`
abbrev pub counted_of : Result ℕ Refusal → Result ℕ Refusal
counted_of (Err cause) = Err cause
counted_of (Ok n) = Ok n

-- `is_empty`: whether none is held, and the number that a C caller is given for it
abbrev pub empty_of : Result ℕ Refusal → Result Bool Refusal
empty_of (Err cause) = Err cause
empty_of (Ok n) = Ok (eqb n 0)

abbrev pub emptiness : Result ℕ Refusal → Result ℕ Refusal
emptiness (Err cause) = Err cause
emptiness (Ok n) = Ok (empty_flag n)

-- ---- steps of the code

-- a new entry's number, where the bytes with it fit
abbrev pub numbered_from : ℕ → Result (List ℕ) Refusal → Result (ℕ × ℕ) Refusal
numbered_from m (Err cause) = Err cause
numbered_from m (Ok s) = Ok (m, length s)
