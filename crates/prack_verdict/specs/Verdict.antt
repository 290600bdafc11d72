-- A PRACK held against a list (RFC 3262 section 3: against the reliable provisional responses that wait for one): 19 to 24. A PRACK that matches no response that
-- waits is refused, as in the RFC; which of 20 to 24 is given is the Rust's. By the RFC RSeq, CSeq and method together name the response; here, as in the Rust, the first of the RSeq
-- decides, and of several RAck lines the first (docs/DIFFERENCES.md, "RFC 3262, PRACK lists").
use Rattle.std.specs.Prelude.{ℕ, not, List, [], ◌∷◌, eqb, Err, None, Ok, Option, Result, Some}
use Rattle.limits.specs.Outcome.{refuse_if, and_then, or_refuse}
use Rattle.limits.specs.declared.Refusal.{Refusal}
use Rattle.limits.specs.declared.Refusal.TheVariants.{InvalidRAck, NoPendingList, UnknownRSeq, RAckCSeqMismatch, RAckMethodMismatch, DuplicatePrack}
use Rattle.msg.specs.Block.{lines_of, first_named, text_of}
use Rattle.rack.specs.RAck.{read_rack}
use Rattle.rack.specs.declared.RAck.{RAck}
use Rattle.prack_body.specs.Lists.{Pending, first_of_rseq, marked}

-- `RAck`
abbrev pub rack_name : List ℕ
rack_name = 82 ∷ 65 ∷ 99 ∷ 107 ∷ []

-- the RAck of a block: the first line of that name, if all its parts can be read
abbrev pub rack_in : List ℕ → Option RAck
rack_in block = read_rack (text_of (first_named rack_name (lines_of block)))

-- 22, 23, 24: the first entry of the RSeq decides
abbrev pub matched : RAck → Pending → Result RAck Refusal
matched k p =
    refuse_if (not (eqb p.cseq k.cseq)) RAckCSeqMismatch
    (refuse_if (not (eqb p.method k.method)) RAckMethodMismatch
    (refuse_if p.acknowledged DuplicatePrack (Ok k)))

-- 19, 20, 21, then 22 to 24
unfoldable pub judged : Option RAck → Option (List Pending) → Result RAck Refusal
judged o list = and_then (or_refuse InvalidRAck o) (λ k. and_then (or_refuse NoPendingList list) (λ ps. and_then (or_refuse UnknownRSeq (first_of_rseq k.rseq ps)) (λ p. matched k p)))

-- the list after it: marked where the PRACK is accepted
abbrev pub marked_by : Result RAck Refusal → Option (List Pending) → Option (List Pending)
marked_by (Err cause) list = list
marked_by (Ok k) None = None
marked_by (Ok k) (Some ps) = Some (marked k.rseq ps)

-- ---- the answer

abbrev pub verdict_of : Result RAck Refusal → Result RAck Refusal
verdict_of (Err cause) = Err cause
verdict_of (Ok k) = Ok k
