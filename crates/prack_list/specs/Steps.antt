-- Steps of the code: the last entries before one more is put behind them, a response as it is registered, and where the first entry of an RSeq lies in a body (prack_body/specs/Body.antt).
use Rattle.std.specs.Prelude.{ℕ, ◌+◌, ◌-◌, cond, List, [], ◌∷◌, length, drop, eqb, Err, None, Ok, Option, Result, Some}
use Rattle.limits.specs.Limits.{LimitSet}
use Rattle.limits.specs.declared.Refusal.{Refusal}
use Rattle.limits.specs.declared.Refusal.TheVariants.{NoPendingList, UnknownRSeq}
use Rattle.prack_body.specs.Lists.{Pending, pending_of, first_of_rseq}
use Rattle.prack_list.specs.declared.finding.PendingAt.{PendingAt}
use Rattle.prack_list.specs.declared.pushing.Provisional.{Provisional}

-- the last entries, one fewer than the set allows, or all where there are fewer
abbrev pub last_of : LimitSet → List Pending → List Pending
last_of L ps = drop (length ps + 1 - L.pending) ps

-- a response as it is registered
abbrev pub pending_in : Provisional → Pending
pending_in r = pending_of r.rseq r.cseq r.method r.code r.time

-- ---- the first entry of an RSeq

-- its place, where the first of the entries lies at the given one
unfoldable pub place_from : ℕ → ℕ → List Pending → ℕ
place_from at r [] = at
place_from at r (p ∷ ps) = cond (eqb p.rseq r) at (place_from (at + 20) r ps)

-- 21 where there is none
abbrev pub position_at : ℕ → Option Pending → Result PendingAt Refusal
position_at at None = Err UnknownRSeq
position_at at (Some p) = Ok (record { place = at; cseq = p.cseq; method = p.method; acknowledged = p.acknowledged })

-- 20 where no list stands
abbrev pub position_in : ℕ → Option (List Pending) → Result PendingAt Refusal
position_in r None = Err NoPendingList
position_in r (Some ps) = position_at (place_from 10 r ps) (first_of_rseq r ps)
