-- Lists of reliable provisional responses that wait for their PRACK (RFC 3262 section 3), one list for each identifier text, beside the last cleanup's
-- time. Document 01, "Intervals, PRACK, RSeq": the caller gives the time, whole nanoseconds; if it goes back, elapsed is 0. "Cleanup (first call, then 300 s
-- after the last) drops acknowledged entries and those older than 300 s". "The eleventh entry drops the oldest; the first equal RSeq decides." By RFC 3262 a
-- response is sent again for 64*T1 and then its request is refused, any number may wait once the first is acknowledged, an acknowledged one is removed, and RSeq,
-- CSeq and method together name the response; the list departs from it here as the Rust does: 300 s to nearly 600 s, at most ten, and the first of an RSeq
-- alone is looked at (docs/DIFFERENCES.md, "RFC 3262, PRACK lists"). Document 02, request 7: the three figures are those of the site's set.
use Rattle.std.specs.Prelude.{ℕ, ◌+◌, ◌-◌, ◌*◌, Bool, true, false, cond, not, ◌&&◌, ◌||◌, List, [], ◌∷◌, ◌++◌, length, drop, eqb, leb, None, Option, Some}
use Rattle.limits.specs.Limits.{LimitSet}

-- a response that was registered: its numbers and method (the INVITE's, say), its code, whether a PRACK has acknowledged it, and when it was registered
pub record Pending : Type 0 where
  pub rseq : ℕ
  pub cseq : ℕ
  pub method : ℕ
  pub code : ℕ
  pub acknowledged : Bool
  pub registered_at : ℕ

-- what is held for an identifier text: the last cleanup's time, and a list or none; an empty list is not none
pub record Tracked : Type 0 where
  pub id : List ℕ
  pub cleaned_at : ℕ
  pub list : Option (List Pending)

-- ---- times

abbrev pub nanoseconds : ℕ → ℕ
nanoseconds seconds = seconds * 1000000000

-- 0 where the time goes back
abbrev pub elapsed : (now since : ℕ) → ℕ
elapsed now since = now - since

-- ---- cleanup

-- entries that a cleanup leaves: not acknowledged, and not older than the timeout
abbrev pub stays : LimitSet → (now : ℕ) → Pending → Bool
stays L now p = not p.acknowledged && leb (elapsed now p.registered_at) (nanoseconds L.timeout)

unfoldable pub staying : (Pending → Bool) → List Pending → List Pending
staying test [] = []
staying test (p ∷ ps) = cond (test p) (p ∷ staying test ps) (staying test ps)

abbrev pub cleaned_list : LimitSet → (now : ℕ) → Option (List Pending) → Option (List Pending)
cleaned_list L now None = None
cleaned_list L now (Some ps) = Some (staying (stays L now) ps)

-- so long after the last cleanup the next one is due
abbrev pub is_due : LimitSet → (now : ℕ) → Tracked → Bool
is_due L now t = leb (nanoseconds L.cleanup) (elapsed now t.cleaned_at)

-- what is held after the cleanup of a call at a time; for an identifier of which nothing was held the time stands, without a list
unfoldable pub cleaned : LimitSet → (now : ℕ) (id : List ℕ) → Option Tracked → Tracked
cleaned L now id None = record { id = id; cleaned_at = now; list = None }
cleaned L now id (Some t) = cond (is_due L now t) (record { id = t.id; cleaned_at = now; list = cleaned_list L now t.list }) t

-- ---- registering

abbrev pub entries_of : Option (List Pending) → List Pending
entries_of None = []
entries_of (Some ps) = ps

-- the last entries, so that one more makes at most so many, and the new one
unfoldable pub pushed : LimitSet → Pending → List Pending → List Pending
pushed L p ps = drop (length ps + 1 - L.pending) ps ++ (p ∷ [])

abbrev pub registered : LimitSet → Pending → Tracked → Tracked
registered L p t = record { id = t.id; cleaned_at = t.cleaned_at; list = Some (pushed L p (entries_of t.list)) }

-- a response as it is registered
abbrev pub pending_of : (rseq cseq method code now : ℕ) → Pending
pending_of rseq cseq method code now = record { rseq = rseq; cseq = cseq; method = method; code = code; acknowledged = false; registered_at = now }

-- ---- acknowledging

-- the first entry of an RSeq
unfoldable pub first_of_rseq : ℕ → List Pending → Option Pending
first_of_rseq r [] = None
first_of_rseq r (p ∷ ps) = cond (eqb p.rseq r) (Some p) (first_of_rseq r ps)

abbrev pub acknowledge : Pending → Pending
acknowledge p = record { rseq = p.rseq; cseq = p.cseq; method = p.method; code = p.code; acknowledged = true; registered_at = p.registered_at }

-- the first entry of an RSeq acknowledged
unfoldable pub marked : ℕ → List Pending → List Pending
marked r [] = []
marked r (p ∷ ps) = cond (eqb p.rseq r) (acknowledge p ∷ ps) (p ∷ marked r ps)

abbrev pub is_acknowledged : Option Pending → Bool
is_acknowledged None = false
is_acknowledged (Some p) = p.acknowledged

-- another list in its place
abbrev pub with_list : Option (List Pending) → Tracked → Tracked
with_list list t = record { id = t.id; cleaned_at = t.cleaned_at; list = list }

-- `remove_pracked`: all but the acknowledged entries of an RSeq
abbrev pub is_other : ℕ → Pending → Bool
is_other r p = not (eqb p.rseq r) || not p.acknowledged

abbrev pub without_pracked : ℕ → Option (List Pending) → Option (List Pending)
without_pracked r None = None
without_pracked r (Some ps) = Some (staying (is_other r) ps)

-- `get_pending`: those not acknowledged
abbrev pub is_open : Pending → Bool
is_open p = not p.acknowledged

abbrev pub open_in : Option (List Pending) → List Pending
open_in o = staying is_open (entries_of o)
