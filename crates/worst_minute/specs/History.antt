-- Document 02, request 10: "Adding a verdict at the end and dropping the oldest, as a 4,097th does, must give what a fresh count over the times as taken gives." A list of calls
-- on a run, from an empty one, each lent the first bytes of one memory, as many as it says, and the used length, as the last left them. A list of calls has the LATEST
-- FIRST, so that what holds for every list holds at every earlier point of it.
use Rattle.limits.specs.declared.Refusal.{Refusal}
use Rattle.std.specs.Prelude.{ℕ, ◌*◌, ◌≤◌, ◌<◌, ◌≡◌, List, [], ◌∷◌, ◌++◌, length, take, drop, ltb, Err, None, Ok, Option, Result}
use Rattle.limits.specs.Outcome.{refuse_if}
use Rattle.limits.specs.declared.Refusal.TheVariants.{BadStore, NoRoom}
use Rattle.output.specs.Output.{leaves}
use Rattle.worst_minute.specs.Minute.{Verdict, Minute, worst, most_verdicts, counted}
use Rattle.worst_minute.specs.Layout.{entry_size, encode_run}
use Rattle.worst_minute.specs.Calls.{added, worst_in}

-- `add_verdict` and `worst_minute`, each with how many bytes it is lent
pub data Call : Type 0 where
  add : (lent : ℕ) (v : Verdict) → Call
  ask : (lent : ℕ) → Call

-- ---- told the calls' arguments alone

-- the bytes of so many verdicts
abbrev pub size_of : List Verdict → ℕ
size_of vs = length vs * entry_size

-- what a call comes to, where these verdicts were given before it: 3 where what counts of them is over the lent, 18 where it is with the new one. The worst minute is
-- that of a fresh count over the times as taken
unfoldable pub decide : Call → List Verdict → Result (Option Minute) Refusal
decide (add lent v) vs = refuse_if (ltb lent (size_of (counted vs))) BadStore (refuse_if (ltb lent (size_of (counted (vs ++ (v ∷ []))))) NoRoom (Ok None))
decide (ask lent) vs = refuse_if (ltb lent (size_of (counted vs))) BadStore (Ok (worst (counted vs)))

abbrev pub with_given : Call → Result (Option Minute) Refusal → List Verdict → List Verdict
with_given (add lent v) (Err cause) vs = vs
with_given (add lent v) (Ok o) vs = vs ++ (v ∷ [])
with_given (ask lent) o vs = vs

-- the verdicts of the calls that were accepted, the oldest first, with the times as they were given
unfoldable pub verdicts : List Call → List Verdict
verdicts [] = []
verdicts (c ∷ cs) = with_given c (decide c (verdicts cs)) (verdicts cs)

unfoldable pub answers : List Call → List (Result (Option Minute) Refusal)
answers [] = []
answers (c ∷ cs) = decide c (verdicts cs) ∷ answers cs

-- the verdicts of all calls; where each is lent the bytes of 4,096 they are those that were accepted (proved: `roomy`, proofs/HistoryLaws.antt)
unfoldable pub all_given : List Call → List Verdict
all_given [] = []
all_given (add lent v ∷ cs) = all_given cs ++ (v ∷ [])
all_given (ask lent ∷ cs) = all_given cs

-- ---- the run

-- the memory that the calls are lent bytes of, and the used length between two calls
pub record World : Type 0 where
  pub memory : List ℕ
  pub used : ℕ

-- what a call leaves of the bytes that it is lent, and of the used length, and what it answers
pub record Left : Type 0 where
  pub bytes : List ℕ
  pub used : ℕ
  pub answer : Result (Option Minute) Refusal

abbrev pub used_after : Result (List ℕ) Refusal → ℕ → ℕ
used_after (Err cause) used = used
used_after (Ok s) used = length s

-- an accepted `add_verdict` answers no minute
abbrev pub nothing_asked : Result (List ℕ) Refusal → Result (Option Minute) Refusal
nothing_asked (Err cause) = Err cause
nothing_asked (Ok s) = Ok None

abbrev pub lent_to : Call → ℕ
lent_to (add lent v) = lent
lent_to (ask lent) = lent

abbrev pub on_bytes : Call → List ℕ → ℕ → Left
on_bytes (add lent v) bytes used = record { bytes = leaves (added v bytes used) bytes; used = used_after (added v bytes used) used; answer = nothing_asked (added v bytes used) }
on_bytes (ask lent) bytes used = record { bytes = bytes; used = used; answer = worst_in bytes used }

abbrev pub lending : Call → World → Left
lending c w = on_bytes c (take (lent_to c) w.memory) w.used

unfoldable pub world : List ℕ → List Call → World
world m [] = record { memory = m; used = 0 }
world m (c ∷ cs) = record { memory = (lending c (world m cs)).bytes ++ drop (lent_to c) (world m cs).memory; used = (lending c (world m cs)).used }

unfoldable pub run_answers : List ℕ → List Call → List (Result (Option Minute) Refusal)
run_answers m [] = []
run_answers m (c ∷ cs) = (lending c (world m cs)).answer ∷ run_answers m cs

-- each call is lent the bytes of 4,096 verdicts
abbrev pub EachRoomy : List Call → Type 0
EachRoomy [] = Unit {0}
EachRoomy (c ∷ cs) = (most_verdicts * entry_size ≤ lent_to c) × EachRoomy cs

-- what is true of every call that is made: it is lent no more than there is, and its time has 64 bits
abbrev pub Typed : Call → Type 0
Typed (add lent v) = v.time < 18446744073709551616
Typed (ask lent) = Unit {0}

abbrev pub EachSent : List ℕ → List Call → Type 0
EachSent m [] = Unit {0}
EachSent m (c ∷ cs) = ((lent_to c ≤ length m) × Typed c) × EachSent m cs

-- the claim: after the calls the used bytes are those of a fresh run of the verdicts given, their times as taken and cut to the last 4,096, and there are as many as it has;
-- those past them are as they were before the first call; and every answer is that of a fresh count over it
pub record Follows (m : List ℕ) (cs : List Call) : Type 0 where
  pub holds : take (world m cs).used (world m cs).memory ≡ encode_run (counted (verdicts cs))
  pub used_is : (world m cs).used ≡ size_of (counted (verdicts cs))
  pub rest : drop (world m cs).used (world m cs).memory ≡ drop (world m cs).used m
  pub answers_are : run_answers m cs ≡ answers cs
