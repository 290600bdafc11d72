-- Document 02, request 10, "Refusals in the worst minute": "Over a run of up to 4,096 request verdicts, each with its time, give the most refusals in any 60 s (start included, end excluded) starting at
-- a verdict, and the earliest start that has them. A time below the one before it is taken as that one, and keeps the value so taken. An empty run gives 0 and no
-- start; of a longer one the last 4,096 count." Times are nanoseconds. A window starts at any verdict, accepted ones too.
use Rattle.std.specs.Prelude.{ℕ, ◌+◌, ◌-◌, ◌≤◌, ◌<◌, max, ◌≡◌, Bool, true, cond, not, ◌&&◌, ◌||◌, List, [], ◌∷◌, length, drop, get_or, leb, ltb, eqb, None, Option, Some}

-- a request's verdict: when it was given, and its number, 0 where the request was taken
pub record Verdict : Type 0 where
  pub time : ℕ
  pub number : ℕ

abbrev pub is_refusal : Verdict → Bool
is_refusal v = not (eqb v.number 0)

-- ---- 60 s from a start on

abbrev pub minute : ℕ
minute = 60000000000

-- the start included, the end excluded
abbrev pub is_within : (start time : ℕ) → Bool
is_within start time = leb start time && ltb (time - start) minute

-- how many refusals of a run lie in the 60 s from a start on
unfoldable pub refusals_from : (start : ℕ) → List Verdict → ℕ
refusals_from start [] = 0
refusals_from start (v ∷ vs) = cond (is_within start v.time && is_refusal v) (1 + refusals_from start vs) (refusals_from start vs)

-- ---- the worst over all starts

-- a start, and the refusals in the 60 s from it on
pub record Minute : Type 0 where
  pub start : ℕ
  pub refusals : ℕ

-- the 60 s of a run that start at one of its verdicts
abbrev pub minute_of : List Verdict → Verdict → Minute
minute_of run v = record { start = v.time; refusals = refusals_from v.time run }

-- more refusals, or as many and an earlier start
abbrev pub is_worse : Minute → Minute → Bool
is_worse m n = ltb n.refusals m.refusals || (eqb m.refusals n.refusals && ltb m.start n.start)

abbrev pub worse_of : Minute → Option Minute → Minute
worse_of m None = m
worse_of m (Some n) = cond (is_worse n m) n m

-- the worst of those that start at the given verdicts
unfoldable pub worst_at : List Verdict → (starts : List Verdict) → Option Minute
worst_at run [] = None
worst_at run (v ∷ vs) = Some (worse_of (minute_of run v) (worst_at run vs))

-- of an empty run there is none
abbrev pub worst : List Verdict → Option Minute
worst run = worst_at run run

-- What `worst` is, in the request's words (proved: `worst_is` and `worst_only`, proofs/MinuteLaws.antt): a minute that starts at a verdict and has its refusals, where no
-- start has more, and none that has as many is earlier.
abbrev pub time_of : List Verdict → ℕ → ℕ
time_of vs i = (get_or vs i (record { time = 0; number = 0 })).time

pub record IsWorstAt (run starts : List Verdict) (m : Minute) : Type 0 where
  pub place : ℕ
  pub inside : place < length starts
  pub starts_there : m.start ≡ time_of starts place
  pub has : m.refusals ≡ refusals_from m.start run
  pub most : (i : ℕ) → i < length starts → refusals_from (time_of starts i) run ≤ m.refusals
  pub earliest : (i : ℕ) → i < length starts → refusals_from (time_of starts i) run ≡ m.refusals → m.start ≤ time_of starts i

abbrev pub IsWorst : List Verdict → Minute → Type 0
IsWorst run m = IsWorstAt run run m

-- ---- times as taken

-- "A time below the one before it is taken as that one, and keeps the value so taken": the one before it is itself as it was taken
abbrev pub taken_after : (last : ℕ) → Verdict → Verdict
taken_after last v = record { time = max last v.time; number = v.number }

unfoldable pub all_taken_after : (last : ℕ) → List Verdict → List Verdict
all_taken_after last [] = []
all_taken_after last (v ∷ vs) = taken_after last v ∷ all_taken_after (max last v.time) vs

-- the first has none before it
abbrev pub taken : List Verdict → List Verdict
taken [] = []
taken (v ∷ vs) = v ∷ all_taken_after v.time vs

-- no time is below the one before it
unfoldable pub rises_from : (last : ℕ) → List Verdict → Bool
rises_from last [] = true
rises_from last (v ∷ vs) = leb last v.time && rises_from v.time vs

-- ---- the last 4,096

abbrev pub most_verdicts : ℕ
most_verdicts = 4096

abbrev pub last_ones : List Verdict → List Verdict
last_ones vs = drop (length vs - most_verdicts) vs

-- "a fresh count over the times as taken": what counts of all verdicts that were given, oldest first
abbrev pub counted : List Verdict → List Verdict
counted vs = last_ones (taken vs)
