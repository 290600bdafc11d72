-- RSeqManager: the RSeq number of each dialog, in a lent store of their own. (By RFC 3262 section 3 RSeq numbers are counted within one request.) Document 01,
-- "Intervals, PRACK, RSeq": "RSeq starts at (n's low 31 bits, at least 1) for a caller's n, then rises by one and stops at 4,294,967,295". What the store holds is in
-- rseq_entries/specs/Entries.antt.
use Rattle.std.specs.Prelude.{ℕ, ◌+◌, ◌%◌, min, max, cond, List, length, eqb, None, Ok, Option, Result, Some}
use Rattle.limits.specs.Limits.{LimitSet}
use Rattle.limits.specs.Outcome.{and_then, or_refuse}
use Rattle.limits.specs.declared.Refusal.{Refusal}
use Rattle.limits.specs.declared.Refusal.TheVariants.{NotFound}
use Rattle.dialog_id.specs.Ident.{ident_cause, Ident}
use Rattle.ordered_store.specs.Entries.{entry_of, set_entry, without_entry}
use Rattle.ordered_store.specs.Run.{Decided, Left, run}
use Rattle.ordered_store.specs.History.{Calls}
use Rattle.rseq_entries.specs.Entries.{key_of_ident, Entry, key_of, entry_form}

-- ---- the numbers

-- the first number: n's low 31 bits, at least 1
abbrev pub first_number : ℕ → ℕ
first_number n = max 1 (n % 2147483648)

-- one more, but at most the largest of four bytes
abbrev pub next_number : ℕ → ℕ
next_number n = min (n + 1) 4294967295

abbrev pub number_after : ℕ → Option Entry → ℕ
number_after n None = first_number n
number_after n (Some e) = next_number e.number

-- ---- the calls

-- n is the caller's number, which is looked at only where none is held
pub data Action : Type 0 where
  next : (id : Ident) (n : ℕ) → Action
  current : (id : Ident) → Action
  remove : (id : Ident) → Action
  len : Action

-- 1
unfoldable pub action_cause : LimitSet → Action → Option Refusal
action_cause L (next id n) = ident_cause L id
action_cause L (current id) = ident_cause L id
action_cause L (remove id) = ident_cause L id
action_cause L len = None

-- an accepted call: the entries afterwards, and the number that it answers (a removal: 0)
abbrev pub deciding : List Entry → ℕ → Result (Decided Entry ℕ) Refusal
deciding es n = Ok (record { entries = es; answer = Ok n })

abbrev pub numbered : Ident → ℕ → Entry
numbered id n = record { id = id; number = n }

unfoldable pub judge : Action → List Entry → Result (Decided Entry ℕ) Refusal
judge (next id n) es = deciding (set_entry key_of (numbered id (number_after n (entry_of key_of (key_of_ident id) es))) es) (number_after n (entry_of key_of (key_of_ident id) es))
judge (current id) es = and_then (or_refuse NotFound (entry_of key_of (key_of_ident id) es)) (λ e. deciding es e.number)
judge (remove id) es = deciding (without_entry key_of (key_of_ident id) es) 0
judge len es = deciding es (length es)

-- what a call leaves of the lent bytes, of which so many are used
abbrev pub ran : LimitSet → Action → List ℕ → ℕ → Left ℕ
ran L a bytes used = run entry_form key_of (action_cause L a) (judge a) bytes used

-- `is_empty`: 1 where no dialog has a number, otherwise 0
abbrev pub empty_flag : ℕ → ℕ
empty_flag n = cond (eqb n 0) 1 0

-- the calls of a list; a first number is taken from any n
abbrev pub calls : LimitSet → Calls Entry ℕ
calls L = record { Action = Action; Typed = λ a. Unit {0}; cause = action_cause L; judge = judge }
