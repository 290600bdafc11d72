-- PrackValidator (RFC 3262 section 3: a PRACK is held against the reliable provisional responses that wait for one), on a lent store of its own. Document 01,
-- "Intervals, PRACK, RSeq" and "Turned back": registering, validating (refused too) and `get_pending` clean, no other call does; 19 to 24 keep the cleaned
-- list; 18 comes before 19 where what the cleanup adds has no bytes left, and then nothing is changed. How a PRACK is judged: prack_verdict/specs/Verdict.antt. By the
-- RFC only 101 to 199 of an INVITE are registered, and a PRACK that is refused changes nothing; here, as in the Rust, any code and method are, and it cleans
-- (all departures: docs/DIFFERENCES.md, "RFC 3262, PRACK lists").
use Rattle.std.specs.Prelude.{ℕ, ◌<◌, Bool, cond, List, Err, None, Ok, Option, Result, Some}
use Rattle.limits.specs.Limits.{LimitSet}
use Rattle.limits.specs.Settings.{in_bounds, limits_in}
use Rattle.limits.specs.declared.settings.Settings.{Settings}
use Rattle.limits.specs.Outcome.{or_else, and_then}
use Rattle.limits.specs.declared.Refusal.{Refusal}
use Rattle.limits.specs.declared.Refusal.TheVariants.{SettingOutOfBounds}
use Rattle.text.specs.Answers.{length_cause}
use Rattle.msg.specs.Block.{block_cause}
use Rattle.methods.specs.Methods.{method_cause}
use Rattle.output.specs.Output.{fitted}
use Rattle.rack.specs.declared.RAck.{RAck}
use Rattle.ordered_store.specs.Entries.{set_entry, without_entry}
use Rattle.ordered_store.specs.Run.{Decided, Left, leave, run}
use Rattle.ordered_store.specs.History.{Calls}
use Rattle.prack_body.specs.Lists.{Pending, Tracked, pending_of, registered, entries_of, first_of_rseq, is_acknowledged, without_pracked, open_in, with_list}
use Rattle.prack_body.specs.Layout.{tracked_form, open_bytes}
use Rattle.prack_entries.specs.Entries.{key_of_text, key_of, held_for, clean_for}
use Rattle.prack_verdict.specs.Verdict.{rack_in, judged, marked_by}

-- ---- the calls

pub data Action : Type 0 where
  register : (id : List ℕ) (rseq cseq method code time : ℕ) → Action
  validate : (id block : List ℕ) (time : ℕ) → Action
  is_pracked : (id : List ℕ) (rseq : ℕ) → Action
  get_pending : (id : List ℕ) (time room : ℕ) → Action
  remove_dialog : (id : List ℕ) → Action
  remove_pracked : (id : List ℕ) (rseq : ℕ) → Action

-- what an accepted call answers: nothing; the RAck that was accepted; yes or no; bytes written to the front of the lent output
pub data Value : Type 0 where
  no_value : Value
  rack : RAck → Value
  flag : Bool → Value
  written : List ℕ → Value

-- 1, 28, 2
unfoldable pub action_cause : LimitSet → Action → Option Refusal
action_cause L (register id rseq cseq method code time) = or_else (length_cause L id) (method_cause method)
action_cause L (validate id block time) = or_else (length_cause L id) (block_cause L block)
action_cause L (is_pracked id r) = length_cause L id
action_cause L (get_pending id time room) = length_cause L id
action_cause L (remove_dialog id) = length_cause L id
action_cause L (remove_pracked id r) = length_cause L id

-- ---- what each call decides

abbrev pub rack_value : Result RAck Refusal → Result Value Refusal
rack_value (Err cause) = Err cause
rack_value (Ok k) = Ok (rack k)

abbrev pub deciding : List Tracked → Result Value Refusal → Result (Decided Tracked Value) Refusal
deciding ts a = Ok (record { entries = ts; answer = a })

abbrev pub list_of : Option Tracked → Option (List Pending)
list_of None = None
list_of (Some t) = t.list

-- the PRACK of a block held against the clean list of a text, and what is then held for it
abbrev pub judged_for : LimitSet → List ℕ → List ℕ → ℕ → List Tracked → Result RAck Refusal
judged_for L id block time ts = judged (rack_in block) (clean_for L time id ts).list

abbrev pub marked_for : LimitSet → List ℕ → List ℕ → ℕ → List Tracked → Tracked
marked_for L id block time ts = with_list (marked_by (judged_for L id block time ts) (clean_for L time id ts).list) (clean_for L time id ts)

-- nothing held: nothing changes
abbrev pub pruned : ℕ → Option Tracked → List Tracked → List Tracked
pruned r None ts = ts
pruned r (Some t) ts = set_entry key_of (with_list (without_pracked r t.list) t) ts

unfoldable pub judge : LimitSet → Action → List Tracked → Result (Decided Tracked Value) Refusal
judge L (register id rseq cseq method code time) ts = deciding (set_entry key_of (registered L (pending_of rseq cseq method code time) (clean_for L time id ts)) ts) (Ok no_value)
judge L (validate id block time) ts = deciding (set_entry key_of (marked_for L id block time ts) ts) (rack_value (judged_for L id block time ts))
judge L (is_pracked id r) ts = deciding ts (Ok (flag (is_acknowledged (first_of_rseq r (entries_of (list_of (held_for id ts)))))))
judge L (get_pending id time room) ts =
    and_then (fitted room (open_bytes (open_in (clean_for L time id ts).list))) (λ bytes.
    deciding (set_entry key_of (clean_for L time id ts) ts) (Ok (written bytes)))
judge L (remove_dialog id) ts = deciding (without_entry key_of (key_of_text id) ts) (Ok no_value)
judge L (remove_pracked id r) ts = deciding (pruned r (held_for id ts) ts) (Ok no_value)

-- what a call leaves of the lent bytes, of which so many are used
abbrev pub ran : LimitSet → Action → List ℕ → ℕ → Left Value
ran L a bytes used = run (tracked_form L) key_of (action_cause L a) (judge L a) bytes used

-- the same with a site's settings (document 02, request 7): 30 "comes first of all"
abbrev pub ran_with : Settings → Action → List ℕ → ℕ → Left Value
ran_with s a bytes used = cond (in_bounds s) (ran (limits_in s) a bytes used) (leave (tracked_form (limits_in s)) bytes used (Err SettingOutOfBounds))

-- ---- lists of calls

-- the numbers are of their types: RSeq and CSeq of 32 bits, a code of 16, a time of 64
abbrev pub Typed : Action → Type 0
Typed (register id rseq cseq method code time) = (rseq < 4294967296) × ((cseq < 4294967296) × ((code < 65536) × (time < 18446744073709551616)))
Typed (validate id block time) = time < 18446744073709551616
Typed (is_pracked id r) = Unit {0}
Typed (get_pending id time room) = time < 18446744073709551616
Typed (remove_dialog id) = Unit {0}
Typed (remove_pracked id r) = Unit {0}

-- the calls of a list
abbrev pub calls : LimitSet → Calls Tracked Value
calls L = record { Action = Action; Typed = Typed; cause = action_cause L; judge = judge L }
