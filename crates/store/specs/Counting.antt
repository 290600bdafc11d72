-- A step of the code: the records of a lent store, and how many they are. Document 01, refusal 3: the used length over the lent, or used bytes that aren't a
-- store's. What `count` answers is `run` (book/specs/Store.antt).
use Rattle.std.specs.Prelude.{ℕ, ◌≤◌, ◌≡◌, List, length, take, ltb, Err, Ok, Result}
use Rattle.limits.specs.Outcome.{refuse_if, or_refuse}
use Rattle.limits.specs.declared.Refusal.{Refusal}
use Rattle.limits.specs.declared.Refusal.TheVariants.{BadStore}
use Rattle.record.specs.Record.{Record}
use Rattle.record.specs.Store.{decode_all}
use Rattle.store.specs.declared.held.Held.{Held}

-- the records of a lent store, of which so many bytes are used: 3
unfoldable pub records_held : List ℕ → ℕ → Result (List Record) Refusal
records_held bytes used = refuse_if (ltb (length bytes) used) BadStore (or_refuse BadStore (decode_all (take used bytes)))

abbrev pub count_answer : Result (List Record) Refusal → Result ℕ Refusal
count_answer (Err cause) = Err cause
count_answer (Ok rs) = Ok (length rs)

-- what `read` answers: the used bytes, or the cause for which the count is refused
abbrev pub ReadAs : List ℕ → ℕ → Result Held Refusal → Type 0
ReadAs bytes used (Ok h) = (used ≤ length bytes) × (h.bytes.now ≡ take used bytes)
ReadAs bytes used (Err cause) = count_answer (records_held bytes used) ≡ Err cause
