-- A text as the result of a call with lent bytes. Document 01, "Turned back": 18 where the result is larger than its lent bytes;
-- a refused call keeps every byte, an accepted one every byte past the result.
use Rattle.limits.specs.declared.Refusal.{Refusal}
use Rattle.std.specs.Prelude.{ℕ, List, length, ltb, Err, Ok, Result}
use Rattle.edit.specs.Edit.{over}
use Rattle.limits.specs.Outcome.{cause_if, refuse_by}
use Rattle.limits.specs.declared.Refusal.TheVariants.{NoRoom}

-- 18 where the text is larger than the room
abbrev pub fitted : ℕ → List ℕ → Result (List ℕ) Refusal
fitted room s = refuse_by (cause_if (ltb room (length s)) NoRoom) (Ok s)

-- the lent bytes after the call
abbrev pub leaves : Result (List ℕ) Refusal → List ℕ → List ℕ
leaves (Err cause) bytes = bytes
leaves (Ok s) bytes = over s bytes

-- the answer
abbrev pub written_from : Result (List ℕ) Refusal → Result ℕ Refusal
written_from (Err cause) = Err cause
written_from (Ok s) = Ok (length s)
