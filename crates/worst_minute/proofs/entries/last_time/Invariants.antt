-- What is left of the bytes are whole entries, and those before it are read.
use mathlib.Core.Path.{◌≡◌}
use Rattle.worst_minute.proofs.ReadLaws.{Read}
use Rattle.worst_minute.proofs.entries.last_time.Given as goal

abbrev pub invariant-loop-entry : goal.invariant-loop-entry
invariant-loop-entry l = record { size : l.entry-iterator.size ≡ 9; read : Read l.run l.entry-iterator.rest.now l.last }
