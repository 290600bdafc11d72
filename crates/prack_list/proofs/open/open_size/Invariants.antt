-- The bytes left are those of whole entries, and of the entries before them those that are open are counted.
use mathlib.Core.Path.{◌≡◌}
use Rattle.prack_list.proofs.OpenLaws.{Counted}
use Rattle.prack_list.proofs.open.open_size.Given as goal

abbrev pub invariant-loop-entry : goal.invariant-loop-entry
invariant-loop-entry l = record { size : l.entry-iterator.size ≡ 20; counted : Counted l.body l.entry-iterator.rest.now l.size }
