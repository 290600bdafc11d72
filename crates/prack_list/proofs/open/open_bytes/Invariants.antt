-- The bytes left are those of whole entries, and of the entries before them those that are open are written.
use mathlib.Core.Path.{◌≡◌}
use Rattle.prack_list.proofs.OpenLaws.{Written}
use Rattle.prack_list.proofs.open.open_bytes.Given as goal

abbrev pub invariant-loop-entry : goal.invariant-loop-entry
invariant-loop-entry l = record { size : l.entry-iterator.size ≡ 20; written : Written l.body l.initial.out l.entry-iterator.rest.now l.to l.out }
