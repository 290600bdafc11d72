-- What is left of the bytes, and the count of the entries before.
use mathlib.Core.Path.{◌≡◌}
use Rattle.ordered_store.specs.Layout.{layout_by}
use Rattle.ordered_store.proofs.WalkLaws.{SoFar}
use Rattle.ordered_store.proofs.search.count_entries.Given as goal

abbrev pub invariant-loop-entry : goal.invariant-loop-entry
invariant-loop-entry g l = record { context : l.entry-iterator.context ≡ l.fn.context; same : l.entry-iterator.bytes.now ≡ l.bytes; so_far : SoFar (layout_by (g.E.Entry.form l.fn.context) (g.E.Entry.Good l.fn.context) g.E.Entry.parts) l.bytes l.entry-iterator.at l.last l.n }
