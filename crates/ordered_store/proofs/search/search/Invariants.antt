-- What is asked of the store is asked of the entries that are left.
use mathlib.Core.Path.{◌≡◌}
use Rattle.ordered_store.specs.Layout.{layout_by}
use Rattle.ordered_store.proofs.SearchLaws.{Left}
use Rattle.ordered_store.proofs.search.search.Given as goal

abbrev pub invariant-loop-at : goal.invariant-loop-at
invariant-loop-at g l = record { context : l.at-iterator.context ≡ l.fn.context; same : l.at-iterator.bytes.now ≡ l.bytes; left : Left (layout_by (g.E.Entry.form l.fn.context) (g.E.Entry.Good l.fn.context) g.E.Entry.parts) (g.E.KeyedBy.texts l.key) l.bytes l.at-iterator.at }
