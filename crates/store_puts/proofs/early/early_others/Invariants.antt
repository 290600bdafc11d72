use mathlib.Core.Path.{◌≡◌}
use Rattle.dialog_id.specs.IdTexts.{ident_of}
use Rattle.store_puts.proofs.EarlyLaws.{Counting}
use Rattle.store_puts.proofs.early.early_others.Given as goal

abbrev pub invariant-loop-at : goal.invariant-loop-at
invariant-loop-at l = (l.at-iterator.bytes.now ≡ l.held.bytes.now) × Counting (ident_of l.id) l.held.bytes.now l.at-iterator.at l.n
