-- The comparison of a text that is held with one that is asked for meets its contract. Assumes nothing.
use Rattle.ordered_store.proofs.KeyLaws.{told_last}
use Rattle.prack_entries.proofs.finding.StoreEntryKeyedByRefSliceU8.compare.Goals as goal

pub returns : goal.returns
returns c = told_last c.args.key.now c.text.ensures c.compare.ensures
