-- `worst_minute::entries::time_at` meets its contract. Assumes nothing.
use Rattle.worst_minute.proofs.NumberLaws.{time_told}
use Rattle.worst_minute.proofs.entries.time_at.Goals as goal

pub returns : goal.returns
returns c = let a = c.args in time_told a.run.now a.at c.requires c.read_eight.ensures
