-- `listed::read_at` meets its contract: a record that is read has bytes. Assumes nothing.
use Rattle.listing_text.proofs.ListLaws.{read_there}
use Rattle.listing_text.proofs.listed.read_at.Goals as goal

pub returns : goal.returns
returns c = let a = c.args in read_there a.bytes.now a.at c.requires c.read_record.result c.read_record.ensures
