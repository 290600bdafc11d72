-- `finding::mark` meets its contract. Assumes nothing.
use Rattle.prack_list.proofs.FindLaws.{mark_law}
use Rattle.prack_list.proofs.finding.mark.Goals as goal

pub returns : goal.returns
returns c = λ L n r t ps p h e f q. mark_law h r ps p e f q
