-- `prack_cleaning::keep_list` meets its contract: the entries that stay, and their count. Assumes nothing.
use Rattle.prack_cleaning.proofs.KeepLaws.{kept_list_lem}
use Rattle.prack_cleaning.proofs.keep_list.Goals as goal

pub returns : goal.returns
returns g c = let a = c.args in λ L t h. kept_list_lem h (g.S.Staying.test a.which) c.if-n-lt-ENTRIES_AT.false (c.keep-kept.ensures.kept)
