-- `store::read_store` meets its contract: the count, then the identifiers. Assumes nothing.
use mathlib.Core.Path.{sym, ◌∙◌}
use Rattle.store.proofs.AnswerLaws.{counted, not_whole, decided}
use Rattle.store.proofs.read_store.Goals as goal

pub returns-in_err-count : goal.returns-in_err-count
returns-in_err-count c = c.from_residual.ensures ∙ not_whole c.args.bytes.now (sym c.read_records.ensures ∙ c.in_err-count.was)

pub returns : goal.returns
returns c =
    let s = c.args.bytes.now in
    c.then_some.ensures ∙ decided s c.in_ok-count.count (counted s (sym c.read_records.ensures ∙ c.in_ok-count.was)) c.is_distinct.ensures
