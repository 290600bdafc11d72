-- `store_requests::nowhere` meets its contract: 3, 15. Assumes nothing.
use mathlib.Core.Path.{sym, ◌∙◌}
use Rattle.std.proofs.result.Match.{err_is}
use Rattle.dialog_manager.proofs.LookupLaws.{kept}
use Rattle.store_entries.proofs.LocateLaws.{nowhere_unread, nowhere_read}
use Rattle.store_requests.proofs.nowhere.Goals as goal

pub returns-in_err-count-clause-value : goal.returns-in_err-count-clause-value
returns-in_err-count-clause-value c =
    let a = c.args in
    err_is c.from_residual.result _ c.from_residual.ensures.1 ∙ nowhere_unread a.bytes.now a.used (sym c.count.ensures ∙ c.in_err-count.was)

pub returns-clause-value : goal.returns-clause-value
returns-clause-value c =
    let a = c.args in
    nowhere_read a.bytes.now a.used (kept a.bytes.now a.used (sym c.count.ensures ∙ c.in_ok-count.was))
