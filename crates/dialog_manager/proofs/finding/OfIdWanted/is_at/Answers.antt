-- `is_at` of `OfId` meets its contract. Assumes nothing.
use mathlib.Core.Path.{◌∙◌}
use Rattle.dialog_manager.proofs.SearchLaws.{named_held}
use Rattle.dialog_manager.proofs.finding.OfIdWanted.is_at.Goals as goal

pub returns : goal.returns
returns c r w =
    let i = c.args.self.now.id in
    c.is_named.ensures ∙ named_held c.args.bytes.now c.args.ids i.call_id.now i.local_tag.now i.remote_tag.now r w
