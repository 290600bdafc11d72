-- `store_requests::locate_named` meets its contract: the record of the identifier that the block names. Where the block names one, the search
-- finds the proof by `asked_within` and `spot_asked`. Assumes nothing.
use mathlib.Core.Path.{sym, ap, ◌∙◌}
use Rattle.std.specs.Prelude.{Option}
use Rattle.dialog_rules.proofs.PlacedLaws.{not_asked}
use Rattle.dialog_id.specs.Ident.{Ident}
use Rattle.store_entries.specs.Entries.{spot_named, standing_of}
use Rattle.store_requests.proofs.RequestLaws.{named_none}
use Rattle.store_requests.proofs.locate_named.Goals as goal

pub returns-in_default-clause-value : goal.returns-in_default-clause-value
returns-in_default-clause-value c =
    let n = not_asked _ (sym c.in_default.is ∙ c.request_id_in.ensures) in
    c.nowhere.ensures.value ∙ ap (λ (o : Option Ident). standing_of c.args.used (spot_named o c.args.bytes.now c.args.used)) (sym (named_none c.args.block.now n))
