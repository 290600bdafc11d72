-- `dialog_changes::read_used` meets its contract: the one record lies at the front of the used bytes. Assumes nothing.
use mathlib.Core.Path.{◌≡◌, sym, ◌∙◌}
use Prim.Native.Nat.{◌≤◌}
use lib.ListN.{length, take}
use Rattle.std.proofs.Common.{rules}
use Rattle.dialog_changes.proofs.ImageUpdateLaws.{place_stands}
use Rattle.dialog_changes.proofs.read_used.Goals as goal

pub returns-clause-stands : goal.returns-clause-stands
returns-clause-stands c =
    let l : c.args.used ≤ length c.args.bytes.now = search rules in
    let t : c.in_ok-held.held.now ≡ take c.args.used c.args.bytes.now = search rules in
    place_stands c.args.bytes.now c.args.used l (sym c.in_ok-record.was ∙ rw t at c.read_image.ensures)
