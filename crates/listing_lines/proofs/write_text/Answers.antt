-- `listing_lines::write_text` meets its contract: the text, then the byte after it. Assumes nothing.
use native.Mathlib.Omega.{arith}
use mathlib.Core.Path.{refl}
use mathlib.Core.List.{[], ◌∷◌}
use Rattle.edit.proofs.EditLaws.{wrote_then}
use Rattle.listing_lines.proofs.write_text.Goals as goal

pub returns-clause-out_after : goal.returns-clause-out_after
returns-clause-out_after c =
    let a = c.args in
    (wrote_then a.at a.piece.now (a.after ∷ []) a.out.now (omega arith) (refl, c.put.ensures) (refl, c.put-2.ensures)).1
