-- `worst_minute::entries::write_entry` meets its contract. Assumes nothing.
use native.Mathlib.Omega.{arith}
use mathlib.Core.Path.{ap, sym, ◌∙◌}
use mathlib.Core.List.{[], ◌∷◌, ◌++◌}
use Rattle.edit.specs.Edit.{put_at}
use Rattle.edit.proofs.EditLaws.{wrote_then}
use Rattle.codec.specs.Codec.{eight}
use Rattle.worst_minute.proofs.NumberLaws.{eight_written}
use Rattle.worst_minute.proofs.entries.write_entry.Goals as goal

pub returns : goal.returns
returns c =
    let a = c.args in
    let time = c.write_eight-end.ensures in
    let number = c.write_byte.ensures in
    (wrote_then a.at (eight.write a.time) (a.number ∷ []) a.bytes.now (omega arith) (time.value, time.out_after) (number.value, number.out_after)).1
    ∙ ap (λ s. put_at a.at (s ++ (a.number ∷ [])) a.bytes.now) (sym (eight_written a.time (omega arith)))
