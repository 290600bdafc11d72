-- The tail moved and the piece put before it: `replace_law` says what they make.
use Rattle.std.proofs.Common.{arith, ap, ◌∙◌}
use Rattle.edit.specs.Edit.{put_at}
use Rattle.edit.proofs.EditLaws.{replace_law}
use Rattle.edit.proofs.replace.Goals as goal

pub returns : goal.returns
returns c =
    let a = c.args in
    record {
      value = c.move_tail-n.ensures.value;
      bytes_after = c.put.ensures ∙ ap (put_at a.at a.piece.now) c.move_tail-n.ensures.bytes_after ∙ replace_law a.bytes.now a.piece.now a.used a.at a.old_length (omega arith) (omega arith) (omega arith);
    }
