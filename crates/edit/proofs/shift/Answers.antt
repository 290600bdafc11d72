-- `edit::shift` meets its contract: bytes that stay where they are. Assumes nothing.
use native.Mathlib.Omega.{arith}
use mathlib.Core.Path.{sym}
use Rattle.edit.proofs.EditLaws.{put_same}
use Rattle.edit.proofs.shift.Goals as goal

pub returns-then-from-to : goal.returns-then-from-to
returns-then-from-to c = rw (sym c.if-from-to.true) (put_same c.args.from c.args.n c.args.bytes.now (omega arith))
