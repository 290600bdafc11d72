use Prim.Native.Nat.{◌≤◌}
use mathlib.Core.Path.{◌≡◌}
use lib.ListN.{length, drop}
use Rattle.msg.specs.Block.{lines_after, is_block, lines_of}
use Rattle.msg.specs.Lines.{lines_ahead}
use Rattle.msg.specs.Table.{table_of}
use Rattle.msg.proofs.LookupLaws.{lines_left}
use Rattle.msg.proofs.TableLaws.{table_in, table_after}
use Rattle.msg.proofs.table.read_headers.Given as goal

abbrev pub invariant-loop-line : goal.invariant-loop-line
invariant-loop-line l =
    (l.end ≤ length l.block)
    × (lines_left l.block l.end ≡ lines_ahead l.line-iterator)
    × (is_block l.block ≡ lines_after 0 (drop l.end l.block))
    × (length l.lines ≡ 8)
    × (table_of (lines_of l.block) ≡ table_after (table_in l.lines) (lines_ahead l.line-iterator))
