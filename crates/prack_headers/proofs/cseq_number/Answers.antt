-- `prack_headers::cseq_number` meets its contract: by the look-up. Assumes nothing.
use Prim.Native.Nat.{◌≤◌}
use mathlib.Core.Path.{sym, subst, ◌∙◌}
use lib.ListN.{length}
use Rattle.text.specs.declared.Span.{Span}
use Rattle.std.specs.Prelude.{Option, ℕ}
use Rattle.msg.specs.Table.{end_of}
use Rattle.msg.proofs.TableLaws.{end_of_lem}
use Rattle.prack_headers.specs.Sequence.{cseq_name}
use Rattle.prack_headers.proofs.ReadingLaws.{cseq_found}
use Rattle.prack_headers.proofs.cseq_number.Goals as goal

pub cseq_at-requires : goal.cseq_at-requires
cseq_at-requires c = subst (λ (f : Option (Span × ℕ)). end_of f ≤ length c.args.block.now) (sym c.find-line.ensures) (end_of_lem cseq_name _)

pub returns : goal.returns
returns c = c.cseq_at.ensures ∙ cseq_found c.args.block.now c.find-line.result c.find-line.ensures
