-- `prack_headers::extract_rseq` meets its contract: the block's causes, then what is read, or that nothing is. Assumes nothing.
use borrow.Author.Rules.{rules}
use Rattle.limits.specs.Limits.{rust_limits}
use Rattle.prack_headers.specs.Sequence.{rseq_number}
use Rattle.prack_headers.proofs.ReadingLaws.{stopped_read, number_extracted}
use Rattle.prack_headers.proofs.extract_rseq.Goals as goal

pub returns-in_err-check_block : goal.returns-in_err-check_block
returns-in_err-check_block c = rw (stopped_read rust_limits _ (rseq_number c.args.block.now) c.check_block.ensures c.in_err-check_block.was) (search rules)

pub returns-in_default : goal.returns-in_default
returns-in_default c = number_extracted rust_limits _ (rseq_number c.args.block.now) c.check_block.ensures c.in_ok-check_block.was c.rseq.ensures c.in_default.is

pub returns : goal.returns
returns c = number_extracted rust_limits _ (rseq_number c.args.block.now) c.check_block.ensures c.in_ok-check_block.was c.rseq.ensures c.in-Some.is
