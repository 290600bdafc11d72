-- `prack_headers::extract_cseq_number` meets its contract: the block's causes, then what is read, or that nothing is. Assumes nothing.
use borrow.Author.Rules.{rules}
use Rattle.limits.specs.Limits.{rust_limits}
use Rattle.prack_headers.specs.Sequence.{cseq_number}
use Rattle.prack_headers.proofs.ReadingLaws.{stopped_read, number_extracted}
use Rattle.prack_headers.proofs.extract_cseq_number.Goals as goal

pub returns-in_err-check_block : goal.returns-in_err-check_block
returns-in_err-check_block c = rw (stopped_read rust_limits _ (cseq_number c.args.block.now) c.check_block.ensures c.in_err-check_block.was) (search rules)

pub returns-in_default : goal.returns-in_default
returns-in_default c = number_extracted rust_limits _ (cseq_number c.args.block.now) c.check_block.ensures c.in_ok-check_block.was c.cseq_number.ensures c.in_default.is

pub returns : goal.returns
returns c = number_extracted rust_limits _ (cseq_number c.args.block.now) c.check_block.ensures c.in_ok-check_block.was c.cseq_number.ensures c.in-Some.is
