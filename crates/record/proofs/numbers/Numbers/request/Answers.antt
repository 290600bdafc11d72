-- `record::Numbers::request` meets its contract: 9, then by the method. Assumes nothing.
use borrow.Author.Tests.{eq-eqb, ne_eqb}
use Rattle.record.specs.Rules.{request_step}
use Rattle.record.proofs.numbers.Numbers.request.Goals as goal

pub returns-then-cseq-eq0 : goal.returns-then-cseq-eq0
unfolding request_step
returns-then-cseq-eq0 c = rw (eq-eqb _ _ c.if-cseq-eq0.true)

pub returns-in-Ack : goal.returns-in-Ack
unfolding request_step
returns-in-Ack c = rw (ne_eqb _ _ c.if-cseq-eq0.false, c.in-Ack.is) c.acknowledge.ensures

pub returns-in-Other : goal.returns-in-Other
unfolding request_step
returns-in-Other c = rw (ne_eqb _ _ c.if-cseq-eq0.false, c.in-Other.is) c.advance.ensures
