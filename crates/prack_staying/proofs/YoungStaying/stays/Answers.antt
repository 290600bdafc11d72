-- The test of a cleanup meets its contract. Assumes nothing.
use mathlib.Core.Path.{◌∙◌}
use Rattle.limits.specs.Settings.{limits_in}
use Rattle.prack_body.proofs.BodyLaws.{flag_at, time_at_lem}
use Rattle.prack_staying.proofs.TestLaws.{young}
use Rattle.prack_staying.proofs.YoungStaying.stays.Goals as goal

pub returns-then-waits : goal.returns-then-waits
returns-then-waits c = let s = c.args.entry.now in λ p rest f e.
    rw (c.elapsed.ensures, time_at_lem s 0 p rest e f c.read_eight-since.ensures) (young (limits_in c.args.self.settings) c.args.self.time p (λ z. c.if-waits.true (flag_at s 0 p rest e ∙ z)))
