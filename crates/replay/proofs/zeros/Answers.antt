-- The length is by a lemma: nothing counts the zeros.
use Rattle.std.proofs.Common.{ℕ, sym}
use Rattle.std.proofs.lemmas.List.{length-replicate}
use Rattle.replay.proofs.zeros.Goals as goal

pub returns : goal.returns
returns c = sym (length-replicate {A = ℕ} 786432 0)
