-- `uri_bytes::all_of` meets its contract: the run of bytes of the class is the whole text. Assumes nothing.
use Prim.Native.Nat.{ℕ}
use mathlib.Core.Path.{ap, ◌∙◌}
use lib.ListN.{length}
use lib.Dec.{eqb}
use Rattle.text.proofs.Runs.{all_span}
use Rattle.uri_bytes.proofs.all_of.Goals as goal

pub returns : goal.returns
returns c =
    let s = c.args.s.now in
    ap (λ (n : ℕ). eqb n (length s)) c.run-n.ensures.value ∙ all_span _ s
