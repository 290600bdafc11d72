-- `text::all_value` meets its contract: the run of allowed bytes is the whole text. Assumes nothing.
use Prim.Native.Nat.{ℕ}
use mathlib.Core.Path.{ap, ◌∙◌}
use lib.ListN.{length}
use lib.Dec.{eqb}
use Rattle.text.specs.Text.{is_value}
use Rattle.text.proofs.Runs.{all_span}
use Rattle.text.proofs.all_value.Goals as goal

pub returns : goal.returns
returns c =
    let s = c.args.s.now in
    ap (λ (n : ℕ). eqb n (length s)) c.value_length-n.ensures.value ∙ all_span is_value s
