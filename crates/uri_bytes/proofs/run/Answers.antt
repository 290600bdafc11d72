-- `uri_bytes::run` meets its contract: the run of the class's set is that of the class. Assumes nothing.
use mathlib.Core.Path.{ap, ◌∙◌}
use Rattle.text.specs.Text.{span}
use Rattle.uri_bytes.specs.Classes.{in_set}
use Rattle.uri_bytes.specs.declared.ByteSet.{ByteSet}
use Rattle.uri_bytes.proofs.Sets.{run_is}
use Rattle.uri_bytes.proofs.run.Goals as goal

pub returns-clause-value : goal.returns-clause-value
returns-clause-value c =
    let s = c.args.s.now in
    c.run_length.ensures.value ∙ ap (λ (set : ByteSet). span (in_set set) s) c.set_of.ensures ∙ run_is c.args.k s (λ i. (c.type_inv.s i).fits)
