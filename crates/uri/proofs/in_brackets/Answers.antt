-- `uri::in_brackets` meets its contract. Assumes nothing.
use native.Mathlib.Omega.{arith}
use Rattle.std.specs.Prelude.{Some}
use Rattle.uri.proofs.Cuts.{unclosed, closed}
use Rattle.uri.specs.Steps.{cut_from}
use mathlib.Core.Path.{refl, sym, ap, ◌∙◌}
use Rattle.uri.proofs.in_brackets.Goals as goal

pub returns-in_err-n : goal.returns-in_err-n
returns-in_err-n c = c.from_residual.ensures ∙ ap cut_from (sym (unclosed c.args.part.place c.args.part.text.now _ refl (omega (arith, c.in_err-n.ensures))))

pub returns : goal.returns
returns c = ap Some c.trimmed_part.ensures ∙ ap cut_from (sym (closed c.args.part.place c.args.part.text.now _ c.in_ok-n.ensures.0 c.in_ok-n.ensures.1))
