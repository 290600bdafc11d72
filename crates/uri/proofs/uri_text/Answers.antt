-- `uri::uri_text` meets its contract. Assumes nothing.
use native.Mathlib.Omega.{arith}
use Rattle.std.specs.Prelude.{Some}
use Rattle.text.proofs.Runs.{place_or}
use Rattle.uri.proofs.Cuts.{bracket, plain}
use Rattle.uri.specs.Steps.{cut_from}
use mathlib.Core.Path.{refl, sym, ap, ◌∙◌}
use Rattle.uri.proofs.uri_text.Goals as goal

pub returns-in-Some : goal.returns-in-Some
returns-in-Some c = c.in_brackets.ensures ∙ ap cut_from (bracket c.args.value.now _ c.trim_span-whole.ensures.value _ c.text-t.ensures _ c.in-Some.ensures.0 c.in-Some.ensures.1)

pub returns : goal.returns
returns c = ap Some c.trimmed_part.ensures ∙ ap cut_from (sym (plain c.args.value.now _ c.trim_span-whole.ensures.value _ c.text-t.ensures _ refl _ (omega arith) (c.unwrap_or-n.ensures ∙ place_or _ _ _ c.find-2.ensures)))
