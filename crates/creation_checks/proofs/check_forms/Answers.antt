-- `creation_checks::check_forms` meets its contract: the request, then the response. Assumes nothing.
use borrow.Author.Rules.{rules}
use mathlib.Core.Path.{sym, ◌∙◌}
use Rattle.creation_checks.specs.Given.{creation_of}
use Rattle.creation_checks.proofs.CheckLaws.{request_stopped, request_passed}
use Rattle.creation_checks.proofs.check_forms.Goals as goal

pub returns-in_err-check_block : goal.returns-in_err-check_block
returns-in_err-check_block c = rw (← request_stopped (creation_of c.args.c) c.requires.0 (sym c.check_block.ensures ∙ c.in_err-check_block.was)) (search rules)

pub returns : goal.returns
returns c = request_passed (creation_of c.args.c) c.requires.0 c.requires.1 (sym c.check_block.ensures ∙ c.in_ok-check_block.was) c.check_block-2.ensures
