-- `route_set::read_contact` meets its contract: the causes in their order, then the Contact's URI. Assumes nothing.
use mathlib.Core.Path.{◌≡◌, sym, ap, ◌∙◌}
use Rattle.std.proofs.lemmas.Result.{err_from_is_err_and}
use Rattle.std.specs.Prelude.{Ok}
use Rattle.limits.proofs.Laws.{passed, stopped}
use Rattle.limits.specs.Limits.{rust_limits}
use Rattle.text.specs.Answers.{lookup_of}
use Rattle.msg.specs.Block.{block_cause}
use Rattle.route_set.specs.Routes.{contact, contact_of}
use Rattle.route_set.proofs.ElementLaws.{contact_answer}
use Rattle.route_set.proofs.routes.read_contact.Goals as goal
use Rattle.route_set.proofs.routes.read_contact.Goals.{In_ok-check_block}

-- past the check, the Contact's URI
clear : (c : In_ok-check_block) → contact rust_limits c.args.block.now ≡ Ok (contact_of c.args.block.now)
unfolding contact
clear c = rw (passed (block_cause rust_limits c.args.block.now) (sym c.check_block.ensures ∙ c.in_ok-check_block.was))

pub returns-in_err-check_block : goal.returns-in_err-check_block
unfolding contact
returns-in_err-check_block c =
    let p = err_from_is_err_and c.from_residual.result c.from_residual.ensures.1 in
    rw (p.1, p.2, stopped (block_cause rust_limits c.args.block.now) (sym c.check_block.ensures ∙ c.in_err-check_block.was))

pub returns : goal.returns
returns c = ap Ok c.find_contact.ensures ∙ contact_answer (contact_of c.args.block.now) ∙ ap lookup_of (sym (clear (goal.at.returns c).In_ok-check_block))
