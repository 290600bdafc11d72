-- `dialog_id::read_checked` meets its contract: the causes in their order, then the identifier. Assumes nothing.
use mathlib.Core.Path.{sym, ap, ◌∙◌}
use Rattle.std.proofs.lemmas.Result.{err_from_is_err_and}
use Rattle.std.specs.Prelude.{ok_or, Option}
use Rattle.limits.proofs.Laws.{passed, stopped}
use Rattle.limits.specs.Limits.{rust_limits}
use Rattle.limits.specs.declared.Refusal.TheVariants.{MissingHeader}
use Rattle.msg.specs.Block.{block_cause}
use Rattle.dialog_id.specs.DialogId.{identifier_of, read_identifier, id_answer}
use Rattle.dialog_id.specs.declared.DialogId.{DialogId}
use Rattle.dialog_id.proofs.IdLaws.{id_clear, id_required}
use Rattle.dialog_id.proofs.read_checked.Goals as goal

pub returns-in_err-check_block : goal.returns-in_err-check_block
unfolding read_identifier
returns-in_err-check_block c =
    let p = err_from_is_err_and c.from_residual.result c.from_residual.ensures.1 in
    rw (p.1, p.2, stopped (block_cause rust_limits c.args.block.now) (sym c.check_block.ensures ∙ c.in_err-check_block.was))

pub returns : goal.returns
returns c =
    let a = c.args in
    c.ok_or.ensures.value
    ∙ ap (λ (o : Option DialogId). ok_or o MissingHeader) c.read_id.ensures
    ∙ id_required (identifier_of a.local_name.now a.remote_name.now a.block.now)
    ∙ ap id_answer (sym (id_clear rust_limits a.local_name.now a.remote_name.now a.block.now (passed _ (sym c.check_block.ensures ∙ c.in_ok-check_block.was))))
