-- `dialog_id::read_id` meets its contract: by the three look-ups. Assumes nothing.
use mathlib.Core.Path.{◌∙◌}
use Rattle.dialog_id.specs.DialogId.{call_id_name}
use Rattle.msg.proofs.TableLaws.{found_end}
use Rattle.dialog_id.proofs.IdLaws.{id_found}
use Rattle.dialog_id.proofs.read_id.Goals as goal

pub id_at-requires : goal.id_at-requires
id_at-requires c = (found_end call_id_name _ _ c.find-call_id.ensures, found_end _ _ _ c.find-local.ensures, found_end _ _ _ c.find-remote.ensures)

pub returns : goal.returns
returns c = c.id_at.ensures ∙ id_found c.args.local_name.now c.args.remote_name.now c.args.block.now _ _ _ c.find-call_id.ensures c.find-local.ensures c.find-remote.ensures
