-- `dialog_id::request_id_in` meets its contract: the table's three lines are the look-ups'. Assumes nothing.
use mathlib.Core.Path.{ap, ◌∙◌}
use Rattle.dialog_id.specs.DialogId.{call_id_name, from_name, to_name}
use Rattle.msg.proofs.TableLaws.{found_end}
use Rattle.dialog_id.proofs.IdLaws.{id_found}
use Rattle.msg.specs.declared.table.HeaderTable.{HeaderTable}
use Rattle.dialog_id.proofs.request_id_in.Goals as goal

pub id_at-requires : goal.id_at-requires
id_at-requires c = (found_end call_id_name _ _ (ap (λ (x : HeaderTable). x.call_id) c.requires), found_end from_name _ _ (ap (λ (x : HeaderTable). x.from) c.requires), found_end to_name _ _ (ap (λ (x : HeaderTable). x.to) c.requires))

pub returns : goal.returns
returns c = c.id_at.ensures ∙ id_found from_name to_name c.args.block.now _ _ _ (ap (λ (x : HeaderTable). x.call_id) c.requires) (ap (λ (x : HeaderTable). x.from) c.requires) (ap (λ (x : HeaderTable). x.to) c.requires)
