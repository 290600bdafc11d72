-- `route_set::find_contact` meets its contract: by the look-up. Assumes nothing.
use Prim.Native.Nat.{◌≤◌}
use mathlib.Core.Path.{sym, subst, ◌∙◌}
use lib.ListN.{length}
use Rattle.text.specs.declared.Span.{Span}
use Rattle.std.specs.Prelude.{Option, ℕ}
use Rattle.msg.specs.Table.{end_of}
use Rattle.msg.proofs.TableLaws.{end_of_lem}
use Rattle.route_set.specs.Routes.{contact_name}
use Rattle.route_set.proofs.ElementLaws.{contact_found}
use Rattle.route_set.proofs.routes.find_contact.Goals as goal

pub contact_at-requires : goal.contact_at-requires
contact_at-requires c = subst (λ (f : Option (Span × ℕ)). end_of f ≤ length c.args.block.now) (sym c.find-line.ensures) (end_of_lem contact_name _)

pub returns : goal.returns
returns c = c.contact_at.ensures ∙ contact_found c.args.block.now c.find-line.result c.find-line.ensures
