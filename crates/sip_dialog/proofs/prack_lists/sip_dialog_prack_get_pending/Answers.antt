-- `sip_dialog_prack_get_pending` meets its contract: what is handed over is what `ran_with` leaves. Assumes nothing.
use mathlib.Core.Path.{sym}
use lib.ListN.{length}
use Rattle.limits.specs.Settings.{limits_in}
use Rattle.prack_validator.specs.Validator.{get_pending, Value}
use Rattle.prack_validator.specs.Answers.{length_after}
use Rattle.prack_validator.proofs.SettingLaws.{ran_within}
use Rattle.c_prack_answers.proofs.ReturnLaws.{listed_returns, moved_value}
use Rattle.ordered_store.specs.Run.{Left}
use Rattle.sip_dialog.proofs.prack_lists.sip_dialog_prack_get_pending.Goals as goal

pub returns-clause-written_after : goal.returns-clause-written_after
returns-clause-written_after c =
    let k = c.get_pending.ensures in
    let a = c.args in
    let g = listed_returns (limits_in a.settings) a.id.now a.time (length a.out.now) a.store.now a.used.now _ _ _ _ _ k.value k.bytes_after k.used_value c.give_with_used.ensures in
    moved_value (λ (l : Left Value). length_after l.answer a.written.now) (sym (ran_within a.settings (get_pending a.id.now a.time (length a.out.now)) a.store.now a.used.now (sym c.if-not-in_bounds.ensures))) g.1
