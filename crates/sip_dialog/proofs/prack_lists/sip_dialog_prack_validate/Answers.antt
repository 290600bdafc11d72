-- `sip_dialog_prack_validate` meets its contract: what is handed over is what `ran_with` leaves. Assumes nothing.
use mathlib.Core.Path.{sym}
use Rattle.limits.specs.Settings.{limits_in}
use Rattle.prack_validator.specs.Validator.{validate, Value}
use Rattle.prack_validator.specs.Answers.{rack_after}
use Rattle.prack_validator.proofs.SettingLaws.{ran_within}
use Rattle.c_prack_answers.specs.Given.{rack_of}
use Rattle.c_prack_answers.proofs.ReturnLaws.{validated_returns, moved_value}
use Rattle.ordered_store.specs.Run.{Left}
use Rattle.sip_dialog.proofs.prack_lists.sip_dialog_prack_validate.Goals as goal

pub returns-clause-method_after : goal.returns-clause-method_after
returns-clause-method_after c =
    let k = c.validate.ensures in
    let a = c.args in
    let g = validated_returns (limits_in a.settings) a.id.now a.block.now a.time a.store.now a.used.now _ _ (rack_of a.rseq.now a.cseq.now a.method.now) _ _ k.value (k.bytes_after) c.give_validated.ensures in
    moved_value (λ (l : Left Value). rack_after l.answer (rack_of a.rseq.now a.cseq.now a.method.now)) (sym (ran_within a.settings (validate a.id.now a.block.now a.time) a.store.now a.used.now (sym c.if-not-in_bounds.ensures))) g.1
