-- `sip_dialog_prack_is_pracked` meets its contract: what is handed over is what `ran_with` leaves. Assumes nothing.
use mathlib.Core.Path.{sym}
use Rattle.limits.specs.Settings.{limits_in}
use Rattle.prack_validator.specs.Validator.{is_pracked, Value}
use Rattle.prack_validator.proofs.SettingLaws.{ran_within}
use Rattle.c_prack_answers.specs.Given.{pracked_after}
use Rattle.c_prack_answers.proofs.ReturnLaws.{pracked_returns, moved, moved_value}
use Rattle.ordered_store.specs.Run.{Left}
use Rattle.sip_dialog.proofs.prack_lists.sip_dialog_prack_is_pracked.Goals as goal

pub returns : goal.returns
returns c =
    let k = c.is_pracked.ensures in
    let a = c.args in
    let q = sym (ran_within a.settings (is_pracked a.id.now a.rseq) a.store.now a.used (sym c.if-not-in_bounds.ensures)) in
    let old = pracked_returns (limits_in a.settings) a.id.now a.rseq a.store.now a.used _ _ _ _ k.value k.bytes_value k.used_value c.give_flag.ensures in
    record { returns = moved q old.0; pracked_after = moved_value (λ (l : Left Value). pracked_after l.answer a.pracked.now) q old.1 }
