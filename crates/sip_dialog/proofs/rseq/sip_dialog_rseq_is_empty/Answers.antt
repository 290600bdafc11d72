-- `sip_dialog_rseq_is_empty` meets its contract: what is handed over is what `ran` leaves. Assumes nothing.
use mathlib.Core.Path.{ap, ◌∙◌}
use Rattle.limits.specs.Limits.{rust_limits}
use Rattle.rseq_manager.specs.RSeq.{len, ran}
use Rattle.limits.specs.Outcome.{number_in}
use Rattle.c_rseq_answers.proofs.ReturnLaws.{empty_number, empty_given}
use Rattle.sip_dialog.proofs.rseq.sip_dialog_rseq_is_empty.Goals as goal

pub returns : goal.returns
returns c =
    let l = ran rust_limits len c.args.store.now c.args.used in
    let e = c.is_empty.ensures in
    let g = c.give_flag.ensures in
    record {
      returns = record { bytes_are = e.bytes_value; used_is = e.used_value; number_is = g.number_is ∙ (ap number_in e.value ∙ empty_number l.answer) };
      empty_after = empty_given l.answer _ _ _ e.value g.left_is;
    }
