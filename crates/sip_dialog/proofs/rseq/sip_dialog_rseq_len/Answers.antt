-- `sip_dialog_rseq_len` meets its contract: what is handed over is what `ran` leaves. Assumes nothing.
use mathlib.Core.Path.{ap, ◌∙◌}
use Rattle.limits.specs.Limits.{rust_limits}
use Rattle.rseq_manager.specs.RSeq.{len, ran}
use Rattle.limits.specs.Outcome.{number_in}
use Rattle.c_rseq_answers.proofs.ReturnLaws.{counted_number_lem, counted_given}
use Rattle.sip_dialog.proofs.rseq.sip_dialog_rseq_len.Goals as goal

pub returns : goal.returns
returns c =
    let l = ran rust_limits len c.args.store.now c.args.used in
    let e = c.len.ensures in
    let g = c.give.ensures in
    record {
      returns = record { bytes_are = e.bytes_value; used_is = e.used_value; number_is = g.number_is ∙ (ap number_in e.value ∙ counted_number_lem l.answer) };
      count_after = counted_given l.answer _ _ _ e.value g.left_is;
    }
