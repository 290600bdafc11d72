-- `dialog::read_image` meets its contract: one image, and nothing after it. Assumes nothing.
use mathlib.Core.Path.{sym, ap, ◌∙◌}
use Rattle.std.proofs.result.Match.{err_is}
use Rattle.std.specs.Prelude.{ok_or, Option}
use Rattle.std.specs.Result.{result_ok}
use Rattle.limits.specs.declared.Refusal.TheVariants.{BadStore}
use Rattle.image.specs.declared.RecordAt.{RecordAt}
use Rattle.dialog.proofs.ReadingLaws.{not_one, more_after, just_one}
use Rattle.dialog.proofs.readings.read_image.Goals as goal

pub returns-in_err-r : goal.returns-in_err-r
returns-in_err-r c =
    let e = c.ok_or.ensures.ok_part ∙ ap result_ok c.in_err-r.was in
    err_is c.from_residual.result _ c.from_residual.ensures.1
    ∙ sym c.in_err-r.was
    ∙ c.ok_or.ensures.value
    ∙ ap (λ (o : Option RecordAt). ok_or o BadStore) e
    ∙ not_one c.args.bytes.now (sym c.read_record.ensures ∙ e)

pub returns-then-r-bytes : goal.returns-then-r-bytes
returns-then-r-bytes c = more_after c.args.bytes.now c.in_ok-r.r (sym c.read_record.ensures ∙ c.ok_or.ensures.ok_part ∙ ap result_ok c.in_ok-r.was) c.if-r-bytes.true

pub returns : goal.returns
returns c = just_one c.args.bytes.now c.in_ok-r.r (sym c.read_record.ensures ∙ c.ok_or.ensures.ok_part ∙ ap result_ok c.in_ok-r.was) c.if-r-bytes.false
