-- `headers::read_expires` meets its contract: the first part, then the others. Assumes nothing.
use mathlib.Core.Path.{refl, sym, ap, ◌∙◌}
use lib.ListN.{length}
use lib.Seq.{take_all}
use Rattle.text.specs.Number.{read_digits}
use Rattle.text.specs.Text.{trimmed}
use Rattle.headers.specs.SessionExpires.{expires_from}
use Rattle.headers.proofs.ExpiresLaws.{only_part, more_parts, no_digits, with_digits, no_refresher}
use native.Mathlib.Omega.{arith}
use Rattle.headers.proofs.session_timer.read_expires.Goals as goal

pub returns-in_default-read_seconds : goal.returns-in_default-read_seconds
returns-in_default-read_seconds c =
    let v = c.args.value.now in
    ap expires_from (sym (no_digits v (length v) _ c.in_default.ensures (c.trim.ensures ∙ ap trimmed (sym (take_all (length v) v (omega arith)))) (omega arith) (sym c.read_seconds.ensures ∙ c.in_default-read_seconds.is)))

pub returns-in_default : goal.returns-in_default
returns-in_default c =
    let v = c.args.value.now in
    with_digits (read_digits 32 c.trim.result.now) _ _ _ (sym c.read_seconds.ensures ∙ c.in-Some-read_seconds.is) no_refresher
    ∙ ap expires_from (sym (only_part v (length v) _ c.in_default.ensures (c.trim.ensures ∙ ap trimmed (sym (take_all (length v) v (omega arith)))) refl))

pub returns-in_default-read_seconds-2 : goal.returns-in_default-read_seconds-2
returns-in_default-read_seconds-2 c =
    ap expires_from (sym (no_digits c.args.value.now _ _ c.in-Some.ensures.0 c.trim-2.ensures (omega (arith, c.in-Some.ensures.1)) (sym c.read_seconds-2.ensures ∙ c.in_default-read_seconds-2.is)))

pub returns : goal.returns
returns c =
    with_digits (read_digits 32 c.trim-2.result.now) _ _ _ (sym c.read_seconds-2.ensures ∙ c.in-Some-read_seconds-2.is) c.find_refresher.ensures
    ∙ ap expires_from (sym (more_parts c.args.value.now _ _ c.in-Some.ensures.0 c.trim-2.ensures c.in-Some.ensures.1))
