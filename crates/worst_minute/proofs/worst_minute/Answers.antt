-- `worst_minute::worst_minute` meets its contract. Assumes nothing.
use mathlib.Core.Path.{◌≡◌, ap, sym, ◌∙◌}
use mathlib.Core.Bool.{false}
use Prim.Native.Nat.{◌≤◌}
use lib.ListN.{length, take}
use lib.Seq.{length-take-le}
use Rattle.std.proofs.Common.{rules}
use Rattle.std.proofs.result.Match.{err_is}
use Rattle.std.specs.Prelude.{Err, Ok}
use Rattle.limits.specs.Outcome.{and_then, or_refuse}
use Rattle.limits.specs.declared.Refusal.TheVariants.{BadStore}
use Rattle.worst_minute.specs.Minute.{worst}
use Rattle.worst_minute.specs.Layout.{is_sized, decode_run}
use Rattle.worst_minute.specs.Answers.{worst_answer}
use Rattle.worst_minute.proofs.ReadLaws.{not_sized}
use Rattle.worst_minute.proofs.CallLaws.{lent_none, lent_some, some_by, worst_over, worst_within, worst_empty}
use Rattle.worst_minute.proofs.worst_minute.Goals as goal
use Rattle.worst_minute.proofs.worst_minute.Goals.{In_ok-run}

-- the used bytes are those that were lent first
lent : (c : In_ok-run) → (c.args.used ≤ length c.args.bytes.now) × (c.in_ok-run.run'.now ≡ take c.args.used c.args.bytes.now)
lent c = lent_some c.args.bytes.now c.args.used _ _ c.get.ensures.lookup c.ok_or.ensures.value c.in_ok-run.was

pub returns-in_err-run : goal.returns-in_err-run
returns-in_err-run c =
    let a = c.args in
    let r = lent_none a.bytes.now a.used _ c.get.ensures.lookup c.ok_or.ensures.value c.in_err-run.was in
    err_is c.from_residual.result _ c.from_residual.ensures.1 ∙ ap Err r.1 ∙ ap worst_answer (sym (worst_over a.bytes.now a.used r.0))

pub returns-then-not-is_sized : goal.returns-then-not-is_sized
returns-then-not-is_sized c =
    let a = c.args in
    let h = (lent (goal.at.returns-then-not-is_sized c).In_ok-run).0 in
    let n : is_sized a.used ≡ false = search rules in
    ap worst_answer (sym (worst_within a.bytes.now a.used h ∙ ap (λ o. and_then (or_refuse BadStore o) (λ vs. Ok (worst vs))) (not_sized (take a.used a.bytes.now) (ap is_sized (length-take-le a.used a.bytes.now h) ∙ n))))

pub returns-then-used-eq0 : goal.returns-then-used-eq0
returns-then-used-eq0 c =
    let a = c.args in
    let h = (lent (goal.at.returns-then-used-eq0 c).In_ok-run).0 in
    ap worst_answer (sym (worst_within a.bytes.now a.used h ∙ ap (λ n. and_then (or_refuse BadStore (decode_run (take n a.bytes.now))) (λ vs. Ok (worst vs))) c.if-used-eq0.true ∙ worst_empty a.bytes.now))

pub returns : goal.returns
returns c =
    let a = c.args in
    let l = lent (goal.at.returns c).In_ok-run in
    some_by c.count.result c.map.result c.map.ensures.cases (λ m y q. search rules)
    ∙ c.count.ensures
    ∙ ap (λ s. worst_answer (and_then (or_refuse BadStore (decode_run s)) (λ vs. Ok (worst vs)))) l.1
    ∙ ap worst_answer (sym (worst_within a.bytes.now a.used l.0))
