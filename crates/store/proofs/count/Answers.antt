-- `store::count` meets its contract: 3, then how many records were read. Assumes nothing.
use Rattle.std.proofs.Common.{◌≡◌, ◌≤◌, ◌<◌, Err, arith, rules, length, take, ap, ◌∙◌}
use Rattle.std.proofs.lemmas.Grind.{common_steps}
use Rattle.limits.specs.declared.Refusal.TheVariants.{BadStore}
use Rattle.record.specs.Store.{decode_all}
use Rattle.store.specs.Reading.{store_from}
use Rattle.store.proofs.CountLaws.{over_used, as_read}
use Rattle.store.proofs.count.Goals as goal

pub returns-in_err-held : goal.returns-in_err-held
returns-in_err-held c =
    let h : length c.args.bytes.now < c.args.used = grind (arith, common_steps) in
    let e : c.from_residual.result ≡ Err BadStore = grind (arith, common_steps) in
    e ∙ over_used c.args.bytes.now c.args.used h

pub returns : goal.returns
returns c =
    let h : c.args.used ≤ length c.args.bytes.now = search rules in
    let k : c.in_ok-held.held.now ≡ take c.args.used c.args.bytes.now = search rules in
    c.ok_or-2.ensures.value ∙ as_read c.args.bytes.now c.args.used h c.read_store.result (c.read_store.ensures ∙ ap (λ s. store_from (decode_all s)) k)
