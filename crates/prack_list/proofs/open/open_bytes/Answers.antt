-- `open::open_bytes` meets its contract: at each turn the bytes written and those of the entries left are all. Assumes nothing.
use mathlib.Core.Path.{ap, refl, ◌∙◌}
use Rattle.std.proofs.lemmas.List.{take_rest}
use Rattle.prack_body.specs.Lists.{entries_of}
use Rattle.prack_list.proofs.OpenLaws.{entry_count, opening, open_done, writing, room_there, wrote_one, passed_one, all_written}
use native.Mathlib.Omega.{arith}
use Rattle.prack_list.proofs.open.open_bytes.Goals as goal

pub returns-then-body-lt-ENTRIES_AT : goal.returns-then-body-lt-ENTRIES_AT
returns-then-body-lt-ENTRIES_AT c = λ L t h. open_done (opening (entries_of t.list) c.args.out.now) (omega (arith, entry_count h, c.if-body-lt-ENTRIES_AT.true))

pub loop-entry-init : goal.loop-entry-init
loop-entry-init c =
    let e = c.into_iter-entry-iterator.ensures.into_iter_gives in
    let f = c.chunks_exact-entry-items.ensures in
    record { size = ap (λ i. i.size) e ∙ f.size; written = writing c.args.body.now c.args.out.now (ap (λ i. i.rest.now) e ∙ f.rest ∙ take_rest c.args.body.now 10) }

pub put_open-to-requires : goal.put_open-to-requires
put_open-to-requires c =
    let r = c.requires in
    let i = c.loop-entry.invariant in
    let e = c.in-Some.ensures.steps.1 in
    (omega (arith, e.1 ∙ i.size), omega (arith, room_there i.written _ _ e.0 (e.1 ∙ i.size) r.0 r.1 r.2.0 c.if-entry-eq0.true, r.2.1, i.written.long))

pub loop-entry-preserved-then-entry-eq0 : goal.loop-entry-preserved-then-entry-eq0
loop-entry-preserved-then-entry-eq0 c =
    let i = c.loop-entry.invariant in
    let e = c.in-Some.ensures.steps in
    record { size = e.0 ∙ i.size; written = wrote_one i.written _ _ e.1.0 (e.1.1 ∙ i.size) c.if-entry-eq0.true c.put_open-to.ensures.value c.put_open-to.auto.out c.put_open-to.ensures.out_after }

pub loop-entry-preserved : goal.loop-entry-preserved
loop-entry-preserved c =
    let i = c.loop-entry.invariant in
    let e = c.in-Some.ensures.steps in
    record { size = e.0 ∙ i.size; written = passed_one i.written _ _ e.1.0 (e.1.1 ∙ i.size) c.if-entry-eq0.false refl refl }

pub returns : goal.returns
returns c = all_written c.if-body-lt-ENTRIES_AT.false c.loop-entry.invariant.written (omega (arith, c.in-None.ensures.steps.1.0))
