-- `open::open_size` meets its contract: at each turn the size is that of the entries left beside those counted. Assumes nothing.
use mathlib.Core.Path.{ap, sym, ◌∙◌}
use lib.ListN.{length}
use Rattle.prack_body.specs.Lists.{entries_of}
use Rattle.prack_list.proofs.OpenLaws.{entry_count, open_end, counted_one, left_out, all_counted}
use native.Mathlib.Omega.{arith}
use Rattle.prack_list.proofs.open.open_size.Goals as goal

pub returns-then-body-lt-ENTRIES_AT : goal.returns-then-body-lt-ENTRIES_AT
returns-then-body-lt-ENTRIES_AT c = λ L t h. sym (ap length (open_end 0 (entries_of t.list) (omega (arith, entry_count h, c.if-body-lt-ENTRIES_AT.true))))

pub loop-entry-preserved-then-entry-eq0 : goal.loop-entry-preserved-then-entry-eq0
loop-entry-preserved-then-entry-eq0 c =
    let i = c.loop-entry.invariant in
    let e = c.in-Some.ensures.steps in
    record { size = e.0 ∙ i.size; counted = counted_one i.counted _ _ e.1.0 (e.1.1 ∙ i.size) c.if-entry-eq0.true }

pub loop-entry-preserved : goal.loop-entry-preserved
loop-entry-preserved c =
    let i = c.loop-entry.invariant in
    let e = c.in-Some.ensures.steps in
    record { size = e.0 ∙ i.size; counted = left_out i.counted _ _ e.1.0 (e.1.1 ∙ i.size) c.if-entry-eq0.false }

pub returns : goal.returns
returns c = all_counted c.if-body-lt-ENTRIES_AT.false c.loop-entry.invariant.counted (omega (arith, c.in-None.ensures.steps.1.0))
