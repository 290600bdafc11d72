-- `search::count_entries` meets its contract: what is asked of the store is asked of the entries after the last one read. Assumes nothing.
use Rattle.std.proofs.Common.{◌+◌, ap, ◌∙◌}
use Rattle.codec.proofs.CodecLaws.{bytes_all}
use Rattle.ordered_store.specs.Layout.{Layout, layout_by}
use Rattle.ordered_store.specs.Steps.{goes_on}
use Rattle.ordered_store.proofs.PlaceLaws.{Got, got}
use Rattle.ordered_store.proofs.CountLaws.{Counting}
use Rattle.ordered_store.proofs.WalkLaws.{given, over_at, broken, first_counted, last_is, unordered, next_counted, counted_all}
use Rattle.ordered_store.proofs.search.count_entries.Given.{Over}
use Rattle.ordered_store.proofs.search.count_entries.Goals as goal
use Rattle.ordered_store.proofs.search.count_entries.Goals.{In_ok-e, in-Some-last+else-not-ascends, in_default}

-- the layout by a context
abbrev by : (g : Over) → g.row.E-Context.Denot → Layout g.E.Entry.Value g.row.E.Denot
by g context = layout_by (g.E.Entry.form context) (g.E.Entry.Good context) g.E.Entry.parts

-- the entry of a turn
entry : (g : Over) (c : In_ok-e g) → Got (by g c.args.context) c.args.bytes.now c.loop-entry.entry-iterator.at c.in_ok-e.e
entry g c =
    let w = given (by g c.args.context) c.args.bytes.now (ap g.E.Entry.form c.loop-entry.invariant.context) c.loop-entry.invariant.same c.in-Some.ensures.steps.0 in
    got (by g c.args.context) (g.met.E.Entry.lawful c.args.context) c.args.bytes.now c.loop-entry.entry-iterator.at (bytes_all c.args.bytes.now (λ i. (c.type_inv.bytes i).fits)) (w.reads ∙ c.in_ok-e.was)

pub returns-in_err-e : goal.returns-in_err-e
returns-in_err-e g c =
    let w = given (by g c.args.context) c.args.bytes.now (ap g.E.Entry.form c.loop-entry.invariant.context) c.loop-entry.invariant.same c.in-Some.ensures.steps.0 in
    c.from_residual.ensures ∙ broken (by g c.args.context) c.args.bytes.now c.loop-entry.entry-iterator.at c.loop-entry.last c.loop-entry.n c.loop-entry.invariant.so_far w.more (w.reads ∙ c.in_err-e.was)

pub ascends-requires-clause-within_2 : goal.ascends-requires-clause-within_2
ascends-requires-clause-within_2 g c = (entry g (goal.at.ascends-requires-clause-within_2 g c).In_ok-e).is.inside

pub returns-then-not-ascends : goal.returns-then-not-ascends
returns-then-not-ascends g c =
    let b = last_is (by g c.args.context) c.args.bytes.now c.loop-entry.entry-iterator.at c.loop-entry.last c.loop-entry.n c.loop-entry.invariant.so_far c.in-Some-last.is in
    unordered (by g c.args.context) c.args.bytes.now b (given (by g c.args.context) c.args.bytes.now (ap g.E.Entry.form c.loop-entry.invariant.context) c.loop-entry.invariant.same c.in-Some.ensures.steps.0).more (entry g (goal.at.returns-then-not-ascends g c).In_ok-e) c.ascends.ensures c.if-not-ascends.true

pub loop-entry-preserved : goal.loop-entry-preserved
loop-entry-preserved g c =
    let w = given (by g c.args.context) c.args.bytes.now (ap g.E.Entry.form c.loop-entry.invariant.context) c.loop-entry.invariant.same c.in-Some.ensures.steps.0 in
    let t = entry g (goal.at.loop-entry-preserved g c).In_ok-e in
    let s = c.args.bytes.now in
    let l = c.loop-entry in
    let n : Counting (by g c.args.context) s c.in_ok-e.e (l.n + 1) = elim c.match-last.branch [
      | in-Some-last+else-not-ascends k ↦ next_counted (by g c.args.context) s (last_is (by g c.args.context) s l.entry-iterator.at l.last l.n l.invariant.so_far k.in-Some-last.is) w.more t k.ascends.ensures k.if-not-ascends.false
      | in_default k ↦ first_counted (by g c.args.context) s l.entry-iterator.at l.last l.n l.invariant.so_far k.in_default.is w.more t
    ] in
    record { context = c.in-Some.ensures.steps.1 ∙ c.loop-entry.invariant.context; same = w.same; so_far = (n, w.ends ∙ ap (goes_on g.E.Entry.parts s) c.in_ok-e.was) }

pub returns : goal.returns
returns g c =
    counted_all (by g c.args.context) c.args.bytes.now c.loop-entry.entry-iterator.at c.loop-entry.last c.loop-entry.n c.loop-entry.invariant.so_far (over_at (by g c.args.context) c.args.bytes.now c.loop-entry.invariant.same c.in-None.ensures.steps.0)
