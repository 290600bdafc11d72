-- `worst_minute::entries::last_time` meets its contract: the entries before the one at hand are read, and the last of them has the time. Assumes nothing.
use mathlib.Core.Path.{◌≡◌, ap, sym, ◌∙◌}
use mathlib.Core.Bool.{true}
use native.Mathlib.Omega.{arith}
use Rattle.std.proofs.Common.{rules}
use lib.ListN.{length}
use Rattle.worst_minute.specs.Layout.{is_sized}
use Rattle.worst_minute.specs.Answers.{last_of}
use Rattle.worst_minute.proofs.ReadLaws.{not_sized, one_falls, one_read, all_read}
use Rattle.worst_minute.proofs.entries.last_time.Goals as goal
use Rattle.worst_minute.proofs.entries.last_time.Goals.{Else-not-is_sized}

-- the size is a run's
fits : (c : Else-not-is_sized) → is_sized (length c.args.run.now) ≡ true
fits c = search rules

pub returns-then-not-is_sized : goal.returns-then-not-is_sized
returns-then-not-is_sized c = ap last_of (sym (not_sized c.args.run.now (search rules)))

pub returns-then-t-last : goal.returns-then-t-last
returns-then-t-last c =
    let i = c.loop-entry.invariant in
    let e = c.in-Some.ensures.steps.1 in
    ap last_of (sym (one_falls c.args.run.now (fits (goal.at.returns-then-t-last c).Else-not-is_sized) i.read _ _ e.0 (e.1 ∙ i.size) c.time_at-t.ensures c.if-t-last.true))

pub loop-entry-preserved : goal.loop-entry-preserved
loop-entry-preserved c =
    let i = c.loop-entry.invariant in
    let e = c.in-Some.ensures.steps in
    record {
      size = e.0 ∙ i.size;
      read = one_read c.args.run.now (fits (goal.at.loop-entry-preserved c).Else-not-is_sized) i.read _ _ e.1.0 (e.1.1 ∙ i.size) c.time_at-t.ensures c.if-t-last.false;
    }

pub returns : goal.returns
returns c = all_read c.args.run.now (fits (goal.at.returns c).Else-not-is_sized) c.loop-entry.invariant.read (omega (arith, c.in-None.ensures.steps.1.0))
