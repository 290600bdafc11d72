-- `runs::is_among` meets its contract: the key stands neither before `low` nor from `high` on. Assumes nothing.
use Prim.Native.Nat.{ℕ, ◌+◌, ◌-◌, ◌/◌, ◌≤◌, ◌<◌}
use native.Mathlib.Omega.{arith}
use mathlib.Core.Path.{sym, ◌∙◌}
use Rattle.distinct.specs.Keys.{key_at}
use Rattle.distinct.proofs.Ascents.{each_at}
use Rattle.distinct.proofs.Searches.{between_start, between_less, between_greater, between_met, between_end}
use Rattle.distinct.proofs.runs.is_among.Goals as goal

-- the place in the middle
middle : (low high : ℕ) → low < high → (low ≤ low + (high - low) / 2) × (low + (high - low) / 2 < high)
middle low high h = (omega arith, omega arith)

pub loop-low-init : goal.loop-low-init
loop-low-init c = between_start c.args.bytes.now (key_at c.args.bytes.now c.args.q) c.args.run.now

pub compare-requires : goal.compare-requires
compare-requires c =
    let l = c.loop-low in
    (each_at c.args.bytes.now c.args.run.now (l.low + (l.high - l.low) / 2) c.requires.sought.each (omega (arith, (middle l.low l.high c.loop-low-test.true).1, l.invariant.within)), c.requires.at)

pub loop-low-preserved-in-Less : goal.loop-low-preserved-in-Less
loop-low-preserved-in-Less c =
    let l = c.loop-low in
    let a = c.args in
    let m = middle l.low l.high c.loop-low-test.true in
    between_less a.bytes.now (key_at a.bytes.now a.q) a.run.now l.low l.high l.invariant c.requires.sought (l.low + (l.high - l.low) / 2) m.0 m.1 (sym c.compare.ensures ∙ c.in-Less.is)

pub loop-low-preserved : goal.loop-low-preserved
loop-low-preserved c =
    let l = c.loop-low in
    let a = c.args in
    let m = middle l.low l.high c.loop-low-test.true in
    between_greater a.bytes.now (key_at a.bytes.now a.q) a.run.now l.low l.high l.invariant c.requires.sought (l.low + (l.high - l.low) / 2) m.0 m.1 (sym c.compare.ensures ∙ c.in-Greater.is)

pub returns-in-Equal : goal.returns-in-Equal
returns-in-Equal c =
    let l = c.loop-low in
    let a = c.args in
    let m = middle l.low l.high c.loop-low-test.true in
    between_met a.bytes.now (key_at a.bytes.now a.q) a.run.now l.low l.high l.invariant c.requires.sought (l.low + (l.high - l.low) / 2) m.0 m.1 (sym c.compare.ensures ∙ c.in-Equal.is)

pub returns : goal.returns
returns c =
    let l = c.loop-low in
    let a = c.args in
    between_end a.bytes.now (key_at a.bytes.now a.q) a.run.now l.low l.high l.invariant c.loop-low-test.false
