-- `store::read_records` meets its contract: so many records are read. Assumes nothing.
use Prim.Native.Nat.{◌<◌}
use native.Mathlib.Omega.{arith}
use mathlib.Core.Path.{◌≡◌, sym, ap, ◌∙◌}
use lib.ListN.{length}
use Rattle.std.specs.Prelude.{None}
use Rattle.codec.proofs.CodecLaws.{bytes_all}
use Rattle.image.proofs.AnswerLaws.{record_got, record_not}
use Rattle.store.specs.Reading.{store_from, whole_records}
use Rattle.store.proofs.WalkLaws.{start, Step, step, broken, next, ended_count}
use Rattle.store.proofs.read_records.Goals as goal
use Rattle.store.proofs.read_records.Goals.{In_ok-r}

-- the record of a turn
turn : (c : In_ok-r) → Step c.args.bytes.now c.loop-at.at c.in_ok-r.r
turn c =
    let s = c.args.bytes.now in
    step s c.loop-at.at (bytes_all s (λ i. (c.type_inv.bytes i).fits)) c.loop-at.invariant.here (record_got s c.loop-at.at c.loop-at.invariant.here (sym c.read_record.ensures ∙ c.in_ok-r.was))

pub loop-at-init : goal.loop-at-init
loop-at-init c = start c.args.bytes.now

pub returns-in_err-r : goal.returns-in_err-r
returns-in_err-r c =
    let s = c.args.bytes.now in
    let e : whole_records s ≡ None = broken s c.loop-at.at c.loop-at.count c.loop-at.invariant (omega arith) (record_not c.loop-at.at _ (sym c.read_record.ensures ∙ c.in_err-r.was)) in
    c.from_residual.ensures ∙ ap store_from (sym e)

pub loop-at-preserved : goal.loop-at-preserved
loop-at-preserved c =
    let g = c.loop-at in
    let h : g.at < length c.args.bytes.now = omega arith in
    next c.args.bytes.now g.at g.count g.invariant h c.in_ok-r.r (turn (goal.at.loop-at-preserved c).In_ok-r)

pub returns : goal.returns
returns c = ended_count c.args.bytes.now c.loop-at.at c.loop-at.count c.loop-at.invariant c.loop-at-test.false

pub loop-at-smaller : goal.loop-at-smaller
loop-at-smaller c =
    let t = turn (goal.at.loop-at-smaller c).In_ok-r in
    omega (arith, t.moves, t.within)
