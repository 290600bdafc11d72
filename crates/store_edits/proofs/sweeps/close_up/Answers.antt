-- `sweeps::close_up` meets its contract: the front is the images that stay, the bytes after it are what they were. Assumes nothing.
use Prim.Native.Nat.{ℕ}
use mathlib.Core.Path.{sym, ap, subst, ◌∙◌}
use mathlib.Core.List.{List}
use lib.ListN.{length}
use lib.Seq.{take-length}
use Rattle.edit.specs.Edit.{over}
use Rattle.codec.proofs.CodecLaws.{bytes_all}
use Rattle.record.specs.Store.{decode_all}
use Rattle.dialog_manager.specs.Search.{Stored}
use Rattle.store_edits.specs.Edits.{living_in, TerminatedAt}
use Rattle.store_edits.proofs.SweepLaws.{start, stands, Next, next, done, same_long, more}
use native.Mathlib.Omega.{arith}
use Rattle.store_edits.proofs.sweeps.close_up.Goals as goal
use Rattle.store_edits.proofs.sweeps.close_up.Goals.{After-record_end-end}

-- the turn
turn : (c : After-record_end-end) → let l = c.loop-at in Next c.args.bytes.now (length c.args.bytes.now) l.bytes l.at l.to c.record_end-end.result
turn c = let l = c.loop-at in next c.args.bytes.now (length c.args.bytes.now) l.bytes l.at l.to l.invariant (more c.args.bytes.now l.bytes l.at l.to l.invariant c.loop-at-test.true) c.record_end-end.result c.record_end-end.ensures

pub loop-at-init : goal.loop-at-init
loop-at-init c =
    let s = c.args.bytes.now in
    start s (length s) (bytes_all s (λ i. (c.type_inv.bytes i).fits)) (omega arith) (subst Stored (sym (take-length s)) c.requires)

pub record_end-end-requires : goal.record_end-end-requires
record_end-end-requires c =
    let l = c.loop-at in stands c.args.bytes.now (length c.args.bytes.now) l.bytes l.at l.to l.invariant (more c.args.bytes.now l.bytes l.at l.to l.invariant c.loop-at-test.true)

pub is_terminated-requires : goal.is_terminated-requires
is_terminated-requires c =
    let l = c.loop-at in stands c.args.bytes.now (length c.args.bytes.now) l.bytes l.at l.to l.invariant (more c.args.bytes.now l.bytes l.at l.to l.invariant c.loop-at-test.true)

pub overflow_sub-n : goal.overflow_sub-n
overflow_sub-n c = let t = turn (goal.at.overflow_sub-n c).After-record_end-end in omega (arith, t.moves)

pub shift-requires : goal.shift-requires
shift-requires c =
    let l = c.loop-at in
    let t = turn (goal.at.shift-requires c).After-record_end-end in
    let m = same_long c.args.bytes.now (length c.args.bytes.now) l.bytes l.at l.to l.invariant in
    (omega (arith, t.moves, t.fits, l.invariant.within, m), omega (arith, t.moves, t.fits, l.invariant.below, l.invariant.within, m))

pub loop-at-smaller : goal.loop-at-smaller
loop-at-smaller c = let t = turn (goal.at.loop-at-smaller c).After-record_end-end in omega (arith, t.moves, t.fits)

pub loop-at-smaller-then-not-is_terminated : goal.loop-at-smaller-then-not-is_terminated
loop-at-smaller-then-not-is_terminated c = let t = turn (goal.at.loop-at-smaller-then-not-is_terminated c).After-record_end-end in omega (arith, t.moves, t.fits)

-- a record that stays
pub loop-at-preserved-then-not-is_terminated : goal.loop-at-preserved-then-not-is_terminated
loop-at-preserved-then-not-is_terminated c =
    let l = c.loop-at in
    let t = turn (goal.at.loop-at-preserved-then-not-is_terminated c).After-record_end-end in
    t.stays (subst (TerminatedAt l.bytes l.at) c.if-not-is_terminated.true c.is_terminated.ensures) c.shift.ensures

-- one that goes
pub loop-at-preserved : goal.loop-at-preserved
loop-at-preserved c =
    let l = c.loop-at in
    let t = turn (goal.at.loop-at-preserved c).After-record_end-end in
    t.goes (subst (TerminatedAt l.bytes l.at) c.if-not-is_terminated.false c.is_terminated.ensures)

pub returns : goal.returns
returns c =
    let g = c.loop-at in
    let a = c.args in
    let m = same_long a.bytes.now (length a.bytes.now) g.bytes g.at g.to g.invariant in
    let d = ap (λ (s : List ℕ). living_in (decode_all s)) (sym (take-length a.bytes.now)) ∙ done a.bytes.now (length a.bytes.now) g.bytes g.at g.to g.invariant (omega (arith, m, c.loop-at-test.false)) in
    record { value = g.invariant.to_is ∙ ap length (sym d); bytes_after = g.invariant.are ∙ ap (λ (t : List ℕ). over t a.bytes.now) (sym d) }
