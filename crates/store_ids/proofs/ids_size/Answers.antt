-- `store_ids::ids_size` meets its contract: the number is how many bytes the identifiers passed take. Assumes nothing.
use Prim.Native.Nat.{ℕ}
use native.Mathlib.Omega.{arith}
use mathlib.Core.Path.{sym, ap, subst, ◌∙◌}
use lib.ListN.{length}
use Rattle.codec.proofs.CodecLaws.{bytes_all}
use Rattle.image.specs.declared.sections.IdsAt.{IdsAt}
use Rattle.store.specs.Identifiers.{IdsRead}
use Rattle.record_walk.proofs.Walks.{Given, begun, given, ended}
use Rattle.dialog_manager.proofs.SearchLaws.{stored_held}
use Rattle.store_ids.proofs.IdentifierLaws.{More, Measured, done, next, measure, measured, small}
use Rattle.store_ids.proofs.ids_size.Goals as goal
use Rattle.store_ids.proofs.ids_size.Goals.{In-Some}

-- the walk's turn
taken : (c : In-Some) → Given c.args.held.bytes.now c.loop-at.at-iterator c.in-Some.at c.next.new.self
taken c = given c.args.held.bytes.now c.loop-at.at-iterator c.loop-at.invariant.0 c.in-Some.ensures.steps

-- the number so far, where the record stands
now : (c : In-Some) → Measured c.args.held.bytes.now c.in-Some.at c.loop-at.n
now c = subst (λ (at : ℕ). Measured c.args.held.bytes.now at c.loop-at.n) (sym (taken c).from) c.loop-at.invariant.1

-- its identifier is that of the turn
adds : (c : In-Some) (i : IdsAt) → IdsRead c.args.held.bytes.now c.in-Some.at i → More c.args.held.bytes.now c.in-Some.at (now c).passed i
adds c i e = next c.args.held.bytes.now c.in-Some.at (now c).passed (taken c).more i (bytes_all c.args.held.bytes.now c.args.held.fit) e

pub loop-at-init : goal.loop-at-init
loop-at-init c =
    let s = c.args.held.bytes.now in
    let b = begun s _ _ c.into_iter-at-iterator.ensures.into_iter_gives c.records-at-items.ensures.bytes c.records-at-items.ensures.at in
    (b.0, subst (λ (at : ℕ). Measured s at 0) (sym b.1) (measure s (bytes_all s c.args.held.fit) (stored_held c.args.held)))

pub id_size-n-requires : goal.id_size-n-requires
id_size-n-requires c = (adds (goal.at.id_size-n-requires c).In-Some c.ids_at-ids.result c.ids_at-ids.ensures).short

pub overflow_add-n : goal.overflow_add-n
overflow_add-n c =
    let i = (goal.at.overflow_add-n c).In-Some in
    omega (arith, small c.args.held.bytes.now c.in-Some.at c.loop-at.n (now i) c.ids_at-ids.result (adds i c.ids_at-ids.result c.ids_at-ids.ensures) c.id_size-n.ensures)

pub loop-at-preserved : goal.loop-at-preserved
loop-at-preserved c =
    let i = (goal.at.loop-at-preserved c).In-Some in
    ((taken i).same, measured c.args.held.bytes.now c.in-Some.at c.loop-at.n (now i) c.ids_at-ids.result (adds i c.ids_at-ids.result c.ids_at-ids.ensures) c.id_size-n.ensures (taken i).ends)

pub returns : goal.returns
returns c =
    let s = c.args.held.bytes.now in
    let r = c.loop-at.at-iterator in
    let m = c.loop-at.invariant.1 in
    m.size ∙ ap length (sym (done s r.at m.passed (ended s r c.loop-at.invariant.0 c.next.new.self c.in-None.ensures.steps)))
