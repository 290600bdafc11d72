-- `early::early_others` meets its contract: those counted so far, and those of the records left. Assumes nothing.
use Prim.Native.Nat.{ℕ, ◌+◌}
use native.Mathlib.Omega.{arith}
use mathlib.Core.Path.{◌≡◌, sym, subst, ◌∙◌}
use mathlib.Core.Bool.{true, false}
use Rattle.codec.proofs.CodecLaws.{bytes_all}
use Rattle.image.specs.declared.sections.IdsAt.{IdsAt}
use Rattle.record_walk.specs.Walk.{end_at}
use Rattle.record_walk.proofs.Walks.{Given, begun, given, ended}
use Rattle.store.specs.Identifiers.{IdsRead}
use Rattle.dialog_id.specs.IdTexts.{ident_of}
use Rattle.dialog_manager.proofs.SearchLaws.{stored_held}
use Rattle.store_puts.proofs.EarlyLaws.{Counting, start, done, Counted, counted}
use Rattle.store_puts.proofs.early.early_others.Goals as goal
use Rattle.store_puts.proofs.early.early_others.Goals.{In-Some}

-- the walk's turn
taken : (c : In-Some) → Given c.args.held.bytes.now c.loop-at.at-iterator c.in-Some.at c.next.new.self
taken c = given c.args.held.bytes.now c.loop-at.at-iterator c.loop-at.invariant.0 c.in-Some.ensures.steps

-- the record of a turn
turn : (c : In-Some) (i : IdsAt) → IdsRead c.args.held.bytes.now c.in-Some.at i
    → let a = c.args in Counted a.id.call_id.now a.id.local_tag.now a.id.remote_tag.now a.held.bytes.now c.in-Some.at c.loop-at.n i
turn c i e =
    let a = c.args in
    let now : Counting (ident_of a.id) a.held.bytes.now c.in-Some.at c.loop-at.n = subst (λ (at : ℕ). Counting (ident_of a.id) a.held.bytes.now at c.loop-at.n) (sym (taken c).from) c.loop-at.invariant.1 in
    counted a.id.call_id.now a.id.local_tag.now a.id.remote_tag.now a.held.bytes.now c.in-Some.at c.loop-at.n now (taken c).more (bytes_all a.held.bytes.now a.held.fit) i e

pub loop-at-init : goal.loop-at-init
loop-at-init c =
    let a = c.args in
    let s = a.held.bytes.now in
    let b = begun s _ _ c.into_iter-at-iterator.ensures.into_iter_gives c.records-at-items.ensures.bytes c.records-at-items.ensures.at in
    (b.0, subst (λ (at : ℕ). Counting (ident_of a.id) s at 0) (sym b.1) (start (ident_of a.id) s (bytes_all s a.held.fit) (stored_held a.held)))

pub is_early_other-requires : goal.is_early_other-requires
is_early_other-requires c = (turn (goal.at.is_early_other-requires c).In-Some c.ids_at-ids.result c.ids_at-ids.ensures).within

-- one that is counted
pub loop-at-preserved-then-is_early_other : goal.loop-at-preserved-then-is_early_other
loop-at-preserved-then-is_early_other c =
    let i = (goal.at.loop-at-preserved-then-is_early_other c).In-Some in
    let e : true ≡ c.is_early_other.result = sym c.if-is_early_other.true in
    ((taken i).same, subst (λ (e : ℕ). Counting (ident_of c.args.id) c.args.held.bytes.now e (c.loop-at.n + 1)) (sym (taken i).ends) ((turn i c.ids_at-ids.result c.ids_at-ids.ensures).again (e ∙ c.is_early_other.ensures)))

-- one that isn't
pub loop-at-preserved : goal.loop-at-preserved
loop-at-preserved c =
    let i = (goal.at.loop-at-preserved c).In-Some in
    let e : false ≡ c.is_early_other.result = sym c.if-is_early_other.false in
    let k : Counting (ident_of c.args.id) c.args.held.bytes.now (end_at c.args.held.bytes.now c.in-Some.at) (c.loop-at.n + 0) = (turn i c.ids_at-ids.result c.ids_at-ids.ensures).again (e ∙ c.is_early_other.ensures) in
    let n : c.loop-at.n + 0 ≡ c.loop-at.n = omega arith in
    ((taken i).same, subst (λ (e : ℕ). Counting (ident_of c.args.id) c.args.held.bytes.now e c.loop-at.n) (sym (taken i).ends) (subst (Counting (ident_of c.args.id) c.args.held.bytes.now (end_at c.args.held.bytes.now c.in-Some.at)) n k))

pub returns : goal.returns
returns c =
    let a = c.args in
    let r = c.loop-at.at-iterator in
    done a.id.call_id.now a.id.local_tag.now a.id.remote_tag.now a.held.bytes.now r.at c.loop-at.n c.loop-at.invariant.1 (ended a.held.bytes.now r c.loop-at.invariant.0 c.next.new.self c.in-None.ensures.steps)
