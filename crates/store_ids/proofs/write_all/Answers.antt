-- `store_ids::write_all` meets its contract: the front of the output is the identifiers passed, the bytes after it are what they were. Assumes nothing.
use Prim.Native.Nat.{ℕ, ◌+◌}
use native.Mathlib.Omega.{arith}
use mathlib.Core.Path.{sym, ap, subst, ◌∙◌}
use mathlib.Core.List.{List}
use lib.ListN.{length}
use Rattle.edit.specs.Edit.{over, put_at}
use Rattle.codec.proofs.CodecLaws.{bytes_all}
use Rattle.image.specs.declared.sections.IdsAt.{IdsAt}
use Rattle.store.specs.Identifiers.{IdsRead}
use Rattle.dialog_id.specs.Ident.{Ident}
use Rattle.dialog_id.specs.IdTexts.{TextsShort}
use Rattle.store_ids.specs.Identifiers.{texts_bytes}
use Rattle.record_walk.proofs.Walks.{Given, begun, given, ended}
use Rattle.dialog_manager.proofs.SearchLaws.{stored_held}
use Rattle.store_ids.proofs.IdentifierLaws.{More, Filled, done, next, fill, free, filled, texts_short}
use Rattle.store_ids.proofs.write_all.Goals as goal
use Rattle.store_ids.proofs.write_all.Goals.{In-Some}

-- the walk's turn
taken : (c : In-Some) → Given c.args.held.bytes.now c.loop-at.at-iterator c.in-Some.at c.next.new.self
taken c = given c.args.held.bytes.now c.loop-at.at-iterator c.loop-at.invariant.0 c.in-Some.ensures.steps

-- the output so far, where the record stands
now : (c : In-Some) → Filled c.args.held.bytes.now c.args.out.now c.in-Some.at c.loop-at.to c.loop-at.out
now c = subst (λ (at : ℕ). Filled c.args.held.bytes.now c.args.out.now at c.loop-at.to c.loop-at.out) (sym (taken c).from) c.loop-at.invariant.1

-- its identifier is that of the turn
adds : (c : In-Some) (i : IdsAt) → IdsRead c.args.held.bytes.now c.in-Some.at i → More c.args.held.bytes.now c.in-Some.at (now c).passed i
adds c i e = next c.args.held.bytes.now c.in-Some.at (now c).passed (taken c).more i (bytes_all c.args.held.bytes.now c.args.held.fit) e

pub loop-at-init : goal.loop-at-init
loop-at-init c =
    let s = c.args.held.bytes.now in
    let out = c.args.out.now in
    let b = begun s _ _ c.into_iter-at-iterator.ensures.into_iter_gives c.records-at-items.ensures.bytes c.records-at-items.ensures.at in
    (b.0, subst (λ (at : ℕ). Filled s out at 0 out) (sym b.1) (fill s out (bytes_all s c.args.held.fit) (stored_held c.args.held)))

pub texts-id-requires : goal.texts-id-requires
texts-id-requires c = (adds (goal.at.texts-id-requires c).In-Some c.ids_at-ids.result c.ids_at-ids.ensures).within

pub write_id-to-requires-clause-texts_short : goal.write_id-to-requires-clause-texts_short
write_id-to-requires-clause-texts_short c =
    let m = adds (goal.at.write_id-to-requires-clause-texts_short c).In-Some c.ids_at-ids.result c.ids_at-ids.ensures in
    subst TextsShort (sym c.texts-id.ensures) (texts_short c.args.held.bytes.now c.ids_at-ids.result m.within m.short)

pub write_id-to-requires-clause-texts_in_bounds : goal.write_id-to-requires-clause-texts_in_bounds
write_id-to-requires-clause-texts_in_bounds c =
    let i = (goal.at.write_id-to-requires-clause-texts_in_bounds c).In-Some in
    let m = adds i c.ids_at-ids.result c.ids_at-ids.ensures in
    let w = free c.args.held.bytes.now c.args.out.now c.in-Some.at c.loop-at.to c.loop-at.out (now i) c.requires c.ids_at-ids.result m in
    omega (arith, w, m.size, ap (λ (x : Ident). length (texts_bytes x)) c.texts-id.ensures)

pub loop-at-preserved : goal.loop-at-preserved
loop-at-preserved c =
    let w = c.write_id-to.ensures in
    let i = (goal.at.loop-at-preserved c).In-Some in
    ((taken i).same, filled c.args.held.bytes.now c.args.out.now c.in-Some.at c.loop-at.to c.loop-at.out (now i) c.requires c.ids_at-ids.result (adds i c.ids_at-ids.result c.ids_at-ids.ensures) (taken i).ends (w.value ∙ ap (λ (x : Ident). c.loop-at.to + length (texts_bytes x)) c.texts-id.ensures) (w.out_after ∙ ap (λ (x : Ident). put_at c.loop-at.to (texts_bytes x) c.loop-at.out) c.texts-id.ensures))

pub returns : goal.returns
returns c =
    let s = c.args.held.bytes.now in
    let r = c.loop-at.at-iterator in
    let m = c.loop-at.invariant.1 in
    m.are ∙ ap (λ (t : List ℕ). over t c.args.out.now) (sym (done s r.at m.passed (ended s r c.loop-at.invariant.0 c.next.new.self c.in-None.ensures.steps)))
