-- `finding::search` meets its contract: what is asked of the store is asked of the records left. Assumes nothing.
use mathlib.Core.Path.{◌≡◌, sym, ap, subst, ◌∙◌}
use Rattle.codec.proofs.CodecLaws.{Bytes, bytes_all}
use Rattle.image.specs.declared.RecordAt.{RecordAt}
use Rattle.image.specs.declared.sections.IdsAt.{IdsAt}
use Rattle.image.proofs.AnswerLaws.{record_got}
use Rattle.record_walk.proofs.Walks.{Given, begun, given, ended}
use Rattle.dialog_manager.specs.Search.{IdsWithin, TextsOf}
use Rattle.dialog_manager.proofs.SearchLaws.{Left, start, stored_held, nothing, met, passed_by, Turn, turn, one_record_lem, places, standing, its_end, ids_within, texts_of}
use Rattle.dialog_manager.proofs.finding.search.Goals as goal
use Rattle.dialog_manager.proofs.finding.search.Given.{Over}
use Rattle.dialog_manager.proofs.finding.search.Goals.{In-Some, After-ids_at-ids}

-- the walk's turn
taken : (g : Over) (c : In-Some g) → Given c.args.held.bytes.now c.loop-at.at-iterator c.in-Some.at c.next.new.self
taken g c = given c.args.held.bytes.now c.loop-at.at-iterator c.loop-at.invariant.0 c.in-Some.ensures.steps

-- what is asked is asked of the records from this one on
left : (g : Over) (c : In-Some g) → Left (g.W.Wanted.test c.args.wanted.now) c.args.held.bytes.now c.in-Some.at
left g c = subst (Left (g.W.Wanted.test c.args.wanted.now) c.args.held.bytes.now) (sym (taken g c).from) c.loop-at.invariant.1

known : (g : Over) (c : In-Some g) → Bytes c.args.held.bytes.now
known g c = bytes_all c.args.held.bytes.now c.args.held.fit

-- the record's parts
abbrev parts : (g : Over) (c : In-Some g) → RecordAt
parts g c = places c.args.held.bytes.now c.in-Some.at (known g c) (left g c).here (taken g c).here

held : (g : Over) (c : In-Some g) → Turn c.args.held.bytes.now c.in-Some.at (parts g c)
held g c = standing c.args.held.bytes.now c.in-Some.at (known g c) (left g c).here (taken g c).here

placed : (g : Over) (c : After-ids_at-ids g) → c.ids_at-ids.result ≡ (parts g (goal.at.is_at-requires g c).In-Some).ids
placed g c = c.ids_at-ids.ensures (taken g (goal.at.is_at-requires g c).In-Some).here.reading (taken g (goal.at.is_at-requires g c).In-Some).here.reads

pub loop-at-init : goal.loop-at-init
loop-at-init g c =
    let f = g.W.Wanted.test c.args.wanted.now in
    let s = c.args.held.bytes.now in
    let b = begun s _ _ c.into_iter-at-iterator.ensures.into_iter_gives c.records-at-items.ensures.bytes c.records-at-items.ensures.at in
    (b.0, subst (Left f s) (sym b.1) (start f s (stored_held c.args.held)))

pub is_at-requires : goal.is_at-requires
is_at-requires g c =
    let i = (goal.at.is_at-requires g c).In-Some in
    let s = c.args.held.bytes.now in
    subst (IdsWithin s) (sym (placed g c)) (ids_within s c.in-Some.at (parts g i) (held g i))

pub returns-then-is_at-clause-value : goal.returns-then-is_at-clause-value
returns-then-is_at-clause-value g c =
    let f = g.W.Wanted.test c.args.wanted.now in
    let s = c.args.held.bytes.now in
    let at = c.in-Some.at in
    let i = (goal.at.returns-then-is_at-clause-value g c).In-Some in
    let a = (goal.at.returns-then-is_at-clause-value g c).After-ids_at-ids in
    let h = held g i in
    let w : TextsOf s c.ids_at-ids.result h.step.value = subst (λ (p : IdsAt). TextsOf s p h.step.value) (sym (placed g a)) (texts_of s at (parts g i) h (known g i)) in
    let t = turn s at (known g i) (left g i).here (record_got s at (left g i).here (sym c.read_record.ensures ∙ c.in_ok-r.was)) in
    let m = ap f (one_record_lem s at t h) ∙ sym (c.is_at.ensures h.step.value w) ∙ c.if-is_at.true in
    met f s at (left g i) (taken g i).more c.in_ok-r.r t.step t.placed m

pub loop-at-preserved : goal.loop-at-preserved
loop-at-preserved g c =
    let f = g.W.Wanted.test c.args.wanted.now in
    let s = c.args.held.bytes.now in
    let at = c.in-Some.at in
    let i = (goal.at.loop-at-preserved g c).In-Some in
    let a = (goal.at.loop-at-preserved g c).After-ids_at-ids in
    let h = held g i in
    let w : TextsOf s c.ids_at-ids.result h.step.value = subst (λ (p : IdsAt). TextsOf s p h.step.value) (sym (placed g a)) (texts_of s at (parts g i) h (known g i)) in
    let n = (taken g i).ends ∙ its_end s at (known g i) (left g i).here (taken g i).here in
    ((taken g i).same, subst (Left f s) (sym n) (passed_by f s at (left g i) (taken g i).more (parts g i) h.step (sym (c.is_at.ensures h.step.value w) ∙ c.if-is_at.false)))

pub returns-clause-value : goal.returns-clause-value
returns-clause-value g c =
    let s = c.args.held.bytes.now in
    let r = c.loop-at.at-iterator in
    nothing (g.W.Wanted.test c.args.wanted.now) s r.at c.loop-at.invariant.1 (ended s r c.loop-at.invariant.0 c.next.new.self c.in-None.ensures.steps)
