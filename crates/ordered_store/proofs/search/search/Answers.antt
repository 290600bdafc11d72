-- `search::search` meets its contract: what is asked of the store is asked of the entries left. Assumes nothing.
use Rattle.std.proofs.Common.{◌≡◌, Ok, Some, sym, ap, subst, ◌∙◌, ℕ, arith, drop, length}
use Rattle.std.specs.Result.{result_ok}
use Rattle.codec.proofs.CodecLaws.{bytes_all}
use Rattle.ordered_store.specs.Layout.{Layout, layout_by, places_read, found_of}
use Rattle.limits.specs.declared.Refusal.TheVariants.{BadStore}
use Rattle.ordered_store.specs.Slot.{free}
use Rattle.ordered_store.specs.Steps.{goes_on}
use Rattle.ordered_store.proofs.PlaceLaws.{Here}
use Rattle.ordered_store.proofs.SearchLaws.{Left, start, Turn, turn, ended, unbroken, met, found, passed, gone_by}
use Rattle.ordered_store.proofs.WalkLaws.{absent, Given, given, over_at}
use Rattle.ordered_store.proofs.search.search.Given.{Over}
use Rattle.ordered_store.proofs.search.search.Goals as goal
use Rattle.ordered_store.proofs.search.search.Goals.{In_ok-e, In-Some}

-- the layout by a context
abbrev by : (g : Over) → g.row.E-Context.Denot → Layout g.E.Entry.Value g.row.E.Denot
by g context = layout_by (g.E.Entry.form context) (g.E.Entry.Good context) g.E.Entry.parts

-- the turn, and the first entry left
now : (g : Over) (c : In-Some g) → Given (by g c.args.context) c.args.bytes.now c.loop-at.at-iterator.at c.in-Some.at c.in-Some.entry c.next.new.self.bytes.now c.next.new.self.at
now g c = given (by g c.args.context) c.args.bytes.now (ap g.E.Entry.form c.loop-at.invariant.context) c.loop-at.invariant.same c.in-Some.ensures.steps.0

first : (g : Over) (c : In-Some g) → Turn (by g c.args.context) (g.E.KeyedBy.texts c.args.key) c.args.bytes.now c.loop-at.at-iterator.at
first g c = turn (by g c.args.context) (g.E.KeyedBy.texts c.args.key) c.args.bytes.now c.loop-at.at-iterator.at (g.met.E.Entry.lawful c.args.context) c.loop-at.invariant.left (now g c).more

read : (g : Over) (c : In_ok-e g) → Given (by g c.args.context) c.args.bytes.now c.loop-at.at-iterator.at c.in-Some.at c.in-Some.entry c.next.new.self.bytes.now c.next.new.self.at
    → places_read g.E.Entry.parts c.loop-at.at-iterator.at ((g.E.Entry.form c.args.context).read (drop c.loop-at.at-iterator.at c.args.bytes.now)) ≡ Some c.in_ok-e.e
read g c w = w.reads ∙ c.ok_or.ensures.ok_part ∙ ap result_ok c.in_ok-e.was

lies : (g : Over) (c : In_ok-e g) → Given (by g c.args.context) c.args.bytes.now c.loop-at.at-iterator.at c.in-Some.at c.in-Some.entry c.next.new.self.bytes.now c.next.new.self.at
    → (t : Turn (by g c.args.context) (g.E.KeyedBy.texts c.args.key) c.args.bytes.now c.loop-at.at-iterator.at) → Here (by g c.args.context) c.args.bytes.now c.loop-at.at-iterator.at c.in_ok-e.e t.value
lies g c w t = met (by g c.args.context) (g.E.KeyedBy.texts c.args.key) c.args.bytes.now c.loop-at.at-iterator.at (g.met.E.Entry.lawful c.args.context) t (read g c w)

pub loop-at-init : goal.loop-at-init
loop-at-init g c =
    let s = c.args.bytes.now in
    let e = c.into_iter-at-iterator.ensures.into_iter_gives in
    let z : c.into_iter-at-iterator.result.at ≡ 0 = ap (λ i. i.at) e ∙ c.new-at-items.ensures.at in
    record {
      context = ap (λ i. i.context) e ∙ c.new-at-items.ensures.context;
      same = ap (λ i. i.bytes.now) e ∙ c.new-at-items.ensures.bytes;
      left = subst (Left (by g c.args.context) (g.E.KeyedBy.texts c.args.key) s) (sym z) (start (by g c.args.context) (g.E.KeyedBy.texts c.args.key) s (g.met.E.Entry.lawful c.args.context) (bytes_all s (λ i. (c.type_inv.bytes i).fits)) c.requires);
    }

pub returns-in_err-e : goal.returns-in_err-e
returns-in_err-e g c =
    let i = (goal.at.returns-in_err-e g c).In-Some in
    absurd (unbroken (by g c.args.context) (g.E.KeyedBy.texts c.args.key) c.args.bytes.now c.loop-at.at-iterator.at (g.met.E.Entry.lawful c.args.context) (first g i) ((now g i).reads ∙ absent c.in-Some.entry BadStore c.ok_or.ensures.value c.in_err-e.was))

pub compare-requires : goal.compare-requires
compare-requires g c =
    let i = (goal.at.compare-requires g c).In-Some in
    (lies g c (now g i) (first g i)).inside

pub loop-at-preserved : goal.loop-at-preserved
loop-at-preserved g c =
    let i = (goal.at.loop-at-preserved g c).In-Some in
    let w = now g i in
    let e : c.next.new.self.at ≡ g.E.Entry.parts.end_of c.in_ok-e.e = w.ends ∙ ap (goes_on g.E.Entry.parts c.args.bytes.now) (c.ok_or.ensures.ok_part ∙ ap result_ok c.in_ok-e.was) in
    record {
      context = c.in-Some.ensures.steps.1 ∙ c.loop-at.invariant.context;
      same = w.same;
      left = subst (Left (by g c.args.context) (g.E.KeyedBy.texts c.args.key) c.args.bytes.now) (sym e)
          (gone_by (by g c.args.context) (g.E.KeyedBy.texts c.args.key) c.args.bytes.now c.loop-at.at-iterator.at (g.met.E.Entry.lawful c.args.context) (first g i) (read g (goal.at.loop-at-preserved g c).In_ok-e w) c.compare.ensures c.in-Less.is);
    }

pub returns-in-Equal : goal.returns-in-Equal
returns-in-Equal g c =
    let i = (goal.at.returns-in-Equal g c).In-Some in
    let w = now g i in
    ap (λ p. Ok (Ok p)) (lies g (goal.at.returns-in-Equal g c).In_ok-e w (first g i)).placed
    ∙ ap (found_of g.E.Entry.parts) (found (by g c.args.context) (g.E.KeyedBy.texts c.args.key) c.args.bytes.now c.loop-at.at-iterator.at (g.met.E.Entry.lawful c.args.context) (first g i) (read g (goal.at.returns-in-Equal g c).In_ok-e w) c.compare.ensures c.in-Equal.is)

pub returns-in-Greater : goal.returns-in-Greater
returns-in-Greater g c =
    let i = (goal.at.returns-in-Greater g c).In-Some in
    let w = now g i in
    ap (found_of g.E.Entry.parts)
    (ap (λ (k : ℕ). Some (free k)) w.from
    ∙ passed (by g c.args.context) (g.E.KeyedBy.texts c.args.key) c.args.bytes.now c.loop-at.at-iterator.at (g.met.E.Entry.lawful c.args.context) (first g i) (read g (goal.at.returns-in-Greater g c).In_ok-e w) c.compare.ensures c.in-Greater.is)

pub returns : goal.returns
returns g c =
    let s = c.args.bytes.now in
    let r = c.loop-at.at-iterator in
    let h = over_at (by g c.args.context) s c.loop-at.invariant.same c.in-None.ensures.steps.0 in
    let e : length s ≡ r.at = omega (arith, h, c.loop-at.invariant.left.inside) in
    ap (found_of g.E.Entry.parts) (ap (λ (k : ℕ). Some (free k)) e ∙ ended (by g c.args.context) (g.E.KeyedBy.texts c.args.key) s r.at (g.met.E.Entry.lawful c.args.context) c.loop-at.invariant.left h)
