-- `prack_body::are_entries` meets its contract: at each turn the answer is that of the entries left. Assumes nothing.
use Rattle.std.proofs.Common.{ap, sym, ◌∙◌, arith, refl}
use Rattle.prack_body.proofs.ReadLaws.{looking, looked_method, looked_flag, looked_at, looked_all}
use Rattle.prack_body.proofs.are_entries.Goals as goal
use Rattle.prack_body.proofs.are_entries.Goals.{then-not-is_method-via-then-not-is_method, then-not-is_method-via-else-not-is_method+then-entry-gt1}

pub loop-entry-init : goal.loop-entry-init
loop-entry-init c =
    let e = c.into_iter-entry-iterator.ensures.into_iter_gives in
    let f = c.chunks_exact-entry-items.ensures in
    record { size = ap (λ i. i.size) e ∙ f.size; looking = λ s first count h q. looking s first count refl (ap (λ i. i.rest.now) e ∙ f.rest ∙ q) }

pub returns-then-not-is_method : goal.returns-then-not-is_method
returns-then-not-is_method c =
    let i = c.loop-entry.invariant in
    let e = c.in-Some.ensures.steps.1 in
    let l = e.1 ∙ i.size in
    λ s first count h q.
    elim c.then-not-is_method.branch [
      | then-not-is_method-via-then-not-is_method w ↦ looked_method h (i.looking s first count h q) _ _ e.0 l (sym c.is_method.ensures ∙ w.if-not-is_method.true)
      | then-not-is_method-via-else-not-is_method+then-entry-gt1 w ↦ looked_flag h (i.looking s first count h q) _ _ e.0 l (sym c.is_method.ensures ∙ w.if-not-is_method.false) w.if-entry-gt1.true
    ]

pub loop-entry-preserved : goal.loop-entry-preserved
loop-entry-preserved c =
    let i = c.loop-entry.invariant in
    let e = c.in-Some.ensures.steps in
    record {
      size = e.0 ∙ i.size;
      looking = λ s first count h q. looked_at h (i.looking s first count h q) _ _ e.1.0 (e.1.1 ∙ i.size) (sym c.is_method.ensures ∙ c.if-not-is_method.false) c.if-entry-gt1.false;
    }

pub returns : goal.returns
returns c = λ s first count h q. looked_all h (c.loop-entry.invariant.looking s first count h q) (omega (arith, c.in-None.ensures.steps.1.0))
