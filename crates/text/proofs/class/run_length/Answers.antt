-- `text::class::run_length` meets its contract: the first byte outside the class, or the end. Assumes nothing.
use Rattle.std.proofs.Common.{◌≡◌, sym, ◌∙◌, rules, true, false, refl}
use Rattle.std.proofs.lemmas.Iterator.{YieldsList-from_slice, IsFirst-from_position, index_from_first}
use borrow.Author.Tests.{tests}
use Rattle.text.specs.Text.{span}
use Rattle.text.proofs.Runs.{span_hit, span_miss}
use Rattle.text.proofs.class.run_length.Goals as goal

pub returns-clause-value : goal.returns-clause-value
unfolding span
returns-clause-value g c =
    let s = c.args.s.now in
    let test = g.C.ByteClass.test c.args.class.now in
    let first = IsFirst-from_position _ _ c.position.result (λ b. test b ≡ false) (λ b. test b ≡ true) c.position.ensures.ran (YieldsList-from_slice s cc) (λ x q k. search (rules, tests)) (λ x q k. search (rules, tests)) in
    c.unwrap_or.ensures ∙ sym (index_from_first (span test) (λ b. test b ≡ false) (λ b. test b ≡ true) refl (span_hit test) (span_miss test) s c.position.result first)
