-- `text::same_text` meets its contract: texts of one length are the same where each pair of their bytes is. Assumes nothing.
use Prim.Native.Nat.{ℕ}
use Rattle.std.proofs.Common.{◌≡◌, sym, ◌∙◌, rules}
use Rattle.std.proofs.lemmas.Iterator.{YieldsList-from_slice, YieldsList-from_zip, cases_from_all}
use borrow.Author.Tests.{tests, ne_eqb}
use Rattle.text.specs.Text.{lower}
use Rattle.text.proofs.Alike.{alike_length, alike_zip, letters_or, letters_nor}
use Rattle.text.proofs.same_text.Goals as goal

pub returns-else-a-b : goal.returns-else-a-b
returns-else-a-b c = ne_eqb _ _ c.if-a-b.false ∙ sym (alike_length lower _ _ c.if-a-b.false)

pub returns-then-a-b : goal.returns-then-a-b
returns-then-a-b c =
    let a = c.args.a.now in
    let b = c.args.b.now in
    alike_zip lower a b c.all.result c.if-a-b.true (cases_from_all c.all.new.self _ c.all.result (λ (p : ℕ × ℕ). lower p.0 ≡ lower p.1) (λ (p : ℕ × ℕ). lower p.0 ≡ lower p.1 → ⊥) c.all.ensures.ran (YieldsList-from_zip (YieldsList-from_slice a cc) (YieldsList-from_slice b cc)) (λ x q k. (search (rules, tests), letters_or x.0.now x.1.now (search (rules, tests)))) (λ x q k. letters_nor x.0.now x.1.now (search (rules, tests))))
