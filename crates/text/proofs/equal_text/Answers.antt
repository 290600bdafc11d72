-- `text::equal_text` meets its contract: `==` compares as `equal` does. Assumes nothing.
use mathlib.Core.Path.{refl, sym, ◌∙◌}
use Rattle.std.proofs.lemmas.List.{map-id}
use Rattle.text.proofs.Alike.{alike_is}
use Rattle.text.proofs.equal_text.Goals as goal

pub returns : goal.returns
returns c =
    let a = c.args.a.now in
    let b = c.args.b.now in
    c.eq.ensures ∙ sym (alike_is (λ x. x) (λ x. x) (λ x. refl) a b ∙ rw (map-id a, map-id b) refl)
