-- `text::starts_with` meets its contract: the front that is as long as the head, or none. Assumes nothing.
use Rattle.std.proofs.Common.{◌≡◌, ℕ, ◌<◌, Bool, false, List, length, take, sym, ap, ◌∙◌, arith, rules}
use denote.Bor.{Bor}
use mathlib.Core.Logic.{◌⊎◌, inl, inr}
use Rattle.std.specs.Prelude.{None, Option, Some, MatchOption}
use Rattle.text.specs.Text.{same}
use Rattle.text.proofs.Alike.{starts_not}
use Rattle.text.proofs.starts_with.Goals as goal

-- r is what is said of the front, false where there is none
starts_by : {P Q : Bor (List ℕ) → Type 0} (s head : List ℕ) (o : Option (Bor (List ℕ))) (r : Bool) → MatchOption o ((length head < 0) ⊎ (length s < length head)) P → MatchOption o (r ≡ false) Q
    → ((x : Bor (List ℕ)) → P x → x.now ≡ take (length head) s) → ((x : Bor (List ℕ)) → Q x → r ≡ same x.now head) → r ≡ same (take (length head) s) head
starts_by s head None r (inl g) m p q = absurd (omega arith)
starts_by s head None r (inr g) m p q = m ∙ sym (starts_not s head g)
starts_by s head (Some x) r g m p q = q x m ∙ ap (λ (t : List ℕ). same t head) (p x g)

pub returns : goal.returns
returns c = starts_by c.args.s.now c.args.head.now c.get.result c.is_some_and.result c.get.ensures.lookup.0 c.is_some_and.ensures (λ x g. search rules) (λ x g. search rules)
