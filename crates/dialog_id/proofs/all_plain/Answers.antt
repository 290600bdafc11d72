-- `dialog_id::all_plain` meets its contract: std's `all` over the bytes. Assumes nothing.
use Rattle.std.proofs.Common.{◌≡◌, ℕ, Bool, List, [], ◌∷◌, ◌&&◌, refl, ap, ◌∙◌, rules}
use Rattle.std.specs.List.{list_all}
use Rattle.std.proofs.lemmas.Iterator.{YieldsList-from_slice}
use Rattle.std.proofs.lemmas.Iterator.Search.{all_from_yields_List}
use borrow.Author.Tests.{tests}
use Rattle.text.specs.Text.{all}
use Rattle.dialog_id.specs.DialogId.{is_plain}
use Rattle.dialog_id.proofs.all_plain.Goals as goal

-- std's word and ours
all_is : (p : ℕ → Bool) (s : List ℕ) → list_all p s ≡ all p s
unfolding all
all_is p [] = refl
all_is p (b ∷ s) = ap (λ (t : Bool). p b && t) (all_is p s)

pub returns : goal.returns
returns c =
    let s = c.args.s.now in
    all_from_yields_List is_plain c.all.new.self _ c.all.result c.all.ensures.ran (YieldsList-from_slice s cc) (λ x b q k. search (rules, tests)) ∙ all_is is_plain s
