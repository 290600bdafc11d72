-- `msg::full_name` meets its contract: a name of one letter by its small letter, and every other name stays. Assumes nothing.
use Rattle.std.proofs.Common.{◌≡◌, ℕ, List, [], ◌∷◌, length, get_or, refl, ◌∙◌, arith}
use borrow.Author.Tests.{ne_eqb}
use Rattle.std.specs.Char.{to_ascii_lowercase}
use Rattle.std.proofs.lemmas.Bool.Decides.{nat_tests}
use Rattle.text.specs.Text.{alike, lower}
use Rattle.text.proofs.Alike.{alike_length}
use Rattle.msg.specs.Block.{full_in, full_of}
use Rattle.msg.proofs.full_name.Goals as goal
use Rattle.msg.proofs.full_name.Goals.{After-to_ascii_lowercase}

-- a name that is no letter alone is none of the short ones
not_short : (s : List ℕ) → (length s ≡ 1 → ⊥) → s ≡ full_of s
unfolding full_in
not_short s h = rw (alike_length lower s (105 ∷ []) h, alike_length lower s (102 ∷ []) h, alike_length lower s (116 ∷ []) h, alike_length lower s (109 ∷ []) h, alike_length lower s (120 ∷ []) h)

one_letter : (s : List ℕ) → length s ≡ 1 → s ≡ get_or s 0 0 ∷ []
one_letter [] h = absurd (omega arith)
one_letter (b ∷ []) h = refl
one_letter (b ∷ c ∷ s) h = absurd (omega arith)

-- a letter that is none of the short ones
other_letter : (s : List ℕ) (b : ℕ) → s ≡ b ∷ [] → (lower b ≡ 105 → ⊥) → (lower b ≡ 102 → ⊥) → (lower b ≡ 116 → ⊥) → (lower b ≡ 109 → ⊥) → (lower b ≡ 120 → ⊥) → s ≡ full_of s
unfolding full_in alike
other_letter s b e i f t m x = rw (e, ne_eqb (lower b) 105 i, ne_eqb (lower b) 102 f, ne_eqb (lower b) 116 t, ne_eqb (lower b) 109 m, ne_eqb (lower b) 120 x)

small : (b x : ℕ) → x ≡ to_ascii_lowercase b → lower b ≡ x
small b x e = grind (arith, nat_tests)

-- the letter, small, is what was looked at
letter : (c : After-to_ascii_lowercase) → lower (get_or c.args.name.now 0 0) ≡ c.to_ascii_lowercase.result
letter c = small (get_or c.args.name.now 0 0) c.to_ascii_lowercase.result c.to_ascii_lowercase.ensures.value

alone : (c : After-to_ascii_lowercase) → c.args.name.now ≡ get_or c.args.name.now 0 0 ∷ []
alone c = one_letter _ (omega (arith, c.in-len1.len_at_least, c.in-len1.len_below))

pub returns-in_default : goal.returns-in_default
returns-in_default c = not_short _ (λ e. omega (arith, c.in_default.len_below))

pub returns-in_default-2 : goal.returns-in_default-2
returns-in_default-2 c = not_short _ (λ e. omega (arith, c.in_default.len_at_least))

pub returns-in-105 : goal.returns-in-105
unfolding full_in alike
returns-in-105 c = let a = (goal.at.returns-in-105 c).After-to_ascii_lowercase in rw (alone a, letter a ∙ c.in-105.is)

pub returns-in-102 : goal.returns-in-102
unfolding full_in alike
returns-in-102 c = let a = (goal.at.returns-in-102 c).After-to_ascii_lowercase in rw (alone a, letter a ∙ c.in-102.is)

pub returns-in-116 : goal.returns-in-116
unfolding full_in alike
returns-in-116 c = let a = (goal.at.returns-in-116 c).After-to_ascii_lowercase in rw (alone a, letter a ∙ c.in-116.is)

pub returns-in-109 : goal.returns-in-109
unfolding full_in alike
returns-in-109 c = let a = (goal.at.returns-in-109 c).After-to_ascii_lowercase in rw (alone a, letter a ∙ c.in-109.is)

pub returns-in-120 : goal.returns-in-120
unfolding full_in alike
returns-in-120 c = let a = (goal.at.returns-in-120 c).After-to_ascii_lowercase in rw (alone a, letter a ∙ c.in-120.is)

pub returns-in_default-to_ascii_lowercase : goal.returns-in_default-to_ascii_lowercase
returns-in_default-to_ascii_lowercase c =
    let a = (goal.at.returns-in_default-to_ascii_lowercase c).After-to_ascii_lowercase in
    let l = letter a in
    other_letter _ (get_or c.args.name.now 0 0) (alone a) (λ e. omega (arith, l, e)) (λ e. omega (arith, l, e)) (λ e. omega (arith, l, e)) (λ e. omega (arith, l, e)) (λ e. omega (arith, l, e))
