-- `rack::read_rack` meets its contract: the words one after another. Assumes nothing.
use native.Mathlib.Omega.{arith}
use mathlib.Core.Path.{◌≡◌, sym, ap, ◌∙◌}
use lib.ListN.{drop}
use Rattle.text.specs.Text.{words}
use Rattle.text.specs.Number.{number_from, read_number}
use Rattle.methods.specs.Methods.{method_from, method_of}
use Rattle.rack.specs.RAck.{rack_from}
use Rattle.words.specs.Words.{word_at}
use Rattle.words.proofs.WordLaws.{next_word, after_three, some_word, no_word}
use Rattle.words.proofs.NumberLaws.{unreadable, readable}
use Rattle.methods.proofs.MethodLaws.{unknown, known}
use Rattle.rack.proofs.RAckLaws.{first_bad, second_bad, third_bad, too_many, three}
use Rattle.rack.proofs.read_rack.Goals as goal
use Rattle.rack.proofs.read_rack.Goals.{After-after_word, After-method_of, After-read_u32, After-read_u32-2}

-- the readings, by the words of the value
first : (c : After-read_u32) → c.read_u32.result ≡ number_from (read_number 32 (word_at 0 c.args.value.now))
first c = c.read_u32.ensures ∙ ap (λ s. number_from (read_number 32 s)) c.word.ensures

second : (c : After-read_u32-2) → c.read_u32-2.result ≡ number_from (read_number 32 (word_at 1 c.args.value.now))
second c = c.read_u32-2.ensures ∙ ap (λ s. number_from (read_number 32 s)) (c.word-2.ensures ∙ next_word _ _ 0 c.after_word-second.ensures)

third : (c : After-method_of) → c.method_of.result ≡ method_from (method_of (word_at 2 c.args.value.now))
third c = c.method_of.ensures ∙ ap (λ s. method_from (method_of s)) (c.word-3.ensures ∙ next_word _ _ 0 c.after_word-third.ensures ∙ next_word _ _ 1 c.after_word-second.ensures)

-- what is left after the third word
left : (c : After-after_word) → words c.after_word.result.now ≡ drop 3 (words c.args.value.now)
left c = after_three _ _ _ _ c.after_word-second.ensures c.after_word-third.ensures c.after_word.ensures

pub returns-in_default : goal.returns-in_default
returns-in_default c = ap rack_from (sym (first_bad _ (unreadable _ (first (goal.at.returns-in_default c).After-read_u32) c.in_default.is)))

pub returns-in_default-read_u32 : goal.returns-in_default-read_u32
returns-in_default-read_u32 c = ap rack_from (sym (second_bad _ (unreadable _ (second (goal.at.returns-in_default-read_u32 c).After-read_u32-2) c.in_default-read_u32.is)))

pub returns-in_err-method : goal.returns-in_err-method
returns-in_err-method c = c.from_residual.ensures ∙ ap rack_from (sym (third_bad _ (unknown _ (third (goal.at.returns-in_err-method c).After-method_of) c.in_err-method.was)))

pub returns-then-fourth-ne0 : goal.returns-then-fourth-ne0
returns-then-fourth-ne0 c = ap rack_from (sym (too_many _ _ (left (goal.at.returns-then-fourth-ne0 c).After-after_word) (some_word _ _ _ c.first_word-fourth.ensures.value (λ e. omega arith))))

pub returns : goal.returns
returns c =
    ap rack_from (sym (three _ _ (left (goal.at.returns c).After-after_word) (readable _ (first (goal.at.returns c).After-read_u32) c.in-Some.is) (readable _ (second (goal.at.returns c).After-read_u32-2) c.in-Some-read_u32.is) (known _ (third (goal.at.returns c).After-method_of) c.in_ok-method.was) (no_word _ _ _ c.first_word-fourth.ensures.value (omega arith))))
