-- What the operations of `rseq_manager` promise is what a C caller is to be handed. Assumes nothing.
use Prim.Native.Nat.{ℕ}
use mathlib.Core.Path.{◌≡◌, refl, ap, ◌∙◌}
use mathlib.Core.Bool.{Bool, true, false, cond}
use lib.Dec.{eqb}
use Rattle.std.specs.Prelude.{Err, Ok, Result}
use Rattle.std.specs.Int.{from_bool}
use Rattle.limits.specs.Outcome.{number_in}
use Rattle.limits.specs.declared.Refusal.{Refusal}
use Rattle.rseq_manager.specs.Answers.{counted_of, empty_of, emptiness}
use Rattle.c_answers.specs.Given.{value_after, flag_after}

-- readings: the answer handed over

pub counted_number_lem : (a : Result ℕ Refusal) → number_in (counted_of a) ≡ number_in a
counted_number_lem (Err cause) = refl
counted_number_lem (Ok n) = refl

counted_value : (a : Result ℕ Refusal) (old : ℕ) → value_after (counted_of a) old ≡ value_after a old
counted_value (Err cause) old = refl
counted_value (Ok n) old = refl

pub empty_number : (a : Result ℕ Refusal) → number_in (empty_of a) ≡ number_in a
empty_number (Err cause) = refl
empty_number (Ok n) = refl

-- 1 or 0
empty_value : (a : Result ℕ Refusal) (old : ℕ) → flag_after (empty_of a) old ≡ value_after (emptiness a) old
empty_value (Err cause) old = refl
empty_value (Ok n) old = by (eqb n 0)
  where
    by : (t : Bool) → from_bool t ≡ cond t 1 0
    by true = refl
    by false = refl

-- each value as it is handed over

pub counted_given : (a : Result ℕ Refusal) (w : Result ℕ Refusal) (old left : ℕ) → w ≡ counted_of a → left ≡ value_after w old → left ≡ value_after a old
counted_given a w old left e g = g ∙ (ap (λ (x : Result ℕ Refusal). value_after x old) e ∙ counted_value a old)

pub empty_given : (a : Result ℕ Refusal) (w : Result Bool Refusal) (old left : ℕ) → w ≡ empty_of a → left ≡ flag_after w old → left ≡ value_after (emptiness a) old
empty_given a w old left e g = g ∙ (ap (λ (x : Result Bool Refusal). flag_after x old) e ∙ empty_value a old)
