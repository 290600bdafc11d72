-- What the check of a text's length says of the text. Assumes nothing.
use native.Mathlib.Omega.{arith}
use mathlib.Core.Path.{◌≡◌, refl, sym}
use mathlib.Core.Bool.{Bool, true, false}
use mathlib.Core.List.{List}
use Prim.Native.Nat.{ℕ}
use Rattle.std.specs.Prelude.{Err, None, Ok, Some}
use Rattle.limits.specs.Limits.{LimitSet}
use Rattle.limits.specs.Outcome.{check_of, cause_if}
use Rattle.limits.specs.declared.Refusal.{Refusal}
use Rattle.limits.specs.declared.Refusal.TheVariants.{TextTooLong}
use Rattle.limits.proofs.Laws.{passed, stopped}
use Rattle.text.specs.Answers.{too_long, length_cause}

module _ (L : LimitSet) (s : List ℕ) where
  -- a text that passed is not too long
  pub length_passed : check_of (length_cause L s) ≡ Ok tt → too_long L s ≡ false
  length_passed e = by (too_long L s) (passed (length_cause L s) e)
    where
      by : (t : Bool) → cause_if t TextTooLong ≡ None → t ≡ false
      by false q = refl
      by true q = absurd (let z : ◌≡◌ {A = ℕ} 0 1 = cc in omega arith)

  -- one that did not is too long, and its cause is 1
  pub length_stopped : {cause : Refusal} → check_of (length_cause L s) ≡ Err cause → (too_long L s ≡ true) × (cause ≡ TextTooLong)
  length_stopped {cause} e = by (too_long L s) (stopped (length_cause L s) e)
    where
      by : (t : Bool) → cause_if t TextTooLong ≡ Some cause → (t ≡ true) × (cause ≡ TextTooLong)
      by true q = (refl, let r : TextTooLong ≡ cause = cc in sym r)
      by false q = absurd (let z : ◌≡◌ {A = ℕ} 0 1 = cc in omega arith)
