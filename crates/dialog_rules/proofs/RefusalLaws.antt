-- What a call that was not refused has passed. Assumes nothing.
use Prim.Native.Nat.{ℕ}
use native.Mathlib.Omega.{arith}
use mathlib.Core.Path.{◌≡◌, refl, ap}
use mathlib.Core.Bool.{Bool, true, false}
use Rattle.std.specs.Prelude.{Err, None, Ok, Option, Result, Some}
use Rattle.limits.specs.Outcome.{cause_if, or_else, refuse_by, refuse_if, and_then, or_refuse}
use Rattle.limits.specs.declared.Refusal.{Refusal}
use Rattle.dialog_rules.proofs.StepLaws.{given_same, never_given}

-- a test that refuses did not hold
pub passed_test : {A : Type 0} (t : Bool) (cause : Refusal) (o : Result A Refusal) {a : A} → refuse_if t cause o ≡ Ok a → t ≡ false
passed_test true cause o e = absurd (never_given e)
passed_test false cause o e = refl

-- there was no cause, and what follows was given
pub passed_cause : {A : Type 0} (c : Option Refusal) (o : Result A Refusal) {a : A} → refuse_by c o ≡ Ok a → (c ≡ None) × (o ≡ Ok a)
passed_cause None o e = (refl, e)
passed_cause (Some cause) o e = absurd (never_given e)

-- neither of two causes
pub no_causes : (c d : Option Refusal) → or_else c d ≡ None → (c ≡ None) × (d ≡ None)
no_causes None d e = (refl, e)
no_causes (Some cause) d e = absurd (let z : ◌≡◌ {A = ℕ} 0 1 = cc in omega arith)

-- no cause where the test does not hold
pub no_cause : (t : Bool) (cause : Refusal) → cause_if t cause ≡ None → t ≡ false
no_cause true cause e = absurd (let z : ◌≡◌ {A = ℕ} 0 1 = cc in omega arith)
no_cause false cause e = refl

-- the first reading gave what the second went on from
pub both_given : {A B : Type 0} (o : Result A Refusal) (f : A → Result B Refusal) {b : B} → and_then o f ≡ Ok b → (a : A) × (o ≡ Ok a) × (f a ≡ Ok b)
both_given (Err cause) f e = absurd (never_given e)
both_given (Ok a) f e = (a, refl, e)

-- something was read
pub was_read : {A : Type 0} (cause : Refusal) (o : Option A) {a : A} → or_refuse cause o ≡ Ok a → o ≡ Some a
was_read cause None e = absurd (never_given e)
was_read cause (Some b) e = ap Some (given_same e)
