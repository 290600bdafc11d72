-- What a step of the numbers keeps. Assumes nothing.
use Prim.Native.Nat.{ℕ, ◌≤◌, ◌-◌}
use native.Mathlib.Omega.{arith}
use mathlib.Core.Path.{◌≡◌, refl, subst}
use mathlib.Core.Bool.{Bool, true, false, cond, not, ◌||◌}
use lib.Dec.{leb, ltb, eqb}
use Rattle.std.specs.Prelude.{Err, Ok, Result}
use Rattle.limits.specs.Limits.{LimitSet}
use Rattle.limits.specs.Outcome.{refuse_if}
use Rattle.limits.specs.declared.Refusal.{Refusal}
use Rattle.limits.specs.declared.Refusal.TheVariants.{CSeqZero, CSeqTooLarge, InvalidCSeq, CSeqJumpTooLarge}
use Rattle.record.specs.Record.{State, early, confirmed, terminated, Numbers}
use Rattle.record.specs.Rules.{Kind, ack, other, with_remote, with_ack, increment, other_step, ack_step, step_of, request_step, confirmed_state}

pub given_same : {A : Type 0} {a b : A} → ◌≡◌ {A = Result A Refusal} (Ok a) (Ok b) → a ≡ b
given_same e = cc

pub never_given : {A : Type 0} {cause : Refusal} {a : A} → ◌≡◌ {A = Result A Refusal} (Err cause) (Ok a) → ⊥
never_given e = let z : ◌≡◌ {A = ℕ} 0 1 = cc in omega arith

-- what passes a test that refuses
pub past_test : {A : Type 0} (t : Bool) (cause : Refusal) (o : Result A Refusal) {a : A} → refuse_if t cause o ≡ Ok a → o ≡ Ok a
past_test true cause o e = absurd (never_given e)
past_test false cause o e = e

-- ---- requests

-- a taken request changes the remote number or the last ACK alone
pub data Taken (n : ℕ) (x : Numbers) : Numbers → Type 0 where
  moved : Taken n x (with_remote n x)
  acknowledged : Taken n x (with_ack n x)

increment_taken : (L : LimitSet) (n : ℕ) (x y : Numbers) → increment L n x ≡ Ok y → Taken n x y
increment_taken L n x y e =
    let jump = refuse_if (ltb L.cseq_jump (n - x.remote)) CSeqJumpTooLarge (Ok (with_remote n x)) in
    subst (Taken n x) (given_same (past_test (ltb L.cseq_jump (n - x.remote)) CSeqJumpTooLarge (Ok (with_remote n x)) (past_test (leb n x.remote) InvalidCSeq jump e))) moved

other_taken : (L : LimitSet) (n : ℕ) (x y : Numbers) → other_step L n x ≡ Ok y → Taken n x y
other_taken L n x y e = by (eqb x.remote 0) refl
  where
    q : cond (eqb x.remote 0) (Ok (with_remote n x)) (increment L n x) ≡ Ok y
    q = past_test (ltb L.cseq n) CSeqTooLarge (cond (eqb x.remote 0) (Ok (with_remote n x)) (increment L n x)) e

    by : (t : Bool) → eqb x.remote 0 ≡ t → Taken n x y
    by true t = subst (Taken n x) (given_same (rw t at q)) moved
    by false t = increment_taken L n x y (rw t at q)

ack_taken : (n : ℕ) (x y : Numbers) → ack_step n x ≡ Ok y → Taken n x y
ack_taken n x y e = subst (Taken n x) (given_same (past_test (not (eqb n x.remote) || eqb x.remote 0) InvalidCSeq (Ok (with_ack n x)) e)) acknowledged

step_taken : (L : LimitSet) (kind : Kind) (n : ℕ) (x y : Numbers) → step_of L kind n x ≡ Ok y → Taken n x y
step_taken L ack n x y e = ack_taken n x y e
step_taken L other n x y e = other_taken L n x y e

pub taken : (L : LimitSet) (kind : Kind) (n : ℕ) (x y : Numbers) → request_step L kind n x ≡ Ok y → Taken n x y
unfolding request_step
taken L kind n x y e = step_taken L kind n x y (past_test (eqb n 0) CSeqZero (step_of L kind n x) e)

-- ---- states

-- Early, Confirmed, Terminated, in this order (document 01, "The book of demand 3": "States go on from Early to Confirmed to Terminated")
abbrev pub rank : State → ℕ
rank early = 0
rank confirmed = 1
rank terminated = 2

pub confirm_on : (s : State) → rank s ≤ rank (confirmed_state s)
confirm_on early = omega arith
confirm_on confirmed = omega arith
confirm_on terminated = omega arith

pub terminate_on : (s : State) → rank s ≤ 2
terminate_on early = omega arith
terminate_on confirmed = omega arith
terminate_on terminated = omega arith
