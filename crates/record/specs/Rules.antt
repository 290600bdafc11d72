-- What a request, an ACK, a confirmation, a termination, a new local number and a new interval make of a record's numbers.
-- Document 01, "CSeq": 0 is refused; ACK must equal a non-zero remote number, and is remembered; others are at most
-- 2,147,483,647, then, if the remote number isn't 0, 1 to 1,000 above it. RFC 3261 section 12.2.2 asks only that a request's
-- number is higher; the two limits are the Rust's, the 1,000 a site's jump by document 02, request 7. Local numbers rise by one and stop at 4,294,967,295.
use Rattle.limits.specs.declared.Refusal.{Refusal}
use Rattle.std.specs.Prelude.{ℕ, ◌+◌, ◌-◌, ◌^◌, min, cond, not, ◌||◌, leb, ltb, eqb, Ok, Result, Some}
use Rattle.limits.specs.Limits.{LimitSet}
use Rattle.limits.specs.Outcome.{refuse_by, refuse_if}
use Rattle.limits.specs.declared.Refusal.TheVariants.{CSeqZero, CSeqTooLarge, InvalidCSeq, CSeqJumpTooLarge}
use Rattle.session_seconds.specs.Seconds.{seconds_cause}
use Rattle.record.specs.Record.{State, early, confirmed, terminated, Numbers}

-- ---- requests

-- ACK is exactly those letters; every other method is another
pub data Kind : Type 0 where
  ack : Kind
  other : Kind

abbrev pub with_remote : ℕ → Numbers → Numbers
with_remote n x = record { state = x.state; local = x.local; remote = n; last_ack = x.last_ack; seconds = x.seconds; refresher = x.refresher }

abbrev pub with_ack : ℕ → Numbers → Numbers
with_ack n x = record { state = x.state; local = x.local; remote = x.remote; last_ack = Some n; seconds = x.seconds; refresher = x.refresher }

-- a number above the remote one: 11, then 12
abbrev pub increment : LimitSet → ℕ → Numbers → Result Numbers Refusal
increment L n x =
    refuse_if (leb n x.remote) InvalidCSeq
    (refuse_if (ltb L.cseq_jump (n - x.remote)) CSeqJumpTooLarge (Ok (with_remote n x)))

-- any request but ACK: 10, then 11, 12
abbrev pub other_step : LimitSet → ℕ → Numbers → Result Numbers Refusal
other_step L n x = refuse_if (ltb L.cseq n) CSeqTooLarge (cond (eqb x.remote 0) (Ok (with_remote n x)) (increment L n x))

-- ACK: 11
abbrev pub ack_step : ℕ → Numbers → Result Numbers Refusal
ack_step n x = refuse_if (not (eqb n x.remote) || eqb x.remote 0) InvalidCSeq (Ok (with_ack n x))

abbrev pub step_of : LimitSet → Kind → ℕ → Numbers → Result Numbers Refusal
step_of L ack n x = ack_step n x
step_of L other n x = other_step L n x

-- 9 first of all
unfoldable pub request_step : LimitSet → Kind → ℕ → Numbers → Result Numbers Refusal
request_step L kind n x = refuse_if (eqb n 0) CSeqZero (step_of L kind n x)

-- ---- the others

abbrev pub with_state : State → Numbers → Numbers
with_state s x = record { state = s; local = x.local; remote = x.remote; last_ack = x.last_ack; seconds = x.seconds; refresher = x.refresher }

-- a 2xx confirms an Early record, and leaves every other as it is
abbrev pub confirmed_state : State → State
confirmed_state early = confirmed
confirmed_state confirmed = confirmed
confirmed_state terminated = terminated

abbrev pub confirm_step : Numbers → Numbers
confirm_step x = with_state (confirmed_state x.state) x

abbrev pub terminate_step : Numbers → Numbers
terminate_step x = with_state terminated x

abbrev pub local_step : Numbers → Numbers
local_step x = record { state = x.state; local = min (x.local + 1) (2 ^ 32 - 1); remote = x.remote; last_ack = x.last_ack; seconds = x.seconds; refresher = x.refresher }

abbrev pub with_seconds : ℕ → Numbers → Numbers
with_seconds n x = record { state = x.state; local = x.local; remote = x.remote; last_ack = x.last_ack; seconds = Some n; refresher = x.refresher }

-- 13 with the least, then 14
unfoldable pub interval_step : LimitSet → ℕ → Numbers → Result Numbers Refusal
interval_step L n x = refuse_by (seconds_cause L n) (Ok (with_seconds n x))
