-- What the answer of a check says of its cause, and that no refusal has the number 0, which says that a call was accepted.
-- Assumes nothing.
use Prim.Native.Nat.{ℕ, ◌<◌}
use native.Mathlib.Omega.{arith}
use mathlib.Core.Path.{◌≡◌, refl, ap}
use Rattle.std.specs.Prelude.{Err, None, Ok, Option, Result, Some}
use Rattle.limits.specs.Outcome.{check_of}
use Rattle.limits.specs.Refusal.{number_of}
use Rattle.limits.specs.declared.Refusal.{Refusal}
use Rattle.limits.specs.declared.Refusal.TheVariants.{TextTooLong, Malformed, BadStore, MissingHeader, InvalidStatus, InvalidUri, UriTooLong, RouteSetTooLarge, CSeqZero, CSeqTooLarge, InvalidCSeq, CSeqJumpTooLarge, SessionExpiresTooSmall, SessionExpiresTooLarge, NotFound, TooManyDialogs, TooManyEarlyDialogs, NoRoom, InvalidRAck, NoPendingList, UnknownRSeq, RAckCSeqMismatch, RAckMethodMismatch, DuplicatePrack, IdentifierEmpty, IdentifierTooLong, ControlCharacters, InvalidMethod, SettingOutOfBounds}

pub number_positive : (cause : Refusal) → 0 < number_of cause
number_positive TextTooLong = omega arith
number_positive Malformed = omega arith
number_positive BadStore = omega arith
number_positive MissingHeader = omega arith
number_positive InvalidStatus = omega arith
number_positive InvalidUri = omega arith
number_positive UriTooLong = omega arith
number_positive RouteSetTooLarge = omega arith
number_positive CSeqZero = omega arith
number_positive CSeqTooLarge = omega arith
number_positive InvalidCSeq = omega arith
number_positive CSeqJumpTooLarge = omega arith
number_positive (SessionExpiresTooSmall least) = omega arith
number_positive SessionExpiresTooLarge = omega arith
number_positive NotFound = omega arith
number_positive TooManyDialogs = omega arith
number_positive TooManyEarlyDialogs = omega arith
number_positive NoRoom = omega arith
number_positive InvalidRAck = omega arith
number_positive NoPendingList = omega arith
number_positive UnknownRSeq = omega arith
number_positive RAckCSeqMismatch = omega arith
number_positive RAckMethodMismatch = omega arith
number_positive DuplicatePrack = omega arith
number_positive IdentifierEmpty = omega arith
number_positive IdentifierTooLong = omega arith
number_positive ControlCharacters = omega arith
number_positive InvalidMethod = omega arith
number_positive SettingOutOfBounds = omega arith

-- a check that was passed has no cause
pub passed : (o : Option Refusal) → check_of o ≡ Ok tt → o ≡ None
passed None e = refl
passed (Some cause) e = absurd (let z : ◌≡◌ {A = ℕ} 0 1 = cc in omega arith)

-- one that was not has the cause that it answers
pub stopped : (o : Option Refusal) {cause : Refusal} → check_of o ≡ Err cause → o ≡ Some cause
stopped None e = absurd (let z : ◌≡◌ {A = ℕ} 0 1 = cc in omega arith)
stopped (Some own) e = cc

-- ---- pairs in an answer

-- the parts of two pairs that are the same
pub pair_parts : {A B : Type 0} {p q : A × B} → p ≡ q → (p.0 ≡ q.0) × (p.1 ≡ q.1)
pair_parts {A} {B} e = (ap (λ (p : A × B). p.0) e, ap (λ (p : A × B). p.1) e)

-- the parts of a pair that was found, or that was answered
pub some_pair : {A B : Type 0} {p q : A × B} → Some p ≡ Some q → (p.0 ≡ q.0) × (p.1 ≡ q.1)
some_pair {A} {B} {p} {q} e = let same : p ≡ q = cc in pair_parts same

pub ok_pair : {A B E : Type 0} {p q : A × B} → ◌≡◌ {A = Result (A × B) E} (Ok p) (Ok q) → (p.0 ≡ q.0) × (p.1 ≡ q.1)
ok_pair {A} {B} {E} {p} {q} e = let same : p ≡ q = cc in pair_parts same
