-- Document 02, request 12, "Who sets the interval": one offer of a session interval (RFC 4028) as a contest of two sides, in whole seconds. The caller picks a
-- request R and a Min-SE M, and the callee, who knows them, its minimum and preference. What the callee answers is what the negotiation
-- gives (`negotiated`, session_timer_manager/specs/Intervals.antt): there is no rule of an interval in this file. After 13 the caller tries
-- once more, with the minimum that came with it.
--
-- Seconds and nanoseconds. `negotiated` compares its numbers and answers one of them, so that it takes any unit if all have the same. Here they are
-- seconds; `negotiate_session_expires` is given nanoseconds. `in_nanoseconds` (proofs/Units.antt) says that the two agree on whole seconds, by `in_nanos`.
--
-- 90 and 86,400 are `min_expires` and `max_expires` of the limits L.
use Rattle.std.specs.Prelude.{ℕ, ◌≤◌, ◌≡◌, ◌⊎◌, Bool, true, false, cond, ltb, Err, None, Ok, Option, Result, Some}
use Rattle.limits.specs.Limits.{LimitSet}
use Rattle.limits.specs.Outcome.{cause_if, or_else, number_in}
use Rattle.limits.specs.Refusal.{least_of}
use Rattle.limits.specs.declared.Refusal.{Refusal}
use Rattle.limits.specs.declared.Refusal.TheVariants.{SessionExpiresTooSmall, SessionExpiresTooLarge}
use Rattle.session_timer_manager.specs.Intervals.{seconds, negotiated}

-- ---- what each side picks

-- the caller's request R and its Min-SE M
pub record Offer : Type 0 where
  pub requested : ℕ
  pub min_se : ℕ

-- "with 90 ≤ M ≤ R ≤ 86,400"
pub record Within (L : LimitSet) (offer : Offer) : Type 0 where
  pub least : L.min_expires ≤ offer.min_se
  pub between : offer.min_se ≤ offer.requested
  pub most : offer.requested ≤ L.max_expires

-- the callee's minimum and preference
pub record Callee : Type 0 where
  pub minimum : ℕ
  pub preference : ℕ

-- "at least 90 s": each of the two
pub record Permitted (L : LimitSet) (callee : Callee) : Type 0 where
  pub minimum_least : L.min_expires ≤ callee.minimum
  pub preference_least : L.min_expires ≤ callee.preference

-- ---- what the callee answers

-- the negotiation's answer; it is the callee who negotiates, so that its minimum is the local one and M that of the peer
abbrev pub answer : Offer → Callee → Result ℕ Refusal
answer offer callee = negotiated offer.requested callee.minimum (Some offer.min_se) (Some callee.preference)

-- it is an interval from M to R
abbrev pub Agrees : Offer → Callee → Type 0
Agrees offer callee = (interval : ℕ) × (answer offer callee ≡ Ok interval) × (offer.min_se ≤ interval) × (interval ≤ offer.requested)

-- it is 13 with the callee's minimum
abbrev pub TurnsBack : Offer → Callee → Type 0
TurnsBack offer callee = answer offer callee ≡ Err (SessionExpiresTooSmall callee.minimum)

-- "the returned minimum as both R and M"; "a minimum above 86,400 ends without an interval"
abbrev pub offer_with : LimitSet → Option ℕ → Option Offer
offer_with L None = None
offer_with L (Some minimum) = cond (ltb L.max_expires minimum) None (Some (record { requested = minimum; min_se = minimum }))

-- the offer of the retry: there is one after 13, the only refusal that returns a minimum, and none after an interval
abbrev pub retry_offer : LimitSet → Result ℕ Refusal → Option Offer
retry_offer L (Ok interval) = None
retry_offer L (Err cause) = offer_with L (least_of cause)

-- the two answers that the callee may be asked for: "the retry after 13, one only"
pub data Turn : Type 0 where
  first_answer : Turn
  retry_answer : Turn

abbrev pub answer_to : Option Offer → Callee → Option (Result ℕ Refusal)
answer_to None callee = None
answer_to (Some offer) callee = Some (answer offer callee)

-- the answer at a turn, or none where the contest ends before it; the retry is "against an unchanged callee"
abbrev pub answer_at : LimitSet → Turn → Offer → Callee → Option (Result ℕ Refusal)
answer_at L first_answer offer callee = Some (answer offer callee)
answer_at L retry_answer offer callee = answer_to (retry_offer L (answer offer callee)) callee

-- ---- how the contest ends

abbrev pub interval_of : Option (Result ℕ Refusal) → Option ℕ
interval_of None = None
interval_of (Some (Err cause)) = None
interval_of (Some (Ok interval)) = Some interval

abbrev pub or_then : Option ℕ → Option ℕ → Option ℕ
or_then None second = second
or_then (Some interval) second = Some interval

-- with the interval of the first answer, or else with that of the retry's, or else without one: no third answer is asked for
abbrev pub ending : LimitSet → Offer → Callee → Option ℕ
ending L offer callee = or_then (interval_of (answer_at L first_answer offer callee)) (interval_of (answer_at L retry_answer offer callee))

-- ---- what the callee can force

-- some callee makes this interval the answer
abbrev pub Forces : LimitSet → Turn → Offer → ℕ → Type 0
Forces L turn offer interval = (callee : Callee) × Permitted L callee × (answer_at L turn offer callee ≡ Some (Ok interval))

-- the least and the most of some numbers
pub record Extent : Type 0 where
  pub least : ℕ
  pub most : ℕ

-- the extent of the numbers that have a property: its two ends have it, and no number outside; or none where no number has it
abbrev pub ExtentOf : (ℕ → Type 0) → Option Extent → Type 0
ExtentOf Has None = (n : ℕ) → Has n → ⊥
ExtentOf Has (Some e) = Has e.least × Has e.most × ((n : ℕ) → Has n → (e.least ≤ n) × (n ≤ e.most))

-- "the caller has left it only R or 13": whatever callee answers first, it is one of the two
abbrev pub OnlyRequested : LimitSet → Offer → Type 0
OnlyRequested L offer = (callee : Callee) → Permitted L callee → (answer offer callee ≡ Ok offer.requested) ⊎ (number_in (answer offer callee) ≡ 13)

-- yes exactly where it is so
abbrev pub Says : Bool → Type 0 → Type 0
Says true It = It
Says false It = It → ⊥

-- ---- what is answered for R and M

-- "M below 90 gives 13 with 90, otherwise R below M gives 13 with M, otherwise R above 86,400 gives 14"
abbrev pub offer_cause : LimitSet → Offer → Option Refusal
offer_cause L offer =
    or_else (cause_if (ltb offer.min_se L.min_expires) (SessionExpiresTooSmall L.min_expires))
    (or_else (cause_if (ltb offer.requested offer.min_se) (SessionExpiresTooSmall offer.min_se)) (cause_if (ltb L.max_expires offer.requested) SessionExpiresTooLarge))

-- "the least and most interval the callee can force, at the first answer and at the retry's, each or none, and whether the
-- caller has left it only R or 13"
pub record Power : Type 0 where
  pub first : Option Extent
  pub retry : Option Extent
  pub only_requested : Bool

pub record PowerOver (L : LimitSet) (offer : Offer) (power : Power) : Type 0 where
  pub first_is : ExtentOf (Forces L first_answer offer) power.first
  pub retry_is : ExtentOf (Forces L retry_answer offer) power.retry
  pub only_is : Says power.only_requested (OnlyRequested L offer)

-- refused by the first cause that is true, or what the callee can force
abbrev pub Settles : LimitSet → Offer → Result Power Refusal → Type 0
Settles L offer (Err cause) = offer_cause L offer ≡ Some cause
Settles L offer (Ok power) = (offer_cause L offer ≡ None) × PowerOver L offer power

-- ---- seconds and nanoseconds

-- an answer in seconds as one in nanoseconds: the interval, or the minimum that is returned
abbrev pub refused_in : Option ℕ → Refusal → Result ℕ Refusal
refused_in None cause = Err cause
refused_in (Some minimum) cause = Err (SessionExpiresTooSmall (seconds minimum))

abbrev pub in_nanos : Result ℕ Refusal → Result ℕ Refusal
in_nanos (Ok interval) = Ok (seconds interval)
in_nanos (Err cause) = refused_in (least_of cause) cause
