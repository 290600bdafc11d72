-- Document 02, request 12. What `Settles` (Contest.antt) says of each offer, by its numbers alone. `settled` and `settled_only` (proofs/Settled.antt) say that this is
-- what settles it, and nothing else.
use Rattle.limits.specs.declared.Refusal.{Refusal}
use Rattle.std.specs.Prelude.{ℕ, ◌+◌, cond, ltb, eqb, None, Ok, Option, Result, Some}
use Rattle.limits.specs.Limits.{LimitSet}
use Rattle.limits.specs.Outcome.{refuse_by}
use Rattle.interval_contest.specs.Contest.{Offer, Extent, Power, offer_cause}

-- from M to R
abbrev pub first_extent : Offer → Option Extent
first_extent offer = Some (record { least = offer.min_se; most = offer.requested })

-- from R + 1 to 86,400, none where R is 86,400
abbrev pub retry_extent : LimitSet → ℕ → Option Extent
retry_extent L requested = cond (ltb requested L.max_expires) (Some (record { least = requested + 1; most = L.max_expires })) None

-- only R or 13 is left where M is R
abbrev pub power_of : LimitSet → Offer → Power
power_of L offer = record { first = first_extent offer; retry = retry_extent L offer.requested; only_requested = eqb offer.min_se offer.requested }

abbrev pub closed_form : LimitSet → Offer → Result Power Refusal
closed_form L offer = refuse_by (offer_cause L offer) (Ok (power_of L offer))
