-- RFC 4028: the session interval. Times are whole nanoseconds, so a half and a third round down (document 01, "Intervals,
-- PRACK, RSeq"); a definition says so where it counts seconds.
--
-- From the RFC:
--   sections 4 and 5: an interval is at least the minimum (Min-SE), which is 90 s where none is given;
--   sections 6 and 9: one that is below the answering side's own minimum may be refused with it (422); one that is taken may be
--   reduced by that side, but not below the request's minimum (90 s where it gives none), and is never raised;
--   sections 7.2 and 9: a refresh is recommended at the half; section 10: the side that does not refresh gives the session up
--   before it expires, by 32 s or by a third of the interval, whichever is less.
-- Departures of the Rust, kept:
--   a given minimum stands for the 90 s even where it is smaller;
--   the negotiation has no 90 s: where the peer gives no minimum, the local one alone counts;
--   the negotiation refuses what is below the larger of both sides' minima, and with that one;
--   `Dialog::needs_refresh` waits for two thirds of the interval, not for the half.
-- The check of an interval that is set, or that creation reads, is in session_seconds/specs/Seconds.antt.
use Rattle.limits.specs.declared.Refusal.{Refusal}
use Rattle.std.specs.Prelude.{ℕ, ◌-◌, ◌*◌, ◌/◌, min, max, Bool, false, leb, ltb, None, Ok, Option, Result, Some}
use Rattle.limits.specs.Limits.{LimitSet}
use Rattle.limits.specs.Outcome.{refuse_if}
use Rattle.limits.specs.declared.Refusal.TheVariants.{SessionExpiresTooSmall}

-- seconds as nanoseconds
abbrev pub seconds : ℕ → ℕ
seconds n = n * 1000000000

-- refused with the minimum where the interval is below it; minimum and interval are both nanoseconds, or both seconds
abbrev pub refuse_short : ℕ → ℕ → Result ℕ Refusal → Result ℕ Refusal
refuse_short minimum interval rest = refuse_if (ltb interval minimum) (SessionExpiresTooSmall minimum) rest

-- ---- validate_session_expires

-- the minimum that holds: the given one, or else the 90 s
abbrev pub minimum_or_default : LimitSet → Option ℕ → ℕ
minimum_or_default limits None = seconds limits.min_expires
minimum_or_default limits (Some minimum) = minimum

unfoldable pub validated : LimitSet → ℕ → Option ℕ → Result ℕ Refusal
validated limits interval minimum = refuse_short (minimum_or_default limits minimum) interval (Ok interval)

-- ---- negotiate_session_expires

-- the larger of both sides' minima
abbrev pub joint_minimum : ℕ → Option ℕ → ℕ
joint_minimum local None = local
joint_minimum local (Some remote) = max local remote

-- the requested interval, reduced to the preference if that is smaller, but not below the minimum
abbrev pub reduced : ℕ → ℕ → Option ℕ → ℕ
reduced minimum requested None = requested
reduced minimum requested (Some preference) = min requested (max preference minimum)

-- what is agreed on under one minimum for both sides
abbrev pub negotiated_from : ℕ → ℕ → Option ℕ → Result ℕ Refusal
negotiated_from minimum requested preference = refuse_short minimum requested (Ok (reduced minimum requested preference))

unfoldable pub negotiated : ℕ → ℕ → Option ℕ → Option ℕ → Result ℕ Refusal
negotiated requested local remote preference = negotiated_from (joint_minimum local remote) requested preference

-- ---- non_refresher_expiry, calculate_refresh_time

abbrev pub non_refresher_expiry : ℕ → ℕ
non_refresher_expiry interval = interval - min (seconds 32) (interval / 3)

abbrev pub refresh_time : ℕ → ℕ
refresh_time interval = interval / 2

-- ---- needs_refresh

-- whether two thirds of an interval of so many seconds have passed; without an interval, no
abbrev pub refresh_due : Option ℕ → ℕ → Bool
refresh_due None elapsed = false
refresh_due (Some expires) elapsed = leb (seconds expires * 2 / 3) elapsed
