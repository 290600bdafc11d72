-- The check of a session interval in whole seconds: lib.rs's own `validate_session_expires`, a step of creation and of `set_session_expires`.
-- RFC 4028, sections 4 and 5: an interval is at least 90 s. A departure of the Rust, kept: it is at most 86,400 s, where the RFC has no such limit.
use Rattle.std.specs.Prelude.{ℕ, ltb, Ok, Option, Result}
use Rattle.limits.specs.Limits.{LimitSet}
use Rattle.limits.specs.Outcome.{cause_if, or_else, refuse_by}
use Rattle.limits.specs.declared.Refusal.{Refusal}
use Rattle.limits.specs.declared.Refusal.TheVariants.{SessionExpiresTooSmall, SessionExpiresTooLarge}

-- 13 with the least, then 14; in seconds. The Rust cuts them to 32 bits first, here every number over the most is refused (document 01)
abbrev pub seconds_cause : LimitSet → ℕ → Option Refusal
seconds_cause limits expires =
    or_else (cause_if (ltb expires limits.min_expires) (SessionExpiresTooSmall limits.min_expires))
    (cause_if (ltb limits.max_expires expires) SessionExpiresTooLarge)

unfoldable pub checked_seconds : LimitSet → ℕ → Result ℕ Refusal
checked_seconds limits expires = refuse_by (seconds_cause limits expires) (Ok expires)
