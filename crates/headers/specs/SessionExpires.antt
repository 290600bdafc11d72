-- The Session-Expires value (RFC 4028 section 4), as document 01, "Response", has its stand-in for `parse_session_expires`:
-- "digits fitting u32 before the first `;`, then the first `;` part that is `refresher=` with `uac` or `uas`, case ignored,
-- else none; parts are trimmed". RFC 4028 allows white space around the `=`; here it is no refresher.
use Rattle.std.specs.Prelude.{ℕ, cond, List, [], ◌∷◌, Err, None, Ok, Option, Result, Some}
use Rattle.limits.specs.Limits.{LimitSet}
use Rattle.limits.specs.Outcome.{refuse_by}
use Rattle.limits.specs.declared.Refusal.{Refusal}
use Rattle.text.specs.Text.{is, same, trimmed, split, Piece}
use Rattle.text.specs.Number.{read_digits}
use Rattle.text.specs.Answers.{value_cause}
use Rattle.msg.specs.Block.{block_cause, value_named}
use Rattle.headers.specs.declared.session_timer.Refresher.{Refresher}
use Rattle.headers.specs.declared.session_timer.Refresher.TheVariants.{Uac, Uas}

-- `refresher=uac` and `refresher=uas`
abbrev pub refresher_uac : List ℕ
refresher_uac = 114 ∷ 101 ∷ 102 ∷ 114 ∷ 101 ∷ 115 ∷ 104 ∷ 101 ∷ 114 ∷ 61 ∷ 117 ∷ 97 ∷ 99 ∷ []

abbrev pub refresher_uas : List ℕ
refresher_uas = 114 ∷ 101 ∷ 102 ∷ 114 ∷ 101 ∷ 115 ∷ 104 ∷ 101 ∷ 114 ∷ 61 ∷ 117 ∷ 97 ∷ 115 ∷ []

-- the first part that names a refresher
unfoldable pub refresher_in : List (List ℕ) → Option Refresher
refresher_in [] = None
refresher_in (p ∷ ps) = cond (same (trimmed p) refresher_uac) (Some Uac) (cond (same (trimmed p) refresher_uas) (Some Uas) (refresher_in ps))

-- an interval in seconds, and who refreshes it, if that is said
pub record Interval : Type 0 where
  pub seconds : ℕ
  pub refresher : Option Refresher

abbrev pub with_refresher : Option ℕ → List (List ℕ) → Option Interval
with_refresher None ps = None
with_refresher (Some n) ps = Some (record { seconds = n; refresher = refresher_in ps })

abbrev pub interval_in : List (List ℕ) → Option Interval
interval_in [] = None
interval_in (p ∷ ps) = with_refresher (read_digits 32 (trimmed p)) ps

-- the interval of a value, if it is readable
unfoldable pub session_expires : List ℕ → Option Interval
session_expires v = interval_in (split (is 59) v)

-- `Session-Expires`
abbrev pub expires_name : List ℕ
expires_name = 83 ∷ 101 ∷ 115 ∷ 115 ∷ 105 ∷ 111 ∷ 110 ∷ 45 ∷ 69 ∷ 120 ∷ 112 ∷ 105 ∷ 114 ∷ 101 ∷ 115 ∷ []

abbrev pub interval_of : Option Piece → Option Interval
interval_of None = None
interval_of (Some v) = session_expires v.text

-- the interval of a block, if it has a readable one (the Rust's `extract_session_timer`)
unfoldable pub expires_named : List ℕ → Option Interval
expires_named block = interval_of (value_named expires_name block)

-- 1, 2: of a value, and of a block
unfoldable pub parse_expires : LimitSet → List ℕ → Result (Option Interval) Refusal
parse_expires L v = refuse_by (value_cause L v) (Ok (session_expires v))

unfoldable pub block_expires : LimitSet → List ℕ → Result (Option Interval) Refusal
block_expires L block = refuse_by (block_cause L block) (Ok (expires_named block))

-- ---- the answers, case by case

abbrev pub expires_from : Option Interval → Option (ℕ × Option Refresher)
expires_from None = None
expires_from (Some i) = Some (i.seconds, i.refresher)

abbrev pub expires_answer : Result (Option Interval) Refusal → Result (Option (ℕ × Option Refresher)) Refusal
expires_answer (Err cause) = Err cause
expires_answer (Ok None) = Ok None
expires_answer (Ok (Some i)) = Ok (Some (i.seconds, i.refresher))
