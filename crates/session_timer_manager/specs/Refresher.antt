-- RFC 4028, sections 7 and 9: which side refreshes the session, by the refresher parameter of Session-Expires.
-- Departures of the Rust, kept: it knows the four texts `uac`, `UAC`, `uas` and `UAS` alone, where the RFC ignores letter
-- case, so `Uas` is as good as no parameter; and without a parameter it is the caller (uac) who refreshes, where the RFC
-- leaves the choice to the side that answers.
use Rattle.limits.specs.declared.Refusal.{Refusal}
use Rattle.std.specs.Prelude.{ℕ, Bool, cond, not, ◌||◌, List, [], ◌∷◌, length, ltb, None, Ok, Option, Result, Some}
use Rattle.limits.specs.Limits.{LimitSet}
use Rattle.limits.specs.Outcome.{refuse_if}
use Rattle.limits.specs.declared.Refusal.TheVariants.{TextTooLong}
use Rattle.text.specs.Text.{equal}

-- exactly `uas` or `UAS`
abbrev pub is_uas : List ℕ → Bool
is_uas param = equal param (117 ∷ 97 ∷ 115 ∷ []) || equal param (85 ∷ 65 ∷ 83 ∷ [])

-- whether we refresh, who are uac or not: the uas refreshes where the parameter says so, the uac in every other case
abbrev pub we_refresh : List ℕ → Bool → Bool
we_refresh param we_are_uac = cond (is_uas param) (not we_are_uac) we_are_uac

-- a text that is not there is not measured
unfoldable pub refresher_role : LimitSet → Option (List ℕ) → Bool → Result Bool Refusal
refresher_role limits None we_are_uac = Ok we_are_uac
refresher_role limits (Some param) we_are_uac = refuse_if (ltb limits.text (length param)) TextTooLong (Ok (we_refresh param we_are_uac))
