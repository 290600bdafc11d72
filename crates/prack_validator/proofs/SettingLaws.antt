-- A call with a site's settings: within their bounds it is the call under their limits, outside them it is refused by 30 and keeps all. Assumes nothing.
use Prim.Native.Nat.{ℕ}
use mathlib.Core.Path.{◌≡◌, refl, ap}
use mathlib.Core.Bool.{Bool, true, false, cond, not}
use mathlib.Core.List.{List}
use Rattle.std.specs.Prelude.{Err}
use Rattle.limits.specs.Outcome.{cause_if, or_else}
use Rattle.limits.specs.Settings.{in_bounds, limits_in, settings_cause}
use Rattle.limits.specs.declared.Refusal.TheVariants.{SettingOutOfBounds}
use Rattle.limits.specs.declared.settings.Settings.{Settings}
use Rattle.ordered_store.specs.Run.{Left, leave, verdict, run}
use Rattle.prack_body.specs.Layout.{tracked_form}
use Rattle.prack_entries.specs.Entries.{key_of}
use Rattle.prack_validator.specs.Validator.{Action, Value, action_cause, judge, ran, ran_with}

module _ (s : Settings) (a : Action) (bytes : List ℕ) (used : ℕ) where
  abbrev kept : Left Value
  kept = leave (tracked_form (limits_in s)) bytes used (Err SettingOutOfBounds)

  abbrev with_test : Bool → Left Value
  with_test t = cond t (ran (limits_in s) a bytes used) kept

  pub ran_within : in_bounds s ≡ true → ran_with s a bytes used ≡ ran (limits_in s) a bytes used
  ran_within p = ap with_test p

  pub ran_outside : in_bounds s ≡ false → ran_with s a bytes used ≡ kept
  ran_outside p = ap with_test p

  -- 30 is the first of the arguments' causes
  pub first_cause : ran_with s a bytes used ≡ run (tracked_form (limits_in s)) key_of (or_else (settings_cause s) (action_cause (limits_in s) a)) (judge (limits_in s) a) bytes used
  unfolding run verdict
  first_cause = by (in_bounds s)
    where
      by : (t : Bool) → with_test t ≡ run (tracked_form (limits_in s)) key_of (or_else (cause_if (not t) SettingOutOfBounds) (action_cause (limits_in s) a)) (judge (limits_in s) a) bytes used
      by true = refl
      by false = refl
