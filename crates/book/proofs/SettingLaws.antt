-- A call with a site's settings: outside their bounds it is refused by 30 and keeps all; and none of the five is asked by any call but a put and a request.
-- Assumes nothing.
use Prim.Native.Nat.{ℕ}
use native.Mathlib.Omega.{arith}
use mathlib.Core.Path.{◌≡◌, refl, sym, ap, ◌∙◌}
use mathlib.Core.Bool.{Bool, true, false, cond, not}
use mathlib.Core.List.{List}
use Rattle.std.specs.Prelude.{Err}
use Rattle.limits.specs.Limits.{rust_limits}
use Rattle.limits.specs.Outcome.{cause_if, refuse_by}
use Rattle.limits.specs.Settings.{in_bounds, limits_in, settings_cause}
use Rattle.limits.specs.declared.Refusal.TheVariants.{SettingOutOfBounds}
use Rattle.limits.specs.declared.settings.Settings.{Settings}
use Rattle.msg.specs.Block.{block_cause}
use Rattle.route_set.specs.Routes.{routes_from}
use Rattle.record.specs.Rules.{interval_step}
use Rattle.dialog_rules.specs.Updates.{response_update}
use Rattle.book.specs.Calls.{Update, request, response, terminate, local_number, interval, Reading, get, find_by_request, find_by_call_id, count, all_ids, Call, put, update, remove, sweep, read}
use Rattle.book.specs.Book.{argument_cause, update_cause, reading_cause, revised, judge}
use Rattle.book.specs.History.{Permitted}
use Rattle.book.specs.Store.{Left, verdict, leave, run, run_with}

module _ (s : Settings) (c : Call) (bytes : List ℕ) (used : ℕ) where
  abbrev with_test : Bool → Left
  with_test t = cond t (run (limits_in s) c bytes used) (leave bytes used (Err SettingOutOfBounds))

  pub run_outside : in_bounds s ≡ false → run_with s c bytes used ≡ leave bytes used (Err SettingOutOfBounds)
  run_outside p = ap with_test p

  pub run_within : in_bounds s ≡ true → run_with s c bytes used ≡ run (limits_in s) c bytes used
  run_within p = ap with_test p

  -- 30 is the first cause of the verdict
  pub first_cause : run_with s c bytes used ≡ leave bytes used (refuse_by (settings_cause s) (verdict (limits_in s) c bytes used))
  unfolding run
  first_cause = by (in_bounds s)
    where
      by : (t : Bool) → with_test t ≡ leave bytes used (refuse_by (cause_if (not t) SettingOutOfBounds) (verdict (limits_in s) c bytes used))
      by true = refl
      by false = refl

-- whatever the five are, every record that an update makes has an image
pub limits_permitted : (s : Settings) → Permitted (limits_in s)
limits_permitted s = record { text = omega arith; routes = omega arith; seconds = omega arith }

-- the calls that ask for none of the five
abbrev pub UpdateAsksNone : Update → Type 0
UpdateAsksNone (request method block) = ⊥
UpdateAsksNone (response id status block) = Unit {0}
UpdateAsksNone (terminate id) = Unit {0}
UpdateAsksNone (local_number id) = Unit {0}
UpdateAsksNone (interval id n) = Unit {0}

abbrev pub AsksNone : Call → Type 0
AsksNone (put n image) = ⊥
AsksNone (update n u) = UpdateAsksNone u
AsksNone (remove n id) = Unit {0}
AsksNone (sweep n) = Unit {0}
AsksNone (read n q) = Unit {0}

module _ (s : Settings) (bytes : List ℕ) (used : ℕ) where
  same_update : (n : ℕ) (u : Update) → UpdateAsksNone u → verdict rust_limits (update n u) bytes used ≡ verdict (limits_in s) (update n u) bytes used
  unfolding verdict argument_cause update_cause block_cause judge revised response_update routes_from interval_step
  same_update n (request method block) a = absurd a
  same_update n (response id status block) a = refl
  same_update n (terminate id) a = refl
  same_update n (local_number id) a = refl
  same_update n (interval id m) a = refl

  same_reading : (n : ℕ) (q : Reading) → verdict rust_limits (read n q) bytes used ≡ verdict (limits_in s) (read n q) bytes used
  unfolding verdict argument_cause reading_cause block_cause judge
  same_reading n (get id) = refl
  same_reading n (find_by_request block) = refl
  same_reading n (find_by_call_id t) = refl
  same_reading n count = refl
  same_reading n (all_ids room) = refl

  same_verdict : (c : Call) → AsksNone c → verdict rust_limits c bytes used ≡ verdict (limits_in s) c bytes used
  unfolding verdict argument_cause judge
  same_verdict (put n image) a = absurd a
  same_verdict (update n u) a = same_update n u a
  same_verdict (remove n id) a = refl
  same_verdict (sweep n) a = refl
  same_verdict (read n q) a = same_reading n q

  -- so their contracts may be said of the Rust's figures
  pub run_asking_none : in_bounds s ≡ true → (c : Call) → AsksNone c → run rust_limits c bytes used ≡ run_with s c bytes used
  unfolding run
  run_asking_none p c a = ap (leave bytes used) (same_verdict c a) ∙ sym (run_within s c bytes used p)
