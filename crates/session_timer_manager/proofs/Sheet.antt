-- Document 01, "Lines from the test sheet": those about intervals, as equations about the definitions; and of "Errors a
-- porter will be drawn to" the one about the refresher's role. Assumes nothing.
use Prim.Native.Nat.{◌-◌}
use mathlib.Core.Path.{◌≡◌, refl}
use mathlib.Core.Bool.{true, false}
use mathlib.Core.List.{[], ◌∷◌}
use Rattle.std.specs.Prelude.{Err, Ok, Some}
use Rattle.limits.specs.Limits.{rust_limits}
use Rattle.limits.specs.Outcome.{number_in}
use Rattle.limits.specs.declared.Refusal.TheVariants.{SessionExpiresTooSmall}
use Rattle.text.specs.Text.{alike}
use Rattle.session_timer_manager.specs.Intervals.{seconds, negotiated, non_refresher_expiry, refresh_due}
use Rattle.session_timer_manager.specs.Refresher.{refresher_role}

-- "P 90 s: refresh at 60 s, not 1 ns before."
pub due_at_60 : refresh_due (Some 90) (seconds 60) ≡ true
due_at_60 = refl

pub not_due_before : refresh_due (Some 90) (seconds 60 - 1) ≡ false
not_due_before = refl

-- "P 300 s: non-refresher expiry 268 s."
pub expiry_of_300 : non_refresher_expiry (seconds 300) ≡ seconds 268
expiry_of_300 = refl

-- "P requested 1,800, minima 90 and 120, preference 60: 120."
pub agreed_on_120 : negotiated (seconds 1800) (seconds 90) (Some (seconds 120)) (Some (seconds 60)) ≡ Ok (seconds 120)
unfolding negotiated
agreed_on_120 = refl

-- "P requested 100: 13 with 120."
pub too_short : negotiated (seconds 100) (seconds 90) (Some (seconds 120)) (Some (seconds 60)) ≡ Err (SessionExpiresTooSmall (seconds 120))
unfolding negotiated
too_short = refl

pub too_short_is_13 : number_in (negotiated (seconds 100) (seconds 90) (Some (seconds 120)) (Some (seconds 60))) ≡ 13
unfolding negotiated
too_short_is_13 = refl

-- "reading `Uas` as `uas` in `determine_refresher_role` (it falls to the default)": one
-- who is not uac refreshes at `uas`, and not at `Uas`
pub uas_refreshes : refresher_role rust_limits (Some (117 ∷ 97 ∷ 115 ∷ [])) false ≡ Ok true
unfolding refresher_role alike
uas_refreshes = refl

pub mixed_case_is_default : refresher_role rust_limits (Some (85 ∷ 97 ∷ 115 ∷ [])) false ≡ Ok false
unfolding refresher_role alike
mixed_case_is_default = refl
