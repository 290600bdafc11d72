-- What a creation comes to: 1, 2 and 6 in their order, and then what it comes to after them. Assumes nothing.
use Prim.Native.Nat.{ℕ}
use mathlib.Core.Path.{◌≡◌, refl, ◌∙◌}
use mathlib.Core.Bool.{Bool, true, false}
use Rattle.std.specs.Prelude.{Err, None, Some}
use Rattle.limits.specs.Limits.{LimitSet, rust_limits}
use Rattle.limits.specs.Outcome.{or_else}
use Rattle.limits.specs.declared.Refusal.{Refusal}
use Rattle.record.specs.Record.{Side}
use Rattle.dialog_rules.specs.Creation.{Creation, texts_cause, form_cause, uri_cause, made_by, created}
use Rattle.dialog_creation.specs.NewImage.{new_image, made_image}
use Rattle.creation_checks.specs.Given.{creation_of, checked_of}
use Rattle.creation_checks.specs.declared.NewDialog.{NewDialog}
use Rattle.creation_readings.specs.Steps.{side_for}

-- ---- 1, 2, 6

module _ (L : LimitSet) (side : Side) (g : Creation) (room : ℕ) where
  pub texts_refused : {cause : Refusal} → texts_cause L g ≡ Some cause → new_image L side g room ≡ Err cause
  unfolding new_image created
  texts_refused e = rw e

  module _ (e : texts_cause L g ≡ None) where
    pub forms_refused : {cause : Refusal} → form_cause g ≡ Some cause → new_image L side g room ≡ Err cause
    unfolding new_image created
    forms_refused f = rw (e, f)

    module _ (f : form_cause g ≡ None) where
      pub uris_refused : {cause : Refusal} → or_else (uri_cause g.local_uri) (uri_cause g.remote_uri) ≡ Some cause → new_image L side g room ≡ Err cause
      unfolding new_image created
      uris_refused h = rw (e, f, h)

      all_passed : or_else (uri_cause g.local_uri) (uri_cause g.remote_uri) ≡ None → new_image L side g room ≡ made_image L side g room
      unfolding new_image created made_image
      all_passed h = rw (e, f, h)

-- ---- the texts that passed

-- ---- after them the method is not looked at

any_method : (u : Bool) (d : NewDialog) (room : ℕ) → made_image rust_limits (side_for u) (creation_of d) room ≡ made_image rust_limits (side_for u) (checked_of d) room
unfolding made_image made_by
any_method true d room = refl
any_method false d room = refl

pub checks_passed : (u : Bool) (d : NewDialog) (room : ℕ) → texts_cause rust_limits (creation_of d) ≡ None → form_cause (creation_of d) ≡ None → or_else (uri_cause d.local_uri.now) (uri_cause d.remote_uri.now) ≡ None
    → new_image rust_limits (side_for u) (creation_of d) room ≡ made_image rust_limits (side_for u) (checked_of d) room
checks_passed u d room e f h = all_passed rust_limits (side_for u) (creation_of d) room e f h ∙ any_method u d room
