-- The image of a new record (`new_uac` and `new_uas` of lib.rs; document 01, "Record image"), written over the front of lent bytes: every refusal
-- of the creation (dialog_rules/specs/Creation.antt), then 18 where the image is larger than the bytes.
use Rattle.std.specs.Prelude.{ℕ, List, Result}
use Rattle.limits.specs.Limits.{LimitSet}
use Rattle.limits.specs.Outcome.{and_then}
use Rattle.limits.specs.declared.Refusal.{Refusal}
use Rattle.output.specs.Output.{fitted}
use Rattle.record.specs.Record.{Side, image}
use Rattle.dialog_rules.specs.Creation.{Creation, made_by, created}

unfoldable pub new_image : LimitSet → Side → Creation → ℕ → Result (List ℕ) Refusal
new_image L side g room = and_then (created L side g) (λ r. fitted room (image.write r))

-- after 1, 2 and 6
unfoldable pub made_image : LimitSet → Side → Creation → ℕ → Result (List ℕ) Refusal
made_image L side g room = and_then (made_by L side g) (λ r. fitted room (image.write r))
