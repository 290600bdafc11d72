-- A response on a record by its steps. Assumes nothing.
use Prim.Native.Nat.{ℕ}
use native.Mathlib.Omega.{arith}
use mathlib.Core.Path.{◌≡◌, refl, sym, ◌∙◌}
use mathlib.Core.Bool.{true, false}
use mathlib.Core.List.{List, [], ◌∷◌}
use lib.ListN.{length}
use Rattle.std.specs.Prelude.{Err, Ok, Result}
use Rattle.limits.specs.Limits.{LimitSet}
use Rattle.limits.specs.Outcome.{check_of}
use Rattle.limits.specs.declared.Refusal.{Refusal}
use Rattle.limits.proofs.Laws.{passed, stopped, ok_pair}
use Rattle.text.specs.Text.{Piece}
use Rattle.msg.specs.Block.{block_cause}
use Rattle.route_set.specs.Routes.{routes_of}
use Rattle.route_section.specs.Section.{section_from}
use Rattle.routes_edit.specs.Rerouted.{renewed_by}
use Rattle.record.specs.Changes.{with_numbers, with_routes}
use Rattle.record.specs.Record.{Numbers, Record}
use Rattle.dialog_rules.specs.Updates.{retargeted, confirms, routes_or, answered, response_update}
use Rattle.dialog_changes.specs.ImageUpdates.{used_record, image_after}
use Rattle.dialog_updates.specs.Messages.{responded}

-- ---- the routes

-- refused, or none: the record keeps its own
pub no_routes : (o : Result (List Piece) Refusal) (x : Numbers) (v : Record) {cause : Refusal} → section_from o ≡ Err cause → with_numbers x (with_routes (routes_or v.routes o) v) ≡ with_numbers x v
no_routes (Err own) x v e = refl
no_routes (Ok ps) x v e = absurd (let z : ◌≡◌ {A = ℕ} 0 1 = cc in omega arith)

pub empty_routes : (o : Result (List Piece) Refusal) (x : Numbers) (v : Record) {n k : ℕ} → section_from o ≡ Ok (n, k) → n ≡ 0 → with_numbers x (with_routes (routes_or v.routes o) v) ≡ with_numbers x v
empty_routes (Err own) x v e h = refl
empty_routes (Ok []) x v e h = refl
empty_routes (Ok (p ∷ ps)) x v {n} e h = absurd (let q : length (p ∷ ps) ≡ n = (ok_pair e).0 in omega (arith, q, h))

pub some_routes : (o : Result (List Piece) Refusal) (x : Numbers) (v : Record) {n k : ℕ} → section_from o ≡ Ok (n, k) → (n ≡ 0 → ⊥) → with_numbers x (with_routes (routes_or v.routes o) v) ≡ renewed_by x o v
some_routes (Err own) x v e h = absurd (let z : ◌≡◌ {A = ℕ} 0 1 = cc in omega arith)
some_routes (Ok []) x v {n} e h = absurd (h (sym (ok_pair e).0))
some_routes (Ok (p ∷ ps)) x v e h = refl

-- ---- the step

module _ (L : LimitSet) (status : ℕ) (block : List ℕ) (v : Record) where
  pub confirming_step : confirms status v.numbers.state ≡ true → response_update L status block v ≡ retargeted block (with_numbers (answered status block v.numbers) (with_routes (routes_or v.routes (routes_of L block)) v))
  unfolding response_update
  confirming_step e = rw e

  pub other_step : confirms status v.numbers.state ≡ false → response_update L status block v ≡ retargeted block (with_numbers (answered status block v.numbers) v)
  unfolding response_update
  other_step e = rw e

-- ---- the refusals before it

module _ (L : LimitSet) (status : ℕ) (block bytes : List ℕ) (used : ℕ) where
  pub bad_response : {cause : Refusal} → check_of (block_cause L block) ≡ Err cause → responded L status block bytes used ≡ Err cause
  unfolding responded
  bad_response e = rw (stopped (block_cause L block) e)

  module _ (good : check_of (block_cause L block) ≡ Ok tt) where
    pub response_image : responded L status block bytes used ≡ image_after (λ r. Ok (response_update L status block r)) bytes used
    unfolding responded
    response_image = rw (passed (block_cause L block) good)

    pub no_image : {cause : Refusal} → used_record bytes used ≡ Err cause → responded L status block bytes used ≡ Err cause
    unfolding image_after
    no_image e = response_image ∙ rw e
