-- A request and a response on one record given as its image (`update_from_request`, `update_from_response` of lib.rs). What they make of the record is
-- `request_update` and `response_update` (dialog_rules/specs/Updates.antt); here are the refusals before it, in the order of document 01, "Turned back": 1 and 2 of
-- what is given, then 3.
use Rattle.std.specs.Prelude.{ℕ, List, Ok, Result}
use Rattle.limits.specs.Limits.{LimitSet}
use Rattle.limits.specs.Outcome.{or_else, refuse_by}
use Rattle.limits.specs.declared.Refusal.{Refusal}
use Rattle.text.specs.Answers.{length_cause}
use Rattle.msg.specs.Block.{block_cause}
use Rattle.dialog_rules.specs.Updates.{kind_of, request_update, response_update}
use Rattle.dialog_changes.specs.ImageUpdates.{image_after}

-- 1 (method, block), 2, 3, 4, 9; ACK: 11; others: 10, 11, 12; 18
unfoldable pub requested : LimitSet → List ℕ → List ℕ → List ℕ → ℕ → Result (List ℕ) Refusal
requested L method block bytes used = refuse_by (or_else (length_cause L method) (block_cause L block)) (image_after (request_update L (kind_of method) block) bytes used)

-- 1, 2, 3, 18
unfoldable pub responded : LimitSet → ℕ → List ℕ → List ℕ → ℕ → Result (List ℕ) Refusal
responded L status block bytes used = refuse_by (block_cause L block) (image_after (λ r. Ok (response_update L status block r)) bytes used)
