-- Whether a request belongs to a record that is given as its image (RFC 3261 section 12.2.2; `matches_request` of lib.rs). The rule is `named_by`,
-- dialog_rules/specs/Matching.antt.
use Rattle.std.specs.Prelude.{ℕ, Bool, true, false, List, Err, Ok, Result}
use Rattle.limits.specs.Limits.{LimitSet}
use Rattle.limits.specs.Outcome.{refuse_by, and_then}
use Rattle.limits.specs.declared.Refusal.{Refusal}
use Rattle.msg.specs.Block.{block_cause}
use Rattle.dialog_id.specs.DialogId.{identifier_of, from_name, to_name}
use Rattle.dialog_rules.specs.Matching.{named_by}
use Rattle.dialog_rules.specs.OneImage.{one_record}

-- 1, 2, 3; then yes or no
unfoldable pub matches_request : LimitSet → List ℕ → List ℕ → Result Bool Refusal
matches_request L block bytes = refuse_by (block_cause L block) (and_then (one_record bytes) (λ r. Ok (named_by r (identifier_of from_name to_name block))))

abbrev pub matches_answer : Result Bool Refusal → Result Bool Refusal
matches_answer (Err cause) = Err cause
matches_answer (Ok true) = Ok true
matches_answer (Ok false) = Ok false
