-- A request on a record by its steps: its number is read, the numbers take it, the target follows the Contact. Assumes nothing.
use Prim.Native.Nat.{ℕ}
use mathlib.Core.Path.{◌≡◌, ◌∙◌}
use mathlib.Core.Bool.{true, false}
use mathlib.Core.List.{List}
use Rattle.std.specs.Prelude.{Err, None, Ok, Some}
use Rattle.limits.specs.Limits.{LimitSet}
use Rattle.limits.specs.Outcome.{check_of}
use Rattle.limits.specs.declared.Refusal.{Refusal}
use Rattle.limits.specs.declared.Refusal.TheVariants.{TextTooLong, MissingHeader}
use Rattle.limits.proofs.Laws.{passed, stopped}
use Rattle.text.specs.Answers.{too_long}
use Rattle.msg.specs.Block.{block_cause}
use Rattle.prack_headers.specs.Sequence.{cseq_number}
use Rattle.record.specs.Changes.{with_numbers}
use Rattle.record.specs.Record.{Numbers, Record}
use Rattle.record.specs.Rules.{Kind, request_step}
use Rattle.dialog_rules.specs.Updates.{kind_of, retargeted, request_update}
use Rattle.dialog_changes.specs.ImageUpdates.{used_record, image_after}
use Rattle.dialog_updates.specs.Messages.{requested}

-- ---- the step

module _ (L : LimitSet) (kind : Kind) (block : List ℕ) (v : Record) where
  pub no_number : cseq_number block ≡ None → request_update L kind block v ≡ Err MissingHeader
  unfolding request_update
  no_number e = rw e

  pub number_refused : (n : ℕ) {cause : Refusal} → cseq_number block ≡ Some n → request_step L kind n v.numbers ≡ Err cause → request_update L kind block v ≡ Err cause
  unfolding request_update
  number_refused n e f = rw (e, f)

  pub number_taken : (n : ℕ) (x : Numbers) → cseq_number block ≡ Some n → request_step L kind n v.numbers ≡ Ok x → request_update L kind block v ≡ Ok (retargeted block (with_numbers x v))
  unfolding request_update
  number_taken n x e f = rw (e, f)

-- ---- the refusals before it

module _ (L : LimitSet) (method block bytes : List ℕ) (used : ℕ) where
  pub long_method : too_long L method ≡ true → requested L method block bytes used ≡ Err TextTooLong
  unfolding requested
  long_method e = rw e

  module _ (short : too_long L method ≡ false) where
    pub bad_block : {cause : Refusal} → check_of (block_cause L block) ≡ Err cause → requested L method block bytes used ≡ Err cause
    unfolding requested
    bad_block e = rw (short, stopped (block_cause L block) e)

    module _ (good : check_of (block_cause L block) ≡ Ok tt) where
      pub as_image : requested L method block bytes used ≡ image_after (request_update L (kind_of method) block) bytes used
      unfolding requested
      as_image = rw (short, passed (block_cause L block) good)

      pub no_record : {cause : Refusal} → used_record bytes used ≡ Err cause → requested L method block bytes used ≡ Err cause
      unfolding image_after
      no_record e = as_image ∙ rw e
