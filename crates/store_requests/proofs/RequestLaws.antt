-- The ways out of the request entry, and the identifier that a request names. Assumes nothing.
use Prim.Native.Nat.{ℕ}
use native.Mathlib.Omega.{arith}
use mathlib.Core.Path.{◌≡◌, refl, ap}
use mathlib.Core.Bool.{true, false}
use mathlib.Core.List.{List}
use lib.ListN.{length, take}
use Rattle.std.specs.Prelude.{Err, None, Ok, Option, Result, Some}
use Rattle.limits.specs.Settings.{limits_in}
use Rattle.limits.specs.declared.settings.Settings.{Settings}
use Rattle.limits.specs.Outcome.{check_of}
use Rattle.limits.specs.declared.Refusal.{Refusal}
use Rattle.limits.specs.declared.Refusal.TheVariants.{TextTooLong}
use Rattle.limits.proofs.Laws.{stopped}
use Rattle.text.specs.Answers.{too_long}
use Rattle.msg.specs.Block.{block_cause}
use Rattle.dialog_id.specs.DialogId.{identifier_of, from_name, to_name, id_from}
use Rattle.dialog_id.specs.declared.DialogId.{DialogId}
use Rattle.output.specs.Output.{leaves, written_from}
use Rattle.codec.proofs.CodecLaws.{Bytes}
use Rattle.image_edit.specs.declared.RecordPlace.{RecordPlace}
use Rattle.text.specs.Spans.{part_in, PartWithin}
use Rattle.dialog_rules.specs.Updates.{kind_of, request_update}
use Rattle.dialog_rules.proofs.PlacedLaws.{Asked, asked}
use Rattle.store_steps.specs.AtPlace.{stepped}
use Rattle.dialog_id.specs.Ident.{Ident, ident}
use Rattle.dialog_id.specs.IdTexts.{ident_in, swapped}
use Rattle.book.specs.Calls.{request}
use Rattle.book.specs.Book.{named_in, update_cause, revised}
use Rattle.store_entries.specs.Entries.{spot_in, spot_named, standing_of}
use Rattle.book.proofs.SettingLaws.{limits_permitted}
use Rattle.store_entries.proofs.EntryLaws.{Done, arguments_done, turned, step_done, unnamed, never_at, not_named}

-- ---- the identifier that a request names

-- its tags swapped
pub named_is : (block : List ℕ) (i : DialogId) → Asked block i → named_in block ≡ Some (ident (part_in block i.call_id) (part_in block i.remote_tag) (part_in block i.local_tag))
unfolding named_in
named_is block i a = rw (a.reads, a.spans, a.placed.call_id.there, a.placed.local_tag.there, a.placed.remote_tag.there)

pub named_none : (block : List ℕ) → identifier_of from_name to_name block ≡ None → named_in block ≡ None
unfolding named_in
named_none block e = rw e

-- the parts that were read lie in the block
pub asked_within : (block : List ℕ) (i : DialogId) → Some i ≡ id_from (identifier_of from_name to_name block)
    → PartWithin block i.call_id × PartWithin block i.local_tag × PartWithin block i.remote_tag
asked_within block i e =
    let q : Asked block i = asked block i e in
    rw q.spans (omega (arith, q.placed.call_id.fits), omega (arith, q.placed.local_tag.fits), omega (arith, q.placed.remote_tag.fits))

-- the record looked up for them, their tags swapped
pub spot_asked : (block bytes : List ℕ) (used : ℕ) (i : DialogId) → Some i ≡ id_from (identifier_of from_name to_name block)
    → spot_named (named_in block) bytes used ≡ spot_in (ident_in block (swapped i)) bytes used
spot_asked block bytes used i e = ap (λ (o : Option Ident). spot_named o bytes used) (named_is block i (asked block i e))

-- ---- the ways out

module _ (s : Settings) (method block bytes : List ℕ) (used : ℕ) where
  abbrev pub Heard : Result ℕ Refusal → List ℕ → Type 0
  Heard r after = Done (limits_in s) (limits_permitted s) (request method block) bytes used r after

  -- 1 of the method, then 1 and 2 of the block
  pub request_long : too_long (limits_in s) method ≡ true → Heard (Err TextTooLong) bytes
  unfolding update_cause
  request_long e = arguments_done (limits_in s) (limits_permitted s) (request method block) bytes used (rw e)

  module _ (short : too_long (limits_in s) method ≡ false) where
    pub request_bad : {cause : Refusal} → check_of (block_cause (limits_in s) block) ≡ Err cause → Heard (Err cause) bytes
    unfolding update_cause
    request_bad e = arguments_done (limits_in s) (limits_permitted s) (request method block) bytes used (rw short (stopped (block_cause (limits_in s) block) e))

    module _ (good : block_cause (limits_in s) block ≡ None) where
      request_clear : update_cause (limits_in s) (request method block) ≡ None
      unfolding update_cause
      request_clear = rw (short, good)

      -- no record of that name
      pub request_turned : {cause : Refusal} → Err cause ≡ standing_of used (spot_named (named_in block) bytes used) → Heard (Err cause) bytes
      request_turned {cause} e = by (named_in block) refl e
        where
          by : (o : Option Ident) → named_in block ≡ o → Err cause ≡ standing_of used (spot_named o bytes used) → Heard (Err cause) bytes
          by None n e = unnamed (limits_in s) (limits_permitted s) (request method block) bytes used request_clear n (not_named None bytes used e)
          by (Some i) n e = turned (limits_in s) (limits_permitted s) (request method block) bytes used request_clear i n (not_named (Some i) bytes used e)

      -- the step on the record
      pub request_done : Bytes bytes → (q : RecordPlace) → Ok q ≡ standing_of used (spot_named (named_in block) bytes used) → (r : Result ℕ Refusal) (after : List ℕ)
          → (r ≡ written_from (stepped (request_update (limits_in s) (kind_of method) block) (length bytes) q.at (take q.used bytes)))
          × (after ≡ leaves (stepped (request_update (limits_in s) (kind_of method) block) (length bytes) q.at (take q.used bytes)) bytes)
          → Heard r after
      unfolding revised
      request_done h q e r after w = by (named_in block) refl e
        where
          by : (o : Option Ident) → named_in block ≡ o → Ok q ≡ standing_of used (spot_named o bytes used) → Heard r after
          by None n e = never_at bytes used e
          by (Some i) n e = step_done (limits_in s) (limits_permitted s) (request method block) bytes used request_clear i n h q e r after w
