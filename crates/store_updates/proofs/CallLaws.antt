-- The ways out of each call that names its record by its identifier. Assumes nothing.
use Prim.Native.Nat.{ℕ}
use native.Mathlib.Omega.{arith}
use mathlib.Core.Path.{◌≡◌, refl, sym, ap, subst, ◌∙◌}
use mathlib.Core.List.{List}
use lib.ListN.{length, take}
use Rattle.std.specs.Prelude.{Err, None, Ok, Option, Result, Some}
use Rattle.limits.specs.Limits.{rust_limits}
use Rattle.limits.specs.Outcome.{or_else, refuse_by}
use Rattle.limits.specs.declared.Refusal.{Refusal}
use Rattle.msg.specs.Block.{block_cause}
use Rattle.output.specs.Output.{leaves, written_from}
use Rattle.record.specs.NumbersForm.{meaning}
use Rattle.record.specs.Record.{Numbers}
use Rattle.record.specs.Rules.{local_step}
use Rattle.codec.proofs.CodecLaws.{Bytes}
use Rattle.record.proofs.NumberLaws.{meaning_same}
use Rattle.image.specs.declared.RecordAt.{RecordAt}
use Rattle.image_edit.specs.declared.RecordPlace.{RecordPlace}
use Rattle.dialog_rules.specs.Updates.{local_update}
use Rattle.store_steps.specs.AtPlace.{stepped, raised_with}
use Rattle.dialog_id.specs.Ident.{Ident, ident_cause}
use Rattle.book.specs.Calls.{Update, response, terminate, local_number, interval, number, Answer}
use Rattle.book.specs.Book.{name_of, update_cause, revised}
use Rattle.book.specs.Store.{Left}
use Rattle.dialog_manager.specs.Answers.{written_by}
use Rattle.store_entries.specs.Entries.{updating, raised_by, raised_in, used_raised, spot_in, standing_of}
use Rattle.store_entries.proofs.EntryLaws.{permitted, Done, left_by, arguments_done, turned, step_left, step_done, not_standing}
use Rattle.store_updates.specs.Finding.{found_in}

-- an update that names its record by an identifier: its arguments are refused by the lengths of that, then by those of the others
pub record ByIdent (u : Update) (i : Ident) (others : Option Refusal) : Type 0 where
  pub named : name_of u ≡ Some i
  pub causes : update_cause rust_limits u ≡ or_else (ident_cause rust_limits i) others

or_none : (o : Option Refusal) → o ≡ or_else o None
or_none None = refl
or_none (Some cause) = refl

pub terminates : (i : Ident) → ByIdent (terminate i) i None
unfolding update_cause
terminates i = record { named = refl; causes = or_none (ident_cause rust_limits i) }

pub responds : (i : Ident) (status : ℕ) (block : List ℕ) → ByIdent (response i status block) i (block_cause rust_limits block)
unfolding update_cause
responds i status block = record { named = refl; causes = refl }

pub sets : (i : Ident) (seconds : ℕ) → ByIdent (interval i seconds) i None
unfolding update_cause
sets i seconds = record { named = refl; causes = or_none (ident_cause rust_limits i) }

pub raises : (i : Ident) → ByIdent (local_number i) i None
unfolding update_cause
raises i = record { named = refl; causes = or_none (ident_cause rust_limits i) }

-- where the record is found, a check at a time
module _ (i : Ident) (others : Option Refusal) (bytes : List ℕ) (used : ℕ) where
  abbrev found_after : Option Refusal → Option Refusal → Result RecordPlace Refusal
  found_after o p = standing_of used (refuse_by (or_else o p) (spot_in i bytes used))

  -- 1 of the identifier
  pub found_long : {cause : Refusal} → ident_cause rust_limits i ≡ Some cause → Err cause ≡ standing_of used (found_in i others bytes used)
  found_long e = ap (λ (o : Option Refusal). found_after o others) (sym e)

  module _ (clear : ident_cause rust_limits i ≡ None) where
    -- what the other arguments refuse
    pub found_other : {cause : Refusal} → others ≡ Some cause → Err cause ≡ standing_of used (found_in i others bytes used)
    found_other e = ap (λ (o : Option Refusal). found_after None o) (sym e) ∙ ap (λ (o : Option Refusal). found_after o others) (sym clear)

    -- 3, 15
    pub found_then : others ≡ None → {t : Result RecordPlace Refusal} → t ≡ standing_of used (spot_in i bytes used) → t ≡ standing_of used (found_in i others bytes used)
    found_then e w = w ∙ ap (λ (o : Option Refusal). found_after None o) (sym e) ∙ ap (λ (o : Option Refusal). found_after o others) (sym clear)

-- t is where the record was found
module _ {u : Update} {i : Ident} {others : Option Refusal} (n : ByIdent u i others) (bytes : List ℕ) (used : ℕ) {t : Result RecordPlace Refusal} (told : t ≡ standing_of used (found_in i others bytes used)) where
  abbrev Ends : Result ℕ Refusal → List ℕ → Type 0
  Ends r after = Done rust_limits permitted u bytes used r after

  by_cause : {a : Result RecordPlace Refusal} → t ≡ a → a ≡ standing_of used (refuse_by (update_cause rust_limits u) (spot_in i bytes used))
  by_cause e = sym e ∙ told ∙ ap (λ (o : Option Refusal). standing_of used (refuse_by o (spot_in i bytes used))) (sym n.causes)

  -- 1, 2, 3, 15
  pub call_refused : {cause : Refusal} → t ≡ Err cause → Ends (Err cause) bytes
  call_refused {cause} e = by (update_cause rust_limits u) refl (by_cause e)
    where
      by : (o : Option Refusal) → update_cause rust_limits u ≡ o → Err cause ≡ standing_of used (refuse_by o (spot_in i bytes used)) → Ends (Err cause) bytes
      by None q f = turned rust_limits permitted u bytes used q i n.named (not_standing i bytes used f)
      by (Some own) q f = let k : own ≡ cause = cc in arguments_done rust_limits permitted u bytes used (q ∙ ap Some k)

  module _ {q : RecordPlace} (e : t ≡ Ok q) where
    pub stands : (update_cause rust_limits u ≡ None) × (Ok q ≡ standing_of used (spot_in i bytes used))
    stands = by (update_cause rust_limits u) (by_cause e)
      where
        by : (o : Option Refusal) → Ok q ≡ standing_of used (refuse_by o (spot_in i bytes used)) → (o ≡ None) × (Ok q ≡ standing_of used (spot_in i bytes used))
        by None f = (refl, f)
        by (Some own) f = absurd (let z : ◌≡◌ {A = ℕ} 0 1 = cc in omega arith)

    -- the step's refusals, 18, or the changed record
    pub call_done : Bytes bytes → {r : Result ℕ Refusal} {after : List ℕ}
        → (r ≡ written_from (stepped (revised rust_limits u) (length bytes) q.at (take q.used bytes))) × (after ≡ leaves (stepped (revised rust_limits u) (length bytes) q.at (take q.used bytes)) bytes)
        → Ends r after
    call_done h {r} {after} w = step_done rust_limits permitted u bytes used stands.0 i n.named h q stands.1 r after w

-- ---- the next local number

module _ (i : Ident) (bytes : List ℕ) (used : ℕ) where
  -- the answer, the lent bytes and the used length are those of `run`
  abbrev RaisesBy : Result (ℕ × ℕ) Refusal → List ℕ → Left → Type 0
  RaisesBy r after l = (r ≡ raised_in l) × ((after ≡ l.bytes) × (used_raised r used ≡ l.used))

  abbrev pub Raises : Result (ℕ × ℕ) Refusal → List ℕ → Type 0
  Raises r after = RaisesBy r after (updating rust_limits (local_number i) bytes used)

  -- the step on the record at a place
  abbrev pub local_at : RecordPlace → Result (List ℕ) Refusal
  local_at q = stepped (λ v. Ok (local_update v)) (length bytes) q.at (take q.used bytes)

  -- a refusal, as this call answers it
  pub raise_not : {cause : Refusal} → Done rust_limits permitted (local_number i) bytes used (Err cause) bytes → Raises (Err cause) bytes
  raise_not {cause} d = (by (updating rust_limits (local_number i) bytes used).answer d.0, d.1)
    where
      by : (a : Answer) → Err cause ≡ written_by (updating rust_limits (local_number i) bytes used).used a → Err cause ≡ raised_by (updating rust_limits (local_number i) bytes used).used a
      by (Err one) e = let k : cause ≡ one = cc in ap Err k
      by (Ok v) e = absurd (let z : ◌≡◌ {A = ℕ} 0 1 = cc in omega arith)

  -- what is left, read as this call's answer
  raised_left : (k : ℕ) (o : Result (List ℕ) Refusal) → updating rust_limits (local_number i) bytes used ≡ left_by rust_limits permitted (local_number i) bytes used o (number k)
      → Raises (raised_with k (written_from o)) (leaves o bytes)
  raised_left k o e = subst (RaisesBy (raised_with k (written_from o)) (leaves o bytes)) (sym e) (by o)
    where
      by : (o : Result (List ℕ) Refusal) → RaisesBy (raised_with k (written_from o)) (leaves o bytes) (left_by rust_limits permitted (local_number i) bytes used o (number k))
      by (Err cause) = (refl, (refl, refl))
      by (Ok s) = (refl, (refl, refl))

  -- 18, or the changed record's number
  pub raise_done : {t : Result RecordPlace Refusal} → t ≡ standing_of used (found_in i None bytes used) → {q : RecordPlace} → t ≡ Ok q → Bytes bytes → {r : Result (ℕ × ℕ) Refusal} {after : List ℕ}
      → (r ≡ raised_with (local_step (meaning q.record.numbers)).local (written_from (local_at q))) × (after ≡ leaves (local_at q) bytes) → Raises r after
  unfolding revised
  raise_done told {q} e h {r} w =
      let s = stands (raises i) bytes used told e in
      let l = step_left rust_limits permitted (local_number i) bytes used s.0 i refl h q s.1 in
      let n : meaning q.record.numbers ≡ l.value.numbers = ap (λ (y : RecordAt). meaning y.numbers) l.placed ∙ meaning_same l.value.numbers in
      let f : r ≡ raised_with (local_step l.value.numbers).local (written_from (local_at q)) = w.0 ∙ ap (λ (y : Numbers). raised_with (local_step y).local (written_from (local_at q))) n in
      let d = raised_left (local_step l.value.numbers).local (local_at q) l.left in
      (f ∙ d.0, (w.1 ∙ d.1.0, ap (λ (y : Result (ℕ × ℕ) Refusal). used_raised y used) f ∙ d.1.1))
