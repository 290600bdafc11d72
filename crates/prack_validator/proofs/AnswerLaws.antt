-- What each call answers at its ways out, from what `ran` leaves: a refusal that keeps all, nothing changed, and one entry set. Assumes nothing.
use Prim.Native.Nat.{ℕ}
use native.Mathlib.Omega.{arith}
use mathlib.Core.Path.{◌≡◌, refl, sym, ap, ap₂, subst, ◌∙◌}
use mathlib.Core.Bool.{Bool}
use mathlib.Core.List.{List}
use lib.ListN.{length}
use Rattle.std.specs.Prelude.{Err, Ok, Result}
use Rattle.limits.specs.declared.Refusal.{Refusal}
use Rattle.edit.specs.Edit.{over}
use Rattle.output.specs.Output.{leaves, written_from}
use Rattle.rack.specs.declared.RAck.{RAck}
use Rattle.ordered_store.specs.Answers.{written_in, used_written}
use Rattle.ordered_store.specs.Run.{Left}
use Rattle.ordered_store.proofs.RunLaws.{kept_with}
use Rattle.prack_validator.specs.Validator.{Value, flag, written, rack_value}
use Rattle.prack_verdict.specs.Verdict.{verdict_of}
use Rattle.prack_validator.specs.Answers.{validated_by, validated_in, pracked_of, listed_in, used_listed, output_after, validated_or}
use Rattle.prack_validator.specs.declared.Validated.{Validated}
use Rattle.prack_validator.proofs.OperationLaws.{leaving, left_by}

-- ---- what the contracts say of an answer r, the lent bytes afterwards, and a lent output afterwards

abbrev pub DoneWritten : ℕ → Left Value → Result ℕ Refusal → List ℕ → Type 0
DoneWritten used l r after = (r ≡ written_in l) × ((after ≡ l.bytes) × (used_written r used ≡ l.used))

abbrev pub DoneValidated : ℕ → Left Value → Result Validated Refusal → List ℕ → Type 0
DoneValidated used l r after = (validated_or r used ≡ validated_in l) × (after ≡ l.bytes)

abbrev pub DonePracked : List ℕ → ℕ → Left Value → Result Bool Refusal → Type 0
DonePracked bytes used l r = (r ≡ pracked_of l.answer) × ((bytes ≡ l.bytes) × (used ≡ l.used))

abbrev pub DoneListed : ℕ → List ℕ → Left Value → Result (ℕ × ℕ) Refusal → List ℕ → List ℕ → Type 0
DoneListed used out l r after out_after = (r ≡ listed_in l) × ((after ≡ l.bytes) × ((used_listed r used ≡ l.used) × (out_after ≡ output_after l.answer out)))

module _ (bytes : List ℕ) (used : ℕ) {l : Left Value} where
  -- ---- a refusal that keeps all

  module _ {cause : Refusal} (e : l ≡ kept_with bytes used cause) where
    pub written_kept : DoneWritten used l (Err cause) bytes
    written_kept = subst (λ (m : Left Value). DoneWritten used m (Err cause) bytes) (sym e) (refl, (refl, refl))

    pub validated_kept : DoneValidated used l (Err cause) bytes
    validated_kept = subst (λ (m : Left Value). DoneValidated used m (Err cause) bytes) (sym e) (refl, refl)

    pub pracked_kept : DonePracked bytes used l (Err cause)
    pracked_kept = subst (λ (m : Left Value). DonePracked bytes used m (Err cause)) (sym e) (refl, (refl, refl))

    pub listed_kept : (out : List ℕ) → DoneListed used out l (Err cause) bytes out
    listed_kept out = subst (λ (m : Left Value). DoneListed used out m (Err cause) bytes out) (sym e) (refl, (refl, (refl, refl)))

  -- ---- taken

  -- the new used length
  pub written_taken : {after : List ℕ} {n : ℕ} {v : Value} → l ≡ leaving after n (Ok v) → DoneWritten used l (Ok n) after
  written_taken {after} {n} e = subst (λ (m : Left Value). DoneWritten used m (Ok n) after) (sym e) (refl, (refl, refl))

  -- yes or no
  pub pracked_taken : {b : Bool} → l ≡ leaving bytes used (Ok (flag b)) → DonePracked bytes used l (Ok b)
  pracked_taken {b} e = subst (λ (m : Left Value). DonePracked bytes used m (Ok b)) (sym e) (refl, (refl, refl))

  -- bytes over the front of the output
  pub listed_taken : (out : List ℕ) {after out_after x : List ℕ} {n k : ℕ} → l ≡ leaving after n (Ok (written x)) → (k ≡ length x) × (out_after ≡ over x out) → DoneListed used out l (Ok (k, n)) after out_after
  listed_taken out {after} {out_after} {x} {n} {k} e w = subst (λ (m : Left Value). DoneListed used out m (Ok (k, n)) after out_after) (sym e) (ap (λ (i : ℕ). Ok (i, n)) w.0, (refl, (refl, w.1)))

  -- a verdict, which may be a refusal beside a change
  pub validated_taken : (o : Result RAck Refusal) {v : Result RAck Refusal} {after : List ℕ} {n : ℕ} → l ≡ leaving after n (rack_value o) → v ≡ verdict_of o
      → DoneValidated used l (Ok (record { verdict = v; used = n })) after
  validated_taken o {v} {after} {n} e w =
      subst (λ (m : Left Value). DoneValidated used m (Ok (record { verdict = v; used = n })) after) (sym e) (ap (λ (x : Result RAck Refusal). record { verdict = x; used = n }) w ∙ same o, refl)
    where
      same : (o : Result RAck Refusal) → record { verdict = verdict_of o; used = n } ≡ validated_by (rack_value o) n
      same (Err cause) = refl
      same (Ok k) = refl

  -- ---- one entry set, as `set` answers r and leaves `after`

  module _ (v : Result Value Refusal) (o : Result (List ℕ) Refusal) (e : l ≡ left_by bytes used v o) {r : Result ℕ Refusal} {after : List ℕ} where
    -- it had room
    pub set_taken : {n : ℕ} → r ≡ written_from o → after ≡ leaves o bytes → r ≡ Ok n → l ≡ leaving after n v
    set_taken {n} p q w = e ∙ by o p q
      where
        by : (x : Result (List ℕ) Refusal) → r ≡ written_from x → after ≡ leaves x bytes → left_by bytes used v x ≡ leaving after n v
        by (Err cause) p q = absurd (let y = sym p ∙ w in let z : ◌≡◌ {A = ℕ} 0 1 = cc in omega arith)
        by (Ok x) p q = let y = sym p ∙ w in let k : length x ≡ n = cc in ap₂ (λ (b : List ℕ) (m : ℕ). leaving b m v) (sym q) k

    -- 18: nothing is changed
    pub set_refused : {cause : Refusal} → r ≡ written_from o → after ≡ leaves o bytes → r ≡ Err cause → l ≡ kept_with after used cause
    set_refused {cause} p q w = e ∙ by o p q
      where
        by : (x : Result (List ℕ) Refusal) → r ≡ written_from x → after ≡ leaves x bytes → left_by bytes used v x ≡ kept_with after used cause
        by (Err one) p q = let y = sym p ∙ w in let k : one ≡ cause = cc in ap₂ (λ (b : List ℕ) (z : Refusal). kept_with b used z) (sym q) k
        by (Ok x) p q = absurd (let y = sym p ∙ w in let z : ◌≡◌ {A = ℕ} 0 1 = cc in omega arith)

  -- where its answer is the call's own
  pub written_set : (v : Value) (o : Result (List ℕ) Refusal) → l ≡ left_by bytes used (Ok v) o → {r : Result ℕ Refusal} {after : List ℕ} → r ≡ written_from o → after ≡ leaves o bytes → DoneWritten used l r after
  written_set v o e {r} {after} p q = subst (λ (m : Left Value). DoneWritten used m r after) (sym e) (by o p q)
    where
      by : (x : Result (List ℕ) Refusal) → r ≡ written_from x → after ≡ leaves x bytes → DoneWritten used (left_by bytes used (Ok v) x) r after
      by (Err cause) p q = (p, (q, ap (λ (y : Result ℕ Refusal). used_written y used) p))
      by (Ok x) p q = (p, (q, ap (λ (y : Result ℕ Refusal). used_written y used) p))
