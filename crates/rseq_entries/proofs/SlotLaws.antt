-- The slot of an identifier in lent bytes of which so many are used: what the code's answer says of the store. Assumes nothing.
use Prim.Native.Nat.{ℕ, ◌+◌, ◌-◌, ◌≤◌}
use native.Mathlib.Omega.{arith}
use mathlib.Core.Path.{◌≡◌, refl, subst}
use mathlib.Core.List.{List}
use lib.ListN.{length}
use Rattle.std.specs.Prelude.{Err, None, Ok, Option, Result, Some}
use Rattle.limits.specs.declared.Refusal.{Refusal}
use Rattle.limits.specs.declared.Refusal.TheVariants.{BadStore}
use Rattle.ordered_store.specs.Entries.{Key}
use Rattle.ordered_store.specs.Slot.{Slot, held, free, slot_used}
use Rattle.ordered_store.proofs.SlotLaws.{Among, Unreadable, Says, says}
use Rattle.rseq_entries.specs.Entries.{Entry, key_of, entry_form}
use Rattle.rseq_entries.specs.Places.{entry_at, slot_of, slot_for}
use Rattle.rseq_entries.specs.declared.entries.EntryAt.{EntryAt}
use Rattle.rseq_entries.proofs.PlaceLaws.{ends}

module _ (k : Key) (bytes : List ℕ) (used : ℕ) where
  -- the entry stands there
  pub record Holds (at number end : ℕ) : Type 0 where
    pub entry : Entry
    pub among : Among entry_form key_of k bytes used (held at entry)
    pub number_is : number ≡ entry.number
    pub end_is : end ≡ at + length (entry_form.write entry)

  -- it begins with the two bytes that say its first text's length
  abbrev pub HoldsAt : EntryAt → Type 0
  HoldsAt e = (2 ≤ e.id.call_id.start) × Holds (e.id.call_id.start - 2) e.number e.end

  -- it would go there
  abbrev pub Lacks : ℕ → Type 0
  Lacks at = Among entry_form key_of k bytes used (free at)

  abbrev Told : Result (Result EntryAt ℕ) Refusal → Type 0
  Told (Ok (Ok e)) = HoldsAt e
  Told (Ok (Err at)) = Lacks at
  Told (Err cause) = Unreadable entry_form key_of k bytes used

  told : Told (slot_for k bytes used)
  told = by (slot_used entry_form key_of k bytes used) (says entry_form key_of k bytes used)
    where
      by : (o : Option (Slot Entry)) → Says entry_form key_of k bytes used o → Told (slot_of o)
      by None w = w
      by (Some (held place e)) w =
          let z : place ≡ place + 2 - 2 = omega arith in
          (omega arith, subst (λ (n : ℕ). Holds n e.number (entry_at place e).end) z (record { entry = e; among = w; number_is = refl; end_is = ends place e }))
      by (Some (free place)) w = w

  pub holds : {e : EntryAt} → slot_for k bytes used ≡ Ok (Ok e) → Holds (e.id.call_id.start - 2) e.number e.end
  holds e = (subst Told e told).1

  pub lacks : {at : ℕ} → slot_for k bytes used ≡ Ok (Err at) → Lacks at
  lacks e = subst Told e told

  -- 3
  pub unreadable : {cause : Refusal} → slot_for k bytes used ≡ Err cause → (cause ≡ BadStore) × Unreadable entry_form key_of k bytes used
  unreadable {cause} e = (only_cause, subst Told e told)
    where
      only_cause : cause ≡ BadStore
      only_cause = by (slot_used entry_form key_of k bytes used) e
        where
          by : (o : Option (Slot Entry)) → slot_of o ≡ Err cause → cause ≡ BadStore
          by None q = cc
          by (Some (held place e)) q = absurd (let z : ◌≡◌ {A = ℕ} 0 1 = cc in omega arith)
          by (Some (free place)) q = absurd (let z : ◌≡◌ {A = ℕ} 0 1 = cc in omega arith)
