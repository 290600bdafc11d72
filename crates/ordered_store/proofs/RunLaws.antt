-- The ways out of a call on the lent bytes of a store of entries, one law for each: what the proof of an operation cites at each of its returns.
-- Assumes nothing.
use Prim.Native.Nat.{ℕ, ◌≤◌, ◌<◌}
use mathlib.Core.Path.{◌≡◌, refl, ap, ◌∙◌}
use mathlib.Core.Bool.{Bool, true, false}
use mathlib.Core.List.{List}
use lib.ListN.{length, take}
use lib.Dec.{ltb}
use borrow.Author.Tests.{lt-ltb, le-ltb}
use Rattle.std.specs.Prelude.{Err, None, Ok, Option, Result, Some}
use Rattle.limits.specs.Outcome.{refuse_by, refuse_if, and_then, or_refuse}
use Rattle.limits.specs.declared.Refusal.{Refusal}
use Rattle.limits.specs.declared.Refusal.TheVariants.{BadStore, NoRoom}
use Rattle.edit.specs.Edit.{over}
use Rattle.codec.specs.Codec.{Codec}
use Rattle.ordered_store.specs.Entries.{Key, encode_entries, decode_entries}
use Rattle.ordered_store.specs.Run.{Decided, Left, fitting, leave, verdict, run}

-- refused: every byte and the used length kept
abbrev pub kept_with : {B : Type 0} → List ℕ → ℕ → Refusal → Left B
kept_with bytes used cause = record { bytes = bytes; used = used; answer = Err cause }

module _ {A B : Type 0} (form : Codec A) (key_of : A → Key) (cause : Option Refusal) (judge : List A → Result (Decided A B) Refusal) (bytes : List ℕ) (used : ℕ) where
  abbrev ran : Left B
  ran = run form key_of cause judge bytes used

  abbrev on_read : Option (List A) → Result (Decided A B) Refusal
  on_read o = and_then (or_refuse BadStore o) (λ es. and_then (judge es) (λ d. fitting form (length bytes) d))

  -- what holds of every refusal, and of every answer that is decided, holds of the answer
  pub answer_has : (P : Result B Refusal → Type 0) → ((one : Refusal) → P (Err one)) → ((es : List A) (d : Decided A B) → judge es ≡ Ok d → P d.answer) → P ran.answer
  unfolding run verdict
  answer_has P out through = by cause (ltb (length bytes) used) (decode_entries form key_of (take used bytes))
    where
      full : (es : List A) (d : Decided A B) → judge es ≡ Ok d → (t : Bool) → P (leave form bytes used (refuse_if t NoRoom (Ok d))).answer
      full es d j true = out NoRoom
      full es d j false = through es d j

      on : (es : List A) (v : Result (Decided A B) Refusal) → judge es ≡ v → P (leave form bytes used (and_then v (λ d. fitting form (length bytes) d))).answer
      on es (Err one) j = out one
      on es (Ok d) j = full es d j (ltb (length bytes) (length (encode_entries form d.entries)))

      by : (a : Option Refusal) (t : Bool) (o : Option (List A)) → P (leave form bytes used (refuse_by a (refuse_if t BadStore (on_read o)))).answer
      by (Some one) t o = out one
      by None true o = out BadStore
      by None false None = out BadStore
      by None false (Some es) = on es (judge es) refl

  -- the arguments' own cause
  pub way_arguments : (one : Refusal) → cause ≡ Some one → ran ≡ kept_with bytes used one
  unfolding run verdict
  way_arguments one a = ap (λ o. leave form bytes used (refuse_by o (refuse_if (ltb (length bytes) used) BadStore (on_read (decode_entries form key_of (take used bytes)))))) a

  module _ (a : cause ≡ None) where
    -- 3: the used length over the lent
    pub way_over : length bytes < used → ran ≡ kept_with bytes used BadStore
    unfolding run verdict
    way_over h =
        ap (λ o. leave form bytes used (refuse_by o (refuse_if (ltb (length bytes) used) BadStore (on_read (decode_entries form key_of (take used bytes)))))) a
        ∙ ap (λ t. leave form bytes used (refuse_if t BadStore (on_read (decode_entries form key_of (take used bytes))))) (lt-ltb (length bytes) used h)

    module _ (h : used ≤ length bytes) where
      opened : ran ≡ leave form bytes used (on_read (decode_entries form key_of (take used bytes)))
      unfolding run verdict
      opened =
          ap (λ o. leave form bytes used (refuse_by o (refuse_if (ltb (length bytes) used) BadStore (on_read (decode_entries form key_of (take used bytes)))))) a
          ∙ ap (λ t. leave form bytes used (refuse_if t BadStore (on_read (decode_entries form key_of (take used bytes))))) (le-ltb (length bytes) used h)

      -- 3: the used bytes aren't a store
      pub way_unread : decode_entries form key_of (take used bytes) ≡ None → ran ≡ kept_with bytes used BadStore
      way_unread r = opened ∙ ap (λ o. leave form bytes used (on_read o)) r

      module _ (es : List A) (r : decode_entries form key_of (take used bytes) ≡ Some es) where
        -- the call's own cause over the entries
        pub way_judged : (one : Refusal) → judge es ≡ Err one → ran ≡ kept_with bytes used one
        way_judged one j = opened ∙ (ap (λ o. leave form bytes used (on_read o)) r ∙ ap (λ v. leave form bytes used (and_then v (λ d. fitting form (length bytes) d))) j)

        module _ (d : Decided A B) (j : judge es ≡ Ok d) where
          settled : ran ≡ leave form bytes used (fitting form (length bytes) d)
          settled = opened ∙ (ap (λ o. leave form bytes used (on_read o)) r ∙ ap (λ v. leave form bytes used (and_then v (λ x. fitting form (length bytes) x))) j)

          -- 18: the store with the change is larger than the lent bytes
          pub way_full : length bytes < length (encode_entries form d.entries) → ran ≡ kept_with bytes used NoRoom
          way_full f = settled ∙ ap (λ p. leave form bytes used (refuse_if p NoRoom (Ok d))) (lt-ltb (length bytes) (length (encode_entries form d.entries)) f)

          -- taken
          pub way_taken : length (encode_entries form d.entries) ≤ length bytes
              → ran ≡ record { bytes = over (encode_entries form d.entries) bytes; used = length (encode_entries form d.entries); answer = d.answer }
          way_taken f = settled ∙ ap (λ p. leave form bytes used (refuse_if p NoRoom (Ok d))) (le-ltb (length bytes) (length (encode_entries form d.entries)) f)
