-- A call on the lent bytes of a store of entries: what it answers, and what every lent byte then is. Document 01, "Turned back": the arguments' causes, then
-- 3 where the used length is over the lent or the used bytes aren't of the store's layout, then what the call itself decides over the entries; 18 where
-- the store with the change is larger than the lent bytes, and then nothing is changed. A call that is refused for 19 to 24 keeps "cleaned list": its
-- change stands beside its refusal.
use Rattle.std.specs.Prelude.{ℕ, ◌≡◌, List, length, take, ltb, Err, Ok, Option, Result}
use Rattle.limits.specs.Outcome.{refuse_by, refuse_if, and_then, or_refuse, number_in}
use Rattle.limits.specs.declared.Refusal.{Refusal}
use Rattle.limits.specs.declared.Refusal.TheVariants.{BadStore, NoRoom}
use Rattle.edit.specs.Edit.{over}
use Rattle.codec.specs.Codec.{Codec}
use Rattle.ordered_store.specs.Entries.{Key, encode_entries, decode_entries}

-- what a call decides over the entries: the entries afterwards, and its answer, which may be a refusal all the same
pub record Decided (A B : Type 0) : Type 0 where
  pub entries : List A
  pub answer : Result B Refusal

-- what a call leaves: the bytes lent for the store, the used length, and the answer
pub record Left (B : Type 0) : Type 0 where
  pub bytes : List ℕ
  pub used : ℕ
  pub answer : Result B Refusal

module _ {A B : Type 0} (form : Codec A) where
  -- 18, last of all that keeps all
  abbrev pub fitting : ℕ → Decided A B → Result (Decided A B) Refusal
  fitting n d = refuse_if (ltb n (length (encode_entries form d.entries))) NoRoom (Ok d)

  abbrev pub leave : List ℕ → ℕ → Result (Decided A B) Refusal → Left B
  leave bytes used (Err cause) = record { bytes = bytes; used = used; answer = Err cause }
  leave bytes used (Ok d) = record { bytes = over (encode_entries form d.entries) bytes; used = length (encode_entries form d.entries); answer = d.answer }

  module _ (key_of : A → Key) where
    -- the verdict, from the lent bytes and the used length alone
    unfoldable pub verdict : Option Refusal → (List A → Result (Decided A B) Refusal) → List ℕ → ℕ → Result (Decided A B) Refusal
    verdict cause judge bytes used =
        refuse_by cause
        (refuse_if (ltb (length bytes) used) BadStore
        (and_then (or_refuse BadStore (decode_entries form key_of (take used bytes))) (λ es.
        and_then (judge es) (λ d. fitting (length bytes) d))))

    unfoldable pub run : Option Refusal → (List A → Result (Decided A B) Refusal) → List ℕ → ℕ → Left B
    run cause judge bytes used = leave bytes used (verdict cause judge bytes used)

-- What the contract of a C function says of one call, l being what `run` leaves of the values as it was entered: the lent bytes and the used length as it
-- returns, and the number returned (0 accepted, else document 01's number).
pub record Returns {B : Type 0} (l : Left B) (bytes : List ℕ) (used : ℕ) (r : ℕ) : Type 0 where
  pub bytes_are : bytes ≡ l.bytes
  pub used_is : used ≡ l.used
  pub number_is : r ≡ number_in l.answer
