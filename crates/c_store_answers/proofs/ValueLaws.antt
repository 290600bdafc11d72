-- The values beside the number: the next local number, the count, how many bytes of the output were written. Assumes nothing.
use Prim.Native.Nat.{ℕ}
use mathlib.Core.Path.{◌≡◌, refl, sym, ap, subst, ◌∙◌}
use mathlib.Core.List.{List}
use lib.ListN.{length}
use Rattle.std.specs.Prelude.{Err, None, Ok, Result}
use Rattle.limits.specs.Limits.{LimitSet}
use Rattle.limits.specs.Outcome.{number_in}
use Rattle.limits.specs.declared.Refusal.{Refusal}
use Rattle.codec.proofs.CodecLaws.{Bytes}
use Rattle.store.specs.Counting.{records_held, count_answer}
use Rattle.dialog_id.specs.Ident.{Ident}
use Rattle.book.specs.Calls.{local_number, Call, update, read, count, all_ids, Value, number, Answer}
use Rattle.book.specs.Book.{reading_cause, reply}
use Rattle.book.specs.Store.{run}
use Rattle.book.specs.Returned.{Returns, number_after, length_after}
use Rattle.book.proofs.ReadingLaws.{local_value, identifiers_value}
use Rattle.dialog_manager.specs.Answers.{written_by, ids_written}
use Rattle.store_entries.specs.Entries.{raised_by, raised_in}
use Rattle.dialog_manager.proofs.LookupLaws.{Kept, kept, store_refuses, replies}
use Rattle.c_answers.specs.Given.{ValueGives, value_after, WithUsedGives, WithUsedNumbers, with_used_after}
use Rattle.c_store_answers.proofs.ReturnLaws.{written_returns}

-- ---- the next local number

-- an accepted call answers a number, whatever the lent one was
abbrev Numbered : Answer → Type 0
Numbered (Err cause) = Unit {0}
Numbered (Ok v) = (old : ℕ) → number_after (Ok v) 0 ≡ number_after (Ok v) old

module _ (L : LimitSet) (n : ℕ) (i : Ident) (bytes : List ℕ) (used : ℕ) where
  abbrev the_call : Call
  the_call = update n (local_number i)

  numbered : (v : Value) → (run L the_call bytes used).answer ≡ Ok v → Numbered (Ok v)
  numbered v e = let k = local_value L n bytes used v i e in subst (λ (x : Value). Numbered (Ok x)) (sym k.1) (λ old. refl)

  pub raised_returns : (w : Result (ℕ × ℕ) Refusal) (after : List ℕ) (old : ℕ) (left : WithUsedNumbers ℕ) (r : ℕ) → w ≡ raised_in (run L the_call bytes used)
      → after ≡ (run L the_call bytes used).bytes → WithUsedGives w (record { used = used; value = old }) r left
      → Returns (run L the_call bytes used) after left.used r × (left.value ≡ number_after (run L the_call bytes used).answer old)
  raised_returns w after old left r e b g = by (run L the_call bytes used).answer (run L the_call bytes used).used refl refl
    where
      by : (a : Answer) (m : ℕ) → (run L the_call bytes used).answer ≡ a → (run L the_call bytes used).used ≡ m
          → Returns (run L the_call bytes used) after left.used r × (left.value ≡ number_after (run L the_call bytes used).answer old)
      by (Err cause) m p q =
          let x : w ≡ Err cause = e ∙ ap (raised_by (run L the_call bytes used).used) p in
          let y : left ≡ record { used = used; value = old } = g.left_is ∙ ap (λ (z : Result (ℕ × ℕ) Refusal). with_used_after z (record { used = used; value = old })) x in (
            written_returns L the_call bytes used (Err cause) after left.used r (sym (ap (written_by (run L the_call bytes used).used) p)) b
                (record { number_is = g.number_is ∙ ap number_in x; left_is = ap (λ (z : WithUsedNumbers ℕ). z.used) y }),
            ap (λ (z : WithUsedNumbers ℕ). z.value) y ∙ sym (ap (λ (a : Answer). number_after a old) p),
          )
      by (Ok v) m p q =
          let x : w ≡ Ok (number_after (Ok v) 0, m) = e ∙ (ap (raised_by (run L the_call bytes used).used) p ∙ ap (λ (k : ℕ). Ok (number_after (Ok v) 0, k)) q) in
          let y : left ≡ record { used = m; value = number_after (Ok v) 0 } = g.left_is ∙ ap (λ (z : Result (ℕ × ℕ) Refusal). with_used_after z (record { used = used; value = old })) x in
          let k : Numbered (Ok v) = numbered v p in (
            written_returns L the_call bytes used (Ok m) after left.used r (sym (ap (written_by (run L the_call bytes used).used) p ∙ ap Ok q)) b
                (record { number_is = g.number_is ∙ ap number_in x; left_is = ap (λ (z : WithUsedNumbers ℕ). z.used) y }),
            ap (λ (z : WithUsedNumbers ℕ). z.value) y ∙ (k old ∙ sym (ap (λ (a : Answer). number_after a old) p)),
          )

-- ---- the count

module _ (L : LimitSet) (n : ℕ) (bytes : List ℕ) (used : ℕ) (h : Bytes bytes) where
  none_asked : reading_cause L count ≡ None
  unfolding reading_cause
  none_asked = refl

  counts : (k : Kept bytes used) → Ok (number (length k.contents.records)) ≡ (run L (read n count) bytes used).answer
  unfolding reply
  counts k = replies L n count bytes used h none_asked k (Ok (number (length k.contents.records))) refl

  -- the count of the records is the answer of the reading
  pub count_answers : (old r left : ℕ) → ValueGives (count_answer (records_held bytes used)) old r left
      → (r ≡ number_in (run L (read n count) bytes used).answer) × (left ≡ number_after (run L (read n count) bytes used).answer old)
  count_answers old r left g = by (count_answer (records_held bytes used)) refl
    where
      by : (a : Result ℕ Refusal) → count_answer (records_held bytes used) ≡ a → (r ≡ number_in (run L (read n count) bytes used).answer) × (left ≡ number_after (run L (read n count) bytes used).answer old)
      by (Err cause) e =
          let x : Err cause ≡ (run L (read n count) bytes used).answer = store_refuses L n count bytes used h none_asked e in
          (g.number_is ∙ (ap number_in e ∙ ap number_in x), g.left_is ∙ (ap (λ (z : Result ℕ Refusal). value_after z old) e ∙ ap (λ (a : Answer). number_after a old) x))
      by (Ok m) e =
          let k = kept bytes used e in
          let x = counts k in
          let y : m ≡ length k.contents.records = let u : Ok m ≡ Ok (length k.contents.records) = sym e ∙ ap count_answer k.held in cc in
          (g.number_is ∙ (ap number_in e ∙ ap number_in x), g.left_is ∙ (ap (λ (z : Result ℕ Refusal). value_after z old) e ∙ (y ∙ ap (λ (a : Answer). number_after a old) x)))

-- ---- the identifiers

-- an accepted call answers the bytes written, whatever the lent length was
abbrev Sized : Answer → Type 0
Sized (Err cause) = Unit {0}
Sized (Ok v) = (old : ℕ) → length_after (Ok v) 0 ≡ length_after (Ok v) old

module _ (L : LimitSet) (n room : ℕ) (bytes : List ℕ) (used : ℕ) where
  sized : (v : Value) → (run L (read n (all_ids room)) bytes used).answer ≡ Ok v → Sized (Ok v)
  sized v e = let k = identifiers_value L n bytes used v room e in subst (λ (x : Value). Sized (Ok x)) (sym k.1) (λ old. refl)

  pub ids_answers : (w : Result ℕ Refusal) (old r left : ℕ) → w ≡ ids_written (run L (read n (all_ids room)) bytes used).answer → ValueGives w old r left
      → (r ≡ number_in (run L (read n (all_ids room)) bytes used).answer) × (left ≡ length_after (run L (read n (all_ids room)) bytes used).answer old)
  ids_answers w old r left e g = by (run L (read n (all_ids room)) bytes used).answer refl
    where
      by : (a : Answer) → (run L (read n (all_ids room)) bytes used).answer ≡ a
          → (r ≡ number_in (run L (read n (all_ids room)) bytes used).answer) × (left ≡ length_after (run L (read n (all_ids room)) bytes used).answer old)
      by (Err cause) p =
          let x : w ≡ Err cause = e ∙ ap ids_written p in
          (g.number_is ∙ (ap number_in x ∙ sym (ap number_in p)), g.left_is ∙ (ap (λ (z : Result ℕ Refusal). value_after z old) x ∙ sym (ap (λ (a : Answer). length_after a old) p)))
      by (Ok v) p =
          let x : w ≡ Ok (length_after (Ok v) 0) = e ∙ ap ids_written p in
          let k : Sized (Ok v) = sized v p in
          (g.number_is ∙ (ap number_in x ∙ sym (ap number_in p)), g.left_is ∙ (ap (λ (z : Result ℕ Refusal). value_after z old) x ∙ (k old ∙ sym (ap (λ (a : Answer). length_after a old) p))))
