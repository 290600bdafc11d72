-- What the entries promise is what a C caller is to be handed (book/specs/Returned.antt). Assumes nothing.
use Prim.Native.Nat.{ℕ}
use mathlib.Core.Path.{◌≡◌, refl, sym, ap, subst, ◌∙◌}
use mathlib.Core.List.{List}
use Rattle.std.specs.Prelude.{Err, Ok, Result}
use Rattle.limits.specs.Limits.{LimitSet}
use Rattle.limits.specs.Outcome.{number_in}
use Rattle.limits.specs.declared.Refusal.{Refusal}
use Rattle.codec.proofs.CodecLaws.{Bytes}
use Rattle.book.specs.Calls.{Call, read, Reading, Answer}
use Rattle.book.specs.Store.{Left, run}
use Rattle.book.specs.Returned.{Returns, least_after, count_after}
use Rattle.book.proofs.WayLaws.{refusal_keeps}
use Rattle.book.proofs.ReadingLaws.{reading_run}
use Rattle.dialog_manager.specs.Answers.{written_by, written_in}
use Rattle.c_answers.specs.Given.{ValueGives, value_after, WithLeastNumbers, WithLeastGives, with_least_after}
use Rattle.c_store_answers.specs.Given.{CountedGives, CountedNumbers, counted_after}

-- ---- a refused call keeps the used length

number_same : (a : Answer) (n : ℕ) → number_in (written_by n a) ≡ number_in a
number_same (Err cause) n = refl
number_same (Ok v) n = refl

module _ (L : LimitSet) (c : Call) (bytes : List ℕ) (used : ℕ) where
  -- the used length after a call is the one answered, or the old one
  used_after_lem : value_after (written_in (run L c bytes used)) used ≡ (run L c bytes used).used
  used_after_lem = by (run L c bytes used).answer refl
    where
      by : (a : Answer) → (run L c bytes used).answer ≡ a → value_after (written_in (run L c bytes used)) used ≡ (run L c bytes used).used
      by (Err cause) e = ap (λ (a : Answer). value_after (written_by (run L c bytes used).used a) used) e ∙ sym (ap (λ (l : Left). l.used) (refusal_keeps L c bytes used cause e))
      by (Ok v) e = ap (λ (a : Answer). value_after (written_by (run L c bytes used).used a) used) e

  -- a call that answers the new used length
  pub written_returns : (w : Result ℕ Refusal) (after : List ℕ) (left r : ℕ) → w ≡ written_in (run L c bytes used) → after ≡ (run L c bytes used).bytes
      → ValueGives w used r left → Returns (run L c bytes used) after left r
  written_returns w after left r e b g = record {
    bytes_are = b;
    used_is = g.left_is ∙ (ap (λ x. value_after x used) e ∙ used_after_lem);
    number_is = g.number_is ∙ (ap number_in e ∙ number_same (run L c bytes used).answer (run L c bytes used).used);
  }

  -- a call that answers the new used length, or with 13 the least interval
  pub least_returns : (w : Result ℕ Refusal) (after : List ℕ) (old : ℕ) (left : WithLeastNumbers ℕ) (r : ℕ) → w ≡ written_in (run L c bytes used) → after ≡ (run L c bytes used).bytes
      → WithLeastGives w (record { value = used; least = old }) r left → Returns (run L c bytes used) after left.value r × (left.least ≡ least_after (run L c bytes used).answer old)
  least_returns w after old left r e b g = (
    record {
      bytes_are = b;
      used_is = ap (λ (x : WithLeastNumbers ℕ). x.value) g.left_is ∙ (used_same w ∙ (ap (λ x. value_after x used) e ∙ used_after_lem));
      number_is = g.number_is ∙ (ap number_in e ∙ number_same (run L c bytes used).answer (run L c bytes used).used);
    },
    ap (λ (x : WithLeastNumbers ℕ). x.least) g.left_is
        ∙ (ap (λ (x : Result ℕ Refusal). (with_least_after x (record { value = used; least = old })).least) e ∙ least_same (run L c bytes used).answer (run L c bytes used).used),
  )
    where
      used_same : (x : Result ℕ Refusal) → (with_least_after x (record { value = used; least = old })).value ≡ value_after x used
      used_same (Err cause) = refl
      used_same (Ok n) = refl

      least_same : (a : Answer) (n : ℕ) → (with_least_after (written_by n a) (record { value = used; least = old })).least ≡ least_after a old
      least_same (Err cause) n = refl
      least_same (Ok v) n = refl

  -- a call that answers the new used length, and counts
  pub counted_returns : (w : Result ℕ Refusal) (after : List ℕ) (old : ℕ) (left : CountedNumbers) (r : ℕ) → w ≡ written_in (run L c bytes used) → after ≡ (run L c bytes used).bytes
      → CountedGives w (record { used = used; count = old }) r left → Returns (run L c bytes used) after left.used r × (left.count ≡ count_after (run L c bytes used).answer old)
  counted_returns w after old left r e b g = (
    record {
      bytes_are = b;
      used_is = ap (λ (x : CountedNumbers). x.used) g.left_is ∙ (used_same w ∙ (ap (λ x. value_after x used) e ∙ used_after_lem));
      number_is = g.number_is ∙ (ap number_in e ∙ number_same (run L c bytes used).answer (run L c bytes used).used);
    },
    ap (λ (x : CountedNumbers). x.count) g.left_is ∙ (ap (λ (x : Result ℕ Refusal). (counted_after x (record { used = used; count = old })).count) e ∙ count_same (run L c bytes used).answer (run L c bytes used).used),
  )
    where
      used_same : (x : Result ℕ Refusal) → (counted_after x (record { used = used; count = old })).used ≡ value_after x used
      used_same (Err cause) = refl
      used_same (Ok n) = refl

      count_same : (a : Answer) (n : ℕ) → (counted_after (written_by n a) (record { used = used; count = old })).count ≡ count_after a old
      count_same (Err cause) n = refl
      count_same (Ok v) n = refl

-- ---- a reading leaves every byte and the used length

-- so that its number is all that it returns beside its values
pub reading_returns : (L : LimitSet) (n : ℕ) (q : Reading) (bytes : List ℕ) (used : ℕ) → Bytes bytes → (r : ℕ) → r ≡ number_in (run L (read n q) bytes used).answer → Returns (run L (read n q) bytes used) bytes used r
reading_returns L n q bytes used h r e =
    let k = reading_run L n q bytes used h in
    record { bytes_are = sym (ap (λ (l : Left). l.bytes) k); used_is = sym (ap (λ (l : Left). l.used) k); number_is = e }

-- ---- two calls that leave the same

pub moved : {l k : Left} {bytes : List ℕ} {used r : ℕ} → l ≡ k → Returns l bytes used r → Returns k bytes used r
moved {l} {k} {bytes} {used} {r} q x = subst (λ y. Returns y bytes used r) q x

pub moved_value : {A : Type 0} (value : Left → A) {l k : Left} {left : A} → l ≡ k → left ≡ value l → left ≡ value k
moved_value {A} value q x = x ∙ ap value q
