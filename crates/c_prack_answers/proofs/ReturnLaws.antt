-- What the operations of `prack_validator` promise is what a C caller is to be handed. Assumes nothing.
use Prim.Native.Nat.{ℕ}
use native.Mathlib.Omega.{arith}
use mathlib.Core.Path.{◌≡◌, refl, ap, subst, ◌∙◌}
use mathlib.Core.Bool.{false}
use mathlib.Core.List.{List}
use Rattle.std.specs.Prelude.{Bool, Err, Ok, Result}
use Rattle.std.specs.Int.{from_bool}
use Rattle.limits.specs.Limits.{LimitSet}
use Rattle.limits.specs.Outcome.{and_then, number_in}
use Rattle.limits.specs.declared.Refusal.{Refusal}
use Rattle.output.specs.Output.{fitted}
use Rattle.rack.specs.declared.RAck.{RAck}
use Rattle.ordered_store.specs.Entries.{set_entry}
use Rattle.ordered_store.specs.Run.{Left, Decided, Returns}
use Rattle.ordered_store.proofs.RunLaws.{answer_has}
use Rattle.prack_body.specs.Lists.{Tracked, open_in}
use Rattle.prack_body.specs.Layout.{tracked_form, open_bytes}
use Rattle.prack_entries.specs.Entries.{key_of, clean_for}
use Rattle.prack_validator.specs.Validator.{validate, is_pracked, get_pending, Value, written, action_cause, rack_value, deciding, judged_for, judge, ran}
use Rattle.prack_validator.specs.Answers.{rack_after, flag_after, length_after, no_rack, validated_by, validated_in, pracked_of, listed_by, listed_in, used_listed}
use Rattle.prack_validator.specs.declared.Validated.{Validated}
use Rattle.c_answers.specs.Given.{FlagGives, flag_after as flag_left, WithUsedNumbers, WithUsedGives, with_used_after}
use Rattle.c_prack_answers.specs.Given.{pracked_after, ValidatedNumbers, ValidatedGives, validated_number, validated_after}

-- what was decided
decided : {ts : List Tracked} {a : Result Value Refusal} {d : Decided Tracked Value} → deciding ts a ≡ Ok d → a ≡ d.answer
decided {ts} {a} {d} e = let k : record { entries = ts; answer = a } ≡ d = cc in ap (λ (x : Decided Tracked Value). x.answer) k

-- ---- a PRACK

-- an accepted PRACK answers its RAck, whatever the lent numbers were
abbrev Racked : Result Value Refusal → Type 0
Racked (Err cause) = Unit {0}
Racked (Ok v) = (old : RAck) → rack_after (Ok v) no_rack ≡ rack_after (Ok v) old

racked : (L : LimitSet) (id block : List ℕ) (time : ℕ) (bytes : List ℕ) (used : ℕ) → Racked (ran L (validate id block time) bytes used).answer
unfolding judge
racked L id block time bytes used =
    answer_has (tracked_form L) key_of (action_cause L (validate id block time)) (judge L (validate id block time)) bytes used Racked (λ one. tt)
    (λ ts d j. subst Racked (decided j) (by (judged_for L id block time ts)))
  where
    by : (v : Result RAck Refusal) → Racked (rack_value v)
    by (Err cause) = tt
    by (Ok k) = λ old. refl

pub validated_returns : (L : LimitSet) (id block : List ℕ) (time : ℕ) (bytes : List ℕ) (used : ℕ) (w : Validated) (after : List ℕ) (old : RAck) (left : ValidatedNumbers) (r : ℕ)
    → w ≡ validated_in (ran L (validate id block time) bytes used) → after ≡ (ran L (validate id block time) bytes used).bytes
    → ValidatedGives w (record { used = used; rack = old }) r left
    → Returns (ran L (validate id block time) bytes used) after left.used r × (left.rack ≡ rack_after (ran L (validate id block time) bytes used).answer old)
validated_returns L id block time bytes used w after old left r e b g =
    let l = ran L (validate id block time) bytes used in (
      record {
        bytes_are = b;
        used_is = ap (λ (x : ValidatedNumbers). x.used) g.left_is ∙ (ap (λ (x : Validated). (validated_after x (record { used = used; rack = old })).used) e ∙ used_same l.answer l.used);
        number_is = g.number_is ∙ (ap validated_number e ∙ number_same l.answer l.used);
      },
      ap (λ (x : ValidatedNumbers). x.rack) g.left_is ∙ (ap (λ (x : Validated). (validated_after x (record { used = used; rack = old })).rack) e ∙ rack_same l.answer l.used (racked L id block time bytes used)),
    )
  where
    used_same : (a : Result Value Refusal) (m : ℕ) → (validated_after (validated_by a m) (record { used = used; rack = old })).used ≡ m
    used_same (Err cause) m = refl
    used_same (Ok v) m = refl

    number_same : (a : Result Value Refusal) (m : ℕ) → validated_number (validated_by a m) ≡ number_in a
    number_same (Err cause) m = refl
    number_same (Ok v) m = refl

    rack_same : (a : Result Value Refusal) (m : ℕ) → Racked a → (validated_after (validated_by a m) (record { used = used; rack = old })).rack ≡ rack_after a old
    rack_same (Err cause) m k = refl
    rack_same (Ok v) m k = k old

-- ---- whether a response is acknowledged

-- the answer is yes or no, whatever the lent number was
abbrev Flagged : Result Value Refusal → Type 0
Flagged (Err cause) = Unit {0}
Flagged (Ok v) = (old : ℕ) → from_bool (flag_after (Ok v) false) ≡ pracked_after (Ok v) old

flagged : (L : LimitSet) (id : List ℕ) (r : ℕ) (bytes : List ℕ) (used : ℕ) → Flagged (ran L (is_pracked id r) bytes used).answer
unfolding judge
flagged L id r bytes used =
    answer_has (tracked_form L) key_of (action_cause L (is_pracked id r)) (judge L (is_pracked id r)) bytes used Flagged (λ one. tt)
    (λ ts d j. subst Flagged (decided j) (λ old. refl))

pub pracked_returns : (L : LimitSet) (id : List ℕ) (rseq : ℕ) (bytes : List ℕ) (used : ℕ) (w : Result Bool Refusal) (old left r : ℕ)
    → w ≡ pracked_of (ran L (is_pracked id rseq) bytes used).answer → bytes ≡ (ran L (is_pracked id rseq) bytes used).bytes → used ≡ (ran L (is_pracked id rseq) bytes used).used
    → FlagGives w old r left
    → Returns (ran L (is_pracked id rseq) bytes used) bytes used r × (left ≡ pracked_after (ran L (is_pracked id rseq) bytes used).answer old)
pracked_returns L id rseq bytes used w old left r e b u g =
    let a = (ran L (is_pracked id rseq) bytes used).answer in
    (record { bytes_are = b; used_is = u; number_is = g.number_is ∙ (ap number_in e ∙ number_same a) }, g.left_is ∙ (ap (λ (x : Result Bool Refusal). flag_left x old) e ∙ flag_same a (flagged L id rseq bytes used)))
  where
    number_same : (a : Result Value Refusal) → number_in (pracked_of a) ≡ number_in a
    number_same (Err cause) = refl
    number_same (Ok v) = refl

    flag_same : (a : Result Value Refusal) → Flagged a → flag_left (pracked_of a) old ≡ pracked_after a old
    flag_same (Err cause) k = refl
    flag_same (Ok v) k = k old

-- ---- the pending ones

-- the answer is the bytes written, whatever the lent length was
abbrev Sized : Result Value Refusal → Type 0
Sized (Err cause) = Unit {0}
Sized (Ok v) = (old : ℕ) → length_after (Ok v) 0 ≡ length_after (Ok v) old

sized : (L : LimitSet) (id : List ℕ) (time room : ℕ) (bytes : List ℕ) (used : ℕ) → Sized (ran L (get_pending id time room) bytes used).answer
unfolding judge
sized L id time room bytes used =
    answer_has (tracked_form L) key_of (action_cause L (get_pending id time room)) (judge L (get_pending id time room)) bytes used Sized (λ one. tt)
    (λ ts d j. by ts d (fitted room (open_bytes (open_in (clean_for L time id ts).list))) j)
  where
    by : (ts : List Tracked) (d : Decided Tracked Value) (o : Result (List ℕ) Refusal) → and_then o (λ s. deciding (set_entry key_of (clean_for L time id ts) ts) (Ok (written s))) ≡ Ok d → Sized d.answer
    by ts d (Err cause) e = absurd (let z : ◌≡◌ {A = ℕ} 0 1 = cc in omega arith)
    by ts d (Ok s) e = subst Sized (decided e) (λ old. refl)

pub listed_returns : (L : LimitSet) (id : List ℕ) (time room : ℕ) (bytes : List ℕ) (used : ℕ) (w : Result (ℕ × ℕ) Refusal) (after : List ℕ) (old : ℕ) (left : WithUsedNumbers ℕ) (r : ℕ)
    → w ≡ listed_in (ran L (get_pending id time room) bytes used) → after ≡ (ran L (get_pending id time room) bytes used).bytes
    → used_listed w used ≡ (ran L (get_pending id time room) bytes used).used → WithUsedGives w (record { used = used; value = old }) r left
    → Returns (ran L (get_pending id time room) bytes used) after left.used r × (left.value ≡ length_after (ran L (get_pending id time room) bytes used).answer old)
listed_returns L id time room bytes used w after old left r e b u g =
    let l = ran L (get_pending id time room) bytes used in (
      record {
        bytes_are = b;
        used_is = ap (λ (x : WithUsedNumbers ℕ). x.used) g.left_is ∙ (used_same w ∙ u);
        number_is = g.number_is ∙ (ap number_in e ∙ number_same l.answer l.used);
      },
      ap (λ (x : WithUsedNumbers ℕ). x.value) g.left_is ∙ (ap (λ (x : Result (ℕ × ℕ) Refusal). (with_used_after x (record { used = used; value = old })).value) e ∙ size_same l.answer l.used (sized L id time room bytes used)),
    )
  where
    used_same : (x : Result (ℕ × ℕ) Refusal) → (with_used_after x (record { used = used; value = old })).used ≡ used_listed x used
    used_same (Err cause) = refl
    used_same (Ok (n, m)) = refl

    number_same : (a : Result Value Refusal) (m : ℕ) → number_in (listed_by a m) ≡ number_in a
    number_same (Err cause) m = refl
    number_same (Ok v) m = refl

    size_same : (a : Result Value Refusal) (m : ℕ) → Sized a → (with_used_after (listed_by a m) (record { used = used; value = old })).value ≡ length_after a old
    size_same (Err cause) m k = refl
    size_same (Ok v) m k = k old

-- ---- two calls that leave the same

pub moved : {l k : Left Value} {bytes : List ℕ} {used r : ℕ} → l ≡ k → Returns l bytes used r → Returns k bytes used r
moved {l} {k} {bytes} {used} {r} q x = subst (λ y. Returns y bytes used r) q x

pub moved_value : {A : Type 0} (value : Left Value → A) {l k : Left Value} {left : A} → l ≡ k → left ≡ value l → left ≡ value k
moved_value {A} value q x = x ∙ ap value q
