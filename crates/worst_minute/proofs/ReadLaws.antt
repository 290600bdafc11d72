-- A run read entry by entry: what is read at a place is the verdict that stands there. Assumes nothing.
use Prim.Native.Nat.{ℕ, suc, ◌+◌, ◌*◌, ◌/◌, ◌%◌, ◌≤◌, ◌<◌}
use native.Mathlib.Omega.{arith}
use native.Mathlib.Numerals.{add-one}
use mathlib.Core.Path.{◌≡◌, refl, sym, ap, ap₂, ◌∙◌}
use mathlib.Core.Bool.{Bool, true, false, cond, ◌&&◌}
use mathlib.Core.List.{List, [], ◌∷◌, ◌++◌}
use lib.ListN.{length, take, drop, get_or, drop_of_length-le, length-append}
use lib.Seq.{drop-cons, drop_at, take-append-le}
use lib.Dec.{leb, eqb}
use borrow.Author.Tests.{eqb-true, leb-true, le-leb, lt-leb}
use Rattle.std.proofs.lemmas.Bool.{and_parts}
use Rattle.std.specs.Prelude.{None, Some}
use Rattle.worst_minute.specs.Minute.{Verdict, rises_from}
use Rattle.worst_minute.specs.Layout.{value_of, entry_in, entries_in, encode_run, is_sized, verdicts_in, decode_run}
use Rattle.worst_minute.specs.Calls.{last_time}
use Rattle.worst_minute.specs.Steps.{time_at}
use Rattle.worst_minute.specs.Answers.{last_of}
use Rattle.worst_minute.proofs.NumberLaws.{Bytes}
use Rattle.worst_minute.proofs.LayoutLaws.{length_entries, nth_entry, entries_back}

-- ---- the size

-- whole entries, not too many
pub sized : (n : ℕ) → is_sized n ≡ true → (n ≡ n / 9 * 9) × (n ≤ 36864)
sized n e = let k = and_parts (eqb (n % 9) 0) (leb n 36864) e in let r : n % 9 ≡ 0 = eqb-true (n % 9) 0 k.0 in (omega arith, leb-true n 36864 k.1)

-- ---- whether the bytes are a run

pub not_sized : (s : List ℕ) → is_sized (length s) ≡ false → decode_run s ≡ None
unfolding decode_run
not_sized s e = rw e

pub time_falls : (s : List ℕ) → is_sized (length s) ≡ true → rises_from 0 (verdicts_in s) ≡ false → decode_run s ≡ None
unfolding decode_run
time_falls s e r = rw (e, r)

pub is_run : (s : List ℕ) → is_sized (length s) ≡ true → rises_from 0 (verdicts_in s) ≡ true → decode_run s ≡ Some (verdicts_in s)
unfolding decode_run
is_run s e r = rw (e, r)

-- ---- the verdict at a place

abbrev pub nobody : Verdict
nobody = record { time = 0; number = 0 }

module _ (s : List ℕ) (k : ℕ) (h : k < length s / 9) where
  pub verdict_at : get_or (verdicts_in s) k nobody ≡ entry_in (drop (k * 9) s)
  verdict_at = nth_entry k (length s / 9) s nobody h

  -- the verdicts from it on
  pub rest_at : drop k (verdicts_in s) ≡ entry_in (drop (k * 9) s) ∷ drop (k + 1) (verdicts_in s)
  rest_at =
      let l : k < length (verdicts_in s) = omega (arith, length_entries (length s / 9) s) in
      drop-cons (verdicts_in s) k nobody l ∙ ap₂ (λ v m. v ∷ drop m (verdicts_in s)) verdict_at (sym (add-one k))

  pub rises_next : (last : ℕ) → rises_from last (drop k (verdicts_in s)) ≡ (leb last (time_at s (k * 9)) && rises_from (time_at s (k * 9)) (drop (k + 1) (verdicts_in s)))
  unfolding rises_from
  rises_next last = ap (rises_from last) rest_at

-- no verdicts are left at the end
pub none_left : (s : List ℕ) (k : ℕ) → length s ≤ k * 9 → drop k (verdicts_in s) ≡ []
none_left s k h =
    let l : length (verdicts_in s) ≤ k = omega (arith, length_entries (length s / 9) s) in
    drop_of_length-le (verdicts_in s) l

-- ---- the last time

-- the run that bytes are, by its first entry and the bytes after that
first_verdict : (a b : List ℕ) {left : List ℕ} {t : ℕ} → left ≡ a ++ b → length a ≡ 9 → t ≡ time_at a 0 → verdicts_in left ≡ record { time = t; number = get_or left 8 0 } ∷ verdicts_in b
unfolding entries_in
first_verdict a b {left} {t} e k h =
    let n : length left / 9 ≡ suc (length b / 9) = omega (arith, ap length e, length-append a b) in
    let d : drop 9 left ≡ b = ap (drop 9) e ∙ drop_at a b 9 k in
    let f : take 8 left ≡ take 8 a = ap (take 8) e ∙ take-append-le 8 a b (omega arith) in
    ap (λ m. entries_in m left) n ∙ ap₂ (λ x y. record { time = x; number = get_or left 8 0 } ∷ entries_in (length b / 9) y) (ap (value_of 0) f ∙ sym h) d

no_verdict : (left : List ℕ) → length left < 9 → verdicts_in left ≡ []
unfolding entries_in
no_verdict left h = let n : length left / 9 ≡ 0 = omega arith in ap (λ m. entries_in m left) n

-- the entries before those left are read, and the last of them has this time
pub record Read (s left : List ℕ) (last : ℕ) : Type 0 where
  pub rises : rises_from 0 (verdicts_in s) ≡ rises_from last (verdicts_in left)
  pub lasts : last_time 0 (verdicts_in s) ≡ last_time last (verdicts_in left)

module _ (s : List ℕ) (z : is_sized (length s) ≡ true) {left : List ℕ} {last : ℕ} (r : Read s left last) where
  -- the next entry
  module _ (a b : List ℕ) {t : ℕ} (e : left ≡ a ++ b) (k : length a ≡ 9) (h : t ≡ time_at a 0) where
    pub one_falls : t < last → decode_run s ≡ None
    unfolding rises_from
    one_falls f = time_falls s z (r.rises ∙ rw (first_verdict a b e k h, lt-leb last t f))

    pub one_read : last ≤ t → Read s b t
    unfolding rises_from last_time
    one_read l = record {
      rises = r.rises ∙ rw (first_verdict a b e k h, le-leb last t l);
      lasts = r.lasts ∙ rw (first_verdict a b e k h);
    }

  pub all_read : length left < 9 → Some last ≡ last_of (decode_run s)
  unfolding rises_from last_time
  all_read h =
      let n : verdicts_in left ≡ [] = no_verdict left h in
      sym (ap last_of (is_run s z (r.rises ∙ ap (rises_from last) n)) ∙ ap Some (r.lasts ∙ ap (last_time last) n))

-- ---- what a run was

-- the bytes are those of the run that they are read as
pub record Decoded (s : List ℕ) (vs : List Verdict) : Type 0 where
  pub fits : is_sized (length s) ≡ true
  pub up : rises_from 0 vs ≡ true
  pub verdicts : verdicts_in s ≡ vs

pub decoded : (s : List ℕ) (vs : List Verdict) → decode_run s ≡ Some vs → Decoded s vs
unfolding decode_run
decoded s vs e = by (is_sized (length s)) refl (rises_from 0 (verdicts_in s)) refl e
  where
    by : (a : Bool) → is_sized (length s) ≡ a → (b : Bool) → rises_from 0 (verdicts_in s) ≡ b → cond (a && b) (Some (verdicts_in s)) None ≡ Some vs → Decoded s vs
    by true a true b e = let q : verdicts_in s ≡ vs = cc in record { fits = a; up = ap (rises_from 0) (sym q) ∙ b; verdicts = q }
    by true a false b e = absurd (let n : ◌≡◌ {A = ℕ} 0 1 = cc in omega arith)
    by false a b q e = absurd (let n : ◌≡◌ {A = ℕ} 0 1 = cc in omega arith)

module _ {s : List ℕ} {vs : List Verdict} (d : Decoded s vs) where
  pub run_length : length s ≡ length vs * 9
  run_length = (sized (length s) d.fits).0 ∙ ap (λ n. n * 9) (sym (length_entries (length s / 9) s) ∙ ap length d.verdicts)

  pub run_short : length vs ≤ 4096
  run_short = omega (arith, run_length, (sized (length s) d.fits).1)

  pub run_bytes : Bytes s → encode_run vs ≡ s
  run_bytes b = ap encode_run (sym d.verdicts) ∙ entries_back (length s / 9) s b (sized (length s) d.fits).0
