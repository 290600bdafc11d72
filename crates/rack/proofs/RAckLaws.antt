-- RAck: what its words say, one after another. Assumes nothing.
use Prim.Native.Nat.{ℕ, ◌+◌, ◌-◌, ◌<◌}
use native.Mathlib.Omega.{arith}
use mathlib.Core.Path.{◌≡◌, refl, sym, ap, ◌∙◌}
use mathlib.Core.Bool.{Bool, true, false, cond}
use mathlib.Core.List.{List, [], ◌∷◌, ◌++◌, append_assoc}
use lib.ListN.{length, drop, length-drop, length-append, get_or-eq_default}
use lib.Dec.{eqb, ltb}
use borrow.Author.Tests.{eq-eqb, ne_eqb, ltb-true, ltb-false}
use Rattle.std.specs.Prelude.{Err, None, Ok, Option, Result, Some}
use Rattle.limits.specs.Limits.{LimitSet}
use Rattle.limits.specs.Outcome.{check_of}
use Rattle.limits.specs.declared.Refusal.{Refusal}
use Rattle.limits.specs.declared.Refusal.TheVariants.{InvalidRAck}
use Rattle.limits.proofs.Laws.{passed, stopped}
use Rattle.text.specs.Text.{alike, words}
use Rattle.text.specs.Number.{read_number}
use Rattle.text.specs.Answers.{value_cause}
use Rattle.methods.specs.Methods.{method_names, position_from, method_of, name_of}
use Rattle.rack.specs.RAck.{rack_of, read_rack, parse_rack, rack_from, spaced, rack_text}
use Rattle.edit.specs.Edit.{put_at, over}
use Rattle.output.proofs.OutputLaws.{put_first, put_next}
use Rattle.output.specs.Decimal.{decimal_of}
use Rattle.words.specs.Words.{word_at}
use Rattle.rack.specs.declared.RAck.{RAck}

-- ---- the reading

either : (t : Bool) → ◌≡◌ {A = Option RAck} (cond t None None) None
either true = refl
either false = refl

no_second : (r m : Option ℕ) → rack_of r None m ≡ None
no_second None m = refl
no_second (Some r) m = refl

no_third : (r c : Option ℕ) → rack_of r c None ≡ None
no_third None c = refl
no_third (Some r) None = refl
no_third (Some r) (Some c) = refl

-- no text is a method, so a word that is one stands there
no_name : method_of [] ≡ None
unfolding position_from method_names alike
no_name = refl

module _ (s : List ℕ) where
  pub first_bad : read_number 32 (word_at 0 s) ≡ None → read_rack s ≡ None
  unfolding read_rack
  first_bad e = rw e (either (eqb (length (words s)) 3))

  pub second_bad : read_number 32 (word_at 1 s) ≡ None → read_rack s ≡ None
  unfolding read_rack
  second_bad e = rw (e, no_second (read_number 32 (word_at 0 s)) (method_of (word_at 2 s))) (either (eqb (length (words s)) 3))

  pub third_bad : method_of (word_at 2 s) ≡ None → read_rack s ≡ None
  unfolding read_rack
  third_bad e = rw (e, no_third (read_number 32 (word_at 0 s)) (read_number 32 (word_at 1 s))) (either (eqb (length (words s)) 3))

  -- t is what stands after the third word
  module _ (t : List ℕ) (h : words t ≡ drop 3 (words s)) where
    count : length (words t) ≡ length (words s) - 3
    count = ap length h ∙ length-drop 3 (words s)

    pub too_many : 0 < length (words t) → read_rack s ≡ None
    unfolding read_rack
    too_many l = rw (ne_eqb (length (words s)) 3 (λ e. omega (arith, count)))

    three_words : {m : ℕ} → method_of (word_at 2 s) ≡ Some m → length (words t) ≡ 0 → length (words s) ≡ 3
    three_words {m} e l = by (ltb 2 (length (words s))) refl
      where
        by : (u : Bool) → ltb 2 (length (words s)) ≡ u → length (words s) ≡ 3
        by true q = omega (arith, count, ltb-true 2 (length (words s)) q)
        by false q =
            let k : word_at 2 s ≡ [] = get_or-eq_default (words s) [] (ltb-false 2 (length (words s)) q) in
            let x : ◌≡◌ {A = Option ℕ} None (Some m) = sym no_name ∙ sym (ap method_of k) ∙ e in
            absurd (let z : ◌≡◌ {A = ℕ} 0 1 = cc in omega arith)

    pub three : {r c m : ℕ} → read_number 32 (word_at 0 s) ≡ Some r → read_number 32 (word_at 1 s) ≡ Some c → method_of (word_at 2 s) ≡ Some m → length (words t) ≡ 0
        → read_rack s ≡ Some (record { rseq = r; cseq = c; method = m })
    unfolding read_rack
    three x y z l = rw (eq-eqb _ _ (three_words z l), x, y, z)

-- ---- the operation

-- r is what the check of the value answers
module _ (L : LimitSet) (s : List ℕ) {r : Result (Unit {0}) Refusal} (h : r ≡ check_of (value_cause L s)) where
  pub stopped_parse : {cause : Refusal} → r ≡ Err cause → parse_rack L s ≡ Err cause
  unfolding parse_rack
  stopped_parse e = rw (stopped (value_cause L s) (sym h ∙ e))

  pub bad_parse : r ≡ Ok tt → read_rack s ≡ None → parse_rack L s ≡ Err InvalidRAck
  unfolding parse_rack
  bad_parse e q = rw (passed (value_cause L s) (sym h ∙ e), q)

  pub done_parse : {a : RAck} → r ≡ Ok tt → read_rack s ≡ Some a → parse_rack L s ≡ Ok a
  unfolding parse_rack
  done_parse e q = rw (passed (value_cause L s) (sym h ∙ e), q)

-- what the answer of the reading says
pub no_rack_lem : (o : Option RAck) {r : Option RAck} → r ≡ rack_from o → r ≡ None → o ≡ None
no_rack_lem None h e = refl
no_rack_lem (Some a) h e = absurd (let z : ◌≡◌ {A = ℕ} 0 1 = cc in omega arith)

pub some_rack : (o : Option RAck) {r : Option RAck} {a : RAck} → r ≡ rack_from o → r ≡ Some a → o ≡ Some a
some_rack None h e = absurd (let z : ◌≡◌ {A = ℕ} 0 1 = cc in omega arith)
some_rack (Some b) h e = cc

-- ---- the text

pub spaced_length : (a b c : List ℕ) → length (spaced a b c) ≡ length a + length b + length c + 2
spaced_length a b c = omega (arith, length-append a (32 ∷ (b ++ (32 ∷ c))), length-append b (32 ∷ c))

pub rack_length : (r c m : ℕ) {i j k : ℕ} → i ≡ length (decimal_of r) → j ≡ length (decimal_of c) → k ≡ length (name_of m) → i + j + k + 2 ≡ length (rack_text r c m)
unfolding rack_text
rack_length r c m p q e = omega (arith, spaced_length (decimal_of r) (decimal_of c) (name_of m))

pub rack_text_lem : (r c m : ℕ) {x y z : List ℕ} → x ≡ decimal_of r → y ≡ decimal_of c → z ≡ name_of m → spaced x y z ≡ rack_text r c m
unfolding rack_text
rack_text_lem r c m p q e = rw (p, q, e)

-- three pieces with a space between them, put one after another
pub put_spaced : (a b c bytes o₁ o₂ o₃ o₄ o₅ : List ℕ) → o₁ ≡ put_at 0 a bytes → o₂ ≡ put_at (length a) (32 ∷ []) o₁ → o₃ ≡ put_at (length a + 1) b o₂
    → o₄ ≡ put_at (length a + 1 + length b) (32 ∷ []) o₃ → o₅ ≡ put_at (length a + 1 + length b + 1) c o₄ → o₅ ≡ over (spaced a b c) bytes
put_spaced a b c bytes o₁ o₂ o₃ o₄ o₅ p₁ p₂ p₃ p₄ p₅ =
    let w₂ : List ℕ = a ++ (32 ∷ []) in
    let w₃ : List ℕ = w₂ ++ b in
    let w₄ : List ℕ = w₃ ++ (32 ∷ []) in
    let l₂ : length w₂ ≡ length a + 1 = length-append a (32 ∷ []) in
    let l₃ : length w₃ ≡ length a + 1 + length b = length-append w₂ b ∙ ap (λ (n : ℕ). n + length b) l₂ in
    let l₄ : length w₄ ≡ length a + 1 + length b + 1 = length-append w₃ (32 ∷ []) ∙ ap (λ (n : ℕ). n + 1) l₃ in
    let q₁ : o₁ ≡ over a bytes = p₁ ∙ put_first a bytes in
    let q₂ : o₂ ≡ over w₂ bytes = p₂ ∙ ap (put_at (length a) (32 ∷ [])) q₁ ∙ put_next a (32 ∷ []) bytes (length a) refl in
    let q₃ : o₃ ≡ over w₃ bytes = p₃ ∙ ap (put_at (length a + 1) b) q₂ ∙ put_next w₂ b bytes (length a + 1) l₂ in
    let q₄ : o₄ ≡ over w₄ bytes = p₄ ∙ ap (put_at (length a + 1 + length b) (32 ∷ [])) q₃ ∙ put_next w₃ (32 ∷ []) bytes (length a + 1 + length b) l₃ in
    let q₅ : w₄ ++ c ≡ spaced a b c = simp append_assoc in
    p₅ ∙ ap (put_at (length a + 1 + length b + 1) c) q₄ ∙ put_next w₄ c bytes (length a + 1 + length b + 1) l₄ ∙ ap (λ s. over s bytes) q₅
