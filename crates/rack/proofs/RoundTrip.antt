-- A text that `format_rack` writes is one that `parse_rack` reads, as the numbers that it was made of. Assumes nothing.
use Prim.Native.Nat.{ℕ, zero, suc, ◌+◌, ◌-◌, ◌^◌, ◌≤◌, ◌<◌}
use native.Mathlib.Nat.{add-zero}
use native.Mathlib.Omega.{arith}
use mathlib.Core.Path.{◌≡◌, refl, ap, ◌∙◌}
use mathlib.Core.Bool.{Bool, true, false, not, false≢true}
use mathlib.Core.List.{List, [], ◌∷◌, ◌++◌}
use lib.ListN.{length, get_or}
use lib.Dec.{ltb}
use borrow.Author.Tests.{le-leb, ne_eqb, le-ltb, not-true}
use Rattle.std.proofs.lemmas.Bool.{and_parts}
use Rattle.std.specs.Prelude.{Ok, Some}
use Rattle.limits.specs.Limits.{LimitSet}
use Rattle.limits.specs.Outcome.{cause_if, refuse_by}
use Rattle.limits.specs.declared.Refusal.TheVariants.{InvalidMethod, NoRoom}
use Rattle.text.specs.Text.{is_digit, is_blank, is_value, all, alike, split, filled, words}
use Rattle.text.specs.Number.{non_empty}
use Rattle.text.specs.Answers.{value_cause}
use Rattle.output.specs.Decimal.{decimal_of}
use Rattle.methods.specs.Methods.{method_names, position_from, method_of, is_method, name_of}
use Rattle.rack.specs.RAck.{spaced, read_rack, rack_text, parse_rack, format_rack}
use Rattle.output.proofs.ClassLaws.{within_range, all_append, all_by}
use Rattle.output.proofs.DecimalLaws.{decimal, reads, ten_digits}
use Rattle.methods.proofs.MethodLaws.{fourteen, method_range, Short, name_short}
use Rattle.rack.proofs.RAckLaws.{spaced_length}

-- ---- words with a space between them

abbrev unbroken : List ℕ → Bool
unbroken w = all (λ b. not (is_blank b)) w

word_end : (w rest : List ℕ) → unbroken w ≡ true → split is_blank (w ++ (32 ∷ rest)) ≡ w ∷ split is_blank rest
unfolding split all
word_end [] rest e = refl
word_end (b ∷ w) rest e = rw (not-true (is_blank b) (and_parts (not (is_blank b)) (unbroken w) e).0, word_end w rest (and_parts (not (is_blank b)) (unbroken w) e).1)

text_end_lem : (w : List ℕ) → unbroken w ≡ true → split is_blank w ≡ w ∷ []
unfolding split all
text_end_lem [] e = refl
text_end_lem (b ∷ w) e = rw (not-true (is_blank b) (and_parts (not (is_blank b)) (unbroken w) e).0, text_end_lem w (and_parts (not (is_blank b)) (unbroken w) e).1)

first_filled : (w : List ℕ) (gs : List (List ℕ)) → non_empty w ≡ true → filled (w ∷ gs) ≡ w ∷ filled gs
unfolding filled
first_filled [] gs e = absurd (false≢true e)
first_filled (b ∷ w) gs e = refl

first_word : (w rest : List ℕ) → non_empty w ≡ true → unbroken w ≡ true → words (w ++ (32 ∷ rest)) ≡ w ∷ words rest
unfolding words
first_word w rest f e = rw (word_end w rest e) (first_filled w (split is_blank rest) f)

last_word : (w : List ℕ) → non_empty w ≡ true → unbroken w ≡ true → words w ≡ w ∷ []
unfolding words filled
last_word w f e = rw (text_end_lem w e) (first_filled w [] f)

-- ---- digits

digit_solid : (b : ℕ) → is_digit b ≡ true → not (is_blank b) ≡ true
digit_solid b e =
    let r = within_range 48 57 b e in
    rw (ne_eqb b 32 (λ z. omega arith), ne_eqb b 9 (λ z. omega arith))

digit_value : (b : ℕ) → is_digit b ≡ true → is_value b ≡ true
digit_value b e =
    let r = within_range 48 57 b e in
    rw (ne_eqb b 9 (λ z. omega arith), le-leb 32 b (omega arith), le-leb b 126 (omega arith))

-- ---- methods

-- the names from here on are the methods from n on
abbrev Numbered : ℕ → List (List ℕ) → Type 0
Numbered n [] = Unit {0}
Numbered n (name ∷ names) = (method_of name ≡ Some n) × Numbered (suc n) names

numbered : Numbered 1 method_names
unfolding position_from method_names alike
numbered = (refl, (refl, (refl, (refl, (refl, (refl, (refl, (refl, (refl, (refl, (refl, (refl, (refl, (refl, tt))))))))))))))

numbered_at : (n : ℕ) (names : List (List ℕ)) (k : ℕ) → Numbered n names → k < length names → method_of (get_or names k []) ≡ Some (n + k)
numbered_at n [] k r h = absurd (omega arith)
numbered_at n (name ∷ names) zero r h = rw (add-zero n) r.0
numbered_at n (name ∷ names) (suc k) r h =
    let q : suc n + k ≡ n + suc k = omega arith in
    numbered_at (suc n) names k r.1 (omega arith) ∙ ap Some q

-- a method's name is read as its number
pub name_reads : (m : ℕ) → 1 ≤ m → m ≤ 14 → method_of (name_of m) ≡ Some m
name_reads m l h =
    let q : 1 + (m - 1) ≡ m = omega arith in
    numbered_at 1 method_names (m - 1) numbered (omega (arith, fourteen)) ∙ ap Some q

-- ---- RAck

module _ (r c m : ℕ) (hr : r < 2 ^ 32) (hc : c < 2 ^ 32) (hm : is_method m ≡ true) where
  short : Short (name_of m)
  short = name_short m (method_range m hm).0 (method_range m hm).1

  solid : (n : ℕ) → unbroken (decimal_of n) ≡ true
  solid n = all_by is_digit (λ b. not (is_blank b)) digit_solid (decimal_of n) (decimal n).are_digits

  three_words : words (spaced (decimal_of r) (decimal_of c) (name_of m)) ≡ decimal_of r ∷ decimal_of c ∷ name_of m ∷ []
  three_words =
      first_word (decimal_of r) (decimal_of c ++ (32 ∷ name_of m)) (decimal r).some_digit (solid r)
      ∙ ap (λ ws. decimal_of r ∷ ws) (first_word (decimal_of c) (name_of m) (decimal c).some_digit (solid c))
      ∙ ap (λ ws. decimal_of r ∷ decimal_of c ∷ ws) (last_word (name_of m) short.filled short.unbroken)

  pub rack_reads : read_rack (rack_text r c m) ≡ Some (record { rseq = r; cseq = c; method = m })
  unfolding read_rack rack_text
  rack_reads = rw (three_words, reads 32 r hr, reads 32 c hc, name_reads m (method_range m hm).0 (method_range m hm).1)

  printable : (n : ℕ) → all is_value (decimal_of n) ≡ true
  printable n = all_by is_digit is_value digit_value (decimal_of n) (decimal n).are_digits

  all_printable : all is_value (spaced (decimal_of r) (decimal_of c) (name_of m)) ≡ true
  unfolding all
  all_printable = all_append is_value (decimal_of r) (32 ∷ (decimal_of c ++ (32 ∷ name_of m))) (printable r) (all_append is_value (decimal_of c) (32 ∷ name_of m) (printable c) short.printable)

  -- 31 bytes are enough for any
  fits : length (spaced (decimal_of r) (decimal_of c) (name_of m)) ≤ 31
  fits = omega (arith, spaced_length (decimal_of r) (decimal_of c) (name_of m), ten_digits r hr, ten_digits c hc, short.short)

  pub rack_parses : (L : LimitSet) → 31 ≤ L.text → parse_rack L (rack_text r c m) ≡ Ok (record { rseq = r; cseq = c; method = m })
  unfolding parse_rack value_cause rack_text
  rack_parses L l = rw (le-ltb L.text (length (rack_text r c m)) (omega (arith, fits)), all_printable, rack_reads)

-- what was written is its text
written : (r c m room : ℕ) (s : List ℕ) → format_rack r c m room ≡ Ok s → (is_method m ≡ true) × (rack_text r c m ≡ s)
written r c m room s e = by (is_method m) refl (ltb room (length (rack_text r c m))) refl e
  where
    by : (t : Bool) → is_method m ≡ t → (u : Bool) → ltb room (length (rack_text r c m)) ≡ u
        → refuse_by (cause_if (not t) InvalidMethod) (refuse_by (cause_if u NoRoom) (Ok (rack_text r c m))) ≡ Ok s → (is_method m ≡ true) × (rack_text r c m ≡ s)
    by true p false q e = (p, (cc))
    by true p true q e = absurd (let z : ◌≡◌ {A = ℕ} 0 1 = cc in omega arith)
    by false p u q e = absurd (let z : ◌≡◌ {A = ℕ} 0 1 = cc in omega arith)

-- parse after format: the three numbers again
pub parse_format : (L : LimitSet) → 31 ≤ L.text → (r c m room : ℕ) (s : List ℕ) → r < 2 ^ 32 → c < 2 ^ 32 → format_rack r c m room ≡ Ok s → parse_rack L s ≡ Ok (record { rseq = r; cseq = c; method = m })
parse_format L l r c m room s hr hc e =
    let w = written r c m room s e in
    rw (← w.1) (rack_parses r c m hr hc w.0 L l)
