-- The table of a block's first lines: a line has at most one of the names, and each turn of the reading keeps, for every name, the
-- first line of it. One law over the name. Assumes nothing.
use Prim.Native.Nat.{ℕ, zero, suc, ◌+◌, ◌≤◌, ◌<◌}
use native.Mathlib.Omega.{arith}
use mathlib.Core.Path.{◌≡◌, refl, sym, ap, subst, ◌∙◌}
use mathlib.Core.Bool.{Bool, true, false, cond, not, ◌&&◌, false≢true}
use mathlib.Core.List.{List, [], ◌∷◌}
use lib.ListN.{length, take, drop, get_or, set}
use lib.Dec.{eqb, eqb-zero-suc, eqb-suc-zero, eqb-suc-suc}
use borrow.Author.Tests.{eq-eqb, ne_eqb, eqb-true, eqb-false}
use Rattle.std.proofs.lemmas.Bool.{and_parts}
use Rattle.std.proofs.lemmas.Grind.{get_or-set_at}
use Rattle.std.proofs.lemmas.List.{get_or-set_other}
use Rattle.std.specs.Prelude.{Err, None, Ok, Option, Some}
use Rattle.std.specs.Option.{option_or}
use Rattle.limits.specs.Outcome.{check_of}
use Rattle.limits.specs.declared.Refusal.{Refusal}
use Rattle.text.specs.Text.{alike, lower}
use Rattle.text.specs.Answers.{span_of}
use Rattle.text.specs.declared.Span.{Span}
use Rattle.msg.specs.Block.{HeaderLine, full_in, full_of, named, first_named, found_of, lines_of, value_of, text_of, value_named}
use Rattle.msg.specs.Table.{names, name_in, name_at, slot_in, slot_of, tabled, headers_of, looked_up, or_found, kept, noted, text_at, value_at, end_of}
use Rattle.msg.specs.declared.table.HeaderTable.{HeaderTable}
use Rattle.msg.proofs.LookupLaws.{Says, found_at}

-- ---- a line has at most one of the names

-- texts that are both like a third
alike_both : (f : ℕ → ℕ) (x a b : List ℕ) → alike f x a ≡ true → alike f x b ≡ true → alike f a b ≡ true
unfolding alike
alike_both f [] [] [] p q = refl
alike_both f [] [] (z ∷ b) p q = absurd (false≢true q)
alike_both f [] (y ∷ a) b p q = absurd (false≢true p)
alike_both f (w ∷ x) [] b p q = absurd (false≢true p)
alike_both f (w ∷ x) (y ∷ a) [] p q = absurd (false≢true q)
alike_both f (w ∷ x) (y ∷ a) (z ∷ b) p q =
    let t : f y ≡ f z = sym (eqb-true _ _ ((and_parts (eqb (f w) (f y)) (alike f x a) p).0)) ∙ eqb-true _ _ ((and_parts (eqb (f w) (f z)) (alike f x b) q).0) in
    rw (eq-eqb _ _ t) (alike_both f x a b (and_parts (eqb (f w) (f y)) (alike f x a) p).1 (and_parts (eqb (f w) (f z)) (alike f x b) q).1)

-- no two of some names are the same, in any spelling
unfoldable differs : List ℕ → List (List ℕ) → Bool
differs a [] = true
differs a (b ∷ more) = not (named b a) && differs a more

unfoldable apart : List (List ℕ) → Bool
apart [] = true
apart (a ∷ more) = differs a more && apart more

names_apart : apart names ≡ true
unfolding apart differs full_in alike
names_apart = refl

not_both : (a b name : List ℕ) → named a name ≡ true → not (named b a) ≡ true → named b name ≡ false
not_both a b name h d = by (named b name) refl
  where
    by : (u : Bool) → named b name ≡ u → u ≡ false
    by false e = refl
    by true e = absurd (false≢true (rw (alike_both lower (full_of name) (full_of a) (full_of b) h e) at d))

other_names : (a name : List ℕ) → named a name ≡ true → (ns : List (List ℕ)) → differs a ns ≡ true → (k : ℕ) → k < length ns → named (name_in ns k) name ≡ false
unfolding differs
other_names a name h [] d k l = absurd (omega arith)
other_names a name h (b ∷ ns) d zero l = not_both a b name h (and_parts (not (named b a)) (differs a ns) d).0
other_names a name h (b ∷ ns) d (suc k) l = other_names a name h ns (and_parts (not (named b a)) (differs a ns) d).1 k (omega arith)

by_first : (a : List ℕ) (ns : List (List ℕ)) (name : List ℕ) (k : ℕ) (u : Bool) → named a name ≡ u → (k < length ns → eqb (slot_in ns name) k ≡ named (name_in ns k) name)
    → (u ≡ true → k < length ns → named (name_in ns k) name ≡ false)
    → suc k < length (a ∷ ns) → eqb (cond u 0 (suc (slot_in ns name))) (suc k) ≡ named (name_in ns k) name
by_first a ns name k true e more other l = eqb-zero-suc k ∙ sym (other refl (omega arith))
by_first a ns name k false e more other l = eqb-suc-suc (slot_in ns name) k ∙ more (omega arith)

by_here : (u : Bool) (m : ℕ) → eqb (cond u 0 (suc m)) 0 ≡ u
by_here true m = refl
by_here false m = eqb-suc-zero m

-- the place of a name tells of every name whether it is that one
slot_in_lem : (ns : List (List ℕ)) → apart ns ≡ true → (name : List ℕ) (k : ℕ) → k < length ns → eqb (slot_in ns name) k ≡ named (name_in ns k) name
unfolding slot_in apart
slot_in_lem [] d name k l = absurd (omega arith)
slot_in_lem (a ∷ ns) d name zero l = by_here (named a name) (slot_in ns name)
slot_in_lem (a ∷ ns) d name (suc k) l =
    by_first a ns name k (named a name) refl (slot_in_lem ns (and_parts (differs a ns) (apart ns) d).1 name k) (λ e h. other_names a name e ns (and_parts (differs a ns) (apart ns) d).0 k h) l

pub slot_is : (name : List ℕ) (k : ℕ) → k < 8 → eqb (slot_of name) k ≡ named (name_at k) name
slot_is name k l = slot_in_lem names names_apart name k l

-- ---- the table

-- two tables with the same look-up of each name
tabled_same : (f g : ℕ → Option (Span × ℕ)) → ((k : ℕ) → k < 8 → f k ≡ g k) → tabled f ≡ tabled g
tabled_same f g h = rw (h 0 (omega arith), h 1 (omega arith), h 2 (omega arith), h 3 (omega arith), h 4 (omega arith), h 5 (omega arith), h 6 (omega arith), h 7 (omega arith))

looked_up_lem : (f : ℕ → Option (Span × ℕ)) (k : ℕ) → k < 8 → looked_up (tabled f) k ≡ f k
looked_up_lem f zero l = refl
looked_up_lem f (suc zero) l = refl
looked_up_lem f (suc (suc zero)) l = refl
looked_up_lem f (suc (suc (suc zero))) l = refl
looked_up_lem f (suc (suc (suc (suc zero)))) l = refl
looked_up_lem f (suc (suc (suc (suc (suc zero))))) l = refl
looked_up_lem f (suc (suc (suc (suc (suc (suc zero)))))) l = refl
looked_up_lem f (suc (suc (suc (suc (suc (suc (suc zero))))))) l = refl
looked_up_lem f (suc (suc (suc (suc (suc (suc (suc (suc k)))))))) l = absurd (omega arith)

-- the look-ups as the code holds them, one after another
abbrev pub table_in : List (Option (Span × ℕ)) → HeaderTable
table_in ls = tabled (λ k. get_or ls k None)

or_is : (have here : Option (Span × ℕ)) → option_or have here ≡ or_found have here
or_is None here = refl
or_is (Some (v, next)) here = refl

-- one more line, of the k-th name
pub table_put : (ls : List (Option (Span × ℕ))) (k : ℕ) (here have : Option (Span × ℕ)) → k < length ls → have ≡ option_or (get_or ls k None) here → table_in (set ls k have) ≡ noted k here (table_in ls)
table_put ls k here have l q = tabled_same _ _ (λ j h. by (eqb k j) j refl h)
  where
    by : (u : Bool) (j : ℕ) → eqb k j ≡ u → j < 8 → get_or (set ls k have) j None ≡ kept (eqb k j) (looked_up (table_in ls) j) here
    by true j e h =
        let i : k ≡ j = eqb-true k j e in
        rw (e, looked_up_lem (λ n. get_or ls n None) j h) (get_or-set_at ls k j have None (sym i) l ∙ q ∙ or_is (get_or ls k None) here ∙ ap (λ (n : ℕ). or_found (get_or ls n None) here) i)
    by false j e h = rw (e, looked_up_lem (λ n. get_or ls n None) j h) (get_or-set_other ls k j have None (λ (x : j ≡ k). eqb-false k j e (sym x)))

-- what a table comes to after the lines that are left
abbrev pub table_after : HeaderTable → List HeaderLine → HeaderTable
table_after t ls = tabled (λ k. or_found (looked_up t k) (found_of (first_named (name_at k) ls)))

-- one line, for one name: the law of all names
by_turn : (asked : List ℕ) (l : HeaderLine) (ls : List HeaderLine) (have : Option (Span × ℕ)) (u : Bool)
    → or_found have (found_of (cond u (Some l) (first_named asked ls))) ≡ or_found (kept u have (found_of (Some l))) (found_of (first_named asked ls))
by_turn asked l ls (Some (v, next)) true = refl
by_turn asked l ls (Some (v, next)) false = refl
by_turn asked l ls None true = refl
by_turn asked l ls None false = refl

turn : (asked : List ℕ) (l : HeaderLine) (ls : List HeaderLine) (have : Option (Span × ℕ))
    → or_found have (found_of (first_named asked (l ∷ ls))) ≡ or_found (kept (named asked l.name) have (found_of (Some l))) (found_of (first_named asked ls))
unfolding first_named
turn asked l ls have = by_turn asked l ls have (named asked l.name)

module _ (t : HeaderTable) where
  nothing_more : (f : Option (Span × ℕ)) → or_found f None ≡ f
  nothing_more (Some (v, next)) = refl
  nothing_more None = refl

  pub table_end : table_after t [] ≡ t
  unfolding first_named
  table_end = tabled_same _ (looked_up t) (λ k h. nothing_more (looked_up t k))

  pub table_next : (l : HeaderLine) (ls : List HeaderLine) → table_after t (l ∷ ls) ≡ table_after (noted (slot_of l.name) (found_of (Some l)) t) ls
  table_next l ls = tabled_same _ _ (λ k h. turn (name_at k) l ls (looked_up t k) ∙ ap (λ (x : Option (Span × ℕ)). or_found x (found_of (first_named (name_at k) ls))) (ap (λ (u : Bool). kept u (looked_up t k) (found_of (Some l))) (sym (slot_is l.name k h)) ∙ sym (looked_up_lem (λ j. kept (eqb (slot_of l.name) j) (looked_up t j) (found_of (Some l))) k h)))

  pub table_skip : (l : HeaderLine) (ls : List HeaderLine) → 8 ≤ slot_of l.name → table_after t (l ∷ ls) ≡ table_after t ls
  table_skip l ls q = tabled_same _ _ (λ k h. turn (name_at k) l ls (looked_up t k) ∙ ap (λ (u : Bool). or_found (kept u (looked_up t k) (found_of (Some l))) (found_of (first_named (name_at k) ls))) (sym (slot_is l.name k h) ∙ ne_eqb _ _ (λ (e : slot_of l.name ≡ k). omega arith)))

  -- the same as the code makes it
  pub table_noted : (l : HeaderLine) (ls : List HeaderLine) (k : ℕ) (here : Option (Span × ℕ)) (u : HeaderTable) → k ≡ slot_of l.name → here ≡ found_of (Some l) → u ≡ noted k here t
      → table_after t (l ∷ ls) ≡ table_after u ls
  table_noted l ls k here u p q r = table_next l ls ∙ rw (r, p, q)

-- ---- a line that was looked up stands in the block

module _ (name block : List ℕ) where
  looked : (l : HeaderLine) → first_named name (lines_of block) ≡ Some l → (l.value.place + length l.value.text ≤ length block) × (take (length l.value.text) (drop l.value.place block) ≡ l.value.text)
  looked l e =
      let r : Says block (first_named name (lines_of block)) (span_of l.value) l.next = found_at block name 0 (span_of l.value) l.next (omega arith) (ap found_of e) in
      let q : r.line ≡ l = cc r.is in
      subst (λ (h : HeaderLine). (h.value.place + length h.value.text ≤ length block) × (take (length h.value.text) (drop h.value.place block) ≡ h.value.text)) q (r.placed.fits, r.placed.there)

  pub text_at_lem : text_at (found_of (first_named name (lines_of block))) block ≡ text_of (first_named name (lines_of block))
  text_at_lem = by (first_named name (lines_of block)) refl
    where
      by : (o : Option HeaderLine) → first_named name (lines_of block) ≡ o → text_at (found_of o) block ≡ text_of o
      by None e = refl
      by (Some l) e = (looked l e).1

  pub value_at_lem : value_at (found_of (first_named name (lines_of block))) block ≡ value_named name block
  value_at_lem = by (first_named name (lines_of block)) refl
    where
      by : (o : Option HeaderLine) → first_named name (lines_of block) ≡ o → value_at (found_of o) block ≡ value_of o
      by None e = refl
      by (Some l) e = ap (λ (s : List ℕ). Some (record { place = l.value.place; text = s })) (looked l e).1

  pub end_of_lem : end_of (found_of (first_named name (lines_of block))) ≤ length block
  end_of_lem = by (first_named name (lines_of block)) refl
    where
      by : (o : Option HeaderLine) → first_named name (lines_of block) ≡ o → end_of (found_of o) ≤ length block
      by None e = omega arith
      by (Some l) e = (looked l e).0

-- the same of a line that is at hand
pub found_end : (name block : List ℕ) (f : Option (Span × ℕ)) → f ≡ found_of (first_named name (lines_of block)) → end_of f ≤ length block
found_end name block f e = rw e (end_of_lem name block)

module _ (f : Option (Span × ℕ)) (v : Span) (next : ℕ) (e : f ≡ Some (v, next)) where
  pub at_fits : (n : ℕ) → end_of f ≤ n → v.start + v.length ≤ n
  at_fits n h = subst (λ (x : Option (Span × ℕ)). end_of x ≤ n) e h

-- ---- what a reading answers

-- a block with a table, and one without
pub headers_read : (o : Option Refusal) (u t : HeaderTable) → headers_of o u ≡ Ok t → (o ≡ None) × (t ≡ u)
headers_read None u t e = (refl, (cc))
headers_read (Some x) u t e = absurd (let z : ◌≡◌ {A = ℕ} 0 1 = cc in omega arith)

pub headers_bad : (o : Option Refusal) (u : HeaderTable) (x : Refusal) → headers_of o u ≡ Err x → check_of o ≡ Err x
headers_bad None u x e = absurd (let z : ◌≡◌ {A = ℕ} 0 1 = cc in omega arith)
headers_bad (Some y) u x e = let q : y ≡ x = cc in ap Err q
