-- The count of a store's entries, an entry at a time: what a step changes, and what the answer is. Assumes nothing.
use Prim.Native.Nat.{ℕ, suc, ◌+◌, ◌-◌, ◌≤◌, ◌<◌}
use native.Mathlib.Omega.{arith}
use mathlib.Core.Path.{◌≡◌, refl, sym, ap, ap₂, ◌∙◌}
use mathlib.Core.Bool.{Bool, true, false, cond, ◌&&◌}
use mathlib.Core.List.{List, [], ◌∷◌}
use lib.ListN.{length, drop, length-drop, drop_of_length-le}
use Rattle.std.specs.Prelude.{None, Option, Some}
use Rattle.ordered_store.specs.Entries.{entry_before, entries_on, entries_in, ascending_from, only_ascending, decode_entries}
use Rattle.ordered_store.specs.Layout.{Layout, places_read}
use Rattle.ordered_store.specs.Order.{key_order, is_before}
use Rattle.ordered_store.specs.Places.{count_of}
use Rattle.ordered_store.proofs.BytesLaws.{entries_step, entries_ended}
use Rattle.ordered_store.proofs.PlaceLaws.{broken_says, Here, Got}

module _ {A P : Type 0} (F : Layout A P) where
  -- what is asked, once n entries are counted and the last of them is v: whether the rest are entries in order after it
  abbrev onward : A → ℕ → Option (List A) → Option ℕ
  onward v n None = None
  onward v n (Some es) = cond (ascending_from F.parts.key_of v es) (Some (n + length es)) None

  -- one entry counted
  from_first : (v : A) (o : Option (List A)) → count_of (only_ascending F.parts.key_of (entry_before v o)) ≡ onward v 1 o
  from_first v None = refl
  from_first v (Some es) = by (ascending_from F.parts.key_of v es)
    where
      by : (t : Bool) → count_of (cond t (Some (v ∷ es)) None) ≡ cond t (Some (1 + length es)) None
      by true = ap Some (omega arith)
      by false = refl

  -- an entry in order, and one that isn't
  onward_next : (v w : A) (n : ℕ) (o : Option (List A)) → is_before (key_order (F.parts.key_of v) (F.parts.key_of w)) ≡ true → onward v n (entry_before w o) ≡ onward w (n + 1) o
  unfolding ascending_from
  onward_next v w n None h = refl
  onward_next v w n (Some es) h =
      ap (λ t. cond (t && ascending_from F.parts.key_of w es) (Some (n + suc (length es))) None) h
      ∙ ap (λ k. cond (ascending_from F.parts.key_of w es) (Some k) None) (omega arith)

  onward_stop : (v w : A) (n : ℕ) (o : Option (List A)) → is_before (key_order (F.parts.key_of v) (F.parts.key_of w)) ≡ false → onward v n (entry_before w o) ≡ None
  unfolding ascending_from
  onward_stop v w n None h = refl
  onward_stop v w n (Some es) h = ap (λ t. cond (t && ascending_from F.parts.key_of w es) (Some (n + suc (length es))) None) h

  -- no bytes: no entries
  pub nothing : (s : List ℕ) → length s ≡ 0 → Some 0 ≡ count_of (decode_entries F.form F.parts.key_of s)
  unfolding decode_entries entries_in
  nothing [] h = refl
  nothing (b ∷ s) h = absurd (omega arith)

  module _ (s : List ℕ) where
    -- what is asked of the store
    abbrev pub asked : Option ℕ
    asked = count_of (decode_entries F.form F.parts.key_of s)

    -- the state of the loop: the last entry read, at a place before
    pub record Counting (last : P) (n : ℕ) : Type 0 where
      pub at : ℕ
      pub value : A
      pub is : Here F s at last value
      pub fuel : ℕ
      pub enough : length s - F.parts.end_of last ≤ fuel
      pub many : n ≤ F.parts.end_of last
      pub same : asked ≡ onward value n (entries_in F.form fuel (drop (F.parts.end_of last) s))

    -- ---- before the loop

    module _ (h : 0 < length s) where
      opened : decode_entries F.form F.parts.key_of s ≡ only_ascending F.parts.key_of (entries_on (F.form.read (drop 0 s)) (λ u. entries_in F.form (length s - 1) u))
      unfolding decode_entries
      opened = ap (only_ascending F.parts.key_of) (entries_step F.form (length s) s h (omega arith))

      pub first_broken : places_read F.parts 0 (F.form.read (drop 0 s)) ≡ None → None ≡ asked
      first_broken e =
          sym (ap count_of opened ∙ ap (λ o. count_of (only_ascending F.parts.key_of (entries_on o (λ u. entries_in F.form (length s - 1) u)))) (broken_says F 0 (F.form.read (drop 0 s)) e))

      pub start : {p : P} → Got F s 0 p → Counting p 1
      start {p} g = record {
        at = 0;
        value = g.value;
        is = g.is;
        fuel = length s - 1;
        enough = omega (arith, g.is.moves);
        many = omega (arith, g.is.moves);
        same = ap count_of opened ∙ ap (λ o. count_of (only_ascending F.parts.key_of (entries_on o (λ u. entries_in F.form (length s - 1) u)))) g.reads
            ∙ from_first g.value (entries_in F.form (length s - 1) (drop (F.parts.end_of p) s));
      }

    -- ---- a turn

    module _ (last : P) (n : ℕ) (g : Counting last n) where
      -- the bytes are passed: all are counted
      pub all_counted : length s ≤ F.parts.end_of last → Some n ≡ asked
      unfolding ascending_from
      all_counted h =
          sym (g.same ∙ ap (onward g.value n) (ap (entries_in F.form g.fuel) (drop_of_length-le s h) ∙ entries_ended F.form g.fuel) ∙ ap Some (omega arith))

      module _ (h : F.parts.end_of last < length s) where
        next_is : asked ≡ onward g.value n (entries_on (F.form.read (drop (F.parts.end_of last) s)) (λ u. entries_in F.form (g.fuel - 1) u))
        next_is =
            g.same
            ∙ ap (onward g.value n) (entries_step F.form g.fuel (drop (F.parts.end_of last) s) (omega (arith, length-drop (F.parts.end_of last) s)) (omega (arith, length-drop (F.parts.end_of last) s, g.enough)))

        pub next_broken : places_read F.parts (F.parts.end_of last) (F.form.read (drop (F.parts.end_of last) s)) ≡ None → None ≡ asked
        next_broken e =
            sym (next_is ∙ ap (λ o. onward g.value n (entries_on o (λ u. entries_in F.form (g.fuel - 1) u))) (broken_says F (F.parts.end_of last) (F.form.read (drop (F.parts.end_of last) s)) e))

        module _ {p : P} (q : Got F s (F.parts.end_of last) p) where
          read_is : asked ≡ onward g.value n (entry_before q.value (entries_in F.form (g.fuel - 1) (drop (F.parts.end_of p) s)))
          read_is = next_is ∙ ap (λ o. onward g.value n (entries_on o (λ u. entries_in F.form (g.fuel - 1) u))) q.reads

          -- what the comparison of the keys at their places says
          module _ {r : Bool} (e : r ≡ is_before (key_order (F.parts.key_at s last) (F.parts.key_at s p))) where
            compared : is_before (key_order (F.parts.key_of g.value) (F.parts.key_of q.value)) ≡ r
            compared = ap₂ (λ k l. is_before (key_order k l)) (sym g.is.key) (sym q.is.key) ∙ sym e

            pub out_of_order : r ≡ false → None ≡ asked
            out_of_order f = sym (read_is ∙ onward_stop g.value q.value n (entries_in F.form (g.fuel - 1) (drop (F.parts.end_of p) s)) (compared ∙ f))

            pub counted : r ≡ true → Counting p (n + 1)
            counted f = record {
              at = F.parts.end_of last;
              value = q.value;
              is = q.is;
              fuel = g.fuel - 1;
              enough = omega (arith, g.enough, q.is.moves);
              many = omega (arith, g.many, q.is.moves);
              same = read_is ∙ onward_next g.value q.value n (entries_in F.form (g.fuel - 1) (drop (F.parts.end_of p) s)) (compared ∙ f);
            }
