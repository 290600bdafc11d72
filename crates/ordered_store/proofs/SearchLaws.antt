-- The search of the slot of a key in a store that was read, an entry at a time. Assumes nothing.
use Prim.Native.Nat.{ℕ, ◌+◌, ◌≤◌, ◌<◌}
use native.Mathlib.Omega.{arith}
use mathlib.Core.Path.{◌≡◌, refl, sym, ap, subst, ◌∙◌}
use mathlib.Core.List.{List, [], ◌∷◌, ◌++◌}
use lib.ListN.{length, drop, length-append, length-drop}
use Rattle.std.specs.Prelude.{None, Option, Some}
use Rattle.codec.specs.Codec.{Reading, write_all}
use Rattle.codec.proofs.CodecLaws.{Bytes, GoodAll}
use Rattle.ordered_store.specs.Entries.{Key, encode_entries, decode_entries}
use Rattle.ordered_store.specs.Layout.{Layout, Lawful, places_read}
use Rattle.ordered_store.specs.Order.{key_order}
use Rattle.ordered_store.specs.Places.{Stored}
use Rattle.ordered_store.specs.Slot.{Slot, held, free, slot_by, slot_in, slot_read}
use Rattle.std.specs.declared.cmp.Ordering.{Ordering}
use Rattle.std.specs.declared.cmp.Ordering.TheVariants.{Less, Equal, Greater}
use Rattle.ordered_store.proofs.BytesLaws.{decoded}
use Rattle.ordered_store.proofs.PlaceLaws.{whole_says, broken_says, Here, past, here}

module _ {A P : Type 0} (F : Layout A P) (k : Key) (s : List ℕ) where
  -- what is asked of the store, and what of the entries from a place on
  abbrev asked : Option (Slot A)
  asked = slot_read F.form F.parts.key_of k (decode_entries F.form F.parts.key_of s)

  abbrev among : ℕ → List A → Slot A
  among at es = slot_in F.form F.parts.key_of k at es

  -- what is asked of the store is asked of the entries from `at` on
  pub record Left (at : ℕ) : Type 0 where
    pub rest : List A
    pub good : GoodAll F.Good rest
    pub are : drop at s ≡ encode_entries F.form rest
    pub inside : at ≤ length s
    pub same : Some (among at rest) ≡ asked

  pub start : Lawful F → Bytes s → Stored F.form F.parts.key_of s → Left 0
  start laws b g =
      let d = decoded F.form F.parts.key_of F.Good laws.exact s g.list b g.are in
      record { rest = g.list; good = d.1; are = d.0; inside = omega arith; same = ap (slot_read F.form F.parts.key_of k) (sym g.are) }

  module _ (at : ℕ) where
    -- the first of the entries left, and the others
    pub record Turn : Type 0 where
      pub value : A
      pub more : List A
      pub good : GoodAll F.Good more
      pub starts : drop at s ≡ F.form.write value ++ encode_entries F.form more
      pub reads : F.form.read (drop at s) ≡ Some (record { value = value; rest = encode_entries F.form more })
      pub same : Some (slot_by (key_order (F.parts.key_of value) k) at value (among (at + length (F.form.write value)) more)) ≡ asked

    empty_left : at < length s → drop at s ≡ encode_entries F.form [] → ⊥
    unfolding write_all
    empty_left h e = omega (arith, ap length e, length-drop at s)

    first_left : Lawful F → (v : A) (more : List A) → GoodAll F.Good (v ∷ more) → drop at s ≡ encode_entries F.form (v ∷ more) → Some (among at (v ∷ more)) ≡ asked → Turn
    unfolding write_all slot_in
    first_left laws v more w e q = record {
      value = v;
      more = more;
      good = w.1;
      starts = e;
      reads = ap F.form.read e ∙ laws.exact.round v w.0 (write_all F.form more);
      same = q;
    }

    pub turn : Lawful F → Left at → at < length s → Turn
    turn laws g h = by g.rest g.good g.are g.same
      where
        by : (rest : List A) → GoodAll F.Good rest → drop at s ≡ encode_entries F.form rest → Some (among at rest) ≡ asked → Turn
        by [] w e q = absurd (empty_left h e)
        by (v ∷ more) w e q = first_left laws v more w e q

    nowhere : free at ≡ among at []
    unfolding slot_in
    nowhere = refl

    some_left : Lawful F → (v : A) (more : List A) → length s ≤ at → drop at s ≡ encode_entries F.form (v ∷ more) → ⊥
    unfolding write_all
    some_left laws v more h e = omega (arith, ap length e, length-drop at s, length-append (F.form.write v) (write_all F.form more), laws.filled v)

    -- no entries left
    pub ended : Lawful F → Left at → length s ≤ at → Some (free at) ≡ asked
    ended laws g h = by g.rest g.are g.same
      where
        by : (rest : List A) → drop at s ≡ encode_entries F.form rest → Some (among at rest) ≡ asked → Some (free at) ≡ asked
        by [] e q = ap Some nowhere ∙ q
        by (v ∷ more) e q = absurd (some_left laws v more h e)

    module _ (laws : Lawful F) (t : Turn) where
      -- an entry is read there
      pub unbroken : places_read F.parts at (F.form.read (drop at s)) ≡ None → ⊥
      unbroken e = let q = sym (broken_says F at (F.form.read (drop at s)) e) ∙ t.reads in let z : ◌≡◌ {A = ℕ} 0 1 = cc in omega arith

      module _ {p : P} (e : places_read F.parts at (F.form.read (drop at s)) ≡ Some p) where
        places : F.parts.places_of at t.value ≡ p
        places = by (whole_says F at (F.form.read (drop at s)) p e)
          where
            by : (x : Reading A) × ((F.form.read (drop at s) ≡ Some x) × (F.parts.places_of at x.value ≡ p)) → F.parts.places_of at t.value ≡ p
            by (x, (q, w)) =
                let same : Some (record { value = t.value; rest = encode_entries F.form t.more }) ≡ Some x = sym t.reads ∙ q in
                let v : t.value ≡ x.value = cc in
                ap (F.parts.places_of at) v ∙ w

        pub met : Here F s at p t.value
        met = subst (λ (z : P). Here F s at z t.value) places (here F laws s at t.value (encode_entries F.form t.more) t.starts)

        -- the answer of the comparison with its key
        module _ {r : Ordering} (c : r ≡ key_order (F.parts.key_at s p) k) where
          compared : {o : Ordering} → r ≡ o → o ≡ key_order (F.parts.key_of t.value) k
          compared q = sym q ∙ c ∙ ap (λ (m : Key). key_order m k) met.key

          decided : {o : Ordering} → r ≡ o → Some (slot_by o at t.value (among (at + length (F.form.write t.value)) t.more)) ≡ asked
          decided q = ap (λ o. Some (slot_by o at t.value (among (at + length (F.form.write t.value)) t.more))) (compared q) ∙ t.same

          -- it is the one of the key
          pub found : r ≡ Equal → Some (held at t.value) ≡ asked
          found q = decided q

          -- it is later
          pub passed : r ≡ Greater → Some (free at) ≡ asked
          passed q = decided q

          -- it is earlier: those after it are left
          pub gone_by : r ≡ Less → Left (F.parts.end_of p)
          gone_by q = record {
            rest = t.more;
            good = t.good;
            are = ap (λ (z : P). drop (F.parts.end_of z) s) met.placed ∙ past F laws s at t.value (encode_entries F.form t.more) t.starts;
            inside = met.within;
            same = ap (λ (n : ℕ). Some (among n t.more)) met.ends ∙ decided q;
          }
