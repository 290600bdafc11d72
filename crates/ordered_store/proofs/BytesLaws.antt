-- The bytes of a store and its entries: each gives the other back. For any exact form whose entries have at least one byte. Assumes nothing.
use Prim.Native.Nat.{ℕ, zero, suc, ◌-◌, ◌≤◌, ◌<◌}
use native.Mathlib.Omega.{arith}
use mathlib.Core.Path.{◌≡◌, refl, sym, ap, subst, ◌∙◌}
use mathlib.Core.Bool.{Bool, true, false}
use mathlib.Core.List.{List, [], ◌∷◌, ◌++◌}
use lib.ListN.{length, length-append}
use Rattle.std.specs.Prelude.{None, Option, Some}
use Rattle.codec.specs.Codec.{Reading, Codec, write_all}
use Rattle.codec.proofs.CodecLaws.{Bytes, bytes_after, Exact, GoodAll}
use Rattle.ordered_store.specs.Entries.{Key, entry_before, entries_on, unless_ended, encode_entries, entries_in, ascending, only_ascending, decode_entries}

-- where there are bytes, there are entries
pub not_ended : {A : Type 0} (s : List ℕ) (more : Option (List A)) → 0 < length s → unless_ended s more ≡ more
not_ended [] more h = absurd (let z : 0 < 0 = h in omega arith)
not_ended (b ∷ s) more h = refl

module _ {A : Type 0} (form : Codec A) (key_of : A → Key) (Good : A → Type 0) (x : Exact form Good) where
  -- ---- from entries to bytes and back

  module _ (filled : (a : A) → 0 < length (form.write a)) where
    -- the first entry, then the others
    first_read : (fuel : ℕ) (a : A) (es : List A) → Good a → entries_in form fuel (encode_entries form es) ≡ Some es → entries_in form (suc fuel) (encode_entries form (a ∷ es)) ≡ Some (a ∷ es)
    unfolding entries_in write_all
    first_read fuel a es g e =
        not_ended (form.write a ++ write_all form es) (entries_on (form.read (form.write a ++ write_all form es)) (λ t. entries_in form fuel t))
        (omega (arith, filled a, length-append (form.write a) (write_all form es)))
        ∙ ap (λ o. entries_on o (λ t. entries_in form fuel t)) (x.round a g (write_all form es))
        ∙ ap (entry_before a) e

    entries_round : (fuel : ℕ) (es : List A) → GoodAll Good es → length (encode_entries form es) ≤ fuel → entries_in form fuel (encode_entries form es) ≡ Some es
    unfolding entries_in write_all
    entries_round zero [] g h = refl
    entries_round (suc fuel) [] g h = refl
    entries_round zero (a ∷ es) g h = absurd (omega (arith, filled a, length-append (form.write a) (write_all form es)))
    entries_round (suc fuel) (a ∷ es) g h =
        first_read fuel a es g.0 (entries_round fuel es g.1 (omega (arith, filled a, length-append (form.write a) (write_all form es))))

    pub decode_encode : (es : List A) → GoodAll Good es → ascending key_of es ≡ true → decode_entries form key_of (encode_entries form es) ≡ Some es
    unfolding decode_entries
    decode_encode es g d = rw (entries_round (length (encode_entries form es)) es g (omega arith), d)

  -- ---- from bytes to entries and back

  -- what the bytes of a store were
  abbrev Were : List ℕ → List A → Type 0
  Were s es = (s ≡ encode_entries form es) × GoodAll Good es

  by_more : (s : List ℕ) (r : Reading A) (o : Option (List A)) (es : List A) → (s ≡ form.write r.value ++ r.rest) × Good r.value
      → ((ts : List A) → o ≡ Some ts → Were r.rest ts) → entry_before r.value o ≡ Some es → Were s es
  unfolding write_all
  by_more s r None es k more q = absurd (let z : ◌≡◌ {A = ℕ} 0 1 = cc in omega arith)
  by_more s r (Some ts) es k more q =
      let m : r.value ∷ ts ≡ es = cc in
      let l = more ts refl in
      subst (Were s) m (k.0 ∙ ap (λ (t : List ℕ). form.write r.value ++ t) l.0, (k.1, l.1))

  by_read : (s : List ℕ) (fuel : ℕ) (o : Option (Reading A)) (es : List A) → Bytes s → form.read s ≡ o
      → ((t : List ℕ) (ts : List A) → Bytes t → entries_in form fuel t ≡ Some ts → Were t ts) → entries_on o (λ t. entries_in form fuel t) ≡ Some es → Were s es
  by_read s fuel None es h e more q = absurd (let z : ◌≡◌ {A = ℕ} 0 1 = cc in omega arith)
  by_read s fuel (Some r) es h e more q =
      let k = x.back s r h e in
      by_more s r (entries_in form fuel r.rest) es k (λ ts. more r.rest ts (bytes_after (form.write r.value) r.rest (subst Bytes k.0 h))) q

  entries_back : (fuel : ℕ) (s : List ℕ) (es : List A) → Bytes s → entries_in form fuel s ≡ Some es → Were s es
  unfolding entries_in write_all
  entries_back zero [] es h e = let q : [] ≡ es = cc in subst (Were []) q (refl, tt)
  entries_back zero (b ∷ s) es h e = absurd (let z : ◌≡◌ {A = ℕ} 0 1 = cc in omega arith)
  entries_back (suc fuel) [] es h e = let q : [] ≡ es = cc in subst (Were []) q (refl, tt)
  entries_back (suc fuel) (b ∷ s) es h e = by_read (b ∷ s) fuel (form.read (b ∷ s)) es h refl (entries_back fuel) e

  -- what a store's bytes are read as are good entries in ascending order, and the bytes were theirs
  pub decoded : (s : List ℕ) (es : List A) → Bytes s → decode_entries form key_of s ≡ Some es → (s ≡ encode_entries form es) × GoodAll Good es × (ascending key_of es ≡ true)
  unfolding decode_entries
  decoded s es h e = by (entries_in form (length s) s) refl e
    where
      by : (o : Option (List A)) → entries_in form (length s) s ≡ o → only_ascending key_of o ≡ Some es → (s ≡ encode_entries form es) × GoodAll Good es × (ascending key_of es ≡ true)
      by None q e = absurd (let z : ◌≡◌ {A = ℕ} 0 1 = cc in omega arith)
      by (Some ts) q e = is (ascending key_of ts) refl
        where
          is : (t : Bool) → ascending key_of ts ≡ t → (s ≡ encode_entries form es) × GoodAll Good es × (ascending key_of es ≡ true)
          is true t =
              let u : Some ts ≡ Some es = (rw t at e) in
              let v : ts ≡ es = cc in
              let k = entries_back (length s) s ts h q in
              subst (λ (l : List A). (s ≡ encode_entries form l) × GoodAll Good l × (ascending key_of l ≡ true)) v (k.0, k.1, t)
          is false t = absurd (let u : None ≡ Some es = (rw t at e) in let z : ◌≡◌ {A = ℕ} 0 1 = cc in omega arith)

-- ---- entries one at a time

module _ {A : Type 0} (form : Codec A) where
  -- where there are bytes: the first entry, then the others
  pub entries_step : (fuel : ℕ) (t : List ℕ) → 0 < length t → length t ≤ fuel → entries_in form fuel t ≡ entries_on (form.read t) (λ u. entries_in form (fuel - 1) u)
  unfolding entries_in
  entries_step zero t h l = absurd (omega arith)
  entries_step (suc fuel) t h l =
      let k : suc fuel - 1 ≡ fuel = omega arith in
      not_ended t (entries_on (form.read t) (λ u. entries_in form fuel u)) h ∙ ap (λ n. entries_on (form.read t) (λ u. entries_in form n u)) (sym k)

  -- where there are none: no entries
  pub entries_ended : (fuel : ℕ) → entries_in form fuel [] ≡ Some []
  unfolding entries_in
  entries_ended zero = refl
  entries_ended (suc fuel) = refl
