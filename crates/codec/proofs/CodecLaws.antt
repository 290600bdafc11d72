-- Each form of bytes is exact: a value's bytes are read as that value, and what was read was those bytes. Stated once for each
-- way to make a form, so that a form made of others needs no proof of its own. Assumes nothing.
use Prim.Native.Nat.{ℕ, zero, suc, ◌+◌, ◌*◌, ◌/◌, ◌%◌, ◌<◌}
use native.Mathlib.Omega.{arith}
use mathlib.Core.Path.{◌≡◌, refl, sym, ap, ap₂, subst, ◌∙◌}
use mathlib.Core.Bool.{Bool, true, false}
use mathlib.Core.List.{List, [], ◌∷◌, ◌++◌, append_assoc}
use lib.ListN.{length, take, drop, get_or, length-append, take-append-drop}
use lib.Seq.{take-append_seam, drop-append_seam, length-take-le}
use lib.Dec.{leb, eqb}
use borrow.Author.Tests.{le-leb, leb-true, eq-eqb, eqb-true}
use Rattle.std.specs.Prelude.{None, Option, Some}
unfoldable pub use Rattle.codec.specs.Exact.{Bytes}
pub use Rattle.codec.specs.Exact.{Exact}
use Rattle.codec.specs.Codec.{Reading, Codec, byte, read_byte, two, read_two, four, read_four, Pair, paired, read_then, then, passing, such, flagged, renamed, mapped, wide, halves, eight, read_text, text, write_all, in_front, and_more, read_all, read_counted, counted, keyed_by, read_keyed, keyed}

pub bytes_after : (s t : List ℕ) → Bytes (s ++ t) → Bytes t
bytes_after [] t h = h
bytes_after (b ∷ s) t h = bytes_after s t h.1

pub bytes_take : (n : ℕ) (s : List ℕ) → Bytes s → Bytes (take n s)
bytes_take zero s h = tt
bytes_take (suc n) [] h = tt
bytes_take (suc n) (b ∷ s) h = (h.0, bytes_take n s h.1)

pub bytes_drop : (at : ℕ) (s : List ℕ) → Bytes s → Bytes (drop at s)
bytes_drop zero s h = h
bytes_drop (suc at) [] h = tt
bytes_drop (suc at) (b ∷ s) h = bytes_drop at s h.1

-- the elements of a lent slice are bytes
pub bytes_all : (s : List ℕ) → ((i : ℕ) → get_or s i 0 < 256) → Bytes s
bytes_all [] h = tt
bytes_all (b ∷ s) h = (h 0, bytes_all s (λ i. h (suc i)))

-- nothing read is not something read
pub no_reading : {A : Type 0} {r : Reading A} → None ≡ Some r → ⊥
no_reading e = let z : ◌≡◌ {A = ℕ} 0 1 = cc in omega arith

-- ---- numbers

byte_back : (s : List ℕ) (r : Reading ℕ) → Bytes s → read_byte s ≡ Some r → (s ≡ r.value ∷ r.rest) × (r.value < 256)
byte_back [] r h e = absurd (no_reading e)
byte_back (a ∷ s) r h e =
    let q : record { value = a; rest = s } ≡ r = cc in
    subst (λ (x : Reading ℕ). (a ∷ s ≡ x.value ∷ x.rest) × (x.value < 256)) q (refl, h.0)

pub byte_exact : Exact byte (λ n. n < 256)
byte_exact = record { round = λ n h rest. refl; back = byte_back }

two_round : (n : ℕ) → n / 256 * 256 + n % 256 ≡ n
two_round n = omega arith

two_back : (s : List ℕ) (r : Reading ℕ) → Bytes s → read_two s ≡ Some r → (s ≡ r.value / 256 ∷ r.value % 256 ∷ r.rest) × (r.value < 65536)
two_back [] r h e = absurd (no_reading e)
two_back (a ∷ []) r h e = absurd (no_reading e)
two_back (a ∷ b ∷ s) r h e =
    let q : record { value = a * 256 + b; rest = s } ≡ r = cc in
    let x : a < 256 = h.0 in
    let y : b < 256 = h.1.0 in
    let u : (a * 256 + b) / 256 ≡ a = omega arith in
    let v : (a * 256 + b) % 256 ≡ b = omega arith in
    subst (λ (x : Reading ℕ). (a ∷ b ∷ s ≡ x.value / 256 ∷ x.value % 256 ∷ x.rest) × (x.value < 65536)) q (rw (u, v), omega arith)

pub two_exact : Exact two (λ n. n < 65536)
two_exact = record { round = λ n h rest. ap (λ (k : ℕ). Some (record { value = k; rest = rest })) (two_round n); back = two_back }

four_round : (n : ℕ) → ((n / 16777216 * 256 + n / 65536 % 256) * 256 + n / 256 % 256) * 256 + n % 256 ≡ n
four_round n =
    let a : n / 256 / 256 ≡ n / 65536 = omega arith in
    let b : n / 65536 / 256 ≡ n / 16777216 = omega arith in
    omega arith

module _ (a b c d : ℕ) (ha : a < 256) (hb : b < 256) (hc : c < 256) (hd : d < 256) where
  abbrev whole : ℕ
  whole = ((a * 256 + b) * 256 + c) * 256 + d

  by_256 : whole / 256 ≡ (a * 256 + b) * 256 + c
  by_256 = omega arith

  by_65536 : whole / 65536 ≡ a * 256 + b
  by_65536 = omega arith

  by_16777216 : whole / 16777216 ≡ a
  by_16777216 = omega arith

  four_digits : (s : List ℕ) → a ∷ b ∷ c ∷ d ∷ s ≡ whole / 16777216 ∷ whole / 65536 % 256 ∷ whole / 256 % 256 ∷ whole % 256 ∷ s
  four_digits s =
      let x : whole % 256 ≡ d = omega arith in
      let y : ((a * 256 + b) * 256 + c) % 256 ≡ c = omega arith in
      let z : (a * 256 + b) % 256 ≡ b = omega arith in
      rw (by_16777216, by_65536, by_256, x, y, z)

four_back : (s : List ℕ) (r : Reading ℕ) → Bytes s → read_four s ≡ Some r
    → (s ≡ r.value / 16777216 ∷ r.value / 65536 % 256 ∷ r.value / 256 % 256 ∷ r.value % 256 ∷ r.rest) × (r.value < 4294967296)
four_back [] r h e = absurd (no_reading e)
four_back (a ∷ []) r h e = absurd (no_reading e)
four_back (a ∷ b ∷ []) r h e = absurd (no_reading e)
four_back (a ∷ b ∷ c ∷ []) r h e = absurd (no_reading e)
four_back (a ∷ b ∷ c ∷ d ∷ s) r h e =
    let q : record { value = ((a * 256 + b) * 256 + c) * 256 + d; rest = s } ≡ r = cc in
    let w : a < 256 = h.0 in
    let x : b < 256 = h.1.0 in
    let y : c < 256 = h.1.1.0 in
    let z : d < 256 = h.1.1.1.0 in
    subst (λ (x : Reading ℕ). (a ∷ b ∷ c ∷ d ∷ s ≡ x.value / 16777216 ∷ x.value / 65536 % 256 ∷ x.value / 256 % 256 ∷ x.value % 256 ∷ x.rest) × (x.value < 4294967296)) q (four_digits a b c d w x y z s, omega arith)

pub four_exact : Exact four (λ n. n < 4294967296)
four_exact = record { round = λ n h rest. ap (λ (k : ℕ). Some (record { value = k; rest = rest })) (four_round n); back = four_back }

-- ---- ways to make a form from others

module _ {A B : Type 0} {c : Codec A} {d : Codec B} {GA : A → Type 0} {GB : B → Type 0} (x : Exact c GA) (y : Exact d GB) where
  abbrev GoodPair : Pair A B → Type 0
  GoodPair p = GA p.first × GB p.second

  then_round : (p : Pair A B) → GoodPair p → (rest : List ℕ) → (then c d).read ((then c d).write p ++ rest) ≡ Some (record { value = p; rest = rest })
  then_round p g rest = rw (append_assoc (c.write p.first) (d.write p.second) rest, x.round p.first g.0 (d.write p.second ++ rest), y.round p.second g.1 rest)

  by_second : (s : List ℕ) (a : Reading A) (o : Option (Reading B)) (r : Reading (Pair A B)) → Bytes s → (s ≡ c.write a.value ++ a.rest) × GA a.value → d.read a.rest ≡ o → paired a.value o ≡ Some r
      → (s ≡ (then c d).write r.value ++ r.rest) × GoodPair r.value
  by_second s a None r h k e q = absurd (no_reading q)
  by_second s a (Some b) r h k e q =
      let m : record { value = record { first = a.value; second = b.value }; rest = b.rest } ≡ r = cc in
      let l : Bytes a.rest = bytes_after (c.write a.value) a.rest (subst Bytes k.0 h) in
      let n = y.back a.rest b l e in
      subst (λ (z : Reading (Pair A B)). (s ≡ (then c d).write z.value ++ z.rest) × GoodPair z.value) m
      (k.0 ∙ rw (append_assoc (c.write a.value) (d.write b.value) b.rest) (ap (λ (t : List ℕ). c.write a.value ++ t) n.0), (k.1, n.1))

  by_first : (s : List ℕ) (o : Option (Reading A)) (r : Reading (Pair A B)) → Bytes s → c.read s ≡ o → read_then o d.read ≡ Some r → (s ≡ (then c d).write r.value ++ r.rest) × GoodPair r.value
  by_first s None r h e q = absurd (no_reading q)
  by_first s (Some a) r h e q = by_second s a (d.read a.rest) r h (x.back s a h e) refl q

  pub then_exact : Exact (then c d) GoodPair
  then_exact = record { round = then_round; back = λ s r h e. by_first s (c.read s) r h refl e }

module _ {A : Type 0} {c : Codec A} {G : A → Type 0} (x : Exact c G) (test : A → Bool) where
  by_test : (s : List ℕ) (o : Option (Reading A)) (r : Reading A) → Bytes s → c.read s ≡ o → passing test o ≡ Some r → (s ≡ c.write r.value ++ r.rest) × G r.value × (test r.value ≡ true)
  by_test s None r h e q = absurd (no_reading q)
  by_test s (Some a) r h e q = by (test a.value) refl
    where
      by : (t : Bool) → test a.value ≡ t → (s ≡ c.write r.value ++ r.rest) × G r.value × (test r.value ≡ true)
      by true t =
          let m : Some a ≡ Some r = (rw t at q) in
          let n : a ≡ r = cc in
          let k = x.back s a h e in
          subst (λ (z : Reading A). (s ≡ c.write z.value ++ z.rest) × G z.value × (test z.value ≡ true)) n (k.0, k.1, t)
      by false t = absurd (no_reading (rw t at q))

  pub such_exact : Exact (such c test) (λ a. G a × (test a ≡ true))
  such_exact = record { round = λ a g rest. rw (x.round a g.0 rest, g.1); back = λ s r h e. let k = by_test s (c.read s) r h refl e in (k.0, (k.1, k.2)) }

-- where the flag doesn't stand, the absent value alone
abbrev pub GoodFlag : {A : Type 0} → Bool → A → (A → Type 0) → A → Type 0
GoodFlag true absent G a = G a
GoodFlag false absent G a = a ≡ absent

pub flagged_exact : {A : Type 0} {c : Codec A} {G : A → Type 0} (flag : Bool) (absent : A) → Exact c G → Exact (flagged flag absent c) (GoodFlag flag absent G)
flagged_exact true absent x = x
flagged_exact {A} {c} {G} false absent x = record {
  round = λ a g rest. ap (λ (z : A). Some (record { value = z; rest = rest })) (sym g);
  back = nothing;
}
  where
    nothing : (s : List ℕ) (r : Reading A) → Bytes s → Some (record { value = absent; rest = s }) ≡ Some r → (s ≡ r.rest) × (r.value ≡ absent)
    nothing s r h e = let q : record { value = absent; rest = s } ≡ r = cc in subst (λ (z : Reading A). (s ≡ z.rest) × (z.value ≡ absent)) q (refl, refl)

module _ {A B : Type 0} {c : Codec A} {G : A → Type 0} (x : Exact c G) (H : B → Type 0) (f : A → B) (g : B → A)
    (there : (b : B) → H b → (f (g b) ≡ b) × G (g b)) (again : (a : A) → G a → (g (f a) ≡ a) × H (f a)) where
  by_name : (s : List ℕ) (o : Option (Reading A)) (r : Reading B) → Bytes s → c.read s ≡ o → renamed f o ≡ Some r → (s ≡ c.write (g r.value) ++ r.rest) × H r.value
  by_name s None r h e q = absurd (no_reading q)
  by_name s (Some a) r h e q =
      let m : record { value = f a.value; rest = a.rest } ≡ r = cc in
      let k = x.back s a h e in
      let l = again a.value k.1 in
      subst (λ (z : Reading B). (s ≡ c.write (g z.value) ++ z.rest) × H z.value) m (k.0 ∙ ap (λ (y : A). c.write y ++ a.rest) (sym l.0), l.1)

  pub mapped_exact : Exact (mapped f g c) H
  mapped_exact = record {
    round = λ b k rest. rw (x.round (g b) (there b k).1 rest) (ap (λ (z : B). Some (record { value = z; rest = rest })) (there b k).0);
    back = λ s r h e. by_name s (c.read s) r h refl e;
  }

-- ---- eight bytes

same_pair : {A B : Type 0} {a c : A} {b d : B} → a ≡ c → b ≡ d → ◌≡◌ {A = Pair A B} (record { first = a; second = b }) (record { first = c; second = d })
same_pair p q = ap₂ (λ x y. record { first = x; second = y }) p q

eight_there : (n : ℕ) → n < 18446744073709551616 → (wide (halves n) ≡ n) × ((n / 4294967296 < 4294967296) × (n % 4294967296 < 4294967296))
eight_there n h = (omega arith, (omega arith, omega arith))

eight_again : (p : Pair ℕ ℕ) → (p.first < 4294967296) × (p.second < 4294967296) → (halves (wide p) ≡ p) × (wide p < 18446744073709551616)
eight_again p g =
    let h : p.first < 4294967296 = g.0 in
    let l : p.second < 4294967296 = g.1 in
    (same_pair (omega arith) (omega arith), omega arith)

-- below 2 to the 64
pub eight_exact : Exact eight (λ n. n < 18446744073709551616)
eight_exact = mapped_exact (then_exact four_exact four_exact) (λ n. n < 18446744073709551616) wide halves eight_there eight_again

-- ---- texts

text_round : (t : List ℕ) → length t < 65536 → (rest : List ℕ) → text.read (text.write t ++ rest) ≡ Some (record { value = t; rest = rest })
text_round t h rest =
    let l : leb (length t) (length (t ++ rest)) ≡ true = le-leb (length t) (length (t ++ rest)) (omega (arith, length-append t rest)) in
    rw (two_round (length t), l, take-append_seam t rest, drop-append_seam t rest)

by_length : (s : List ℕ) (o : Option (Reading ℕ)) (r : Reading (List ℕ)) → Bytes s → read_two s ≡ o → read_text o ≡ Some r → (s ≡ text.write r.value ++ r.rest) × (length r.value < 65536)
by_length s None r h e q = absurd (no_reading q)
by_length s (Some n) r h e q = by (leb n.value (length n.rest)) refl
  where
    by : (t : Bool) → leb n.value (length n.rest) ≡ t → (s ≡ text.write r.value ++ r.rest) × (length r.value < 65536)
    by true t =
        let m : Some (record { value = take n.value n.rest; rest = drop n.value n.rest }) ≡ Some r = (rw t at q) in
        let w : record { value = take n.value n.rest; rest = drop n.value n.rest } ≡ r = cc in
        let k = two_back s n h e in
        let l : length (take n.value n.rest) ≡ n.value = length-take-le n.value n.rest (leb-true _ _ t) in
        subst (λ (z : Reading (List ℕ)). (s ≡ text.write z.value ++ z.rest) × (length z.value < 65536)) w
        (k.0 ∙ rw (append_assoc (two.write (length (take n.value n.rest))) (take n.value n.rest) (drop n.value n.rest), l, take-append-drop n.value n.rest), omega (arith, k.1))
    by false t = absurd (no_reading (rw t at q))

pub text_exact : Exact text (λ t. length t < 65536)
text_exact = record { round = text_round; back = λ s r h e. by_length s (read_two s) r h refl e }

-- ---- lists

-- every element is good
abbrev pub GoodAll : {A : Type 0} → (A → Type 0) → List A → Type 0
GoodAll G [] = Unit {0}
GoodAll G (a ∷ l) = G a × GoodAll G l

module _ {A : Type 0} {c : Codec A} {G : A → Type 0} (x : Exact c G) where
  all_round : (l : List A) → GoodAll G l → (rest : List ℕ) → read_all c (length l) (write_all c l ++ rest) ≡ Some (record { value = l; rest = rest })
  unfolding write_all read_all
  all_round [] g rest = refl
  all_round (a ∷ l) g rest = rw (append_assoc (c.write a) (write_all c l) rest, x.round a g.0 (write_all c l ++ rest), all_round l g.1 rest)

  -- the first value, and then the others
  by_others : (s : List ℕ) (n : ℕ) (a : Reading A) (o : Option (Reading (List A))) (r : Reading (List A)) → (s ≡ c.write a.value ++ a.rest) × G a.value
      → ((b : Reading (List A)) → o ≡ Some b → (a.rest ≡ write_all c b.value ++ b.rest) × GoodAll G b.value × (length b.value ≡ n)) → in_front a.value o ≡ Some r
      → (s ≡ write_all c r.value ++ r.rest) × GoodAll G r.value × (length r.value ≡ suc n)
  unfolding write_all
  by_others s n a None r k more q = absurd (no_reading q)
  by_others s n a (Some b) r k more q =
      let m : record { value = a.value ∷ b.value; rest = b.rest } ≡ r = cc in
      let l = more b refl in
      subst (λ (z : Reading (List A)). (s ≡ write_all c z.value ++ z.rest) × GoodAll G z.value × (length z.value ≡ suc n)) m
      (k.0 ∙ rw (append_assoc (c.write a.value) (write_all c b.value) b.rest) (ap (λ (t : List ℕ). c.write a.value ++ t) l.0), (k.1, l.1), ap suc l.2)

  by_one : (s : List ℕ) (n : ℕ) (o : Option (Reading A)) (r : Reading (List A)) → Bytes s → c.read s ≡ o
      → ((t : List ℕ) (b : Reading (List A)) → Bytes t → read_all c n t ≡ Some b → (t ≡ write_all c b.value ++ b.rest) × GoodAll G b.value × (length b.value ≡ n)) → and_more o (read_all c n) ≡ Some r
      → (s ≡ write_all c r.value ++ r.rest) × GoodAll G r.value × (length r.value ≡ suc n)
  by_one s n None r h e more q = absurd (no_reading q)
  by_one s n (Some a) r h e more q =
      let k = x.back s a h e in
      by_others s n a (read_all c n a.rest) r k (λ b. more a.rest b (bytes_after (c.write a.value) a.rest (subst Bytes k.0 h))) q

  all_back : (n : ℕ) (s : List ℕ) (r : Reading (List A)) → Bytes s → read_all c n s ≡ Some r → (s ≡ write_all c r.value ++ r.rest) × GoodAll G r.value × (length r.value ≡ n)
  unfolding write_all read_all
  all_back zero s r h e =
      let q : record { value = []; rest = s } ≡ r = cc in
      subst (λ (z : Reading (List A)). (s ≡ write_all c z.value ++ z.rest) × GoodAll G z.value × (length z.value ≡ 0)) q (refl, tt, refl)
  all_back (suc n) s r h e = by_one s n (c.read s) r h refl (all_back n) e

  by_count : (s : List ℕ) (o : Option (Reading ℕ)) (r : Reading (List A)) → Bytes s → read_byte s ≡ o → read_counted c o ≡ Some r → (s ≡ (counted c).write r.value ++ r.rest) × GoodAll G r.value × (length r.value < 256)
  by_count s None r h e q = absurd (no_reading q)
  by_count s (Some n) r h e q =
      let k = byte_back s n h e in
      let m : Bytes n.rest = bytes_after (n.value ∷ []) n.rest (subst Bytes k.0 h) in
      let l = all_back n.value n.rest r m q in
      (k.0 ∙ rw l.2 (ap (λ (t : List ℕ). n.value ∷ t) l.0), l.1, omega (arith, l.2, k.1))

  pub counted_exact : Exact (counted c) (λ l. GoodAll G l × (length l < 256))
  counted_exact = record {
    round = λ l g rest. all_round l g.0 rest;
    back = λ s r h e. let k = by_count s (read_byte s) r h refl e in (k.0, (k.1, k.2));
  }

-- ---- a form that two bytes in front choose

module _ {B : Type 0} (key : B → ℕ) (c : ℕ → Codec B) (G : ℕ → B → Type 0) (x : (m : ℕ) → Exact (c m) (G m)) where
  abbrev GoodKeyed : B → Type 0
  GoodKeyed b = G (key b) b × (key b < 65536)

  keyed_round : (b : B) → GoodKeyed b → (rest : List ℕ) → (keyed key c).read ((keyed key c).write b ++ rest) ≡ Some (record { value = b; rest = rest })
  keyed_round b g rest = rw (two_round (key b), (x (key b)).round b g.0 rest, eq-eqb (key b) (key b) refl)

  by_key : (s : List ℕ) (m : Reading ℕ) (o : Option (Reading B)) (r : Reading B) → Bytes s → (s ≡ two.write m.value ++ m.rest) × (m.value < 65536) → (c m.value).read m.rest ≡ o → keyed_by key m.value o ≡ Some r
      → (s ≡ (keyed key c).write r.value ++ r.rest) × GoodKeyed r.value
  by_key s m None r h k e q = absurd (no_reading q)
  by_key s m (Some b) r h k e q = by (eqb (key b.value) m.value) refl
    where
      by : (t : Bool) → eqb (key b.value) m.value ≡ t → (s ≡ (keyed key c).write r.value ++ r.rest) × GoodKeyed r.value
      by true t =
          let u : Some b ≡ Some r = (rw t at q) in
          let v : b ≡ r = cc in
          let w : key b.value ≡ m.value = eqb-true _ _ t in
          let l : Bytes m.rest = bytes_after (two.write m.value) m.rest (subst Bytes k.0 h) in
          let n = (x m.value).back m.rest b l e in
          subst (λ (z : Reading B). (s ≡ (keyed key c).write z.value ++ z.rest) × GoodKeyed z.value) v
          (k.0 ∙ rw w (ap (λ (t : List ℕ). m.value / 256 ∷ m.value % 256 ∷ t) n.0), (rw w n.1, omega (arith, k.1)))
      by false t = absurd (no_reading (rw t at q))

  by_two : (s : List ℕ) (o : Option (Reading ℕ)) (r : Reading B) → Bytes s → read_two s ≡ o → read_keyed key c o ≡ Some r → (s ≡ (keyed key c).write r.value ++ r.rest) × GoodKeyed r.value
  by_two s None r h e q = absurd (no_reading q)
  by_two s (Some m) r h e q = by_key s m ((c m.value).read m.rest) r h (two_back s m h e) refl q

  pub keyed_exact : Exact (keyed key c) GoodKeyed
  keyed_exact = record { round = keyed_round; back = λ s r h e. by_two s (read_two s) r h refl e }
