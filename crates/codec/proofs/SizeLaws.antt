-- What is read at a place ends at a place, as far on as the value is long; stated once for each way to make a form. Assumes nothing.
use Prim.Native.Nat.{ℕ, suc, ◌+◌, ◌-◌, ◌*◌, ◌≤◌}
use native.Mathlib.Omega.{arith}
use mathlib.Core.Path.{◌≡◌, refl, ap, subst, ◌∙◌}
use mathlib.Core.Bool.{Bool, true, false}
use mathlib.Core.List.{List, [], ◌∷◌}
use lib.ListN.{length, take, drop, length-append, length-drop}
use lib.Seq.{length-take-le, drop-drop}
use lib.Dec.{leb, eqb}
use borrow.Author.Tests.{leb-true}
use Rattle.std.specs.Prelude.{None, Option, Some}
use Rattle.codec.specs.Codec.{Reading, Codec, byte, read_byte, two, read_two, four, read_four, Pair, paired, read_then, then, passing, such, flagged, renamed, mapped, read_text, text, keyed_by, read_keyed, keyed}
use Rattle.codec.proofs.CodecLaws.{no_reading}

-- ---- forms whose values have a size

pub record Sized {A : Type 0} (c : Codec A) (size : A → ℕ) : Type 0 where
  pub ends : (t : List ℕ) (x : Reading A) → c.read t ≡ Some x → (x.rest ≡ drop (size x.value) t) × (size x.value ≤ length t)

pub byte_ends : (t : List ℕ) (x : Reading ℕ) → read_byte t ≡ Some x → (x.rest ≡ drop 1 t) × (1 ≤ length t)
byte_ends [] x e = absurd (no_reading e)
byte_ends (a ∷ t) x e =
    let q : record { value = a; rest = t } ≡ x = cc in
    subst (λ (z : Reading ℕ). (z.rest ≡ t) × (1 ≤ suc (length t))) q (refl, omega arith)

pub byte_sized : Sized byte (λ n. 1)
byte_sized = record { ends = byte_ends }

pub two_ends : (t : List ℕ) (x : Reading ℕ) → read_two t ≡ Some x → (x.rest ≡ drop 2 t) × (2 ≤ length t)
two_ends [] x e = absurd (no_reading e)
two_ends (a ∷ []) x e = absurd (no_reading e)
two_ends (a ∷ b ∷ t) x e =
    let q : record { value = a * 256 + b; rest = t } ≡ x = cc in
    subst (λ (z : Reading ℕ). (z.rest ≡ t) × (2 ≤ suc (suc (length t)))) q (refl, omega arith)

four_ends : (t : List ℕ) (x : Reading ℕ) → read_four t ≡ Some x → (x.rest ≡ drop 4 t) × (4 ≤ length t)
four_ends [] x e = absurd (no_reading e)
four_ends (a ∷ []) x e = absurd (no_reading e)
four_ends (a ∷ b ∷ []) x e = absurd (no_reading e)
four_ends (a ∷ b ∷ c ∷ []) x e = absurd (no_reading e)
four_ends (a ∷ b ∷ c ∷ d ∷ t) x e =
    let q : record { value = ((a * 256 + b) * 256 + c) * 256 + d; rest = t } ≡ x = cc in
    subst (λ (z : Reading ℕ). (z.rest ≡ t) × (4 ≤ suc (suc (suc (suc (length t)))))) q (refl, omega arith)

pub four_sized : Sized four (λ n. 4)
four_sized = record { ends = four_ends }

-- ---- texts

-- the bytes of a text that was read, and where it ends
pub text_ends : (t : List ℕ) (x : Reading (List ℕ)) → text.read t ≡ Some x → (x.value ≡ take (length x.value) (drop 2 t)) × ((x.rest ≡ drop (2 + length x.value) t) × (2 + length x.value ≤ length t))
text_ends t x e = by (read_two t) refl e
  where
    by : (o : Option (Reading ℕ)) → read_two t ≡ o → read_text o ≡ Some x → (x.value ≡ take (length x.value) (drop 2 t)) × ((x.rest ≡ drop (2 + length x.value) t) × (2 + length x.value ≤ length t))
    by None p q = absurd (no_reading q)
    by (Some n) p q = is (leb n.value (length n.rest)) refl
      where
        is : (b : Bool) → leb n.value (length n.rest) ≡ b → (x.value ≡ take (length x.value) (drop 2 t)) × ((x.rest ≡ drop (2 + length x.value) t) × (2 + length x.value ≤ length t))
        is true b =
            let m : Some (record { value = take n.value n.rest; rest = drop n.value n.rest }) ≡ Some x = (rw b at q) in
            let w : record { value = take n.value n.rest; rest = drop n.value n.rest } ≡ x = cc in
            let k = two_ends t n p in
            let i : n.value ≤ length n.rest = leb-true _ _ b in
            let l : length (take n.value n.rest) ≡ n.value = length-take-le n.value n.rest i in
            let j : length n.rest ≡ length t - 2 = ap length k.0 ∙ length-drop 2 t in
            subst (λ (z : Reading (List ℕ)). (z.value ≡ take (length z.value) (drop 2 t)) × ((z.rest ≡ drop (2 + length z.value) t) × (2 + length z.value ≤ length t))) w
            (rw (l, k.0), (rw (l, k.0) (drop-drop n.value 2 t), omega (arith, k.1)))
        is false b = absurd (no_reading (rw b at q))

pub text_sized : Sized text (λ t. 2 + length t)
text_sized = record { ends = λ t x e. (text_ends t x e).1 }

-- how long its bytes are
pub text_size : (t : List ℕ) → length (text.write t) ≡ 2 + length t
text_size t = length-append (two.write (length t)) t

-- ---- ways to make a form from others

module _ {A B : Type 0} {c : Codec A} {d : Codec B} {f : A → ℕ} {g : B → ℕ} (p : Sized c f) (q : Sized d g) where
  abbrev pair_size : Pair A B → ℕ
  pair_size x = f x.first + g x.second

  by_second : (t : List ℕ) (a : Reading A) (o : Option (Reading B)) (x : Reading (Pair A B)) → (a.rest ≡ drop (f a.value) t) × (f a.value ≤ length t) → d.read a.rest ≡ o → paired a.value o ≡ Some x
      → (x.rest ≡ drop (pair_size x.value) t) × (pair_size x.value ≤ length t)
  by_second t a None x k e r = absurd (no_reading r)
  by_second t a (Some b) x k e r =
      let w : record { value = record { first = a.value; second = b.value }; rest = b.rest } ≡ x = cc in
      let n = q.ends a.rest b e in
      let l : length a.rest ≡ length t - f a.value = ap length k.0 ∙ length-drop (f a.value) t in
      subst (λ (z : Reading (Pair A B)). (z.rest ≡ drop (pair_size z.value) t) × (pair_size z.value ≤ length t)) w
      (n.0 ∙ ap (λ (u : List ℕ). drop (g b.value) u) k.0 ∙ drop-drop (g b.value) (f a.value) t, omega (arith, n.1, k.1, l))

  by_first : (t : List ℕ) (o : Option (Reading A)) (x : Reading (Pair A B)) → c.read t ≡ o → read_then o d.read ≡ Some x → (x.rest ≡ drop (pair_size x.value) t) × (pair_size x.value ≤ length t)
  by_first t None x e r = absurd (no_reading r)
  by_first t (Some a) x e r = by_second t a (d.read a.rest) x (p.ends t a e) refl r

  pub then_sized : Sized (then c d) pair_size
  then_sized = record { ends = λ t x e. by_first t (c.read t) x refl e }

module _ {A : Type 0} {c : Codec A} {f : A → ℕ} (p : Sized c f) (test : A → Bool) (g : A → ℕ) (same : (a : A) → test a ≡ true → g a ≡ f a) where
  by_test : (t : List ℕ) (o : Option (Reading A)) (x : Reading A) → c.read t ≡ o → passing test o ≡ Some x → (x.rest ≡ drop (g x.value) t) × (g x.value ≤ length t)
  by_test t None x e r = absurd (no_reading r)
  by_test t (Some a) x e r = by (test a.value) refl
    where
      by : (b : Bool) → test a.value ≡ b → (x.rest ≡ drop (g x.value) t) × (g x.value ≤ length t)
      by true b =
          let m : Some a ≡ Some x = (rw b at r) in
          let w : a ≡ x = cc in
          subst (λ (z : Reading A). (z.rest ≡ drop (g z.value) t) × (g z.value ≤ length t)) w (rw (same a.value b) (p.ends t a e))
      by false b = absurd (no_reading (rw b at r))

  pub such_sized : Sized (such c test) g
  such_sized = record { ends = λ t x e. by_test t (c.read t) x refl e }

pub flagged_sized : {A : Type 0} {c : Codec A} {f : A → ℕ} (flag : Bool) (absent : A) → Sized c f → f absent ≡ 0 → Sized (flagged flag absent c) f
flagged_sized true absent p z = p
flagged_sized {A} {c} {f} false absent p z = record { ends = nothing }
  where
    nothing : (t : List ℕ) (x : Reading A) → Some (record { value = absent; rest = t }) ≡ Some x → (x.rest ≡ drop (f x.value) t) × (f x.value ≤ length t)
    nothing t x e =
        let w : record { value = absent; rest = t } ≡ x = cc in
        subst (λ (y : Reading A). (y.rest ≡ drop (f y.value) t) × (f y.value ≤ length t)) w (rw z (refl, omega arith))

module _ {A B : Type 0} {c : Codec A} {f : A → ℕ} (p : Sized c f) (h : A → B) (back : B → A) (g : B → ℕ) (same : (a : A) → g (h a) ≡ f a) where
  by_name : (t : List ℕ) (o : Option (Reading A)) (x : Reading B) → c.read t ≡ o → renamed h o ≡ Some x → (x.rest ≡ drop (g x.value) t) × (g x.value ≤ length t)
  by_name t None x e r = absurd (no_reading r)
  by_name t (Some a) x e r =
      let w : record { value = h a.value; rest = a.rest } ≡ x = cc in
      subst (λ (z : Reading B). (z.rest ≡ drop (g z.value) t) × (g z.value ≤ length t)) w (rw (same a.value) (p.ends t a e))

  pub mapped_sized : Sized (mapped h back c) g
  mapped_sized = record { ends = λ t x e. by_name t (c.read t) x refl e }

-- ---- a form that two bytes in front choose

module _ {B : Type 0} (key : B → ℕ) (c : ℕ → Codec B) {f : B → ℕ} (p : (m : ℕ) → Sized (c m) f) where
  by_key : (t : List ℕ) (m : Reading ℕ) (x : Reading B) → read_two t ≡ Some m → keyed_by key m.value ((c m.value).read m.rest) ≡ Some x → (x.rest ≡ drop (2 + f x.value) t) × (2 + f x.value ≤ length t)
  by_key t m x e r =
      let k = two_ends t m e in
      let n = (such_sized (p m.value) (λ b. eqb (key b) m.value) f (λ b q. refl)).ends m.rest x r in
      let l : length m.rest ≡ length t - 2 = ap length k.0 ∙ length-drop 2 t in
      (n.0 ∙ ap (λ (u : List ℕ). drop (f x.value) u) k.0 ∙ drop-drop (f x.value) 2 t, omega (arith, n.1, k.1, l))

  by_two : (t : List ℕ) (o : Option (Reading ℕ)) (x : Reading B) → read_two t ≡ o → read_keyed key c o ≡ Some x → (x.rest ≡ drop (2 + f x.value) t) × (2 + f x.value ≤ length t)
  by_two t None x e r = absurd (no_reading r)
  by_two t (Some m) x e r = by_key t m x e r

  pub keyed_sized : Sized (keyed key c) (λ b. 2 + f b)
  keyed_sized = record { ends = λ t x e. by_two t (read_two t) x refl e }

-- ---- readings at places

-- c reads a at a place of s, and what is left begins at `next`
pub record Got {A : Type 0} (c : Codec A) (s : List ℕ) (at : ℕ) (a : A) (next : ℕ) : Type 0 where
  pub reads : c.read (drop at s) ≡ Some (record { value = a; rest = drop next s })
  pub within : next ≤ length s

module _ {A : Type 0} {c : Codec A} where
  pub got : {f : A → ℕ} → Sized c f → (s : List ℕ) (at : ℕ) (x : Reading A) → at ≤ length s → c.read (drop at s) ≡ Some x → Got c s at x.value (at + f x.value)
  got {f} p s at x h e =
      let k = p.ends (drop at s) x e in
      record {
        reads = e ∙ ap (λ (t : List ℕ). Some (record { value = x.value; rest = t })) (k.0 ∙ drop-drop (f x.value) at s);
        within = omega (arith, k.1, length-drop at s);
      }

  pub got_to : {s : List ℕ} {at : ℕ} {a : A} {m n : ℕ} → Got c s at a m → m ≡ n → Got c s at a n
  got_to {s} {at} {a} g e = subst (λ (k : ℕ). Got c s at a k) e g
