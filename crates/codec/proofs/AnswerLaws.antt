-- What the answer of a reader says of the bytes: what was read, and where it lies; or that nothing can be read. Assumes nothing.
use Prim.Native.Nat.{ℕ, ◌+◌, ◌-◌, ◌≤◌}
use native.Mathlib.Nat.{add-sub_cancel_left}
use native.Mathlib.Omega.{arith}
use mathlib.Core.Path.{◌≡◌, refl, sym, ap, ◌∙◌}
use mathlib.Core.List.{List}
use lib.ListN.{length, take, drop}
use lib.Seq.{drop-drop}
use Rattle.std.specs.Prelude.{None, Option, Some}
use Rattle.text.specs.declared.Span.{Span}
use Rattle.codec.specs.Codec.{Reading, Codec, text}
use Rattle.codec.specs.Places.{answered, text_span, text_from}
use Rattle.codec.proofs.SizeLaws.{Sized, Got, got, got_to, text_ends, text_sized}

-- ---- any reader

-- the form reads a value at the place; p is what is answered of it, and the next field begins at p's end
pub record PlacesGot {A P : Type 0} (form : Codec A) (places : ℕ → A → P) (end : P → ℕ) (s : List ℕ) (at : ℕ) (p : P) : Type 0 where
  pub value : A
  pub got : Got form s at value (end p)
  pub placed : p ≡ places at value

module _ {A R : Type 0} {broken : R} {tell : A → R} where
  -- an answer other than `broken` tells of a value
  pub places_got : {P : Type 0} {form : Codec A} {size : A → ℕ} {places : ℕ → A → P} {end : P → ℕ} {r : R} {p : P} → Sized form size → (s : List ℕ) (at : ℕ) → at ≤ length s → answered broken tell (form.read (drop at s)) ≡ r
      → (broken ≡ r → ◌≡◌ {A = ℕ} 0 1) → ((a : A) → tell a ≡ r → p ≡ places at a) → ((a : A) → at + size a ≡ end (places at a)) → PlacesGot form places end s at p
  places_got {P} {form} {size} {places} {end} {r} {p} sized s at h e apart same ends = by (form.read (drop at s)) refl e
    where
      by : (o : Option (Reading A)) → form.read (drop at s) ≡ o → answered broken tell o ≡ r → PlacesGot form places end s at p
      by None q e = absurd (let z = apart e in omega arith)
      by (Some x) q e =
          let w : p ≡ places at x.value = same x.value e in
          record { value = x.value; got = got_to (got sized s at x h q) (ends x.value ∙ ap end (sym w)); placed = w }

  -- `broken` says that nothing can be read
  pub nothing_got : (o : Option (Reading A)) → answered broken tell o ≡ broken → ((a : A) → tell a ≡ broken → ◌≡◌ {A = ℕ} 0 1) → o ≡ None
  nothing_got None e apart = refl
  nothing_got (Some x) e apart = absurd (let z = apart x.value e in omega arith)

abbrev pub span_end : Span → ℕ
span_end p = p.start + p.length

-- ---- texts

abbrev pub TextGot : List ℕ → ℕ → Span → Type 0
TextGot s at p = PlacesGot text text_span span_end s at p

pub text_got : (s : List ℕ) (at : ℕ) {p : Span} → at ≤ length s → text_from at (text.read (drop at s)) ≡ Some p → TextGot s at p
text_got s at h e = places_got text_sized s at h e (λ q. cc) (λ a q. cc) (λ a. omega arith)

pub text_not : (at : ℕ) (o : Option (Reading (List ℕ))) → text_from at o ≡ None → o ≡ None
text_not at o e = nothing_got o e (λ a q. cc)

-- the part that the code lends
pub text_part : (s : List ℕ) (at : ℕ) {p : Span} (g : TextGot s at p) → take (p.start + p.length - p.start) (drop p.start s) ≡ g.value
text_part s at g =
    rw (g.placed, add-sub_cancel_left (at + 2) (length g.value))
    (sym ((text_ends (drop at s) _ g.got.reads).0 ∙ ap (λ (t : List ℕ). take (length g.value) t) (drop-drop 2 at s)))
