-- The image of a new record: its secure bit, and its front and its routes' section, written one after the other. Assumes nothing.
use Prim.Native.Nat.{ℕ, ◌+◌, ◌-◌, ◌≤◌}
use native.Mathlib.Omega.{arith}
use mathlib.Core.Path.{◌≡◌, refl, sym, ap, ◌∙◌}
use mathlib.Core.Bool.{Bool, true, false, ◌||◌}
use mathlib.Core.List.{List, [], ◌∷◌, ◌++◌, append_assoc}
use lib.ListN.{length, take, drop, length-append}
use lib.Seq.{take_at, drop_at, drop-drop}
use lib.Dec.{ltb}
use borrow.Author.Tests.{lt-ltb, ltb-false}
use borrow.Rule.Slice.PartMut.{put_mid}
use Rattle.std.specs.Prelude.{Err, Ok, Result}
use Rattle.limits.specs.Outcome.{cause_if, refuse_by}
use Rattle.limits.specs.declared.Refusal.{Refusal}
use Rattle.limits.specs.declared.Refusal.TheVariants.{NoRoom}
use Rattle.edit.specs.Edit.{over}
use Rattle.output.specs.Output.{fitted, leaves, written_from}
use Rattle.dialog_id.specs.declared.IdTexts.{IdTexts}
use Rattle.record.specs.Record.{Numbers, is_filled, is_sips}
use Rattle.image_writer.specs.declared.front.UriTexts.{UriTexts}
use Rattle.image_writer.specs.Parts.{Parts, ids_given, uris_given, image_of, Front, front_of, fitted_before}
use Rattle.image_writer.proofs.FieldLaws.{accepted}
use Rattle.image_writer.proofs.ImageLaws.{image_front}
use Rattle.creation_writing.specs.NewParts.{parts_for}

-- ---- the parts

-- the same parts with the side and the secure bit as the code has them
pub parts_same : (u : Bool) (x : Numbers) (id : IdTexts) (t : UriTexts) (routes : List ℕ) {v s : Bool} → v ≡ u → s ≡ (is_sips t.local_uri.now || is_sips t.remote_uri.now)
    → record { numbers = x; we_are_uac = v; secure = s; ids = ids_given id; uris = uris_given t; routes = routes } ≡ parts_for u x id t routes
parts_same u x id t routes d e = rw (d, e)

-- ---- the front and the routes

-- the front of an image whose routes' section has so many bytes
abbrev pub front_at : Parts → ℕ → Front
front_at p size = record {
  numbers = p.numbers;
  we_are_uac = p.we_are_uac;
  secure = p.secure;
  ids = p.ids;
  uris = p.uris;
  routed = ltb 0 size;
}

filled_size : (s : List ℕ) → ltb 0 (length s) ≡ is_filled s
filled_size [] = refl
filled_size (b ∷ s) = lt-ltb 0 (length (b ∷ s)) (omega arith)

-- a section put behind a front that was written
put_behind : (f s out : List ℕ) (n size : ℕ) → n ≡ length f → size ≡ length s → put_mid n (n + size - n) (over f out) s ≡ over (f ++ s) out
put_behind f s out n size e g =
    let d : List ℕ = drop (length f) out in
    let k : n + size - n ≡ size = omega arith in
    let a : take n (f ++ d) ≡ f = take_at f d n (sym e) in
    let b : drop n (f ++ d) ≡ d = drop_at f d n (sym e) in
    let j : length f + size ≡ length (f ++ s) = omega (arith, g, length-append f s) in
    let w : drop size d ≡ drop (length (f ++ s)) out = drop-drop size (length f) out ∙ ap (λ (i : ℕ). drop i out) j in
    rw (a, b, k, w, append_assoc)

module _ (p : Parts) (size : ℕ) (h : size ≡ length p.routes) where
  image_split : image_of p ≡ front_of (front_at p size) ++ p.routes
  image_split =
      image_front p
      ∙ ap (λ (b : Bool). front_of (record { numbers = p.numbers; we_are_uac = p.we_are_uac; secure = p.secure; ids = p.ids; uris = p.uris; routed = b }) ++ p.routes) (sym (ap (λ (n : ℕ). ltb 0 n) h ∙ filled_size p.routes))

  image_length : length (image_of p) ≡ length (front_of (front_at p size)) + size
  image_length = ap length image_split ∙ omega (arith, length-append (front_of (front_at p size)) p.routes, h)

  -- a front that was written at the front of lent bytes
  pub record Begun (out : List ℕ) (n : ℕ) (after : List ℕ) : Type 0 where
    pub starts : n ≡ length (front_of (front_at p size))
    pub fits : n + size ≤ length out
    pub bytes : after ≡ over (front_of (front_at p size)) out

  module _ (out : List ℕ) {w : Result ℕ Refusal} {after : List ℕ} (e : w ≡ written_from (fitted_before size (length out) (front_of (front_at p size)))) (f : after ≡ leaves (fitted_before size (length out) (front_of (front_at p size))) out) where
    pub front_refused : {cause : Refusal} → w ≡ Err cause → (w ≡ written_from (fitted (length out) (image_of p))) × (after ≡ leaves (fitted (length out) (image_of p)) out)
    front_refused {cause} g = by (ltb (length out) (length (front_of (front_at p size)) + size)) refl e f
      where
        by : (t : Bool) → ltb (length out) (length (front_of (front_at p size)) + size) ≡ t → w ≡ written_from (refuse_by (cause_if t NoRoom) (Ok (front_of (front_at p size)))) → after ≡ leaves (refuse_by (cause_if t NoRoom) (Ok (front_of (front_at p size)))) out
            → (w ≡ written_from (fitted (length out) (image_of p))) × (after ≡ leaves (fitted (length out) (image_of p)) out)
        by true q i j = rw (ap (λ (n : ℕ). ltb (length out) n) image_length ∙ q) (i, j)
        by false q i j = absurd (let z : ◌≡◌ {A = ℕ} 0 1 = cc in omega arith)

    pub front_begun : {n : ℕ} → w ≡ Ok n → Begun out n after
    front_begun {n} g = by (ltb (length out) (length (front_of (front_at p size)) + size)) refl e f
      where
        by : (t : Bool) → ltb (length out) (length (front_of (front_at p size)) + size) ≡ t → w ≡ written_from (refuse_by (cause_if t NoRoom) (Ok (front_of (front_at p size)))) → after ≡ leaves (refuse_by (cause_if t NoRoom) (Ok (front_of (front_at p size)))) out
            → Begun out n after
        by true q i j = absurd (let z : ◌≡◌ {A = ℕ} 0 1 = cc in omega arith)
        by false q i j =
            let s : length (front_of (front_at p size)) ≡ n = cc in
            record { starts = sym s; fits = omega (arith, s, ltb-false (length out) (length (front_of (front_at p size)) + size) q); bytes = j }

  pub image_done : (out : List ℕ) {after : List ℕ} (n : ℕ) (s : List ℕ) → Begun out n after → s ≡ p.routes
      → (Ok (n + size) ≡ written_from (fitted (length out) (image_of p))) × (put_mid n (n + size - n) after s ≡ leaves (fitted (length out) (image_of p)) out)
  image_done out {after} n s b e =
      let f : List ℕ = front_of (front_at p size) in
      let q : put_mid n (n + size - n) after s ≡ over (image_of p) out =
      ap (λ (l : List ℕ). put_mid n (n + size - n) l s) b.bytes
      ∙ put_behind f s out n size b.starts (h ∙ ap length (sym e))
      ∙ ap (λ (l : List ℕ). over l out) (ap (λ (l : List ℕ). f ++ l) e ∙ sym image_split) in
      accepted (image_of p) out (omega (arith, image_length, b.starts, b.fits)) (omega (arith, image_length, b.starts)) q
