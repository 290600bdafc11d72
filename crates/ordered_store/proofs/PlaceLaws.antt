-- An entry that lies at a place of bytes: its key and its end, for any form of entries whose parts are named by places. Assumes nothing.
use Prim.Native.Nat.{ℕ, ◌+◌, ◌≤◌, ◌<◌}
use native.Mathlib.Omega.{arith}
use mathlib.Core.Path.{◌≡◌, refl, sym, ap, subst, ◌∙◌}
use mathlib.Core.List.{List, ◌++◌}
use lib.ListN.{length, drop, length-append, length-drop}
use lib.Seq.{drop-drop, drop-append_seam}
use Rattle.std.specs.Prelude.{None, Option, Some}
use Rattle.codec.specs.Codec.{Reading}
use Rattle.codec.proofs.CodecLaws.{Bytes, bytes_drop}
use Rattle.ordered_store.specs.Layout.{Layout, Lawful, places_read}

module _ {A P : Type 0} (F : Layout A P) where
  -- what the answer of a reading says
  pub whole_says : (at : ℕ) (o : Option (Reading A)) (p : P) → places_read F.parts at o ≡ Some p → (x : Reading A) × ((o ≡ Some x) × (F.parts.places_of at x.value ≡ p))
  whole_says at None p e = absurd (let z : ◌≡◌ {A = ℕ} 0 1 = cc in omega arith)
  whole_says at (Some x) p e = (x, (refl, (cc)))

  pub broken_says : (at : ℕ) (o : Option (Reading A)) → places_read F.parts at o ≡ None → o ≡ None
  broken_says at None e = refl
  broken_says at (Some x) e = absurd (let z : ◌≡◌ {A = ℕ} 0 1 = cc in omega arith)

  -- the places of an entry, and the bytes there
  pub record Here (s : List ℕ) (at : ℕ) (p : P) (e : A) : Type 0 where
    pub placed : p ≡ F.parts.places_of at e
    pub key : F.parts.key_at s p ≡ F.parts.key_of e
    pub inside : F.parts.Within s p
    pub ends : F.parts.end_of p ≡ at + length (F.form.write e)
    pub within : F.parts.end_of p ≤ length s
    pub moves : at < F.parts.end_of p

  -- what a reading answered
  pub record Got (s : List ℕ) (at : ℕ) (p : P) : Type 0 where
    pub value : A
    pub reads : F.form.read (drop at s) ≡ Some (record { value = value; rest = drop (F.parts.end_of p) s })
    pub is : Here s at p value

module _ {A P : Type 0} (F : Layout A P) (laws : Lawful F) where
  module _ (s : List ℕ) (at : ℕ) (e : A) (rest : List ℕ) (starts : drop at s ≡ F.form.write e ++ rest) where
    -- it ends where the rest begins
    pub past : drop (F.parts.end_of (F.parts.places_of at e)) s ≡ rest
    past =
        ap (λ (n : ℕ). drop n s) (laws.ends at e) ∙ sym (drop-drop (length (F.form.write e)) at s) ∙ ap (drop (length (F.form.write e))) starts ∙ drop-append_seam (F.form.write e) rest

    pub here : Here F s at (F.parts.places_of at e) e
    here =
        let l = laws.lies s at e rest starts in
        let w : at + length (F.form.write e) ≤ length s = omega (arith, ap length starts, length-append (F.form.write e) rest, length-drop at s, laws.filled e) in
        record {
          placed = refl;
          key = l.0;
          inside = l.1;
          ends = laws.ends at e;
          within = omega (arith, w, laws.ends at e);
          moves = omega (arith, laws.ends at e, laws.filled e);
        }

  pub got : (s : List ℕ) (at : ℕ) {p : P} → Bytes s → places_read F.parts at (F.form.read (drop at s)) ≡ Some p → Got F s at p
  got s at {p} b e = by (whole_says F at (F.form.read (drop at s)) p e)
    where
      by : (x : Reading A) × ((F.form.read (drop at s) ≡ Some x) × (F.parts.places_of at x.value ≡ p)) → Got F s at p
      by (x, (q, w)) =
          let k : drop at s ≡ F.form.write x.value ++ x.rest = (laws.exact.back (drop at s) x (bytes_drop at s b) q).0 in
          subst (λ (z : P). Got F s at z) w (record {
            value = x.value;
            reads = q ∙ ap (λ (t : List ℕ). Some (record { value = x.value; rest = t })) (sym (past s at x.value x.rest k));
            is = here s at x.value x.rest k;
          })
