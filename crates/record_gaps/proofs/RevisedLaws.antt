-- A record whose target, map, state byte and the front of whose tail (numbers and routes) are replaced: the parts that were moved, and the sections that
-- were written around them, are the changed record's image among the used bytes. Assumes nothing.
use mathlib.Core.Path.{◌≡◌, refl, sym, ap, ◌∙◌}
use mathlib.Core.Bool.{◌||◌}
use mathlib.Core.List.{List, [], ◌∷◌, ◌++◌, append_assoc}
use Prim.Native.Nat.{ℕ, ◌+◌, ◌-◌, ◌≤◌}
use native.Mathlib.Omega.{arith}
use lib.ListN.{length, take, drop, length-append, take-append-drop}
use lib.Seq.{length-take-le}
use Rattle.edit.specs.Edit.{over, put_at}
use Rattle.record.specs.Changes.{with_numbers, with_target, with_routes}
use Rattle.codec.specs.Codec.{text, two}
use Rattle.record.specs.Record.{Record, state_byte_number, image}
use Rattle.image.specs.declared.RecordAt.{RecordAt}
use Rattle.image.specs.Places.{ids_of, uris_of}
use Rattle.image_writer.specs.Parts.{ids_bytes, uris_bytes, numbers_bytes, map_of_parts, state_byte_of}
use Rattle.image_writer.proofs.ImageLaws.{parts_in, routes_bytes}
use Rattle.image_edit.specs.Changes.{changed}
use Rattle.image_edit.specs.Maps.{map_from}
use Rattle.image_edit.proofs.ImageCuts.{Held, changed_held}
use Rattle.image_edit.proofs.NumbersLaws.{image_cut, state_is, end_is}
use Rattle.image_edit.proofs.TailLaws.{Puts, ended, counted, tail_map, state_byte_is}
use Rattle.image_edit.proofs.TargetLaws.{start_is, length_is}
use Rattle.record_gaps.proofs.PartLaws.{part_at, merged, around}

-- the two URIs that stay
abbrev pub others : Record → List ℕ
others v = text.write v.local_uri ++ text.write v.remote_uri

-- o is the part of the tail that is replaced, k the part that is kept
module _ (bytes : List ℕ) (used at : ℕ) (p : RecordAt) (fits : used ≤ length bytes) (h : Held (take used bytes) at p) (o k : List ℕ) (tail : numbers_bytes h.value.numbers ++ routes_bytes h.value ≡ o ++ k) where
  abbrev g : List ℕ
  g = take at (take used bytes)

  abbrev map : List ℕ
  map = two.write (map_of_parts (parts_in h.value))

  abbrev ids : List ℕ
  ids = ids_bytes (ids_of h.value)

  abbrev state : List ℕ
  state = state_byte_of (parts_in h.value) ∷ []

  abbrev target : List ℕ
  target = text.write h.value.target

  abbrev m : List ℕ
  m = others h.value

  -- the lent bytes in sections
  cut : bytes ≡ g ++ (map ++ (ids ++ (state ++ (target ++ (m ++ (o ++ ((k ++ h.rest) ++ drop used bytes)))))))
  cut =
      sym (take-append-drop used bytes)
      ∙ ap (λ (s : List ℕ). s ++ drop used bytes) (h.whole ∙ ap (λ (s : List ℕ). g ++ (s ++ h.rest)) (image_cut h.value))
      ∙ ap (λ (s : List ℕ). (g ++ ((map ++ (ids ++ (state ++ ((target ++ m) ++ s)))) ++ h.rest)) ++ drop used bytes) tail
      ∙ shape g map ids state target m o k h.rest (drop used bytes)
    where
      shape : (g a b c t m o k r z : List ℕ) → (g ++ ((a ++ (b ++ (c ++ ((t ++ m) ++ (o ++ k))))) ++ r)) ++ z ≡ g ++ (a ++ (b ++ (c ++ (t ++ (m ++ (o ++ ((k ++ r) ++ z)))))))
      shape g a b c t m o k r z = simp append_assoc

  -- where the sections lie
  places : (p.state ≡ at + 2 + length ids) × (p.uris.target.start ≡ p.state + 3) × (p.uris.target.length ≡ length h.value.target) × (p.uris.end ≡ p.state + 3 + length h.value.target + length m)
  places =
      let v = h.value in
      let s = state_is (take used bytes) at p h v.numbers in
      let e = end_is (take used bytes) at p h v.numbers in
      let f = start_is (take used bytes) at p h in
      let l : length (uris_bytes (uris_of v)) ≡ length target + length m = length-append target m in
      let b = length-append map (ids ++ state) in
      let c = length-append ids state in
      (s, omega (arith, s, f, b, c), length_is (take used bytes) at p h, omega (arith, e, l))

  used_is : used ≡ at + 2 + length ids + 3 + length h.value.target + length m + length o + length (k ++ h.rest)
  used_is =
      let n : length (take used bytes) ≡ used = length-take-le used bytes fits in
      let e : take used bytes ≡ g ++ (map ++ (ids ++ (state ++ (target ++ (m ++ (o ++ (k ++ h.rest))))))) =
      h.whole ∙ ap (λ (s : List ℕ). g ++ (s ++ h.rest)) (image_cut h.value) ∙ ap (λ (s : List ℕ). g ++ ((map ++ (ids ++ (state ++ ((target ++ m) ++ s)))) ++ h.rest)) tail ∙ shape g map ids state target m o k h.rest in
      omega (arith, n, ap length e ∙ sized g map ids state target m o (k ++ h.rest), h.front)
    where
      shape : (g a b c t m o k r : List ℕ) → g ++ ((a ++ (b ++ (c ++ ((t ++ m) ++ (o ++ k))))) ++ r) ≡ g ++ (a ++ (b ++ (c ++ (t ++ (m ++ (o ++ (k ++ r)))))))
      shape g a b c t m o k r = simp append_assoc

      sized : (g a b c t m o r : List ℕ) → length (g ++ (a ++ (b ++ (c ++ (t ++ (m ++ (o ++ r))))))) ≡ length g + (length a + (length b + (length c + (length t + (length m + (length o + length r))))))
      sized g a b c t m o r = simp length-append

  -- the parts that move
  between : take (p.uris.end - (p.uris.target.start + p.uris.target.length)) (drop (p.uris.target.start + p.uris.target.length) bytes) ≡ m
  between =
      part_at (g ++ (map ++ (ids ++ (state ++ target)))) m (o ++ ((k ++ h.rest) ++ drop used bytes)) (p.uris.target.start + p.uris.target.length) (p.uris.end - (p.uris.target.start + p.uris.target.length)) (cut ∙ shape g map ids state target (m ++ (o ++ ((k ++ h.rest) ++ drop used bytes))))
      (sized g map ids state target ∙ omega (arith, places, h.front))
      (omega (arith, places))
    where
      shape : (g a b c t r : List ℕ) → g ++ (a ++ (b ++ (c ++ (t ++ r)))) ≡ (g ++ (a ++ (b ++ (c ++ t)))) ++ r
      shape g a b c t r = simp append_assoc

      sized : (g a b c t : List ℕ) → length (g ++ (a ++ (b ++ (c ++ t)))) ≡ length g + (length a + (length b + (length c + length t)))
      sized g a b c t = simp length-append

  behind : take (used - (p.uris.end + length o)) (drop (p.uris.end + length o) bytes) ≡ k ++ h.rest
  behind =
      part_at (g ++ (map ++ (ids ++ (state ++ (target ++ (m ++ o)))))) (k ++ h.rest) (drop used bytes) (p.uris.end + length o) (used - (p.uris.end + length o)) (cut ∙ shape g map ids state target m o ((k ++ h.rest) ++ drop used bytes))
      (sized g map ids state target m o ∙ omega (arith, places, h.front))
      (omega (arith, places, used_is))
    where
      shape : (g a b c t m o r : List ℕ) → g ++ (a ++ (b ++ (c ++ (t ++ (m ++ (o ++ r)))))) ≡ (g ++ (a ++ (b ++ (c ++ (t ++ (m ++ o)))))) ++ r
      shape g a b c t m o r = simp append_assoc

      sized : (g a b c t m o : List ℕ) → length (g ++ (a ++ (b ++ (c ++ (t ++ (m ++ o)))))) ≡ length g + (length a + (length b + (length c + (length t + (length m + length o)))))
      sized g a b c t m o = simp length-append

  -- the sections lie within the used bytes
  pub sections : (at + 2 ≤ p.state) × (p.uris.target.start ≡ p.state + 3) × (p.uris.target.start + p.uris.target.length ≤ p.uris.end) × (p.uris.end + length o ≤ used)
  sections = (omega (arith, places), places.1, omega (arith, places), omega (arith, places, used_is))

  -- the new image w, with the map a, the state byte c, the target t and q at the front of its tail
  module _ (a t q w : List ℕ) (c : ℕ) (a-two : length a ≡ 2) (is : w ≡ a ++ (ids ++ ((c ∷ []) ++ ((text.write t ++ m) ++ (q ++ k))))) where
    -- the used bytes with the new image
    pub revised_size : length (g ++ (w ++ h.rest)) ≡ used - p.uris.target.length - length o + length t + length q
    revised_size = ap (λ (s : List ℕ). length (g ++ (s ++ h.rest))) is ∙ sized g a ids (c ∷ []) (text.write t) m q k h.rest ∙ omega (arith, places, used_is, h.front, a-two, length-append k h.rest)
      where
        sized : (g a b c t m q k r : List ℕ) → length (g ++ ((a ++ (b ++ (c ++ ((t ++ m) ++ (q ++ k))))) ++ r)) ≡ length g + (length a + (length b + (length c + (length t + length m + (length q + length k))))) + length r
        sized g a b c t m q k r = simp length-append (omega arith)

    pub revised_edit : used - p.uris.target.length - length o + length t + length q ≤ length bytes
        → put_at at a (put_at p.state ((c ∷ []) ++ text.write t) (put_at (p.uris.target.start + length t + (p.uris.end - (p.uris.target.start + p.uris.target.length))) q (put_at (p.uris.target.start + length t) (take (p.uris.end - (p.uris.target.start + p.uris.target.length)) (drop (p.uris.target.start + p.uris.target.length) bytes)) (put_at (p.uris.target.start + length t + (p.uris.end - (p.uris.target.start + p.uris.target.length)) + length q) (take (used - (p.uris.end + length o)) (drop (p.uris.end + length o) bytes)) bytes))))
        ≡ over (g ++ (w ++ h.rest)) bytes
    revised_edit room =
        let d = (c ∷ []) ++ text.write t in
        let i = p.uris.target.start + length t in
        let j = i + (p.uris.end - (p.uris.target.start + p.uris.target.length)) in
        let l = j + length q in
        ap (λ (s : List ℕ). put_at at a (put_at p.state d (put_at j q (put_at i s (put_at l (take (used - (p.uris.end + length o)) (drop (p.uris.end + length o) bytes)) bytes))))) between
        ∙ ap (λ (s : List ℕ). put_at at a (put_at p.state d (put_at j q (put_at i m (put_at l s bytes))))) behind
        ∙ ap (put_at at a) (merged p.state i j l d m q (k ++ h.rest) bytes (omega (arith, places)) (omega (arith, places)) refl (omega (arith, places, used_is, room)))
        ∙ around g map a ids (state ++ (target ++ (m ++ (o ++ ((k ++ h.rest) ++ drop used bytes))))) (d ++ ((m ++ q) ++ (k ++ h.rest))) at p.state cut h.front (sym a-two) (omega (arith, places))
        ∙ ap (λ (s : List ℕ). over s bytes) (shape g a ids (c ∷ []) (text.write t) m q k h.rest ∙ ap (λ (s : List ℕ). g ++ (s ++ h.rest)) (sym is))
      where
        shape : (g a b c t m q k r : List ℕ) → g ++ (a ++ (b ++ ((c ++ t) ++ ((m ++ q) ++ (k ++ r))))) ≡ g ++ ((a ++ (b ++ (c ++ ((t ++ m) ++ (q ++ k))))) ++ r)
        shape g a b c t m q k r = simp append_assoc

-- ---- a change of numbers or of numbers and routes, and another target w

-- its places in their order, and the new used length: f is the change but for the target, q the section that comes, end where the old one ends
pub record Both (bytes : List ℕ) (used at : ℕ) (p : RecordAt) (w : List ℕ) (f : Record → Record) (q : List ℕ) (end : ℕ) : Type 0 where
  pub map_before : at + 2 ≤ p.state
  pub target_at : p.uris.target.start ≡ p.state + 3
  pub target_within : p.uris.target.start + p.uris.target.length ≤ p.uris.end
  pub uris_before : p.uris.end ≤ end
  pub end_within : end ≤ used
  pub size : length (changed (λ v. with_target w (f v)) at (take used bytes)) ≡ used - p.uris.target.length - (end - p.uris.end) + length w + length q

module _ (bytes : List ℕ) (used at : ℕ) (p : RecordAt) (fits : used ≤ length bytes) (t : Puts (take used bytes) at p) (w : List ℕ) where
  abbrev f : Record → Record
  f v = with_target w (t.makes v)

  abbrev new_map : List ℕ
  new_map = two.write (map_from t.values p.ids (t.counts p))

  abbrev new_state : ℕ
  new_state = state_byte_number (record { state = t.values.state; we_are_uac = p.we_are_uac; secure = p.uris.local_secure || p.uris.remote_secure })

  old_is : t.ends p - p.uris.end ≡ length t.old
  old_is = omega (arith, ended (take used bytes) at p t)

  -- the new image in sections
  image_is : image.write (f t.held.value) ≡ new_map ++ (ids_bytes (ids_of t.held.value) ++ ((new_state ∷ []) ++ ((text.write w ++ others t.held.value) ++ (t.section ++ t.rest))))
  image_is =
      let v = with_target w (with_numbers t.values (with_routes t.routes t.held.value)) in
      ap (λ (y : Record). image.write (with_target w y)) t.made
      ∙ image_cut v
      ∙ ap (λ (u : List ℕ). two.write (map_of_parts (parts_in v)) ++ (ids_bytes (ids_of t.held.value) ++ ((state_byte_of (parts_in v) ∷ []) ++ ((text.write w ++ others t.held.value) ++ u)))) t.new_tail
      ∙ rw (counted (take used bytes) at p t, tail_map (take used bytes) at p t, state_byte_is (take used bytes) at p t)

  pub both_places : Both bytes used at p w t.makes t.section (t.ends p)
  both_places =
      let s = sections bytes used at p fits t.held t.old t.rest t.tail_is in
      let r = ended (take used bytes) at p t in
      record {
        map_before = s.0;
        target_at = s.1;
        target_within = s.2;
        uris_before = omega (arith, r);
        end_within = omega (arith, r, s.3);
        size =
            ap length (changed_held f (take used bytes) at t.held)
            ∙ revised_size bytes used at p fits t.held t.old t.rest t.tail_is new_map w t.section (image.write (f t.held.value)) new_state refl image_is
            ∙ ap (λ (n : ℕ). used - p.uris.target.length - n + length w + length t.section) (sym old_is);
      }

  pub both_edit : used - p.uris.target.length - (t.ends p - p.uris.end) + length w + length t.section ≤ length bytes
      → put_at at new_map (put_at p.state ((new_state ∷ []) ++ text.write w) (put_at (p.uris.target.start + length w + (p.uris.end - (p.uris.target.start + p.uris.target.length))) t.section (put_at (p.uris.target.start + length w) (take (p.uris.end - (p.uris.target.start + p.uris.target.length)) (drop (p.uris.target.start + p.uris.target.length) bytes)) (put_at (p.uris.target.start + length w + (p.uris.end - (p.uris.target.start + p.uris.target.length)) + length t.section) (take (used - (p.uris.end + (t.ends p - p.uris.end))) (drop (p.uris.end + (t.ends p - p.uris.end)) bytes)) bytes))))
      ≡ over (changed f at (take used bytes)) bytes
  both_edit room =
      rw old_is
      (revised_edit bytes used at p fits t.held t.old t.rest t.tail_is new_map w t.section (image.write (f t.held.value)) new_state refl image_is (omega (arith, room, old_is))
      ∙ ap (λ (s : List ℕ). over s bytes) (sym (changed_held f (take used bytes) at t.held)))
