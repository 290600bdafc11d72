-- Other numbers and routes for a record: three edits in the used bytes, the first of which replaces a section behind the URIs. Assumes nothing.
use mathlib.Core.Path.{◌≡◌, refl, sym, ap, subst, ◌∙◌}
use mathlib.Core.Bool.{◌||◌}
use mathlib.Core.List.{List, [], ◌∷◌, ◌++◌}
use Prim.Native.Nat.{ℕ, ◌+◌, ◌-◌, ◌≤◌, ◌<◌}
use native.Mathlib.Omega.{arith}
use lib.ListN.{length, take, get_or}
use lib.Seq.{length-take-le}
use Rattle.edit.specs.Edit.{over, put_at, spliced}
use Rattle.codec.specs.Codec.{two}
use Rattle.record.specs.Changes.{with_numbers, with_routes}
use Rattle.record.specs.Record.{Numbers, Record, state_byte_number, image}
use Rattle.image.specs.declared.RecordAt.{RecordAt}
use Rattle.image.specs.Places.{ids_of, uris_of, record_places}
use Rattle.image_writer.specs.Parts.{ids_bytes, uris_bytes, numbers_bytes, map_of_parts, state_byte_of}
use Rattle.image_writer.proofs.ImageLaws.{parts_in}
use Rattle.image_edit.specs.Changes.{changed}
use Rattle.image_edit.specs.Maps.{map_from}
use Rattle.image_edit.proofs.CutLaws.{three_edits}
use Rattle.image_edit.specs.Stands.{StandsAt}
use Rattle.image_edit.specs.declared.RecordPlace.{RecordPlace}
use Rattle.image_edit.specs.declared.tail.Tail.{Ghosts}
use Rattle.image_edit.proofs.ImageCuts.{Held, changed_held, stands_held}
use Rattle.image_edit.proofs.NumbersLaws.{filled_bit, routes_bit, image_cut, sized, state_is, end_is}
use Rattle.route_section.specs.Section.{section_of}

-- a change of the record: it has other numbers and routes then, and a section stands in place of the old one, with the rest behind it
pub record Puts (s : List ℕ) (at : ℕ) (p : RecordAt) : Type 0 where
  pub held : Held s at p
  pub makes : Record → Record
  pub values : Numbers
  pub routes : List (List ℕ)
  pub section : List ℕ
  pub old : List ℕ
  pub rest : List ℕ
  pub ends : RecordAt → ℕ
  pub counts : RecordAt → ℕ
  pub made : makes held.value ≡ with_numbers values (with_routes routes held.value)
  pub tail_is : numbers_bytes held.value.numbers ++ section_of held.value.routes ≡ old ++ rest
  pub new_tail : numbers_bytes values ++ section_of routes ≡ section ++ rest
  pub end_is : ends (record_places at held.value) ≡ (record_places at held.value).uris.end + length old
  pub count_is : counts (record_places at held.value) ≡ length routes

module _ (s : List ℕ) (at : ℕ) (p : RecordAt) (t : Puts s at p) where
  abbrev h : Held s at p
  h = t.held

  abbrev f : Record → Record
  f = t.makes

  abbrev x : Numbers
  x = t.values

  abbrev l : List (List ℕ)
  l = t.routes

  abbrev o : List ℕ
  o = t.old

  abbrev k : List ℕ
  k = t.rest

  abbrev q : List ℕ
  q = t.section

  pub ended : t.ends p ≡ p.uris.end + length t.old
  ended = subst (λ (r : RecordAt). t.ends r ≡ r.uris.end + length t.old) (sym t.held.placed) t.end_is

  pub counted : t.counts p ≡ length t.routes
  counted = subst (λ (r : RecordAt). t.counts r ≡ length t.routes) (sym t.held.placed) t.count_is

  -- the used bytes before the change and after it, in sections
  cut : s ≡ take at s ++ ((two.write (map_of_parts (parts_in h.value)) ++ (ids_bytes (ids_of h.value) ++ ((state_byte_of (parts_in h.value) ∷ []) ++ (uris_bytes (uris_of h.value) ++ (o ++ k))))) ++ h.rest)
  cut =
      h.whole
      ∙ ap (λ (w : List ℕ). take at s ++ (w ++ h.rest)) (image_cut h.value)
      ∙ ap (λ (u : List ℕ). take at s ++ ((two.write (map_of_parts (parts_in h.value)) ++ (ids_bytes (ids_of h.value) ++ ((state_byte_of (parts_in h.value) ∷ []) ++ (uris_bytes (uris_of h.value) ++ u)))) ++ h.rest)) t.tail_is

  new_cut : changed f at s
      ≡ take at s ++ ((two.write (map_of_parts (parts_in (with_numbers x (with_routes l h.value)))) ++ (ids_bytes (ids_of h.value) ++ ((state_byte_of (parts_in (with_numbers x (with_routes l h.value))) ∷ []) ++ (uris_bytes (uris_of h.value) ++ (q ++ k))))) ++ h.rest)
  new_cut =
      changed_held f s at h
      ∙ ap (λ (w : Record). take at s ++ (image.write w ++ h.rest)) t.made
      ∙ ap (λ (w : List ℕ). take at s ++ (w ++ h.rest)) (image_cut (with_numbers x (with_routes l h.value)))
      ∙ ap (λ (u : List ℕ). take at s ++ ((two.write (map_of_parts (parts_in (with_numbers x (with_routes l h.value)))) ++ (ids_bytes (ids_of h.value) ++ ((state_byte_of (parts_in (with_numbers x (with_routes l h.value))) ∷ []) ++ (uris_bytes (uris_of h.value) ++ u)))) ++ h.rest)) t.new_tail

  sizes : length s ≡ at + (2 + (length (ids_bytes (ids_of h.value)) + (1 + (length (uris_bytes (uris_of h.value)) + (length o + length k))))) + length h.rest
  sizes =
      let v = h.value in
      let n = sized (take at s) (two.write (map_of_parts (parts_in v))) (ids_bytes (ids_of v)) (state_byte_of (parts_in v) ∷ []) (uris_bytes (uris_of v)) o k h.rest cut in
      omega (arith, n, h.front)

  new_sizes : length (changed f at s) ≡ at + (2 + (length (ids_bytes (ids_of h.value)) + (1 + (length (uris_bytes (uris_of h.value)) + (length q + length k))))) + length h.rest
  new_sizes =
      let v = h.value in
      let w = with_numbers x (with_routes l v) in
      let n = sized (take at s) (two.write (map_of_parts (parts_in w))) (ids_bytes (ids_of v)) (state_byte_of (parts_in w) ∷ []) (uris_bytes (uris_of v)) q k h.rest new_cut in
      omega (arith, n, h.front)

  -- the sections lie in their order, within the used bytes
  pub in_order : (at + 2 ≤ p.state) × (p.state + 1 ≤ p.uris.end) × (p.uris.end ≤ t.ends p) × (t.ends p ≤ length s)
  in_order = (omega (arith, state_is s at p h x), omega (arith, end_is s at p h x), omega (arith, ended), omega (arith, state_is s at p h x, end_is s at p h x, ended, sizes))

  -- the new used length
  pub tail_used : length (changed f at s) ≡ length s - (t.ends p - p.uris.end) + length q
  tail_used = omega (arith, ended, sizes, new_sizes)

  -- the map and the state byte that the code makes are those of the changed record
  pub tail_map : map_from x p.ids (length l) ≡ map_of_parts (parts_in (with_numbers x (with_routes l h.value)))
  tail_map =
      let v = h.value in
      ap (λ (r : RecordAt). map_from x r.ids (length l)) h.placed ∙ rw (filled_bit v.call_id, filled_bit v.local_tag, filled_bit v.remote_tag, routes_bit l)

  pub state_byte_is : state_byte_number (record { state = x.state; we_are_uac = p.we_are_uac; secure = p.uris.local_secure || p.uris.remote_secure }) ≡ state_byte_of (parts_in (with_numbers x (with_routes l h.value)))
  state_byte_is = ap (λ (r : RecordAt). state_byte_number (record { state = x.state; we_are_uac = r.we_are_uac; secure = r.uris.local_secure || r.uris.remote_secure })) h.placed

  -- the section replaced, the state byte put, the map put
  pub tail_edit : (bytes : List ℕ) {m b : ℕ} → m ≡ map_from x p.ids (t.counts p) → b ≡ state_byte_number (record { state = x.state; we_are_uac = p.we_are_uac; secure = p.uris.local_secure || p.uris.remote_secure })
      → put_at at (two.write m) (put_at p.state (b ∷ []) (over (spliced p.uris.end (t.ends p - p.uris.end) q s) bytes)) ≡ over (changed f at s) bytes
  tail_edit bytes {m} {b} e g =
      let v = h.value in
      let w = with_numbers x (with_routes l v) in
      let i : t.ends p - p.uris.end ≡ length o = omega (arith, ended) in
      ap (λ (n : ℕ). put_at at (two.write n) (put_at p.state (b ∷ []) (over (spliced p.uris.end (t.ends p - p.uris.end) q s) bytes))) (e ∙ ap (map_from x p.ids) counted ∙ tail_map)
      ∙ ap (λ (n : ℕ). put_at at (two.write (map_of_parts (parts_in w))) (put_at p.state (n ∷ []) (over (spliced p.uris.end (t.ends p - p.uris.end) q s) bytes))) (g ∙ state_byte_is)
      ∙ ap (λ (n : ℕ). put_at at (two.write (map_of_parts (parts_in w))) (put_at p.state (state_byte_of (parts_in w) ∷ []) (over (spliced p.uris.end n q s) bytes))) i
      ∙ ap (λ (u : List ℕ). put_at at (two.write (map_of_parts (parts_in w))) (put_at p.state (state_byte_of (parts_in w) ∷ []) (over (spliced p.uris.end (length o) q u) bytes))) cut
      ∙ three_edits (take at s) (two.write (map_of_parts (parts_in v))) (two.write (map_of_parts (parts_in w))) (ids_bytes (ids_of v)) (state_byte_of (parts_in v) ∷ []) (state_byte_of (parts_in w) ∷ []) (uris_bytes (uris_of v)) o q k h.rest bytes at p.state p.uris.end (sym h.front) refl (state_is s at p h x) refl (end_is s at p h x)
      ∙ ap (λ (u : List ℕ). over u bytes) (sym new_cut)

-- the change that a tail makes of the record that stands at a place, by the laws of the tail
abbrev pub standing_puts : {T : Type 0} (bytes : List ℕ) (p : RecordPlace) → ((i : ℕ) → get_or bytes i 0 < 256) → StandsAt bytes p → (g : Ghosts T) (x : T)
    → ((v : Record) → g.makes x v ≡ with_numbers (g.values x) (with_routes (g.routes x v) v))
    → ((v : Record) → numbers_bytes v.numbers ++ section_of v.routes ≡ g.old v ++ g.rest v)
    → ((v : Record) → numbers_bytes (g.values x) ++ section_of (g.routes x v) ≡ g.section x ++ g.rest v)
    → ((at : ℕ) (v : Record) → g.ended (record_places at v) ≡ (record_places at v).uris.end + length (g.old v))
    → ((at : ℕ) (v : Record) → g.counted x (record_places at v) ≡ length (g.routes x v))
    → Puts (take p.used bytes) p.at p.record
standing_puts bytes p b s g x made tail_is new_tail end_is count_is =
    let h = stands_held bytes p b s in
    record {
      held = h;
      makes = g.makes x;
      values = g.values x;
      routes = g.routes x h.value;
      section = g.section x;
      old = g.old h.value;
      rest = g.rest h.value;
      ends = g.ended;
      counts = g.counted x;
      made = made h.value;
      tail_is = tail_is h.value;
      new_tail = new_tail h.value;
      end_is = end_is p.at h.value;
      count_is = count_is p.at h.value;
    }

-- the places of such a change in their order, and the new used length
pub record Tailed (bytes : List ℕ) (p : RecordPlace) (f : Record → Record) (q : List ℕ) (end : ℕ) : Type 0 where
  pub map_before : p.at + 2 ≤ p.record.state
  pub state_before : p.record.state + 1 ≤ p.record.uris.end
  pub uris_before : p.record.uris.end ≤ end
  pub end_within : end ≤ p.used
  pub size : length (changed f p.at (take p.used bytes)) ≡ p.used - (end - p.record.uris.end) + length q

pub tailed : (bytes : List ℕ) (p : RecordPlace) → p.used ≤ length bytes → (t : Puts (take p.used bytes) p.at p.record) → Tailed bytes p t.makes t.section (t.ends p.record)
tailed bytes p h t =
    let n = length-take-le p.used bytes h in
    let o = in_order (take p.used bytes) p.at p.record t in
    record {
      map_before = o.0;
      state_before = o.1;
      uris_before = o.2;
      end_within = omega (arith, o.3, n);
      size = omega (arith, tail_used (take p.used bytes) p.at p.record t, n);
    }
