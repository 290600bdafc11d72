-- A record's image is what the writer makes of its parts. Assumes nothing.
use Prim.Native.Nat.{ℕ}
use native.Mathlib.Omega.{arith}
use mathlib.Core.Path.{◌≡◌, refl, ap, ◌∙◌}
use mathlib.Core.Bool.{◌||◌}
use mathlib.Core.List.{List, [], ◌∷◌, ◌++◌, append_assoc}
use Rattle.codec.specs.Codec.{two}
use Rattle.record.specs.Record.{Record, stands, is_filled, is_given, is_sips, number, optional, refresher_field, fields, fields_of, routes_field, map_of, image}
use Rattle.record.proofs.MapLaws.{stands_0, stands_1, stands_2, stands_7, stands_8, stands_9, stands_10, stands_11, stands_12}
use lib.Dec.{ltb}
use Rattle.image_writer.specs.Parts.{Parts, parts_of, ids_bytes, uris_bytes, numbers_bytes, map_of_parts, state_byte_of, image_of, front_in, front_of}

-- the routes' section of a record
abbrev pub routes_bytes : Record → List ℕ
routes_bytes r = (routes_field (is_filled r.routes)).write r.routes

-- the parts of a record
abbrev pub parts_in : Record → Parts
parts_in r =
    parts_of r.numbers r.we_are_uac (is_sips r.local_uri || is_sips r.remote_uri) r.call_id r.local_tag r.remote_tag r.target r.local_uri r.remote_uri (routes_bytes r)

front_shape : (g h i j k l : List ℕ) → g ++ (h ++ (i ++ (j ++ (k ++ l)))) ≡ (g ++ (h ++ (i ++ (j ++ k)))) ++ l
front_shape g h i j k l = simp append_assoc

-- the fields whose bits stand in a map that is the record's own
module _ (r : Record) (m : ℕ) where
  fields_bytes : stands 0 m ≡ is_filled r.call_id → stands 1 m ≡ is_filled r.local_tag → stands 2 m ≡ is_filled r.remote_tag → stands 7 m ≡ ltb 0 r.numbers.local → stands 8 m ≡ ltb 0 r.numbers.remote
      → stands 9 m ≡ is_given r.numbers.last_ack → stands 10 m ≡ is_given r.numbers.seconds → stands 11 m ≡ is_given r.numbers.refresher → stands 12 m ≡ is_filled r.routes
      → (fields m).write (fields_of r) ≡ ids_bytes (parts_in r).ids ++ ((state_byte_of (parts_in r) ∷ []) ++ (uris_bytes (parts_in r).uris ++ (numbers_bytes r.numbers ++ routes_bytes r)))
  fields_bytes a b c g h i j k l =
      let x = r.numbers in
      rw (a, b, c, g, h, i, j, k, l)
      (ap (λ (t : List ℕ). ids_bytes (parts_in r).ids ++ ((state_byte_of (parts_in r) ∷ []) ++ (uris_bytes (parts_in r).uris ++ t)))
      (front_shape ((number (ltb 0 x.local)).write x.local) ((number (ltb 0 x.remote)).write x.remote) ((optional (is_given x.last_ack)).write x.last_ack) ((optional (is_given x.seconds)).write x.seconds) ((refresher_field (is_given x.refresher)).write x.refresher) (routes_bytes r)))

routes_filled : (r : Record) → is_filled (routes_bytes r) ≡ is_filled r.routes
routes_filled r = by r.routes
  where
    by : (l : List (List ℕ)) → is_filled ((routes_field (is_filled l)).write l) ≡ is_filled l
    by [] = refl
    by (t ∷ l) = refl

map_parts : (r : Record) → map_of (fields_of r) ≡ map_of_parts (parts_in r)
unfolding map_of
map_parts r = rw (routes_filled r) (omega arith)

-- the image of a record, from its parts
pub image_parts : (r : Record) → image.write r ≡ image_of (parts_in r)
unfolding image_of
image_parts r =
    let f = fields_of r in
    let m = map_of f in
    ap (λ (n : ℕ). two.write n ++ (fields m).write f) (map_parts r)
    ∙ ap (λ (s : List ℕ). two.write (map_of_parts (parts_in r)) ++ s) (fields_bytes r m (stands_0 f) (stands_1 f) (stands_2 f) (stands_7 f) (stands_8 f) (stands_9 f) (stands_10 f) (stands_11 f) (stands_12 f))

-- an image is its front and the routes' section
pub image_front : (p : Parts) → image_of p ≡ front_of (front_in p) ++ p.routes
unfolding image_of front_of
image_front p =
    front_shape (two.write (map_of_parts p)) (ids_bytes p.ids) (state_byte_of p ∷ []) (uris_bytes p.uris) (numbers_bytes p.numbers) p.routes
