-- Steps of the code: a record's image from its parts, in the order of document 01, "Record image": the bit map, the identifiers, the state byte, the URIs, the
-- numbers, and the routes as a section that is encoded already (no bytes where there are no routes). That these are the bytes of `image`
-- (record/specs/Record.antt) is the law `image_parts`. The front of an image is all before the routes: the law `image_front`.
use Rattle.limits.specs.declared.Refusal.{Refusal}
use Rattle.std.specs.Prelude.{ℕ, ◌+◌, ◌*◌, Bool, List, ◌∷◌, [], ◌++◌, length, ltb, Ok, Result}
use Rattle.limits.specs.Outcome.{cause_if, refuse_by}
use Rattle.limits.specs.declared.Refusal.TheVariants.{NoRoom}
use Rattle.codec.specs.Codec.{two, text}
use Rattle.dialog_id.specs.declared.IdTexts.{IdTexts}
use Rattle.image_writer.specs.declared.front.Front.{Front as CodeFront}
use Rattle.image_writer.specs.declared.front.UriTexts.{UriTexts}
use Rattle.record.specs.NumbersForm.{meaning}
use Rattle.record.specs.Record.{Numbers, Ids, Uris, bit_of, is_filled, is_given, ids_map, id_text, number, optional, refresher_field, state_byte_number}

-- ---- the texts as the writer is given them

abbrev pub ids_given : IdTexts → Ids
ids_given t = record { first = t.call_id.now; second = record { first = t.local_tag.now; second = t.remote_tag.now } }

abbrev pub uris_given : UriTexts → Uris
uris_given t = record { first = t.target.now; second = record { first = t.local_uri.now; second = t.remote_uri.now } }

-- ---- the parts

-- the parts of a record that are given
pub record Parts : Type 0 where
  pub numbers : Numbers
  pub we_are_uac : Bool
  pub secure : Bool
  pub ids : Ids
  pub uris : Uris
  -- the routes' section
  pub routes : List ℕ

-- ---- the sections

abbrev pub ids_bytes : Ids → List ℕ
ids_bytes i =
    (id_text (is_filled i.first)).write i.first
    ++ ((id_text (is_filled i.second.first)).write i.second.first ++ (id_text (is_filled i.second.second)).write i.second.second)

abbrev pub uris_bytes : Uris → List ℕ
uris_bytes u = text.write u.first ++ (text.write u.second.first ++ text.write u.second.second)

abbrev pub numbers_bytes : Numbers → List ℕ
numbers_bytes x =
    (number (ltb 0 x.local)).write x.local
    ++ ((number (ltb 0 x.remote)).write x.remote
    ++ ((optional (is_given x.last_ack)).write x.last_ack
    ++ ((optional (is_given x.seconds)).write x.seconds ++ (refresher_field (is_given x.refresher)).write x.refresher)))

-- ---- the map

abbrev pub numbers_map : Numbers → ℕ
numbers_map x =
    128 * bit_of (ltb 0 x.local)
    + 256 * bit_of (ltb 0 x.remote)
    + 512 * bit_of (is_given x.last_ack)
    + 1024 * bit_of (is_given x.seconds)
    + 2048 * bit_of (is_given x.refresher)

-- with routes or without
abbrev pub map_with : Ids → Numbers → Bool → ℕ
map_with i x routed = ids_map i + 120 + (numbers_map x + 4096 * bit_of routed)

abbrev pub map_of_parts : Parts → ℕ
map_of_parts p = map_with p.ids p.numbers (is_filled p.routes)

-- ---- the image

abbrev pub state_byte_of : Parts → ℕ
state_byte_of p = state_byte_number (record { state = p.numbers.state; we_are_uac = p.we_are_uac; secure = p.secure })

unfoldable pub image_of : Parts → List ℕ
image_of p =
    two.write (map_of_parts p)
    ++ (ids_bytes p.ids ++ ((state_byte_of p ∷ []) ++ (uris_bytes p.uris ++ (numbers_bytes p.numbers ++ p.routes))))

-- the parts as the writer is given them: identifiers, URIs, routes
abbrev pub parts_of : Numbers → Bool → Bool → List ℕ → List ℕ → List ℕ → List ℕ → List ℕ → List ℕ → List ℕ → Parts
parts_of x we_are_uac secure call_id local_tag remote_tag target local_uri remote_uri routes = record {
  numbers = x;
  we_are_uac = we_are_uac;
  secure = secure;
  ids = record { first = call_id; second = record { first = local_tag; second = remote_tag } };
  uris = record { first = target; second = record { first = local_uri; second = remote_uri } };
  routes = routes;
}

-- ---- the front

-- the parts of a record before its routes
pub record Front : Type 0 where
  pub numbers : Numbers
  pub we_are_uac : Bool
  pub secure : Bool
  pub ids : Ids
  pub uris : Uris
  -- whether routes follow
  pub routed : Bool

abbrev pub front_in : Parts → Front
front_in p = record {
  numbers = p.numbers;
  we_are_uac = p.we_are_uac;
  secure = p.secure;
  ids = p.ids;
  uris = p.uris;
  routed = is_filled p.routes;
}

abbrev pub map_of_front : Front → ℕ
map_of_front f = map_with f.ids f.numbers f.routed

abbrev pub state_byte_in : Front → ℕ
state_byte_in f = state_byte_number (record { state = f.numbers.state; we_are_uac = f.we_are_uac; secure = f.secure })

unfoldable pub front_of : Front → List ℕ
front_of f =
    two.write (map_of_front f)
    ++ (ids_bytes f.ids ++ ((state_byte_in f ∷ []) ++ (uris_bytes f.uris ++ numbers_bytes f.numbers)))

-- the front as the writer is given it, and whether routes follow
abbrev pub front_from : CodeFront → Bool → Front
front_from f routed = record {
  numbers = meaning f.numbers;
  we_are_uac = f.we_are_uac;
  secure = f.secure;
  ids = ids_given f.id;
  uris = uris_given f.uris;
  routed = routed;
}

-- 18 where a text and so many bytes after it are larger than the room
abbrev pub fitted_before : ℕ → ℕ → List ℕ → Result (List ℕ) Refusal
fitted_before more room s = refuse_by (cause_if (ltb room (length s + more)) NoRoom) (Ok s)
