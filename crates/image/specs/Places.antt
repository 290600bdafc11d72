-- Where the parts of a record lie that is read at a place of lent bytes. Document 01, "Record image": two bytes of bit map, then the
-- fields whose bit stands, in bit order. A text lies past its two length bytes; one whose bit doesn't stand lies where it would begin,
-- with length 0. What the parts are is `image.read` alone (record/specs/Record.antt); here are only their places.
use Rattle.std.specs.Prelude.{ℕ, ◌+◌, ◌*◌, List, [], ◌∷◌, length, ltb, Bool, None, Option, Some}
use Rattle.text.specs.declared.Span.{Span}
use Rattle.codec.specs.Codec.{Reading}
use Rattle.codec.specs.Places.{answered, text_span, text_end}
use Rattle.record.specs.Record.{Side, Record, Numbers, Ids, Uris, Tail, StateByte, bit_of, is_filled, is_given, is_sips}
use Rattle.record.specs.NumbersForm.{state_from, number_from, side_from, numbers_from}
use Rattle.record.specs.declared.numbers.State.{State}
use Rattle.headers.specs.declared.session_timer.Refresher.{Refresher}
use Rattle.image.specs.declared.sections.IdsAt.{IdsAt}
use Rattle.image.specs.declared.sections.UrisAt.{UrisAt}
use Rattle.image.specs.declared.sections.TailAt.{TailAt}
use Rattle.image.specs.declared.RecordAt.{RecordAt}

-- ---- sizes

-- the length bytes of an identifier part: none where it is empty
abbrev pub lead : List ℕ → ℕ
lead t = 2 * bit_of (is_filled t)

-- a number whose bit stands, and a number that is present
abbrev pub number_size : ℕ → ℕ
number_size n = 4 * bit_of (ltb 0 n)

abbrev pub option_size : {A : Type 0} → Option A → ℕ
option_size o = 4 * bit_of (is_given o)

-- the routes' section: nothing, or the count byte and the texts
unfoldable pub texts_size : List (List ℕ) → ℕ
texts_size [] = 0
texts_size (t ∷ ts) = 2 + length t + texts_size ts

abbrev pub routes_size : List (List ℕ) → ℕ
routes_size ts = bit_of (is_filled ts) + texts_size ts

-- ---- one field

abbrev pub id_span : ℕ → List ℕ → Span
id_span at t = record { start = at + lead t; length = length t }

abbrev pub id_end : ℕ → List ℕ → ℕ
id_end at t = at + lead t + length t

abbrev pub id_from : ℕ → Option (Reading (List ℕ)) → Option Span
id_from at o = answered None (λ v. Some (id_span at v)) o

-- with whether it is `sips`
abbrev pub uri_from : ℕ → Option (Reading (List ℕ)) → Option (Span × Bool)
uri_from at o = answered None (λ v. Some (text_span at v, is_sips v)) o

-- a number and the place after it
abbrev pub number_at : ℕ → Option (Reading ℕ) → Option (ℕ × ℕ)
number_at at o = answered None (λ v. Some (v, at + number_size v)) o

abbrev pub optional_at : ℕ → Option (Reading (Option ℕ)) → Option (Option ℕ × ℕ)
optional_at at o = answered None (λ v. Some (number_from v, at + option_size v)) o

abbrev pub refresher_at : ℕ → Option (Reading (Option Side)) → Option (Option Refresher × ℕ)
refresher_at at o = answered None (λ v. Some (side_from v, at + option_size v)) o

-- how many routes, and the place after them
abbrev pub routes_at : ℕ → Option (Reading (List (List ℕ))) → Option (ℕ × ℕ)
routes_at at o = answered None (λ v. Some (length v, at + routes_size v)) o

abbrev pub state_field_of : Option (Reading StateByte) → Option (State × Bool × Bool)
state_field_of o = answered None (λ v. Some (state_from v.state, v.we_are_uac, v.secure)) o

-- ---- the sections of an image

abbrev pub ids_places : ℕ → Ids → IdsAt
ids_places at i =
    let local = id_end at i.first in
    let remote = id_end local i.second.first in
    record { id = record { call_id = id_span at i.first; local_tag = id_span local i.second.first; remote_tag = id_span remote i.second.second }; end = id_end remote i.second.second }

abbrev pub ids_from : ℕ → Option (Reading Ids) → Option IdsAt
ids_from at o = answered None (λ v. Some (ids_places at v)) o

abbrev pub uris_places : ℕ → Uris → UrisAt
uris_places at u =
    let local = text_end at u.first in
    let remote = text_end local u.second.first in
    record {
      target = text_span at u.first;
      local_uri = text_span local u.second.first;
      remote_uri = text_span remote u.second.second;
      local_secure = is_sips u.second.first;
      remote_secure = is_sips u.second.second;
      end = text_end remote u.second.second;
    }

abbrev pub uris_from : ℕ → Option (Reading Uris) → Option UrisAt
uris_from at o = answered None (λ v. Some (uris_places at v)) o

abbrev pub tail_places : ℕ → Tail → TailAt
tail_places at t =
    let b = at + number_size t.first in
    let c = b + number_size t.second.first in
    let d = c + option_size t.second.second.first in
    let e = d + option_size t.second.second.second.first in
    let f = e + option_size t.second.second.second.second.first in
    record {
      local = t.first;
      remote = t.second.first;
      last_ack = number_from t.second.second.first;
      seconds = number_from t.second.second.second.first;
      refresher = side_from t.second.second.second.second.first;
      routes = f;
      route_count = length t.second.second.second.second.second;
      end = f + routes_size t.second.second.second.second.second;
    }

abbrev pub tail_from : ℕ → Option (Reading Tail) → Option TailAt
tail_from at o = answered None (λ v. Some (tail_places at v)) o

-- ---- the record

abbrev pub ids_of : Record → Ids
ids_of r = record { first = r.call_id; second = record { first = r.local_tag; second = r.remote_tag } }

abbrev pub uris_of : Record → Uris
uris_of r = record { first = r.target; second = record { first = r.local_uri; second = r.remote_uri } }

abbrev pub numbers_size : Numbers → ℕ
numbers_size x = number_size x.local + number_size x.remote + option_size x.last_ack + option_size x.seconds + option_size x.refresher

-- the record whose image begins at the place
abbrev pub record_places : ℕ → Record → RecordAt
record_places at r =
    let i = ids_places (at + 2) (ids_of r) in
    let u = uris_places (i.end + 1) (uris_of r) in
    record {
      ids = i;
      state = i.end;
      we_are_uac = r.we_are_uac;
      uris = u;
      numbers = numbers_from r.numbers;
      routes = u.end + numbers_size r.numbers;
      route_count = length r.routes;
      end = u.end + numbers_size r.numbers + routes_size r.routes;
    }

abbrev pub record_from : ℕ → Option (Reading Record) → Option RecordAt
record_from at o = answered None (λ v. Some (record_places at v)) o
