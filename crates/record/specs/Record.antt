-- A dialog record as data, and its image. Document 01, "Record image": big-endian; two bytes of bit map, bit 0 lowest, then the
-- fields whose bit stands, in bit order.
use Rattle.std.specs.Prelude.{ℕ, ◌+◌, ◌*◌, ◌/◌, ◌%◌, ◌^◌, ◌≤◌, ◌<◌, ◌≡◌, Bool, true, false, cond, ◌&&◌, ◌||◌, List, [], ◌∷◌, length, take, leb, ltb, eqb, None, Option, Some}
use Rattle.std.specs.Bool.{beq}
use Rattle.text.specs.Text.{is_value, all, same}
use Rattle.text.specs.Number.{non_empty}
use Rattle.uri.specs.SipUri.{UriParts, sip_uri, sips}
use Rattle.codec.specs.Codec.{Codec, Pair, byte, four, text, then, such, flagged, mapped, counted, keyed}

-- ---- the record

pub data State : Type 0 where
  early : State
  confirmed : State
  terminated : State

-- who refreshes a session
pub data Side : Type 0 where
  uac : Side
  uas : Side

-- what requests, responses and calls by identifier change: the state, and the numbers
pub record Numbers : Type 0 where
  pub state : State
  pub local : ℕ
  pub remote : ℕ
  pub last_ack : Option ℕ
  pub seconds : Option ℕ
  pub refresher : Option Side

pub record Record : Type 0 where
  pub call_id : List ℕ
  pub local_tag : List ℕ
  pub remote_tag : List ℕ
  pub we_are_uac : Bool
  pub target : List ℕ
  pub local_uri : List ℕ
  pub remote_uri : List ℕ
  pub numbers : Numbers
  pub routes : List (List ℕ)

-- ---- the fields of an image, in bit order

-- a URI can be read
abbrev pub is_read : Option UriParts → Bool
is_read None = false
is_read (Some u) = true

abbrev pub is_readable : List ℕ → Bool
is_readable t = is_read (sip_uri t)

-- the local or the remote URI is `sips`, in any letter case
abbrev pub is_sips : List ℕ → Bool
is_sips t = same (take 5 t) sips

-- an identifier part: not empty, of bytes allowed in block values; empty where its bit doesn't stand
abbrev pub id_text : Bool → Codec (List ℕ)
id_text flag = flagged flag [] (such text (λ t. non_empty t && all is_value t))

-- a URI's text
abbrev pub uri_text : Codec (List ℕ)
uri_text = such text is_readable

-- a number that isn't 0; 0 where its bit doesn't stand
abbrev pub number : Bool → Codec ℕ
number flag = flagged flag 0 (such four (λ n. ltb 0 n))

-- a number that may be absent, and may be 0
abbrev pub value_or : Option ℕ → ℕ
value_or None = 0
value_or (Some n) = n

abbrev pub optional : Bool → Codec (Option ℕ)
optional flag = flagged flag None (mapped Some value_or four)

-- 1 uac, 2 uas
abbrev pub side_number : Option Side → ℕ
side_number None = 0
side_number (Some uac) = 1
side_number (Some uas) = 2

abbrev pub side_of : ℕ → Option Side
side_of n = cond (eqb n 1) (Some uac) (Some uas)

abbrev pub refresher_field : Bool → Codec (Option Side)
refresher_field flag = flagged flag None (mapped side_of side_number (such four (λ n. eqb n 1 || eqb n 2)))

-- a count byte, 1 to 50, then texts
abbrev pub routes_field : Bool → Codec (List (List ℕ))
routes_field flag = flagged flag [] (such (counted uri_text) (λ l. ltb 0 (length l) && leb (length l) 50))

-- the state byte: low two bits 1 Early, 2 Confirmed, 3 Terminated; bit 2 we are uac; bit 3 secure; the rest 0
abbrev pub bit_of : Bool → ℕ
bit_of true = 1
bit_of false = 0

abbrev pub state_number : State → ℕ
state_number early = 1
state_number confirmed = 2
state_number terminated = 3

abbrev pub state_of : ℕ → State
state_of n = cond (eqb n 1) early (cond (eqb n 2) confirmed terminated)

-- the parts of a state byte
pub record StateByte : Type 0 where
  pub state : State
  pub we_are_uac : Bool
  pub secure : Bool

abbrev pub state_byte_number : StateByte → ℕ
state_byte_number b = state_number b.state + 4 * bit_of b.we_are_uac + 8 * bit_of b.secure

abbrev pub state_byte_of : ℕ → StateByte
state_byte_of n = record { state = state_of (n % 4); we_are_uac = eqb (n / 4 % 2) 1; secure = eqb (n / 8) 1 }

abbrev pub state_byte : Codec StateByte
state_byte = mapped state_byte_of state_byte_number (such byte (λ n. ltb n 16 && ltb 0 (n % 4)))

-- ---- the image

-- the bit k of a map stands
abbrev pub stands : ℕ → ℕ → Bool
stands k m = eqb (m / 2 ^ k % 2) 1

abbrev pub Ids : Type 0
Ids = Pair (List ℕ) (Pair (List ℕ) (List ℕ))

abbrev pub Uris : Type 0
Uris = Pair (List ℕ) (Pair (List ℕ) (List ℕ))

abbrev pub Tail : Type 0
Tail = Pair ℕ (Pair ℕ (Pair (Option ℕ) (Pair (Option ℕ) (Pair (Option Side) (List (List ℕ))))))

abbrev pub Fields : Type 0
Fields = Pair Ids (Pair StateByte (Pair Uris Tail))

-- the identifiers, the URIs, and the numbers with the routes
abbrev pub ids_field : ℕ → Codec Ids
ids_field m = then (id_text (stands 0 m)) (then (id_text (stands 1 m)) (id_text (stands 2 m)))

abbrev pub uris_field : Codec Uris
uris_field = then uri_text (then uri_text uri_text)

abbrev pub tail_field : ℕ → Codec Tail
tail_field m =
    then (number (stands 7 m))
    (then (number (stands 8 m))
    (then (optional (stands 9 m))
    (then (optional (stands 10 m))
    (then (refresher_field (stands 11 m)) (routes_field (stands 12 m))))))

-- the fields whose bit stands in the map
abbrev pub fields : ℕ → Codec Fields
fields m = then (ids_field m) (then state_byte (then uris_field (tail_field m)))

-- whether a list has elements, and an option a value
abbrev pub is_filled : {A : Type 0} → List A → Bool
is_filled [] = false
is_filled (a ∷ l) = true

abbrev pub is_given : {A : Type 0} → Option A → Bool
is_given None = false
is_given (Some a) = true

-- bits 3 to 6 always stand; 0 to 2 if not empty; 7 and 8 if not 0; 9 to 11 if present; 12 if not empty; no others
abbrev pub tail_map : Tail → ℕ
tail_map t =
    128 * bit_of (ltb 0 t.first)
    + 256 * bit_of (ltb 0 t.second.first)
    + 512 * bit_of (is_given t.second.second.first)
    + 1024 * bit_of (is_given t.second.second.second.first)
    + 2048 * bit_of (is_given t.second.second.second.second.first)
    + 4096 * bit_of (is_filled t.second.second.second.second.second)

abbrev pub ids_map : Ids → ℕ
ids_map i = bit_of (is_filled i.first) + 2 * bit_of (is_filled i.second.first) + 4 * bit_of (is_filled i.second.second)

unfoldable pub map_of : Fields → ℕ
map_of f = ids_map f.first + 120 + tail_map f.second.second.second

-- ---- a record and its fields

abbrev pub is_secure : Uris → Bool
is_secure u = is_sips u.second.first || is_sips u.second.second

abbrev pub fields_of : Record → Fields
fields_of r = record {
  first = record { first = r.call_id; second = record { first = r.local_tag; second = r.remote_tag } };
  second = record {
    first = record {
      state = r.numbers.state;
      we_are_uac = r.we_are_uac;
      secure = is_sips r.local_uri || is_sips r.remote_uri;
    };
    second = record {
      first = record { first = r.target; second = record { first = r.local_uri; second = r.remote_uri } };
      second = record {
        first = r.numbers.local;
        second = record {
          first = r.numbers.remote;
          second = record {
            first = r.numbers.last_ack;
            second = record {
              first = r.numbers.seconds;
              second = record { first = r.numbers.refresher; second = r.routes };
            };
          };
        };
      };
    };
  };
}

abbrev pub record_of : Fields → Record
record_of f = record {
  call_id = f.first.first;
  local_tag = f.first.second.first;
  remote_tag = f.first.second.second;
  we_are_uac = f.second.first.we_are_uac;
  target = f.second.second.first.first;
  local_uri = f.second.second.first.second.first;
  remote_uri = f.second.second.first.second.second;
  numbers = record {
    state = f.second.first.state;
    local = f.second.second.second.first;
    remote = f.second.second.second.second.first;
    last_ack = f.second.second.second.second.second.first;
    seconds = f.second.second.second.second.second.second.first;
    refresher = f.second.second.second.second.second.second.second.first;
  };
  routes = f.second.second.second.second.second.second.second.second;
}

-- the secure bit stands exactly if the local or the remote URI is `sips`
abbrev pub secure_right : Fields → Bool
secure_right f = beq f.second.first.secure (is_secure f.second.second.first)

-- one record's image
abbrev pub image : Codec Record
image = mapped record_of fields_of (such (keyed map_of fields) secure_right)

-- ---- what an image can hold

-- an identifier part: bytes allowed in block values, a length of two bytes
abbrev pub IdPart : List ℕ → Type 0
IdPart t = (length t < 65536) × (all is_value t ≡ true)

abbrev pub UriPart : List ℕ → Type 0
UriPart t = (length t < 65536) × (is_readable t ≡ true)

abbrev pub OptionalPart : Option ℕ → Type 0
OptionalPart None = Unit {0}
OptionalPart (Some n) = n < 2 ^ 32

abbrev pub EachUri : List (List ℕ) → Type 0
EachUri [] = Unit {0}
EachUri (t ∷ ts) = UriPart t × EachUri ts

-- a record that has an image
pub record WellFormed (r : Record) : Type 0 where
  pub call_id : IdPart r.call_id
  pub local_tag : IdPart r.local_tag
  pub remote_tag : IdPart r.remote_tag
  pub target : UriPart r.target
  pub local_uri : UriPart r.local_uri
  pub remote_uri : UriPart r.remote_uri
  pub local : r.numbers.local < 2 ^ 32
  pub remote : r.numbers.remote < 2 ^ 32
  pub last_ack : OptionalPart r.numbers.last_ack
  pub seconds : OptionalPart r.numbers.seconds
  pub routes : EachUri r.routes
  pub route_count : length r.routes ≤ 50
