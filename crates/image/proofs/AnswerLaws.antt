-- What the answer of each reader says of the bytes: what was read, and where it lies; or that nothing can be read. Assumes nothing.
use Prim.Native.Nat.{ℕ, ◌+◌, ◌≤◌}
use native.Mathlib.Omega.{arith}
use mathlib.Core.Path.{◌≡◌, refl, ap}
use mathlib.Core.Bool.{Bool}
use mathlib.Core.List.{List}
use lib.ListN.{length, drop}
use Rattle.std.specs.Prelude.{None, Option, Some}
use Rattle.text.specs.declared.Span.{Span}
use Rattle.codec.specs.Codec.{Reading, Codec}
use Rattle.codec.proofs.AnswerLaws.{PlacesGot, places_got, nothing_got, span_end}
use Rattle.record.specs.Record.{Side, is_sips, id_text, uri_text, number, optional, refresher_field, routes_field, StateByte, state_byte, Uris, Tail, ids_field, uris_field, tail_field, Record, image}
use Rattle.record.specs.NumbersForm.{state_from, number_from, side_from}
use Rattle.record.specs.declared.numbers.State.{State}
use Rattle.headers.specs.declared.session_timer.Refresher.{Refresher}
use Rattle.codec.specs.Places.{text_span}
use Rattle.image.specs.Places.{number_size, option_size, routes_size, id_span, id_from, uri_from, number_at, optional_at, refresher_at, routes_at, state_field_of, ids_places, ids_from, uris_places, uris_from, tail_places, tail_from, record_places, record_from}
use Rattle.image.specs.declared.sections.IdsAt.{IdsAt}
use Rattle.image.specs.declared.sections.UrisAt.{UrisAt}
use Rattle.image.specs.declared.RecordAt.{RecordAt}
use Rattle.image.specs.declared.sections.TailAt.{TailAt}
use Rattle.image.proofs.SizeLaws.{id_sized, uri_sized, number_sized, optional_sized, side_sized, routes_sized, state_sized, ids_sized, uris_sized, tail_sized, record_sized}

-- ---- texts

abbrev pub IdGot : Bool → List ℕ → ℕ → Span → Type 0
IdGot flag s at p = PlacesGot (id_text flag) id_span span_end s at p

pub id_got : (flag : Bool) (s : List ℕ) (at : ℕ) {p : Span} → at ≤ length s → id_from at ((id_text flag).read (drop at s)) ≡ Some p → IdGot flag s at p
id_got flag s at h e = places_got (id_sized flag) s at h e (λ q. cc) (λ a q. cc) (λ a. omega arith)

pub id_not : (at : ℕ) (o : Option (Reading (List ℕ))) → id_from at o ≡ None → o ≡ None
id_not at o e = nothing_got o e (λ a q. cc)

-- with whether it is `sips`
abbrev pub UriGot : List ℕ → ℕ → Span → Bool → Type 0
UriGot s at p secure = PlacesGot {P = Span × Bool} uri_text (λ at t. (text_span at t, is_sips t)) (λ q. span_end q.0) s at (p, secure)

pub uri_got : (s : List ℕ) (at : ℕ) {p : Span} {b : Bool} → at ≤ length s → uri_from at (uri_text.read (drop at s)) ≡ Some (p, b) → UriGot s at p b
uri_got s at h e = places_got uri_sized s at h e (λ q. cc) (λ a q. cc) (λ a. omega arith)

pub uri_not : (at : ℕ) (o : Option (Reading (List ℕ))) → uri_from at o ≡ None → o ≡ None
uri_not at o e = nothing_got o e (λ a q. cc)

-- ---- numbers and routes: what the answer has of the value, and the place after it

abbrev ShownGot : {A B : Type 0} → Codec A → (A → B) → (A → ℕ) → List ℕ → ℕ → B → ℕ → Type 0
ShownGot {A} {B} form shown size s at n next = PlacesGot {P = B × ℕ} form (λ at a. (shown a, at + size a)) (λ q. q.1) s at (n, next)

abbrev pub NumberGot : Bool → List ℕ → ℕ → ℕ → ℕ → Type 0
NumberGot flag s at n next = ShownGot (number flag) (λ n. n) number_size s at n next

pub number_got : (flag : Bool) (s : List ℕ) (at : ℕ) {n next : ℕ} → at ≤ length s → number_at at ((number flag).read (drop at s)) ≡ Some (n, next) → NumberGot flag s at n next
number_got flag s at h e = places_got (number_sized flag) s at h e (λ q. cc) (λ a q. cc) (λ a. refl)

pub number_not : (at : ℕ) (o : Option (Reading ℕ)) → number_at at o ≡ None → o ≡ None
number_not at o e = nothing_got o e (λ a q. cc)

abbrev pub OptionalGot : Bool → List ℕ → ℕ → Option ℕ → ℕ → Type 0
OptionalGot flag s at n next = ShownGot (optional flag) number_from option_size s at n next

pub optional_got : (flag : Bool) (s : List ℕ) (at : ℕ) {n : Option ℕ} {next : ℕ} → at ≤ length s → optional_at at ((optional flag).read (drop at s)) ≡ Some (n, next) → OptionalGot flag s at n next
optional_got flag s at h e = places_got (optional_sized flag) s at h e (λ q. cc) (λ a q. cc) (λ a. refl)

pub optional_not : (at : ℕ) (o : Option (Reading (Option ℕ))) → optional_at at o ≡ None → o ≡ None
optional_not at o e = nothing_got o e (λ a q. cc)

abbrev pub SideGot : Bool → List ℕ → ℕ → Option Refresher → ℕ → Type 0
SideGot flag s at n next = ShownGot (refresher_field flag) side_from option_size s at n next

pub side_got : (flag : Bool) (s : List ℕ) (at : ℕ) {n : Option Refresher} {next : ℕ} → at ≤ length s → refresher_at at ((refresher_field flag).read (drop at s)) ≡ Some (n, next) → SideGot flag s at n next
side_got flag s at h e = places_got (side_sized flag) s at h e (λ q. cc) (λ a q. cc) (λ a. refl)

pub side_not : (at : ℕ) (o : Option (Reading (Option Side))) → refresher_at at o ≡ None → o ≡ None
side_not at o e = nothing_got o e (λ a q. cc)

abbrev pub RoutesGot : Bool → List ℕ → ℕ → ℕ → ℕ → Type 0
RoutesGot flag s at count next = ShownGot (routes_field flag) length routes_size s at count next

pub routes_got : (flag : Bool) (s : List ℕ) (at : ℕ) {count next : ℕ} → at ≤ length s → routes_at at ((routes_field flag).read (drop at s)) ≡ Some (count, next) → RoutesGot flag s at count next
routes_got flag s at h e = places_got (routes_sized flag) s at h e (λ q. cc) (λ a q. cc) (λ a. refl)

pub routes_not : (at : ℕ) (o : Option (Reading (List (List ℕ)))) → routes_at at o ≡ None → o ≡ None
routes_not at o e = nothing_got o e (λ a q. cc)

-- what was found
found : {A : Type 0} {x y : A} → Some x ≡ Some y → y ≡ x
found e = cc

-- ---- the state byte: the state, whether we are uac, and the secure bit

abbrev pub StateGot : List ℕ → ℕ → State → Bool → Bool → Type 0
StateGot s at state uac secure = PlacesGot {P = State × (Bool × Bool)} state_byte (λ at b. (state_from b.state, (b.we_are_uac, b.secure))) (λ q. at + 1) s at (state, (uac, secure))

pub state_got : (s : List ℕ) (at : ℕ) {state : State} {uac secure : Bool} → at ≤ length s → state_field_of (state_byte.read (drop at s)) ≡ Some (state, uac, secure) → StateGot s at state uac secure
state_got s at h e = places_got state_sized s at h e (λ q. cc) (λ a q. ap (λ (t : State × Bool × Bool). (t.0, (t.1, t.2))) (found q)) (λ a. refl)

pub state_not : (o : Option (Reading StateByte)) → state_field_of o ≡ None → o ≡ None
state_not o e = nothing_got o e (λ a q. cc)

-- ---- sections

abbrev pub IdsGot : ℕ → List ℕ → ℕ → IdsAt → Type 0
IdsGot m s at p = PlacesGot (ids_field m) ids_places (λ (q : IdsAt). q.end) s at p

pub ids_got : (m : ℕ) (s : List ℕ) (at : ℕ) {p : IdsAt} → at ≤ length s → ids_from at ((ids_field m).read (drop at s)) ≡ Some p → IdsGot m s at p
ids_got m s at h e = places_got (ids_sized m) s at h e (λ q. cc) (λ a q. cc) (λ a. omega arith)

abbrev pub UrisGot : List ℕ → ℕ → UrisAt → Type 0
UrisGot s at p = PlacesGot uris_field uris_places (λ (q : UrisAt). q.end) s at p

pub uris_got : (s : List ℕ) (at : ℕ) {p : UrisAt} → at ≤ length s → uris_from at (uris_field.read (drop at s)) ≡ Some p → UrisGot s at p
uris_got s at h e = places_got uris_sized s at h e (λ q. cc) (λ a q. cc) (λ a. omega arith)

pub uris_not : (at : ℕ) (o : Option (Reading Uris)) → uris_from at o ≡ None → o ≡ None
uris_not at o e = nothing_got o e (λ a q. cc)

abbrev pub TailGot : ℕ → List ℕ → ℕ → TailAt → Type 0
TailGot m s at p = PlacesGot (tail_field m) tail_places (λ (q : TailAt). q.end) s at p

pub tail_got : (m : ℕ) (s : List ℕ) (at : ℕ) {p : TailAt} → at ≤ length s → tail_from at ((tail_field m).read (drop at s)) ≡ Some p → TailGot m s at p
tail_got m s at h e = places_got (tail_sized m) s at h e (λ q. cc) (λ a q. cc) (λ a. omega arith)

pub tail_not : (at : ℕ) (o : Option (Reading Tail)) → tail_from at o ≡ None → o ≡ None
tail_not at o e = nothing_got o e (λ a q. cc)

-- ---- a record, for callers

abbrev pub RecordGot : List ℕ → ℕ → RecordAt → Type 0
RecordGot s at p = PlacesGot image record_places (λ (q : RecordAt). q.end) s at p

pub record_got : (s : List ℕ) (at : ℕ) {p : RecordAt} → at ≤ length s → record_from at (image.read (drop at s)) ≡ Some p → RecordGot s at p
record_got s at h e = places_got record_sized s at h e (λ q. cc) (λ a q. cc) (λ a. omega arith)

pub record_not : (at : ℕ) (o : Option (Reading Record)) → record_from at o ≡ None → o ≡ None
record_not at o e = nothing_got o e (λ a q. cc)
