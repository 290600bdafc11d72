-- What a C caller gets of one record image. Document 01, "The shape of each place": where an answer is an enum, a definition sets out the values of each case. The
-- number that is returned is `number_in` of the answer (limits/specs/Outcome.antt): 0 accepted, else that of "Turned back". For each kind of answer: what the lent
-- numbers then hold. A lent number keeps its value except where its answer is given.
use Rattle.std.specs.Prelude.{ℕ, ◌||◌, Err, Ok, Result}
use Rattle.std.specs.Int.{from_bool}
use Rattle.std.specs.Option.{is_some, unwrap_or}
use Rattle.limits.specs.Outcome.{number_in}
use Rattle.limits.specs.declared.Refusal.{Refusal}
use Rattle.record.specs.declared.numbers.State.{State}
use Rattle.record.specs.declared.numbers.State.TheVariants as state
use Rattle.image.specs.declared.RecordAt.{RecordAt}
use Rattle.c_answers.specs.Given.{Gives, IdNumbers, refresher_number}

-- ---- plain values

-- 1 Early, 2 Confirmed, 3 Terminated
abbrev pub state_number : State → ℕ
state_number state.Early = 1
state_number state.Confirmed = 2
state_number state.Terminated = 3

-- ---- the accessors

-- where the three parts of the identifier lie; one that is empty has length 0
abbrev pub id_after : Result RecordAt Refusal → IdNumbers → IdNumbers
id_after (Ok p) old = record {
  call = p.ids.id.call_id.start;
  call_length = p.ids.id.call_id.length;
  local = p.ids.id.local_tag.start;
  local_length = p.ids.id.local_tag.length;
  remote = p.ids.id.remote_tag.start;
  remote_length = p.ids.id.remote_tag.length;
}
id_after (Err cause) old = old

abbrev pub ImageIdGives : Result RecordAt Refusal → IdNumbers → ℕ → IdNumbers → Type 0
ImageIdGives answer old r left = Gives (number_in answer) (id_after answer old) r left

-- the state, the side, and whether the local or the remote URI is `sips`
pub record StateNumbers : Type 0 where
  pub state : ℕ
  pub we_are_uac : ℕ
  pub secure : ℕ

abbrev pub state_after : Result RecordAt Refusal → StateNumbers → StateNumbers
state_after (Ok p) old = record { state = state_number p.numbers.state; we_are_uac = from_bool p.we_are_uac; secure = from_bool (p.uris.local_secure || p.uris.remote_secure) }
state_after (Err cause) old = old

abbrev pub StateGives : Result RecordAt Refusal → StateNumbers → ℕ → StateNumbers → Type 0
StateGives answer old r left = Gives (number_in answer) (state_after answer old) r left

-- where the three URIs lie
pub record UrisNumbers : Type 0 where
  pub target : ℕ
  pub target_length : ℕ
  pub local_uri : ℕ
  pub local_uri_length : ℕ
  pub remote_uri : ℕ
  pub remote_uri_length : ℕ

abbrev pub uris_after : Result RecordAt Refusal → UrisNumbers → UrisNumbers
uris_after (Ok p) old = record {
  target = p.uris.target.start;
  target_length = p.uris.target.length;
  local_uri = p.uris.local_uri.start;
  local_uri_length = p.uris.local_uri.length;
  remote_uri = p.uris.remote_uri.start;
  remote_uri_length = p.uris.remote_uri.length;
}
uris_after (Err cause) old = old

abbrev pub UrisGives : Result RecordAt Refusal → UrisNumbers → ℕ → UrisNumbers → Type 0
UrisGives answer old r left = Gives (number_in answer) (uris_after answer old) r left

-- the numbers; an absent last ACK or interval keeps its lent number
pub record RecordNumbers : Type 0 where
  pub local : ℕ
  pub remote : ℕ
  pub has_last_ack : ℕ
  pub last_ack : ℕ
  pub has_seconds : ℕ
  pub seconds : ℕ
  pub refresher : ℕ

abbrev pub numbers_after : Result RecordAt Refusal → RecordNumbers → RecordNumbers
numbers_after (Ok p) old = record {
  local = p.numbers.local;
  remote = p.numbers.remote;
  has_last_ack = from_bool (is_some p.numbers.last_ack);
  last_ack = unwrap_or p.numbers.last_ack old.last_ack;
  has_seconds = from_bool (is_some p.numbers.seconds);
  seconds = unwrap_or p.numbers.seconds old.seconds;
  refresher = refresher_number p.numbers.refresher;
}
numbers_after (Err cause) old = old

abbrev pub NumbersGives : Result RecordAt Refusal → RecordNumbers → ℕ → RecordNumbers → Type 0
NumbersGives answer old r left = Gives (number_in answer) (numbers_after answer old) r left

-- how many routes there are
abbrev pub route_count_after : Result RecordAt Refusal → ℕ → ℕ
route_count_after (Ok p) old = p.route_count
route_count_after (Err cause) old = old

abbrev pub RouteCountGives : Result RecordAt Refusal → ℕ → ℕ → ℕ → Type 0
RouteCountGives answer old r left = Gives (number_in answer) (route_count_after answer old) r left
