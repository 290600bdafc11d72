-- What a C caller gets. Document 01, "The shape of each place": where an answer is an enum, a definition sets out the values of each case. The number that is
-- returned is `number_in` of the answer (limits/specs/Outcome.antt): 0 accepted, else that of "Turned back". For each kind of answer: what the lent numbers then
-- hold. A lent number keeps its value except where its answer is given.
use Rattle.std.specs.Prelude.{ℕ, ◌≡◌, Bool, Err, None, Ok, Option, Result, Some}
use Rattle.std.specs.Int.{from_bool}
use Rattle.std.specs.Option.{is_some, unwrap_or}
use Rattle.limits.specs.Outcome.{number_in}
use Rattle.limits.specs.Refusal.{least_of}
use Rattle.limits.specs.declared.Refusal.{Refusal}
use Rattle.text.specs.declared.Span.{Span}
use Rattle.uri.specs.declared.SipUri.{SipUri}
use Rattle.headers.specs.declared.session_timer.Refresher.{Refresher}
use Rattle.headers.specs.declared.session_timer.Refresher.TheVariants as refresher
use Rattle.dialog_id.specs.declared.DialogId.{DialogId}
use Rattle.rack.specs.declared.RAck.{RAck}

-- r is the number that is due, and the lent numbers are left as they are to be
pub record Gives {A : Type 0} (number : ℕ) (after : A) (r : ℕ) (left : A) : Type 0 where
  pub number_is : r ≡ number
  pub left_is : left ≡ after

-- ---- plain values

-- 0 none, 1 uac, 2 uas
abbrev pub refresher_number : Option Refresher → ℕ
refresher_number None = 0
refresher_number (Some refresher.Uac) = 1
refresher_number (Some refresher.Uas) = 2

-- what 13 returns beside its number; any other cause keeps the value
abbrev pub least_after : Refusal → ℕ → ℕ
least_after cause old = unwrap_or (least_of cause) old

-- ---- one value: a number that was read, a count, how many lent bytes were written

abbrev pub value_after : {A : Type 0} → Result A Refusal → A → A
value_after (Ok a) old = a
value_after (Err cause) old = old

abbrev pub ValueGives : {A : Type 0} → Result A Refusal → A → ℕ → A → Type 0
ValueGives answer old r left = Gives (number_in answer) (value_after answer old) r left

-- ---- yes or no: 1 or 0

abbrev pub flag_after : Result Bool Refusal → ℕ → ℕ
flag_after (Ok b) old = from_bool b
flag_after (Err cause) old = old

abbrev pub FlagGives : Result Bool Refusal → ℕ → ℕ → ℕ → Type 0
FlagGives answer old r left = Gives (number_in answer) (flag_after answer old) r left

-- ---- one value, and the new used length

pub record WithUsedNumbers (A : Type 0) : Type 0 where
  pub used : ℕ
  pub value : A

abbrev pub with_used_after : {A : Type 0} → Result (A × ℕ) Refusal → WithUsedNumbers A → WithUsedNumbers A
with_used_after (Ok (a, length)) old = record { used = length; value = a }
with_used_after (Err cause) old = old

abbrev pub WithUsedGives : {A : Type 0} → Result (A × ℕ) Refusal → WithUsedNumbers A → ℕ → WithUsedNumbers A → Type 0
WithUsedGives answer old r left = Gives (number_in answer) (with_used_after answer old) r left

-- ---- one value, or with 13 the least: a negotiated interval, or how long an image is that has a new one

pub record WithLeastNumbers (A : Type 0) : Type 0 where
  pub value : A
  pub least : ℕ

abbrev pub with_least_after : {A : Type 0} → Result A Refusal → WithLeastNumbers A → WithLeastNumbers A
with_least_after (Ok a) old = record { value = a; least = old.least }
with_least_after (Err cause) old = record { value = old.value; least = least_after cause old.least }

abbrev pub WithLeastGives : {A : Type 0} → Result A Refusal → WithLeastNumbers A → ℕ → WithLeastNumbers A → Type 0
WithLeastGives answer old r left = Gives (number_in answer) (with_least_after answer old) r left

-- ---- one value that may be absent: `found` is 1 with it, or 0

pub record FoundNumbers (A : Type 0) : Type 0 where
  pub found : ℕ
  pub value : A

abbrev pub found_after : {A : Type 0} → Result (Option A) Refusal → FoundNumbers A → FoundNumbers A
found_after (Ok (Some a)) old = record { found = 1; value = a }
found_after (Ok None) old = record { found = 0; value = old.value }
found_after (Err cause) old = old

abbrev pub FoundGives : {A : Type 0} → Result (Option A) Refusal → FoundNumbers A → ℕ → FoundNumbers A → Type 0
FoundGives answer old r left = Gives (number_in answer) (found_after answer old) r left

-- ---- a look-up: `found` is 1 with a place and a length, or 0

pub record LookupNumbers : Type 0 where
  pub found : ℕ
  pub place : ℕ
  pub length : ℕ

abbrev pub lookup_after : Result (Option Span) Refusal → LookupNumbers → LookupNumbers
lookup_after (Ok (Some s)) old = record { found = 1; place = s.start; length = s.length }
lookup_after (Ok None) old = record { found = 0; place = old.place; length = old.length }
lookup_after (Err cause) old = old

abbrev pub LookupGives : Result (Option Span) Refusal → LookupNumbers → ℕ → LookupNumbers → Type 0
LookupGives answer old r left = Gives (number_in answer) (lookup_after answer old) r left

-- ---- the next text from a place on, and where to ask for the one after it

pub record NextNumbers : Type 0 where
  pub found : ℕ
  pub place : ℕ
  pub length : ℕ
  pub next : ℕ

abbrev pub next_after : Result (Option (Span × ℕ)) Refusal → NextNumbers → NextNumbers
next_after (Ok (Some (s, after))) old = record { found = 1; place = s.start; length = s.length; next = after }
next_after (Ok None) old = record { found = 0; place = old.place; length = old.length; next = old.next }
next_after (Err cause) old = old

abbrev pub NextGives : Result (Option (Span × ℕ)) Refusal → NextNumbers → ℕ → NextNumbers → Type 0
NextGives answer old r left = Gives (number_in answer) (next_after answer old) r left

-- ---- a part of a value

pub record PartNumbers : Type 0 where
  pub place : ℕ
  pub length : ℕ

abbrev pub part_after : Result Span Refusal → PartNumbers → PartNumbers
part_after (Ok s) old = record { place = s.start; length = s.length }
part_after (Err cause) old = old

abbrev pub PartGives : Result Span Refusal → PartNumbers → ℕ → PartNumbers → Type 0
PartGives answer old r left = Gives (number_in answer) (part_after answer old) r left

-- ---- three texts

pub record SpansNumbers : Type 0 where
  pub first : ℕ
  pub first_length : ℕ
  pub second : ℕ
  pub second_length : ℕ
  pub third : ℕ
  pub third_length : ℕ

abbrev pub spans_after : Result (Span × Span × Span) Refusal → SpansNumbers → SpansNumbers
spans_after (Ok (a, b, c)) old = record { first = a.start; first_length = a.length; second = b.start; second_length = b.length; third = c.start; third_length = c.length }
spans_after (Err cause) old = old

abbrev pub SpansGives : Result (Span × Span × Span) Refusal → SpansNumbers → ℕ → SpansNumbers → Type 0
SpansGives answer old r left = Gives (number_in answer) (spans_after answer old) r left

-- ---- the three parts of an identifier

pub record IdNumbers : Type 0 where
  pub call : ℕ
  pub call_length : ℕ
  pub local : ℕ
  pub local_length : ℕ
  pub remote : ℕ
  pub remote_length : ℕ

abbrev pub id_after : Result DialogId Refusal → IdNumbers → IdNumbers
id_after (Ok i) old = record { call = i.call_id.start; call_length = i.call_id.length; local = i.local_tag.start; local_length = i.local_tag.length; remote = i.remote_tag.start; remote_length = i.remote_tag.length }
id_after (Err cause) old = old

abbrev pub IdGives : Result DialogId Refusal → IdNumbers → ℕ → IdNumbers → Type 0
IdGives answer old r left = Gives (number_in answer) (id_after answer old) r left

-- ---- the parts of a URI

pub record UriNumbers : Type 0 where
  pub secure : ℕ
  pub user : ℕ
  pub user_length : ℕ
  pub host : ℕ
  pub host_length : ℕ
  pub has_port : ℕ
  pub port : ℕ

-- where the user part stands; one that is absent is said to stand, empty, at the host
abbrev pub user_of : SipUri → Span
user_of u = unwrap_or u.user (record { start = u.host.start; length = 0 })

abbrev pub uri_after : Result SipUri Refusal → UriNumbers → UriNumbers
uri_after (Ok u) old = record {
  secure = from_bool u.secure;
  user = (user_of u).start;
  user_length = (user_of u).length;
  host = u.host.start;
  host_length = u.host.length;
  has_port = from_bool (is_some u.port);
  port = unwrap_or u.port old.port;
}
uri_after (Err cause) old = old

abbrev pub UriGives : Result SipUri Refusal → UriNumbers → ℕ → UriNumbers → Type 0
UriGives answer old r left = Gives (number_in answer) (uri_after answer old) r left

-- ---- an interval in seconds and its refresher

pub record ExpiresNumbers : Type 0 where
  pub found : ℕ
  pub seconds : ℕ
  pub refresher : ℕ

abbrev pub expires_after : Result (Option (ℕ × Option Refresher)) Refusal → ExpiresNumbers → ExpiresNumbers
expires_after (Ok (Some (n, r))) old = record { found = 1; seconds = n; refresher = refresher_number r }
expires_after (Ok None) old = record { found = 0; seconds = old.seconds; refresher = old.refresher }
expires_after (Err cause) old = old

abbrev pub ExpiresGives : Result (Option (ℕ × Option Refresher)) Refusal → ExpiresNumbers → ℕ → ExpiresNumbers → Type 0
ExpiresGives answer old r left = Gives (number_in answer) (expires_after answer old) r left

-- ---- a method's number by its text

pub record MethodLookupNumbers : Type 0 where
  pub found : ℕ
  pub method : ℕ

abbrev pub method_lookup_after : Result (Option ℕ) Refusal → MethodLookupNumbers → MethodLookupNumbers
method_lookup_after (Ok (Some n)) old = record { found = 1; method = n }
method_lookup_after (Ok None) old = record { found = 0; method = old.method }
method_lookup_after (Err cause) old = old

abbrev pub MethodLookupGives : Result (Option ℕ) Refusal → MethodLookupNumbers → ℕ → MethodLookupNumbers → Type 0
MethodLookupGives answer old r left = Gives (number_in answer) (method_lookup_after answer old) r left

-- ---- the three parts of a RAck

pub record RackNumbers : Type 0 where
  pub rseq : ℕ
  pub cseq : ℕ
  pub method : ℕ

abbrev pub rack_after : Result RAck Refusal → RackNumbers → RackNumbers
rack_after (Ok a) old = record { rseq = a.rseq; cseq = a.cseq; method = a.method }
rack_after (Err cause) old = old

abbrev pub RackGives : Result RAck Refusal → RackNumbers → ℕ → RackNumbers → Type 0
RackGives answer old r left = Gives (number_in answer) (rack_after answer old) r left

-- ---- a checked interval: 13 gives the least

abbrev pub validated_after : Result ℕ Refusal → ℕ → ℕ
validated_after (Ok n) old = old
validated_after (Err cause) old = least_after cause old

abbrev pub ValidatedGives : Result ℕ Refusal → ℕ → ℕ → ℕ → Type 0
ValidatedGives answer old r left = Gives (number_in answer) (validated_after answer old) r left
