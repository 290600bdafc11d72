-- Demand 3 about the C functions: one claim about every list of calls of them on a store, from an empty one, each given the same settings and lent the first bytes of
-- the memory, as many as it says, and the used length, as the last left them. Of a call nothing is known but the contract that its function is proved to keep: `Post` of a function is
-- what the toolchain makes of its `ensures`. Nothing else is asked of the calls: that no more is lent than there is, and that a put's image is made of bytes,
-- follows. Assumes nothing.
use Prim.Native.Nat.{ℕ, ◌≤◌, ◌<◌, zero-le}
use native.Mathlib.Omega.{arith}
use mathlib.Core.Path.{◌≡◌, refl, sym, ap, ap₂, subst, subst₂, ◌∙◌}
use mathlib.Core.Bool.{true, false, not, cond}
use mathlib.Core.List.{List, [], ◌∷◌, ◌++◌}
use lib.ListN.{length, take, drop, length-take, take-append-drop}
use lib.Dec.{eqb}
use borrow.Author.Tests.{ne_eqb, le-ltb, lt-ltb}
use Rattle.std.specs.Prelude.{Err, None, Ok, Option, Result, Some}
use Rattle.limits.specs.Limits.{rust_limits}
use Rattle.limits.specs.Settings.{in_bounds, limits_in, settings_cause}
use Rattle.limits.specs.declared.settings.Settings.{Settings}
use Rattle.limits.specs.Refusal.{number_of}
use Rattle.limits.specs.Outcome.{number_in, cause_if, refuse_by, and_then, or_refuse}
use Rattle.limits.specs.declared.Refusal.{Refusal}
use Rattle.limits.specs.declared.Refusal.TheVariants.{TextTooLong, BadStore, NoRoom, SettingOutOfBounds}
use Rattle.limits.proofs.Laws.{number_positive}
use Rattle.output.specs.Output.{fitted, leaves, written_from}
use Rattle.c_answers.specs.Given.{value_after}
use Rattle.listing_lines.specs.Listing.{listing, listing_of}
use Rattle.record.specs.Record.{Record}
use Rattle.record.specs.Store.{decode_all}
use Rattle.edit.specs.Edit.{over}
use Rattle.dialog_id.specs.Ident.{Ident, ident}
use Rattle.book.specs.Calls.{request, response, terminate, local_number, interval, get, find_by_request, find_by_call_id, count, all_ids, Call, put, update, remove, sweep, read, lent, image_in, Answer}
use Rattle.book.specs.Book.{Book, Contents, contents_of, store_read, empty_store}
use Rattle.book.specs.Store.{Left, run, run_with}
use Rattle.book.specs.Trace.{All, or_earlier, remote_by}
use Rattle.book.specs.Rules.{NextCall}
use Rattle.book.specs.History.{World, is_taken, lending, world, store_log, book_log, used_bytes, says, course, held_at, store_trace, Demand3, Sent, Returned, Shows, EachShows, Ran, start, called}
use Rattle.book.specs.Returned.{Returns, Lent, lent_after}
use Rattle.book.proofs.SettingLaws.{run_outside, run_within}
use Rattle.book.proofs.ThoseLaws.{lent_kept}
use Rattle.book.proofs.Demand3.{ran_is, ruled_holds, demand3_kept, memory_long}
use Rattle.sip_dialog.proofs.Called.{PutCall, RequestCall, ResponseCall, TerminateCall, NextLocalCseqCall, SetSessionExpiresCall, RemoveCall, SweepCall, GetCall, FindByCallIdCall, FindByRequestCall, CountCall, AllIdsCall, ListingCall}

-- ---- what the functions are lent beside the store

abbrev pub nothing : Lent
nothing = record { number = None; place = None; length = None; least = None; count = None; output = None }

-- a next local number, or how many records there are
abbrev pub numbered : ℕ → Lent
numbered n = record { number = Some n; place = None; length = None; least = None; count = None; output = None }

abbrev pub placed : ℕ → ℕ → Lent
placed place size = record { number = None; place = Some place; length = Some size; least = None; count = None; output = None }

abbrev pub with_least : ℕ → Lent
with_least n = record { number = None; place = None; length = None; least = Some n; count = None; output = None }

-- the created or the terminated count
abbrev pub with_count : ℕ → Lent
with_count n = record { number = None; place = None; length = None; least = None; count = Some n; output = None }

abbrev pub listed : List ℕ → ℕ → Lent
listed output size = record { number = None; place = None; length = Some size; least = None; count = None; output = Some output }

-- ---- one call

-- A C function was called: with these bytes lent for the store and this used length it was entered, with those it returned, and this number; beside the store it
-- was lent these numbers and this output, and left those.
pub data Served : Settings → Call → (bytes : List ℕ) (used : ℕ) (after : List ℕ) (left number : ℕ) (entered kept : Lent) → Type 0 where
  by_put : (k : PutCall) → Served k.settings (put (length k.store.now) k.image.now) k.store.now k.used.now k.store'.now k.used'.now k.returned (with_count k.created.now) (with_count k.created'.now)
  by_request : (k : RequestCall) → Served k.settings (update (length k.store.now) (request k.method.now k.block.now)) k.store.now k.used.now k.store'.now k.used'.now k.returned nothing nothing
  by_response : (k : ResponseCall) → Served k.settings (update (length k.store.now) (response (ident k.call_id.now k.local_tag.now k.remote_tag.now) k.status k.block.now)) k.store.now k.used.now k.store'.now k.used'.now k.returned nothing nothing
  by_terminate : (k : TerminateCall) → Served k.settings (update (length k.store.now) (terminate (ident k.call_id.now k.local_tag.now k.remote_tag.now))) k.store.now k.used.now k.store'.now k.used'.now k.returned nothing nothing
  by_next_local_cseq : (k : NextLocalCseqCall) → Served k.settings (update (length k.store.now) (local_number (ident k.call_id.now k.local_tag.now k.remote_tag.now))) k.store.now k.used.now k.store'.now k.used'.now k.returned (numbered k.number.now) (numbered k.number'.now)
  by_set_session_expires : (k : SetSessionExpiresCall) → Served k.settings (update (length k.store.now) (interval (ident k.call_id.now k.local_tag.now k.remote_tag.now) k.seconds)) k.store.now k.used.now k.store'.now k.used'.now k.returned (with_least k.least.now) (with_least k.least'.now)
  by_remove : (k : RemoveCall) → Served k.settings (remove (length k.store.now) (ident k.call_id.now k.local_tag.now k.remote_tag.now)) k.store.now k.used.now k.store'.now k.used'.now k.returned (with_count k.terminated.now) (with_count k.terminated'.now)
  by_sweep : (k : SweepCall) → Served k.settings (sweep (length k.store.now)) k.store.now k.used.now k.store'.now k.used'.now k.returned nothing nothing
  by_get : (k : GetCall) → Served k.settings (read (length k.store.now) (get (ident k.call_id.now k.local_tag.now k.remote_tag.now))) k.store.now k.used k.store.now k.used k.returned (placed k.place.now k.length.now) (placed k.place'.now k.length'.now)
  by_find_by_call_id : (k : FindByCallIdCall) → Served k.settings (read (length k.store.now) (find_by_call_id k.call_id.now)) k.store.now k.used k.store.now k.used k.returned (placed k.place.now k.length.now) (placed k.place'.now k.length'.now)
  by_find_by_request : (k : FindByRequestCall) → Served k.settings (read (length k.store.now) (find_by_request k.block.now)) k.store.now k.used k.store.now k.used k.returned (placed k.place.now k.length.now) (placed k.place'.now k.length'.now)
  by_count : (k : CountCall) → Served k.settings (read (length k.store.now) count) k.store.now k.used k.store.now k.used k.returned (numbered k.count.now) (numbered k.count'.now)
  by_all_ids : (k : AllIdsCall) → Served k.settings (read (length k.store.now) (all_ids (length k.out.now))) k.store.now k.used k.store.now k.used k.returned (listed k.out.now k.written.now) (listed k.out'.now k.written'.now)

-- each contract says what `run` leaves of the call, lent all of the bytes
pub keeps : {s : Settings} {c : Call} {bytes : List ℕ} {used : ℕ} {after : List ℕ} {left number : ℕ} {entered kept : Lent} → Served s c bytes used after left number entered kept
    → Returns (run_with s c bytes used) after left number
keeps (by_put k) = k.kept.0
keeps (by_request k) = k.kept
keeps (by_response k) = k.kept
keeps (by_terminate k) = k.kept
keeps (by_next_local_cseq k) = k.kept.0
keeps (by_set_session_expires k) = k.kept.0
keeps (by_remove k) = k.kept.0
keeps (by_sweep k) = k.kept
keeps (by_get k) = k.kept.0
keeps (by_find_by_call_id k) = k.kept.0
keeps (by_find_by_request k) = k.kept.0
keeps (by_count k) = k.kept.0
keeps (by_all_ids k) = k.kept.0

-- and what its answer leaves of the numbers and the output that were lent
pub values : {s : Settings} {c : Call} {bytes : List ℕ} {used : ℕ} {after : List ℕ} {left number : ℕ} {entered kept : Lent} → Served s c bytes used after left number entered kept
    → kept ≡ lent_after (run_with s c bytes used).answer entered
values (by_put k) = ap with_count k.kept.1.0
values (by_request k) = refl
values (by_response k) = refl
values (by_terminate k) = refl
values (by_next_local_cseq k) = ap numbered k.kept.1
values (by_set_session_expires k) = ap with_least k.kept.1
values (by_remove k) = ap with_count k.kept.1
values (by_sweep k) = refl
values (by_get k) = ap₂ placed k.kept.1.0 k.kept.1.1
values (by_find_by_call_id k) = ap₂ placed k.kept.1.0 k.kept.1.1
values (by_find_by_request k) = ap₂ placed k.kept.1.0 k.kept.1.1
values (by_count k) = ap numbered k.kept.1
values (by_all_ids k) = ap₂ listed k.kept.1.0 k.kept.1.1

-- a call is lent the bytes that it is entered with, all of them
lends_all : {s : Settings} {c : Call} {bytes : List ℕ} {used : ℕ} {after : List ℕ} {left number : ℕ} {entered kept : Lent} → Served s c bytes used after left number entered kept → lent c ≡ length bytes
lends_all (by_put k) = refl
lends_all (by_request k) = refl
lends_all (by_response k) = refl
lends_all (by_terminate k) = refl
lends_all (by_next_local_cseq k) = refl
lends_all (by_set_session_expires k) = refl
lends_all (by_remove k) = refl
lends_all (by_sweep k) = refl
lends_all (by_get k) = refl
lends_all (by_find_by_call_id k) = refl
lends_all (by_find_by_request k) = refl
lends_all (by_count k) = refl
lends_all (by_all_ids k) = refl

-- a put's image is made of bytes, as its contract says; no other call has one
image_bytes : {s : Settings} {c : Call} {bytes : List ℕ} {used : ℕ} {after : List ℕ} {left number : ℕ} {entered kept : Lent} → Served s c bytes used after left number entered kept → All (λ b. b < 256) (image_in c)
image_bytes (by_put k) = k.kept.1.1
image_bytes (by_request k) = tt
image_bytes (by_response k) = tt
image_bytes (by_terminate k) = tt
image_bytes (by_next_local_cseq k) = tt
image_bytes (by_set_session_expires k) = tt
image_bytes (by_remove k) = tt
image_bytes (by_sweep k) = tt
image_bytes (by_get k) = tt
image_bytes (by_find_by_call_id k) = tt
image_bytes (by_find_by_request k) = tt
image_bytes (by_count k) = tt
image_bytes (by_all_ids k) = tt

-- a list of such calls from an empty store in a memory m, the latest first: the calls, the memory and the used length that they leave, and what their caller saw of each
pub data Made (settings : Settings) (m : List ℕ) : List Call → World → List Returned → Type 0 where
  none_made : Made settings m [] (record { memory = over empty_store m; used = length empty_store }) []
  one_more : {cs : List Call} {w : World} {rs : List Returned} → Made settings m cs w rs
      → (c : Call) (after : List ℕ) (left number : ℕ) (entered kept : Lent) → Served settings c (take (lent c) w.memory) w.used after left number entered kept
      → Made settings m (c ∷ cs) (record { memory = after ++ drop (lent c) w.memory; used = left }) (record { call = c; number = number; lent = entered; left = kept } ∷ rs)

module _ (s : Settings) (p : in_bounds s ≡ true) where
  kept_within : {c : Call} {bytes : List ℕ} {used : ℕ} {after : List ℕ} {left number : ℕ} {entered kept : Lent} → Served s c bytes used after left number entered kept
      → Returns (run (limits_in s) c bytes used) after left number
  kept_within {c} {bytes} {used} {after} {left} {number} x = subst (λ l. Returns l after left number) (run_within s c bytes used p) (keeps x)

  values_within : {c : Call} {bytes : List ℕ} {used : ℕ} {after : List ℕ} {left number : ℕ} {entered kept : Lent} → Served s c bytes used after left number entered kept
      → kept ≡ lent_after (run (limits_in s) c bytes used).answer entered
  values_within {c} {bytes} {used} {after} {left} {number} {entered} x = values x ∙ ap (λ (l : Left). lent_after l.answer entered) (run_within s c bytes used p)

  made_ran : (m : List ℕ) {cs : List Call} {w : World} {rs : List Returned} → Made s m cs w rs → Ran (limits_in s) m cs w rs
  made_ran m none_made = start
  made_ran m (one_more d c after left number entered kept x) = called (made_ran m d) c after left number entered kept (kept_within x) (values_within x)

  -- no more is lent than there is, and images are made of bytes
  made_sent : (m : List ℕ) {cs : List Call} {w : World} {rs : List Returned} → Made s m cs w rs → All (Sent m) cs
  made_sent m none_made = tt
  made_sent m (one_more {cs} {w} {rs} d c after left number entered kept x) =
      let before = made_sent m d in
      let long : length w.memory ≡ length m = ap (λ (v : World). length v.memory) (ran_is (limits_in s) m (made_ran m d)).0 ∙ memory_long s m zero-le cs before in
      (record { lends = omega (arith, lends_all x, length-take (lent c) w.memory, long); bytes = image_bytes x }, before)

  -- the memory and the used length are those that demand 3 speaks of; and every call returned the book's number, and left the book's values in what was lent for them
  pub book_followed : (m : List ℕ) {cs : List Call} {w : World} {rs : List Returned} → Made s m cs w rs
      → Demand3 (limits_in s) m cs × ((w ≡ world (limits_in s) m cs) × EachShows (book_log (limits_in s) cs) rs)
  book_followed m d = demand3_kept s m zero-le (made_ran m d) (made_sent m d)

-- Given settings of which one lies outside its bounds, a call returns 30: the store's bytes, whatever they are, the used length and all that was lent stay.
pub record Kept30 (bytes : List ℕ) (used : ℕ) (after : List ℕ) (left number : ℕ) (entered kept : Lent) : Type 0 where
  pub number_is : number ≡ 30
  pub bytes_same : after ≡ bytes
  pub used_same : left ≡ used
  pub lent_same : kept ≡ entered

pub refused_call : (s : Settings) → in_bounds s ≡ false → {c : Call} {bytes : List ℕ} {used : ℕ} {after : List ℕ} {left number : ℕ} {entered kept : Lent}
    → Served s c bytes used after left number entered kept → Kept30 bytes used after left number entered kept
refused_call s p {c} {bytes} {used} {after} {left} {number} {entered} {kept} x =
    let l = run_outside s c bytes used p in
    let r = subst (λ y. Returns y after left number) l (keeps x) in
    record {
      number_is = r.number_is;
      bytes_same = r.bytes_are;
      used_same = r.used_is;
      lent_same = values x ∙ (ap (λ (y : Left). lent_after y.answer entered) l ∙ lent_kept SettingOutOfBounds entered refl);
    }

-- ---- what a caller sees

-- the remote number by what the caller saw alone: of each call its arguments, and whether it returned 0
unfoldable pub remote_seen : Ident → List Returned → Option ℕ
remote_seen i [] = None
remote_seen i (r ∷ rs) = cond (eqb r.number 0) (or_earlier (says i r.call) (remote_seen i rs)) (remote_seen i rs)

-- `sip_dialog_listing` was called with these settings: it was entered with these bytes as the store, this output and this number lent for its length, and returned with those,
-- and this number
pub data Listed : Settings → (bytes output output' : List ℕ) (size size' number : ℕ) → Type 0 where
  by_listing : (k : ListingCall) → Listed k.settings k.bytes.now k.out.now k.out'.now k.written.now k.written'.now k.returned

-- what it is of records: 1 over 65,536 bytes, 18 where the text is larger than the output, and otherwise the text
pub record ListingOf (b : Book) (bytes output output' : List ℕ) (size size' number : ℕ) : Type 0 where
  pub long_1 : rust_limits.listed_store < length bytes → (number ≡ 1) × ((output' ≡ output) × (size' ≡ size))
  pub full_18 : length bytes ≤ rust_limits.listed_store → length output < length (listing_of b) → (number ≡ 18) × ((output' ≡ output) × (size' ≡ size))
  pub listed : length bytes ≤ rust_limits.listed_store → length (listing_of b) ≤ length output
      → (number ≡ 0) × ((output' ≡ over (listing_of b) output) × (size' ≡ length (listing_of b)))

-- Demand 3, of the C functions, after every list of calls of them with settings within their bounds
pub record OfCalls (s : Settings) (m : List ℕ) (cs : List Call) (w : World) (rs : List Returned) : Type 0 where
  -- the demand's sentences, of the book and of the definition of the calls; the memory and the used length are those that it speaks of
  pub demand3 : Demand3 (limits_in s) m cs
  pub world_is : w ≡ world (limits_in s) m cs
  -- "the calls refused are those that the book refuses": every call returned the book's number, and left the book's values
  pub shown : EachShows (book_log (limits_in s) cs) rs
  -- the next call, of whichever of the thirteen functions, returns the number and leaves the records, the values and the bytes that the rules say
  pub next_call : (c : Call) (after : List ℕ) (left number : ℕ) (entered kept : Lent) → Served s c (take (lent c) w.memory) w.used after left number entered kept
      → NextCall (limits_in s) w (record { call = c; number = number; lent = entered; left = kept }) (record { memory = after ++ drop (lent c) w.memory; used = left })
  -- "the remote number is the last so taken since the dialog's latest accepted put, or else the one put": told from arguments and returned numbers
  pub remote_seen_lem : (i : Ident) (r : Record) → held_at w i ≡ Some r → remote_seen i rs ≡ Some r.numbers.remote
  -- the handover listing of the used bytes is that of the records they are read as, in their order
  pub listing_seen : (x : Contents) (output output' : List ℕ) (size size' number : ℕ) → store_read (used_bytes w) ≡ Some x → Listed s (used_bytes w) output output' size size' number
      → ListingOf x.records (used_bytes w) output output' size size' number

number_zero : (a : Answer) → eqb (number_in a) 0 ≡ is_taken a
number_zero (Err cause) = ne_eqb (number_of cause) 0 (λ q. let z = number_positive cause in omega (arith, z, q))
number_zero (Ok v) = refl

seen_same : (s : Settings) (m : List ℕ) (i : Ident) (cs : List Call) (rs : List Returned) → EachShows (store_log (limits_in s) m cs) rs → remote_seen i rs ≡ remote_by course i (store_trace (limits_in s) m cs)
unfolding remote_by remote_seen store_log store_trace
seen_same s m i [] [] h = refl
seen_same s m i [] (r ∷ rs) h = absurd h
seen_same s m i (c ∷ cs) [] h = absurd h
seen_same s m i (c ∷ cs) (r ∷ rs) h =
    let a = (lending (limits_in s) c (world (limits_in s) m cs)).answer in
    let same : eqb r.number 0 ≡ is_taken a = ap (λ n. eqb n 0) h.0.number_is ∙ number_zero a in
    ap₂ (λ (d : Call) (o : Option ℕ). cond (eqb r.number 0) (or_earlier (says i d) o) o) h.0.same_call (seen_same s m i cs rs h.1)
    ∙ ap (λ t. cond t (or_earlier (says i c) (remote_by course i (store_trace (limits_in s) m cs))) (remote_by course i (store_trace (limits_in s) m cs))) same

-- a store that is read as records, as the listing reads it
records_read : (s : List ℕ) (x : Contents) → store_read s ≡ Some x → decode_all s ≡ Some x.records
records_read s x e = by (decode_all s) refl e
  where
    same : {y z : Contents} → Some y ≡ Some z → y ≡ z
    same q = cc

    by : (o : Option Book) → decode_all s ≡ o → contents_of o ≡ Some x → o ≡ Some x.records
    by None p q = absurd (let z : ◌≡◌ {A = ℕ} 0 1 = cc in omega arith)
    by (Some b) p q = ap (λ (y : Contents). Some y.records) (same q)

-- the contract of `sip_dialog_listing`, of bytes that are read as records
listing_kept : {s : Settings} → in_bounds s ≡ true → {bytes output output' : List ℕ} {size size' number : ℕ} (x : Contents) → store_read bytes ≡ Some x
    → Listed s bytes output output' size size' number → ListingOf x.records bytes output output' size size' number
unfolding listing
listing_kept p x held (by_listing k) = record {
  long_1 = λ h. by (Err TextTooLong) (rw (lt-ltb rust_limits.listed_store (length k.bytes.now) h));
  full_18 = λ h f. by (Err NoRoom) (read_as h ∙ rw (lt-ltb (length k.out.now) (length (listing_of x.records)) f));
  listed = λ h f. by (Ok (listing_of x.records)) (read_as h ∙ rw (le-ltb (length k.out.now) (length (listing_of x.records)) f));
}
  where
    read_as : length k.bytes.now ≤ rust_limits.listed_store → listing rust_limits k.bytes.now (length k.out.now) ≡ fitted (length k.out.now) (listing_of x.records)
    read_as h =
        rw (le-ltb rust_limits.listed_store (length k.bytes.now) h)
        (ap (λ o. and_then (or_refuse BadStore o) (λ rs. fitted (length k.out.now) (listing_of rs))) (records_read k.bytes.now x held))

    by : (o : Result (List ℕ) Refusal) → listing rust_limits k.bytes.now (length k.out.now) ≡ o
        → (k.returned ≡ number_in o) × ((k.out'.now ≡ leaves o k.out.now) × (k.written'.now ≡ value_after (written_from o) k.written.now))
    by o e =
        let whole : refuse_by (settings_cause k.settings) (listing rust_limits k.bytes.now (length k.out.now)) ≡ o =
        ap (λ b. refuse_by (cause_if (not b) SettingOutOfBounds) (listing rust_limits k.bytes.now (length k.out.now))) p ∙ e in (
          k.kept.0.number_is ∙ (ap (λ v. number_in (written_from v)) whole ∙ number_of_lem o),
          (k.kept.1 ∙ ap (λ v. leaves v k.out.now) whole, k.kept.0.left_is ∙ ap (λ v. value_after (written_from v) k.written.now) whole),
        )
      where
        number_of_lem : (v : Result (List ℕ) Refusal) → number_in (written_from v) ≡ number_in v
        number_of_lem (Err cause) = refl
        number_of_lem (Ok s) = refl

-- with settings of which one lies outside its bounds, of any bytes
pub refused_listing : {s : Settings} → in_bounds s ≡ false → {bytes output output' : List ℕ} {size size' number : ℕ} → Listed s bytes output output' size size' number
    → (number ≡ 30) × ((output' ≡ output) × (size' ≡ size))
refused_listing p (by_listing k) =
    let o : refuse_by (settings_cause k.settings) (listing rust_limits k.bytes.now (length k.out.now)) ≡ Err SettingOutOfBounds =
    ap (λ b. refuse_by (cause_if (not b) SettingOutOfBounds) (listing rust_limits k.bytes.now (length k.out.now))) p in (
      k.kept.0.number_is ∙ ap (λ v. number_in (written_from v)) o,
      (k.kept.1 ∙ ap (λ v. leaves v k.out.now) o, k.kept.0.left_is ∙ ap (λ v. value_after (written_from v) k.written.now) o),
    )

pub demand3_of_calls : (s : Settings) → in_bounds s ≡ true → (m : List ℕ) {cs : List Call} {w : World} {rs : List Returned} → Made s m cs w rs → OfCalls s m cs w rs
unfolding world
demand3_of_calls s p m {cs} {w} {rs} d = record {
  demand3 = k.0;
  world_is = same;
  shown = k.1.1;
  next_call = λ c after left number entered kept x.
      let e = one_more d c after left number entered kept x in
      let sent = made_sent s p m e in
      let r : Returned = record { call = c; number = number; lent = entered; left = kept } in
      let l : lending (limits_in s) c w ≡ lending (limits_in s) c (world (limits_in s) m cs) = ap (lending (limits_in s) c) same in
      let shows : Shows (record { call = c; answer = (lending (limits_in s) c (world (limits_in s) m cs)).answer }) r = record { same_call = refl; number_is = (kept_within s p x).number_is ∙ ap (λ (y : Left). number_in y.answer) l; values_are = values_within s p x ∙ ap (λ (y : Left). lent_after y.answer entered) l } in
      subst₂ (λ (x y : World). NextCall (limits_in s) x r y) (sym same) (sym (book_followed s p m e).1.0) (ruled_holds s m zero-le cs sent.1 r sent.0 shows);
  remote_seen_lem = λ i r h.
      seen_same s m i cs rs (subst (λ es. EachShows es rs) (sym k.0.answers) k.1.1) ∙ (k.0.told i).remote_rule r (ap (λ (x : World). held_at x i) (sym same) ∙ h);
  listing_seen = λ x output output' size size' number held l. listing_kept p x held l;
}
  where
    k : Demand3 (limits_in s) m cs × ((w ≡ world (limits_in s) m cs) × EachShows (book_log (limits_in s) cs) rs)
    k = book_followed s p m d

    same : w ≡ world (limits_in s) m cs
    same = k.1.0
