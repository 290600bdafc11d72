-- The slot of a text in lent bytes of which so many are used: what the answer says of the store. Assumes nothing.
use Prim.Native.Nat.{ℕ, ◌+◌, ◌-◌, ◌≤◌}
use native.Mathlib.Omega.{arith}
use mathlib.Core.Path.{◌≡◌, refl, sym, ap, ap₂, ◌∙◌}
use mathlib.Core.Bool.{true}
use mathlib.Core.List.{List, [], ◌++◌}
use lib.ListN.{length, take, drop}
use lib.Seq.{take_all, length-take-le, drop-append_seam}
use Rattle.std.specs.Prelude.{Err, None, Ok, Option, Result, Some}
use Rattle.limits.specs.Limits.{LimitSet}
use Rattle.limits.specs.declared.Refusal.{Refusal}
use Rattle.limits.specs.declared.Refusal.TheVariants.{BadStore}
use Rattle.edit.specs.Edit.{spliced}
use Rattle.codec.proofs.CodecLaws.{Bytes, bytes_take, GoodAll}
use Rattle.ordered_store.specs.Entries.{ascending, without_entry}
use Rattle.ordered_store.specs.Slot.{Slot, held, free, slot_in, slot_read, slot_used}
use Rattle.ordered_store.proofs.BytesLaws.{decoded}
use Rattle.ordered_store.proofs.EntryLaws.{Held, Free, held_at, free_at, held_entry, held_key, whole, at_front, held_without, free_entry, free_without, free_within, found_good}
use Rattle.ordered_store.proofs.SlotLaws.{Unreadable, Says, says, in_used}
use Rattle.prack_body.specs.Lists.{Tracked}
use Rattle.prack_body.specs.Layout.{TrackedWhole}
use Rattle.prack_body.specs.Places.{tracked_places}
use Rattle.prack_body.specs.Body.{most_pending, body_room, Stands}
use Rattle.prack_body.specs.declared.TrackedAt.{TrackedAt}
use Rattle.prack_body.proofs.BodyLaws.{places_end, stands_inside, loaded, holds_long}
use Rattle.prack_entries.specs.Entries.{key_of_text, key_of, decode_tracked, encode_tracked, held_for}
use Rattle.prack_entries.specs.Places.{slot_of, slot_for, Sought}
use Rattle.prack_entries.proofs.PlaceLaws.{form, exact}

-- ---- the answer

-- a slot says that the bytes were read as a store
pub sought : (L : LimitSet) (id bytes : List ℕ) (used : ℕ) (slot : Result TrackedAt ℕ) → slot_for L id bytes used ≡ Ok slot → Sought L id bytes used slot
sought L id bytes used slot e = by (slot_used (form L) key_of (key_of_text id) bytes used) (says (form L) key_of (key_of_text id) bytes used) e
  where
    by : (o : Option (Slot Tracked)) → Says (form L) key_of (key_of_text id) bytes used o → slot_of o ≡ Ok slot → Sought L id bytes used slot
    by None w q = absurd (let z : ◌≡◌ {A = ℕ} 0 1 = cc in omega arith)
    by (Some x) w q = record { is = sym e; within = w.within; list = w.list; are = w.are }

-- 3: they aren't a store
pub unreadable : (L : LimitSet) (id bytes : List ℕ) (used : ℕ) {cause : Refusal} → slot_for L id bytes used ≡ Err cause → (cause ≡ BadStore) × Unreadable (form L) key_of (key_of_text id) bytes used
unreadable L id bytes used {cause} e = by (slot_used (form L) key_of (key_of_text id) bytes used) (says (form L) key_of (key_of_text id) bytes used) e
  where
    by : (o : Option (Slot Tracked)) → Says (form L) key_of (key_of_text id) bytes used o → slot_of o ≡ Err cause → (cause ≡ BadStore) × Unreadable (form L) key_of (key_of_text id) bytes used
    by None w q = (cc, w)
    by (Some (held place t)) w q = absurd (let z : ◌≡◌ {A = ℕ} 0 1 = cc in omega arith)
    by (Some (free place)) w q = absurd (let z : ◌≡◌ {A = ℕ} 0 1 = cc in omega arith)

-- the slot in lent bytes of which so many are used is that in the used ones alone
abbrev pub cut : {L : LimitSet} {id bytes : List ℕ} {used : ℕ} {slot : Result TrackedAt ℕ} → Sought L id bytes used slot → Sought L id (take used bytes) (length (take used bytes)) slot
cut {L} {id} {bytes} {used} {slot} s =
    let e : take (length (take used bytes)) (take used bytes) ≡ take used bytes = take_all (length (take used bytes)) (take used bytes) (omega arith) in
    record {
      is = s.is ∙ ap slot_of (sym (in_used (form L) key_of (key_of_text id) bytes used s.within))
          ∙ ap (λ (l : List ℕ). slot_of (slot_read (form L) key_of (key_of_text id) (decode_tracked L l))) (sym e)
          ∙ ap slot_of (in_used (form L) key_of (key_of_text id) (take used bytes) (length (take used bytes)) (omega arith));
      within = omega arith;
      list = s.list;
      are = ap (decode_tracked L) e ∙ s.are;
    }

-- ---- what was read

-- the used bytes are those of what is held
pub was : (L : LimitSet) (bytes : List ℕ) (used : ℕ) → Bytes bytes → used ≤ length bytes → (ts : List Tracked) → decode_tracked L (take used bytes) ≡ Some ts
    → (encode_tracked L ts ≡ take used bytes) × (length (encode_tracked L ts) ≡ used)
was L bytes used b h ts r =
    let e : encode_tracked L ts ≡ take used bytes = sym (decoded (form L) key_of (TrackedWhole L) (exact L) (take used bytes) ts (bytes_take used bytes b) r).0 in
    (e, ap length e ∙ length-take-le used bytes h)

-- each of it is well formed, and the texts ascend
pub well : (L : LimitSet) (bytes : List ℕ) (used : ℕ) → Bytes bytes → (ts : List Tracked) → decode_tracked L (take used bytes) ≡ Some ts → GoodAll (TrackedWhole L) ts × (ascending key_of ts ≡ true)
well L bytes used b ts r =
    let d = decoded (form L) key_of (TrackedWhole L) (exact L) (take used bytes) ts (bytes_take used bytes b) r in
    (d.1, d.2)

-- the slot is the one among what is held
settled : {L : LimitSet} (id bytes : List ℕ) (used : ℕ) (slot : Result TrackedAt ℕ) (s : Sought L id bytes used slot) → Ok slot ≡ slot_of (Some (slot_in (form L) key_of (key_of_text id) 0 s.list))
settled {L} id bytes used slot s =
    s.is ∙ ap slot_of (sym (in_used (form L) key_of (key_of_text id) bytes used s.within) ∙ ap (slot_read (form L) key_of (key_of_text id)) s.are)

-- ---- a text that is held

-- where it stands among what is held
pub record HeldAt (L : LimitSet) (id : List ℕ) (p : TrackedAt) (ts : List Tracked) : Type 0 where
  pub at : ℕ
  pub t : Tracked
  pub stands : Held (form L) key_of (key_of_text id) 0 at t ts
  pub placed : p ≡ tracked_places at t

pub held_there : {L : LimitSet} (id bytes : List ℕ) (used : ℕ) (p : TrackedAt) (s : Sought L id bytes used (Ok p)) → HeldAt L id p s.list
held_there {L} id bytes used p s = by (slot_in (form L) key_of (key_of_text id) 0 s.list) refl (settled id bytes used (Ok p) s)
  where
    by : (x : Slot Tracked) → slot_in (form L) key_of (key_of_text id) 0 s.list ≡ x → Ok (Ok p) ≡ slot_of (Some x) → HeldAt L id p s.list
    by (held place t) e q = record { at = place; t = t; stands = held_at (form L) key_of (key_of_text id) s.list e; placed = (cc) }
    by (free place) e q = absurd (let z : ◌≡◌ {A = ℕ} 0 1 = cc in omega arith)

-- a key has one text
pub same_text : {a b : List ℕ} → key_of_text a ≡ key_of_text b → a ≡ b
same_text e = cc

-- what is held for it, where it lies, and the bytes without it
pub record Found (L : LimitSet) (id bytes : List ℕ) (used : ℕ) (p : TrackedAt) (ts : List Tracked) : Type 0 where
  pub t : Tracked
  pub is : held_for id ts ≡ Some t
  pub same : t.id ≡ id
  pub stands : Stands L (take used bytes) p t
  pub start_past : 2 ≤ p.id.start
  pub text_inside : p.id.start + p.id.length ≤ p.end
  pub body_short : L.pending ≤ most_pending → p.end - (p.id.start + p.id.length) ≤ body_room
  pub body_long : 9 ≤ p.end - (p.id.start + p.id.length)
  pub end_within : p.end ≤ used
  pub without : encode_tracked L (without_entry key_of (key_of_text id) ts) ≡ spliced (p.id.start - 2) (p.end - (p.id.start - 2)) [] (take used bytes)

module _ {L : LimitSet} (id bytes : List ℕ) (used : ℕ) (p : TrackedAt) (b : Bytes bytes) (s : Sought L id bytes used (Ok p)) (h : HeldAt L id p s.list) where
  among : Held (form L) key_of (key_of_text id) 0 h.at h.t s.list
  among = h.stands

  entry_is : held_for id s.list ≡ Some h.t
  entry_is = held_entry (form L) key_of (key_of_text id) s.list h.at h.t among

  -- its bytes, and those after them
  lies : drop h.at (take used bytes) ≡ (form L).write h.t ++ encode_tracked L among.back
  lies =
      ap₂ (λ (n : ℕ) (l : List ℕ). drop n l) (at_front (form L) key_of (key_of_text id) s.list h.at h.t among)
      (sym (was L bytes used b s.within s.list s.are).0 ∙ whole (form L) key_of (key_of_text id) s.list h.at h.t among)
      ∙ drop-append_seam (encode_tracked L among.front) ((form L).write h.t ++ encode_tracked L among.back)

  stood : Stands L (take used bytes) p h.t
  stood = record {
    at = h.at;
    rest = encode_tracked L among.back;
    reads = ap (form L).read lies
        ∙ (exact L).round h.t (found_good key_of (TrackedWhole L) (key_of_text id) s.list h.t (well L bytes used b s.list s.are).0 entry_is) (encode_tracked L among.back);
    placed = h.placed;
  }

  by_slot : Found L id bytes used p s.list
  by_slot =
      let i = stands_inside L (take used bytes) (bytes_take used bytes b) stood in
      let starts : p.id.start ≡ h.at + 2 = ap (λ (q : TrackedAt). q.id.start) h.placed in
      let ends : p.end ≡ h.at + length ((form L).write h.t) = ap (λ (q : TrackedAt). q.end) h.placed ∙ places_end L h.at h.t in
      let place : h.at ≡ p.id.start - 2 = omega (arith, starts) in
      let long : length ((form L).write h.t) ≡ p.end - (p.id.start - 2) = omega (arith, starts, ends) in
      record {
        t = h.t;
        is = entry_is;
        same = same_text (held_key (form L) key_of (key_of_text id) s.list h.at h.t among);
        stands = stood;
        start_past = omega (arith, starts);
        text_inside = i.0;
        body_short = i.1.1;
        body_long = holds_long (loaded L (take used bytes) (bytes_take used bytes b) stood [] refl);
        end_within = omega (arith, i.1.0, length-take-le used bytes s.within);
        without = held_without (form L) key_of (key_of_text id) s.list h.at h.t among
            ∙ ap (λ (l : List ℕ). spliced h.at (length ((form L).write h.t)) [] l) (was L bytes used b s.within s.list s.are).0
            ∙ ap₂ (λ (n m : ℕ). spliced n m [] (take used bytes)) place long;
      }

pub found : {L : LimitSet} (id bytes : List ℕ) (used : ℕ) (p : TrackedAt) → Bytes bytes → (s : Sought L id bytes used (Ok p)) → Found L id bytes used p s.list
found {L} id bytes used p b s = by_slot id bytes used p b s (held_there id bytes used p s)

-- ---- a text that isn't

-- its place among what is held
pub free_there : {L : LimitSet} (id bytes : List ℕ) (used at : ℕ) (s : Sought L id bytes used (Err at)) → Free (form L) key_of (key_of_text id) 0 at s.list
free_there {L} id bytes used at s = by (slot_in (form L) key_of (key_of_text id) 0 s.list) refl (settled id bytes used (Err at) s)
  where
    by : (x : Slot Tracked) → slot_in (form L) key_of (key_of_text id) 0 s.list ≡ x → Ok (Err at) ≡ slot_of (Some x) → Free (form L) key_of (key_of_text id) 0 at s.list
    by (held place t) e q = absurd (let z : ◌≡◌ {A = ℕ} 0 1 = cc in omega arith)
    by (free place) e q = free_at (form L) key_of (key_of_text id) s.list (e ∙ ap free (let z : place ≡ at = cc in z))

-- nothing is held for it, and its place lies in the used bytes
pub lacking : {L : LimitSet} (id bytes : List ℕ) (used at : ℕ) → Bytes bytes → (s : Sought L id bytes used (Err at))
    → (held_for id s.list ≡ None) × ((without_entry key_of (key_of_text id) s.list ≡ s.list) × (at ≤ used))
lacking {L} id bytes used at b s =
    let f = free_there id bytes used at s in
    let d : ascending key_of s.list ≡ true = (well L bytes used b s.list s.are).1 in (
      free_entry (form L) key_of (key_of_text id) s.list at f d,
      (free_without (form L) key_of (key_of_text id) s.list at f d, omega (arith, free_within (form L) key_of (key_of_text id) s.list at f d, (was L bytes used b s.within s.list s.are).1)),
    )
