-- What is held for one text, by its slot: a clean copy of it, and the bytes of the store with it set. Assumes nothing.
use Prim.Native.Nat.{ℕ, ◌+◌, ◌-◌, ◌<◌}
use native.Mathlib.Omega.{arith}
use mathlib.Core.Path.{◌≡◌, sym, ap, ap₂, subst, ◌∙◌}
use mathlib.Core.List.{List, ◌++◌, append_assoc}
use lib.ListN.{length, take, length-append}
use lib.Seq.{take_all}
use Rattle.std.specs.Prelude.{Err, None, Ok, Option, Result, Some}
use Rattle.limits.specs.Limits.{LimitSet}
use Rattle.limits.specs.declared.Refusal.{Refusal}
use Rattle.edit.specs.Edit.{spliced}
use Rattle.codec.specs.Codec.{text}
use Rattle.codec.proofs.CodecLaws.{Bytes}
use Rattle.ordered_store.specs.Entries.{set_entry}
use Rattle.ordered_store.proofs.EntryLaws.{instead, held_key, whole, at_front, held_parts, free_set}
use Rattle.prack_body.specs.Lists.{Tracked, cleaned}
use Rattle.prack_body.specs.Body.{body_of, Holds, Stands}
use Rattle.prack_body.specs.declared.TrackedAt.{TrackedAt}
use Rattle.prack_body.proofs.BodyLaws.{places_end}
use Rattle.prack_entries.specs.Entries.{key_of_text, key_of, encode_tracked, clean_for}
use Rattle.prack_entries.specs.Places.{Sought}
use Rattle.prack_entries.proofs.PlaceLaws.{form, size}
use Rattle.prack_entries.proofs.SlotLaws.{was, well, HeldAt, held_there, same_text, Found, found, free_there, lacking}
use Rattle.prack_entries.proofs.WriteLaws.{Answered}

-- what was sought, by another name of the slot
abbrev pub renamed : {L : LimitSet} {id bytes : List ℕ} {used : ℕ} {x y : Result TrackedAt ℕ} → Sought L id bytes used x → x ≡ y → Sought L id bytes used y
renamed s e = record { is = ap Ok (sym e) ∙ s.is; within = s.within; list = s.list; are = s.are }

-- ---- the bytes of the store with it set

-- a body in place of another, behind the same text
new_body : (f x k old new : List ℕ) → f ++ ((x ++ new) ++ k) ≡ spliced (length f + length x) (length old) new (f ++ ((x ++ old) ++ k))
new_body f x k old new =
    let together : (y : List ℕ) → f ++ ((x ++ y) ++ k) ≡ (f ++ x) ++ (y ++ k) = λ y. ap (λ (l : List ℕ). f ++ l) (append_assoc x y k) ∙ sym (append_assoc f x (y ++ k)) in
    together new ∙ instead (f ++ x) old k new
    ∙ ap₂ (λ (i : ℕ) (l : List ℕ). spliced i (length old) new l) (length-append f x) (sym (together old))

module _ {L : LimitSet} (id bytes : List ℕ) (used : ℕ) (p : TrackedAt) (b : Bytes bytes) (s : Sought L id bytes used (Ok p)) (h : HeldAt L id p s.list) (t : Tracked) (e : t.id ≡ id) where
  set_there : encode_tracked L (set_entry key_of t s.list) ≡ spliced (p.id.start + p.id.length) (p.end - (p.id.start + p.id.length)) (body_of L t) (take used bytes)
  set_there =
      let w : Tracked = h.t in
      let front : List ℕ = encode_tracked L h.stands.front in
      let back : List ℕ = encode_tracked L h.stands.back in
      let same : t.id ≡ w.id = e ∙ sym (same_text (held_key (form L) key_of (key_of_text id) s.list h.at w h.stands)) in
      let old : take used bytes ≡ front ++ ((text.write w.id ++ body_of L w) ++ back) = sym (was L bytes used b s.within s.list s.are).0 ∙ whole (form L) key_of (key_of_text id) s.list h.at w h.stands in
      let starts : p.id.start + p.id.length ≡ h.at + 2 + length w.id = ap (λ (q : TrackedAt). q.id.start + q.id.length) h.placed in
      let ends : p.end ≡ h.at + length ((form L).write w) = ap (λ (q : TrackedAt). q.end) h.placed ∙ places_end L h.at w in
      let place : length front + length (text.write w.id) ≡ p.id.start + p.id.length = omega (arith, at_front (form L) key_of (key_of_text id) s.list h.at w h.stands, starts) in
      let long : length (body_of L w) ≡ p.end - (p.id.start + p.id.length) = omega (arith, starts, ends, size L w) in
      held_parts (form L) key_of (key_of_text id) s.list h.at w h.stands t (ap key_of_text e)
      ∙ ap (λ (l : List ℕ). front ++ ((text.write l ++ body_of L t) ++ back)) same
      ∙ new_body front (text.write w.id) back (body_of L w) (body_of L t)
      ∙ ap₂ (λ (n : ℕ) (l : List ℕ). spliced n (length (body_of L w)) (body_of L t) l) place (sym old)
      ∙ ap (λ (n : ℕ). spliced (p.id.start + p.id.length) n (body_of L t) (take used bytes)) long

-- a text that is held: its body in place of the old one
pub set_held : {L : LimitSet} (id bytes : List ℕ) (used : ℕ) (p : TrackedAt) → Bytes bytes → (s : Sought L id bytes used (Ok p)) (t : Tracked) → t.id ≡ id
    → encode_tracked L (set_entry key_of t s.list) ≡ spliced (p.id.start + p.id.length) (p.end - (p.id.start + p.id.length)) (body_of L t) (take used bytes)
set_held {L} id bytes used p b s t e = set_there id bytes used p b s (held_there id bytes used p s) t e

-- a text that isn't: text and body at its place
pub set_free : {L : LimitSet} (id bytes : List ℕ) (used at : ℕ) → Bytes bytes → (s : Sought L id bytes used (Err at)) (t : Tracked) → t.id ≡ id
    → encode_tracked L (set_entry key_of t s.list) ≡ spliced at 0 (text.write id ++ body_of L t) (take used bytes)
set_free {L} id bytes used at b s t e =
    free_set (form L) key_of (key_of_text id) s.list at (free_there id bytes used at s) (well L bytes used b s.list s.are).1 t (ap key_of_text e)
    ∙ ap₂ (λ (i l : List ℕ). spliced at 0 (text.write i ++ body_of L t) l) e (was L bytes used b s.within s.list s.are).0

-- what the function promises
abbrev pub Set : (id bytes body : List ℕ) (used : ℕ) (slot : Result TrackedAt ℕ) (r : Result ℕ Refusal) (after : List ℕ) → Type 0
Set id bytes body used slot r after =
    (L : LimitSet) (s : Sought L id bytes used slot) (t : Tracked) → t.id ≡ id → body ≡ body_of L t → Answered bytes (encode_tracked L (set_entry key_of t s.list)) r after

module _ (id bytes body : List ℕ) (used : ℕ) (b : Bytes bytes) {slot : Result TrackedAt ℕ} {r : Result ℕ Refusal} {after : List ℕ} where
  pub by_held : {p : TrackedAt} → slot ≡ Ok p → Answered bytes (spliced (p.id.start + p.id.length) (p.end - (p.id.start + p.id.length)) body (take used bytes)) r after → Set id bytes body used slot r after
  by_held {p} e a L s t q w =
      subst (λ (l : List ℕ). Answered bytes l r after)
      (ap (λ (l : List ℕ). spliced (p.id.start + p.id.length) (p.end - (p.id.start + p.id.length)) l (take used bytes)) w ∙ sym (set_held id bytes used p b (renamed s e) t q)) a

  pub by_free : {at : ℕ} → slot ≡ Err at → Answered bytes (spliced at 0 (text.write id ++ body) (take used bytes)) r after → Set id bytes body used slot r after
  by_free {at} e a L s t q w =
      subst (λ (l : List ℕ). Answered bytes l r after)
      (ap (λ (l : List ℕ). spliced at 0 (text.write id ++ l) (take used bytes)) w ∙ sym (set_free id bytes used at b (renamed s e) t q)) a

-- ---- a clean copy

-- what is held, in bytes that are all used
pub stands_all : {L : LimitSet} {id bytes : List ℕ} {p : TrackedAt} {ts : List Tracked} (f : Found L id bytes (length bytes) p ts) → Stands L bytes p f.t
stands_all {L} {id} {bytes} {p} f = subst (λ (s : List ℕ). Stands L s p f.t) (take_all (length bytes) bytes (omega arith)) f.stands

module _ (L : LimitSet) (bytes : List ℕ) (time : ℕ) (b : Bytes bytes) {slot : Result TrackedAt ℕ} where
  -- a text that is held: what was loaded, cleaned
  pub copied : {p : TrackedAt} → slot ≡ Ok p → {n r : ℕ} {mid after : List ℕ} → ((t : Tracked) → Stands L bytes p t → Holds L mid n t)
      → ((t : Tracked) → Holds L mid n t → Holds L after r (cleaned L time t.id (Some t))) → (id : List ℕ) (s : Sought L id bytes (length bytes) slot) → Holds L after r (clean_for L time id s.list)
  copied {p} e {n} {r} {mid} {after} load clean id s =
      let f = found id bytes (length bytes) p b (renamed s e) in
      subst (Holds L after r) (ap₂ (cleaned L time) f.same (sym f.is)) (clean f.t (load f.t (stands_all f)))

  -- a text that isn't: a time without a list
  pub begun : {at : ℕ} → slot ≡ Err at → {r : ℕ} {after : List ℕ} → ((id : List ℕ) → length id < 65536 → Holds L after r (cleaned L time id None))
      → (id : List ℕ) (s : Sought L id bytes (length bytes) slot) → length id < 65536 → Holds L after r (clean_for L time id s.list)
  begun {at} e {r} {after} begin id s l = subst (λ (o : Option Tracked). Holds L after r (cleaned L time id o)) (sym (lacking id bytes (length bytes) at b (renamed s e)).0) (begin id l)
