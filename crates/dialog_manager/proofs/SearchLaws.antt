-- The search of the first record of a name, a record at a time: what a step changes, and what the answer is. Assumes nothing.
use Prim.Native.Nat.{ℕ, zero, suc, ◌+◌, ◌-◌, ◌≤◌, ◌<◌}
use native.Mathlib.Omega.{arith}
use mathlib.Core.Path.{◌≡◌, refl, sym, ap, subst, ◌∙◌}
use mathlib.Core.Bool.{Bool, true, false, cond}
use mathlib.Core.List.{List, [], ◌∷◌}
use lib.ListN.{length, drop, length-drop, drop_of_length-le}
use lib.Seq.{drop-drop, drop-append_seam}
use Rattle.std.proofs.lemmas.Option.{same_Some}
use Rattle.std.specs.Prelude.{None, Option, Some}
use Rattle.codec.specs.Codec.{Reading, write_all}
use Rattle.record.specs.Record.{Record, image}
use Rattle.record.specs.Store.{encode_all, record_before, records_in, decode_all}
use Rattle.codec.proofs.CodecLaws.{Bytes, bytes_drop}
use Rattle.record.proofs.StoreLaws.{EachFormed, decoded}
use Rattle.record.proofs.WellFormedLaws.{image_round}
use Rattle.image.specs.Places.{record_places, record_from, ids_of}
use Rattle.image.specs.declared.RecordAt.{RecordAt}
use Rattle.image.specs.declared.sections.IdsAt.{IdsAt}
use Rattle.image.proofs.AnswerLaws.{RecordGot, record_got}
use Rattle.image.proofs.SizeLaws.{record_size}
use Rattle.image_writer.proofs.LieLaws.{Lie, record_lies}
use Rattle.record_walk.specs.Walk.{At, end_at}
use Rattle.record_walk.proofs.Walks.{given_records}
use Rattle.store.specs.declared.held.Held.{Held}
use Rattle.store.proofs.HeldLaws.{whole}
use Rattle.store.proofs.WalkLaws.{Step, step}
use Rattle.dialog_id.specs.Ident.{same_ident}
use Rattle.book.specs.Book.{Book}
use Rattle.dialog_manager.specs.Search.{named, of_call_id, Spot, first, found_of, found_in, Stored, TextsOf, IdsWithin, named_at, of_call_id_at}

-- ---- records of bytes

-- the records of a store that is held
pub stored_held : (h : Held) → Stored h.bytes.now
stored_held h = let k = given_records (decode_all h.bytes.now) h.stored in record { records = k.0; are = k.1 }

-- no record in front
not_broken : (fuel : ℕ) (t : List ℕ) (b : Book) → 0 < length t → records_in fuel t ≡ Some b → image.read t ≡ None → ⊥
unfolding records_in
not_broken fuel [] b h e n = omega (arith, h)
not_broken zero (x ∷ t) b h e n = let z : ◌≡◌ {A = ℕ} 0 1 = cc in omega arith
not_broken (suc fuel) (x ∷ t) b h e n =
    let k : None ≡ Some b = (rw n at e) in
    let z : ◌≡◌ {A = ℕ} 0 1 = cc in omega arith

-- no bytes left
ended : (fuel : ℕ) (b : Book) → records_in fuel [] ≡ Some b → [] ≡ b
unfolding records_in
ended zero b e = cc
ended (suc fuel) b e = cc

-- the first, then the others
pub record Others (fuel : ℕ) (x : Reading Record) (b : Book) : Type 0 where
  pub rest : Book
  pub are : records_in (fuel - 1) x.rest ≡ Some rest
  pub all : b ≡ x.value ∷ rest

others : (fuel : ℕ) (t : List ℕ) (b : Book) (x : Reading Record) → 0 < length t → length t ≤ fuel → records_in fuel t ≡ Some b → image.read t ≡ Some x → Others fuel x b
unfolding records_in
others fuel [] b x h l e r = absurd (let z : 0 < 0 = h in omega arith)
others zero (y ∷ t) b x h l e r = absurd (let z : suc (length t) ≤ 0 = l in omega arith)
others (suc fuel) (y ∷ t) b x h l e r = by (records_in fuel x.rest) refl (rw r at e)
  where
    by : (o : Option (List Record)) → records_in fuel x.rest ≡ o → record_before x.value o ≡ Some b → Others (suc fuel) x b
    by None q e = absurd (let z : ◌≡◌ {A = ℕ} 0 1 = cc in omega arith)
    by (Some rs) q e =
        let k : suc fuel - 1 ≡ fuel = omega arith in
        record { rest = rs; are = ap (λ (n : ℕ). records_in n x.rest) k ∙ q; all = cc }

-- ---- the search

-- what is asked of the store is asked of the records from `at` on
pub record Left (test : Record → Bool) (s : List ℕ) (at : ℕ) : Type 0 where
  pub rest : Book
  pub fuel : ℕ
  pub enough : length s - at ≤ fuel
  pub here : at ≤ length s
  pub are : records_in fuel (drop at s) ≡ Some rest
  pub same : found_in test (decode_all s) ≡ found_of (first test at rest)

pub start : (test : Record → Bool) (s : List ℕ) → Stored s → Left test s 0
start test s k = record {
  rest = k.records;
  fuel = length s;
  enough = omega arith;
  here = omega arith;
  are = whole s k.records k.are;
  same = ap (found_in test) k.are;
}

module _ (test : Record → Bool) (s : List ℕ) (at : ℕ) (g : Left test s at) where
  pub nothing : length s ≤ at → None ≡ found_in test (decode_all s)
  unfolding first
  nothing h =
      let k : [] ≡ g.rest = ended g.fuel g.rest (ap (records_in g.fuel) (sym (drop_of_length-le s h)) ∙ g.are) in
      ap (λ (b : Book). found_of (first test at b)) k ∙ sym g.same

  module _ (h : at < length s) where
    filled : 0 < length (drop at s)
    filled = omega (arith, length-drop at s)

    pub unbroken : image.read (drop at s) ≡ None → ⊥
    unbroken e = not_broken g.fuel (drop at s) g.rest filled g.are e

    -- a record stands there
    pub stands : At s at
    stands = by (image.read (drop at s)) refl
      where
        by : (o : Option (Reading Record)) → image.read (drop at s) ≡ o → At s at
        by None q = absurd (unbroken q)
        by (Some x) q = record { reading = x; reads = q }

    module _ (p : RecordAt) (r : Step s at p) where
      after : Others g.fuel (record { value = r.value; rest = drop p.end s }) g.rest
      after = others g.fuel (drop at s) g.rest (record { value = r.value; rest = drop p.end s }) filled (omega (arith, g.enough, length-drop at s)) g.are r.reads

      split : found_in test (decode_all s) ≡ found_of (cond (test r.value) (Some (record { place = at; value = r.value })) (first test (at + length (image.write r.value)) after.rest))
      unfolding first
      split = g.same ∙ ap (λ (b : Book). found_of (first test at b)) after.all

      pub met : p ≡ record_places at r.value → test r.value ≡ true → ◌≡◌ {A = Option (ℕ × RecordAt)} (Some (at, p)) (found_in test (decode_all s))
      met w e =
          ap (λ (x : RecordAt). Some (at, x)) w ∙ sym (split ∙ ap (λ (t : Bool). found_of (cond t (Some (record { place = at; value = r.value })) (first test (at + length (image.write r.value)) after.rest))) e)

      pub passed_by : test r.value ≡ false → Left test s p.end
      passed_by e = record {
        rest = after.rest;
        fuel = g.fuel - 1;
        enough = omega (arith, g.enough, r.moves);
        here = r.within;
        are = after.are;
        same = split
            ∙ ap (λ (t : Bool). found_of (cond t (Some (record { place = at; value = r.value })) (first test (at + length (image.write r.value)) after.rest))) e
            ∙ ap (λ (n : ℕ). found_of (first test n after.rest)) (sym r.ends);
      }

-- ---- the record of a turn

pub record Turn (s : List ℕ) (at : ℕ) (p : RecordAt) : Type 0 where
  pub step : Step s at p
  pub placed : p ≡ record_places at step.value

pub turn : (s : List ℕ) (at : ℕ) {p : RecordAt} → Bytes s → at ≤ length s → RecordGot s at p → Turn s at p
turn s at {p} b h g =
    let r = step s at b h g in
    let v : g.value ≡ r.value = ap (λ (x : Reading Record). x.value) (same_Some _ _ (sym g.got.reads ∙ r.reads)) in
    record { step = r; placed = g.placed ∙ ap (record_places at) v }

-- one record is read at a place
pub one_record_lem : (s : List ℕ) (at : ℕ) {p q : RecordAt} (t : Turn s at p) (u : Turn s at q) → t.step.value ≡ u.step.value
one_record_lem s at t u = ap (λ (x : Reading Record). x.value) (same_Some _ _ (sym t.step.reads ∙ u.step.reads))

-- the record that stands at a place, and where its image ends
module _ (s : List ℕ) (at : ℕ) (b : Bytes s) (h : at ≤ length s) (x : At s at) where
  abbrev pub places : RecordAt
  places = record_places at x.reading.value

  pub standing : Turn s at places
  standing = turn s at b h (record_got s at h (ap (record_from at) x.reads))

  pub its_end : end_at s at ≡ places.end
  unfolding end_at
  its_end =
      let v : standing.step.value ≡ x.reading.value = ap (λ (y : Reading Record). y.value) (same_Some _ _ (sym standing.step.reads ∙ x.reads)) in
      let e : end_at s at ≡ at + length (image.write x.reading.value) = rw x.reads in
      e ∙ sym (standing.step.ends ∙ ap (λ (r : Record). at + length (image.write r)) v)

-- the identifier's texts lie within the bytes
pub ids_within : (s : List ℕ) (at : ℕ) (p : RecordAt) → Turn s at p → IdsWithin s p.ids
ids_within s at p t =
    let w : p.end ≤ length s = t.step.within in
    let e : p.end ≡ at + record_size t.step.value = ap (λ (x : RecordAt). x.end) t.placed ∙ omega arith in
    rw t.placed (omega (arith, w, e), omega (arith, w, e), omega (arith, w, e))

-- the bytes compared are the texts
module _ (s : List ℕ) (at : ℕ) (p : RecordAt) (t : Turn s at p) (b : Bytes s) where
  lie : Lie s (at + 2) (ids_of t.step.value)
  lie = record_lies s at (record { value = t.step.value; rest = drop p.end s }) (bytes_drop at s b) t.step.reads

  pub texts_of : TextsOf s p.ids t.step.value
  texts_of = rw t.placed (lie.call_id, lie.local_tag, lie.remote_tag)

-- the record of an identifier
pub named_held : (s : List ℕ) (i : IdsAt) (c l r : List ℕ) (x : Record) → TextsOf s i x → named_at s i c l r ≡ named c l r x
unfolding same_ident
named_held s i c l r x w = rw (w.0, w.1, w.2)

-- and of a Call-ID
pub call_held : (s : List ℕ) (i : IdsAt) (c : List ℕ) (x : Record) → TextsOf s i x → of_call_id_at s i c ≡ of_call_id c x
call_held s i c x w = rw w.0

-- ---- the record that is found is what is read at its place

pub record Reads (s : List ℕ) (x : Spot) : Type 0 where
  pub rest : List ℕ
  pub reads : image.read (drop x.place s) ≡ Some (record { value = x.value; rest = rest })

spot_of : (test : Record → Bool) (s : List ℕ) (at : ℕ) (b : Book) (x : Spot) → drop at s ≡ encode_all b → EachFormed b → first test at b ≡ Some x → Reads s x
unfolding first write_all
spot_of test s at [] x d w e = absurd (let z : ◌≡◌ {A = ℕ} 0 1 = cc in omega arith)
spot_of test s at (r ∷ b) x d w e = by (test r) e (spot_of test s (at + length (image.write r)) b x past w.1)
  where
    past : drop (at + length (image.write r)) s ≡ write_all image b
    past = sym (drop-drop (length (image.write r)) at s) ∙ ap (drop (length (image.write r))) d ∙ drop-append_seam (image.write r) (write_all image b)

    by : (t : Bool) → cond t (Some (record { place = at; value = r })) (first test (at + length (image.write r)) b) ≡ Some x
        → (first test (at + length (image.write r)) b ≡ Some x → Reads s x) → Reads s x
    by true e more =
        let k : record { place = at; value = r } ≡ x = same_Some _ _ e in
        subst (Reads s) k (record { rest = write_all image b; reads = ap image.read d ∙ image_round r w.0 (write_all image b) })
    by false e more = more e

pub spot_reads : (test : Record → Bool) (s : List ℕ) (k : Stored s) (x : Spot) → Bytes s → first test 0 k.records ≡ Some x → Reads s x
spot_reads test s k x h e = let d = decoded s k.records h k.are in spot_of test s 0 k.records x d.0 d.1 e
