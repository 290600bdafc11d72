-- Whole records from a place on: the first of them, where it ends, and that the others follow there. Assumes nothing.
use Prim.Native.Nat.{ℕ, zero, suc, ◌+◌, ◌≤◌, ◌<◌}
use native.Mathlib.Omega.{arith}
use mathlib.Core.Path.{◌≡◌, refl, ap, subst, ◌∙◌}
use mathlib.Core.Bool.{true}
use mathlib.Core.List.{List, [], ◌∷◌}
use lib.ListN.{length, drop, length-drop, drop_of_length-le}
use Rattle.std.specs.Prelude.{None, Option, Some}
use Rattle.codec.specs.Codec.{Reading}
use Rattle.record.specs.Record.{Record, WellFormed, is_given, image}
use Rattle.record.specs.Store.{record_before, read_on, records_in}
use Rattle.codec.proofs.CodecLaws.{Bytes}
use Rattle.record_walk.specs.Walk.{At, end_at}
use Rattle.record_walk.specs.Steps.{StepsRecord}
use Rattle.record_walk.specs.declared.records.Records.{Records}
use Rattle.record_walk.proofs.Parts.{lies_past}
use Rattle.record_walk.proofs.Images.{back, image_at_lem}

-- ---- records of bytes

-- the first of them, and the others from the rest
pub record First (f : ℕ) (t : List ℕ) (r : Record) (rs : List Record) : Type 0 where
  pub reading : Reading Record
  pub reads : image.read t ≡ Some reading
  pub is : reading.value ≡ r
  pub others : records_in f reading.rest ≡ Some rs

before_cons : (x r : Record) (o : Option (List Record)) (rs : List Record) → record_before x o ≡ Some (r ∷ rs) → (x ≡ r) × (o ≡ Some rs)
before_cons x r None rs e = absurd (let z : ◌≡◌ {A = ℕ} 0 1 = cc in omega arith)
before_cons x r (Some ts) rs e = (cc, cc)

before_nil : (x : Record) (o : Option (List Record)) → record_before x o ≡ Some [] → ⊥
before_nil x None e = let z : ◌≡◌ {A = ℕ} 0 1 = cc in omega arith
before_nil x (Some ts) e = let z : ◌≡◌ {A = ℕ} 0 1 = cc in omega arith

none_left : (f : ℕ) (o : Option (Reading Record)) → read_on o (λ u. records_in f u) ≡ Some [] → ⊥
none_left f None e = let z : ◌≡◌ {A = ℕ} 0 1 = cc in omega arith
none_left f (Some x) e = before_nil x.value (records_in f x.rest) e

opened : (f : ℕ) (t : List ℕ) (r : Record) (rs : List Record) (o : Option (Reading Record)) → image.read t ≡ o → read_on o (λ u. records_in f u) ≡ Some (r ∷ rs) → First f t r rs
opened f t r rs None q e = absurd (let z : ◌≡◌ {A = ℕ} 0 1 = cc in omega arith)
opened f t r rs (Some x) q e =
    let k = before_cons x.value r (records_in f x.rest) rs e in
    record { reading = x; reads = q; is = k.0; others = k.1 }

-- more fuel changes nothing
pub more_fuel : (f : ℕ) (t : List ℕ) (rs : List Record) → records_in f t ≡ Some rs → records_in (suc f) t ≡ Some rs
unfolding records_in
more_fuel zero [] rs e = e
more_fuel zero (b ∷ t) rs e = absurd (let z : ◌≡◌ {A = ℕ} 0 1 = cc in omega arith)
more_fuel (suc f) [] rs e = e
more_fuel (suc f) (b ∷ t) [] e = absurd (none_left f (image.read (b ∷ t)) e)
more_fuel (suc f) (b ∷ t) (r ∷ rs) e =
    let k = opened f (b ∷ t) r rs (image.read (b ∷ t)) refl e in
    rw (k.reads, more_fuel f k.reading.rest rs k.others, k.is)

pub first : (f : ℕ) (t : List ℕ) (r : Record) (rs : List Record) → records_in f t ≡ Some (r ∷ rs) → First f t r rs
unfolding records_in
first zero [] r rs e = absurd (let z : ◌≡◌ {A = ℕ} 0 1 = cc in omega arith)
first zero (b ∷ t) r rs e = absurd (let z : ◌≡◌ {A = ℕ} 0 1 = cc in omega arith)
first (suc f) [] r rs e = absurd (let z : ◌≡◌ {A = ℕ} 0 1 = cc in omega arith)
first (suc f) (b ∷ t) r rs e =
    let k = opened f (b ∷ t) r rs (image.read (b ∷ t)) refl e in
    record { reading = k.reading; reads = k.reads; is = k.is; others = more_fuel f k.reading.rest rs k.others }

-- no records, no bytes
pub no_bytes : (f : ℕ) (t : List ℕ) → records_in f t ≡ Some [] → length t ≡ 0
unfolding records_in
no_bytes zero [] e = refl
no_bytes zero (b ∷ t) e = absurd (let z : ◌≡◌ {A = ℕ} 0 1 = cc in omega arith)
no_bytes (suc f) [] e = refl
no_bytes (suc f) (b ∷ t) e = absurd (none_left f (image.read (b ∷ t)) e)

-- no bytes, no records
pub no_records : (f : ℕ) (rs : List Record) → records_in f [] ≡ Some rs → rs ≡ []
unfolding records_in
no_records zero rs e = cc
no_records (suc f) rs e = cc

-- ---- records at places

-- the records from a place on
abbrev pub From : List ℕ → ℕ → List Record → Type 0
From s at rs = records_in (length s) (drop at s) ≡ Some rs

module _ (s : List ℕ) (b : Bytes s) where
  pub record Next (at : ℕ) (r : Record) (rs : List Record) : Type 0 where
    pub here : At s at
    pub is : here.reading.value ≡ r
    pub formed : WellFormed r
    pub ends : end_at s at ≡ at + length (image.write r)
    pub moves : at < end_at s at
    pub within : end_at s at ≤ length s
    pub others : From s (end_at s at) rs

  pub next : (at : ℕ) (r : Record) (rs : List Record) → From s at (r ∷ rs) → Next at r rs
  unfolding end_at
  next at r rs e =
      let k = first (length s) (drop at s) r rs e in
      let x : At s at = record { reading = k.reading; reads = k.reads } in
      let y : end_at s at ≡ at + length (image.write k.reading.value) = rw k.reads in
      let l = lies_past s at (image.write k.reading.value) k.reading.rest (image_at_lem s at b x) in
      record {
        here = x;
        is = k.is;
        formed = subst WellFormed k.is (back s at b x).1;
        ends = y ∙ ap (λ (z : Record). at + length (image.write z)) k.is;
        moves = rw y (omega arith);
        within = rw y l.here;
        others = rw (y, l.are) k.others;
      }

  pub from_end : (at : ℕ) (rs : List Record) → length s ≤ at → From s at rs → rs ≡ []
  from_end at rs h e = no_records (length s) rs (rw (drop_of_length-le s h) at e)

  pub from_more : (at : ℕ) (rs : List Record) → at < length s → From s at rs → (r : Record) × ((ts : List Record) × (◌≡◌ {A = List Record} rs (r ∷ ts)))
  from_more at [] h e = absurd (omega (arith, no_bytes (length s) (drop at s) e, length-drop at s))
  from_more at (r ∷ rs) h e = (r, (rs, refl))

-- ---- that they are there

-- the records of bytes that are whole records
pub given_records : (o : Option (List Record)) → is_given o ≡ true → (rs : List Record) × (o ≡ Some rs)
given_records None e = absurd (let z : ◌≡◌ {A = ℕ} 0 1 = cc in omega arith)
given_records (Some rs) e = (rs, refl)

pub given_is : (o : Option (List Record)) {rs : List Record} → o ≡ Some rs → is_given o ≡ true
given_is o e = ap is_given e

module _ (s : List ℕ) (b : Bytes s) (at : ℕ) (h : at < length s) (w : is_given (records_in (length s) (drop at s)) ≡ true) where
  -- the first of them is the record at the place
  pub record Turn : Type 0 where
    pub here : At s at
    pub moves : at < end_at s at
    pub within : end_at s at ≤ length s
    pub others : is_given (records_in (length s) (drop (end_at s at) s)) ≡ true

  pub turn : Turn
  turn =
      let g = given_records (records_in (length s) (drop at s)) w in
      let m = from_more s b at g.0 h g.1 in
      let n = next s b at m.0 m.1.0 (g.1 ∙ ap Some m.1.1) in
      record { here = n.here; moves = n.moves; within = n.within; others = given_is (records_in (length s) (drop (end_at s at) s)) n.others }

-- ---- a walk over given bytes

-- a turn: the record at the place, and the walk after it
pub record Given (s : List ℕ) (r : Records) (at : ℕ) (t : Records) : Type 0 where
  pub more : at < length s
  pub from : at ≡ r.at
  pub here : At s at
  pub same : t.bytes.now ≡ s
  pub ends : t.at ≡ end_at s at

-- a walk that begins
pub begun : (s : List ℕ) (r t : Records) → t ≡ r → r.bytes.now ≡ s → r.at ≡ 0 → (t.bytes.now ≡ s) × (t.at ≡ 0)
begun s r t e b a = (ap (λ (x : Records). x.bytes.now) e ∙ b, ap (λ (x : Records). x.at) e ∙ a)

module _ (s : List ℕ) (r : Records) (e : r.bytes.now ≡ s) where
  pub still : is_given (records_in (length s) (drop r.at s)) ≡ true
  still = subst (λ (x : List ℕ). is_given (records_in (length x) (drop r.at x)) ≡ true) e r.whole

  pub given : {at : ℕ} {t : Records} → StepsRecord r (Some at) t → Given s r at t
  given {at} {t} w = record {
    more = subst (λ (x : List ℕ). at < length x) e w.0;
    from = w.1;
    here = subst (λ (x : List ℕ). At x at) e w.2;
    same = w.3 ∙ e;
    ends = subst (λ (x : List ℕ). t.at ≡ end_at x at) e w.4;
  }

  pub ended : (t : Records) → StepsRecord r None t → length s ≤ r.at
  ended t w = subst (λ (x : List ℕ). length x ≤ r.at) e w.0
