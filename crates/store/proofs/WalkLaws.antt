-- The reading of a store's records, a record at a time: what a step changes, and what the answer is. Assumes nothing.
use Prim.Native.Nat.{ℕ, zero, suc, ◌+◌, ◌-◌, ◌≤◌, ◌<◌}
use native.Mathlib.Omega.{arith}
use mathlib.Core.Path.{◌≡◌, refl, sym, ap, ◌∙◌}
use mathlib.Core.List.{List, [], ◌∷◌, ◌++◌, append_assoc, append-nil}
use lib.ListN.{length, drop, length-append, length-drop, drop_of_length-le}
use Rattle.std.specs.Prelude.{None, Option, Some}
use Rattle.codec.specs.Codec.{Reading}
use Rattle.record.specs.Record.{Record, image}
use Rattle.record.specs.Store.{record_before, records_in}
use Rattle.codec.proofs.CodecLaws.{Bytes, bytes_drop}
use Rattle.record.proofs.WellFormedLaws.{image_back}
use Rattle.image.specs.declared.RecordAt.{RecordAt}
use Rattle.image.proofs.AnswerLaws.{RecordGot}
use Rattle.store.specs.Reading.{store_from, whole_records}

-- ---- records of bytes

-- the first, then the others, with fuel one less
records_next : (fuel : ℕ) (t : List ℕ) (x : Reading Record) → 0 < length t → length t ≤ fuel → image.read t ≡ Some x → records_in fuel t ≡ record_before x.value (records_in (fuel - 1) x.rest)
unfolding records_in
records_next fuel [] x h l e = absurd (let z : 0 < 0 = h in omega arith)
records_next zero (b ∷ t) x h l e = absurd (let z : suc (length t) ≤ 0 = l in omega arith)
records_next (suc fuel) (b ∷ t) x h l e = let k : suc fuel - 1 ≡ fuel = omega arith in rw (e, k)

-- no record in front
records_broken : (fuel : ℕ) (t : List ℕ) → 0 < length t → image.read t ≡ None → records_in fuel t ≡ None
unfolding records_in
records_broken fuel [] h e = absurd (let z : 0 < 0 = h in omega arith)
records_broken zero (b ∷ t) h e = refl
records_broken (suc fuel) (b ∷ t) h e = rw e

-- no bytes left
records_end : (fuel : ℕ) → records_in fuel [] ≡ Some []
unfolding records_in
records_end zero = refl
records_end (suc fuel) = refl

-- ---- the records of all bytes: those read so far, then those of the rest

-- the records read so far before those of the rest, if the rest is whole records
abbrev after : List Record → Option (List Record) → Option (List Record)
after done None = None
after done (Some rs) = Some (done ++ rs)

-- one more read
after_next : (done : List Record) (r : Record) (o : Option (List Record)) → after done (record_before r o) ≡ after (done ++ (r ∷ [])) o
after_next done r None = refl
after_next done r (Some rs) = ap Some (sym (append_assoc done (r ∷ []) rs))

-- none read
after_start : (o : Option (List Record)) → o ≡ after [] o
after_start None = refl
after_start (Some rs) = refl

-- `at` is the place past the records read so far, `count` their number
pub record Going (s : List ℕ) (at count : ℕ) : Type 0 where
  pub done : List Record
  pub fuel : ℕ
  pub enough : length s - at ≤ fuel
  pub here : at ≤ length s
  pub few : count ≤ at
  pub counted : count ≡ length done
  pub whole : whole_records s ≡ after done (records_in fuel (drop at s))

-- before the first
pub start : (s : List ℕ) → Going s 0 0
start s = record {
  done = [];
  fuel = length s;
  enough = omega arith;
  here = omega arith;
  few = omega arith;
  counted = refl;
  whole = after_start (records_in (length s) s);
}

-- ---- a step

-- the record at a place, and where its image ends
pub record Step (s : List ℕ) (at : ℕ) (p : RecordAt) : Type 0 where
  pub value : Record
  pub reads : image.read (drop at s) ≡ Some (record { value = value; rest = drop p.end s })
  pub ends : p.end ≡ at + length (image.write value)
  pub moves : at < p.end
  pub within : p.end ≤ length s

-- what `image::read_record` answers is such a record
pub step : (s : List ℕ) (at : ℕ) {p : RecordAt} → Bytes s → at ≤ length s → RecordGot s at p → Step s at p
step s at {p} b h g =
    let k = (image_back (drop at s) (record { value = g.value; rest = drop p.end s }) (bytes_drop at s b) g.got.reads).0 in
    let n : length (drop at s) ≡ length (image.write g.value) + length (drop p.end s) = ap length k ∙ length-append (image.write g.value) (drop p.end s) in
    let w : p.end ≤ length s = g.got.within in
    let e : p.end ≡ at + length (image.write g.value) = omega (arith, length-drop at s, length-drop p.end s) in
    record { value = g.value; reads = g.got.reads; ends = e; moves = omega arith; within = w }

module _ (s : List ℕ) (at count : ℕ) (g : Going s at count) (h : at < length s) where
  -- there are bytes left
  filled : 0 < length (drop at s)
  filled = omega (arith, length-drop at s)

  -- no record begins here
  pub broken : image.read (drop at s) ≡ None → whole_records s ≡ None
  broken e = g.whole ∙ ap (after g.done) (records_broken g.fuel (drop at s) filled e)

  module _ (p : RecordAt) (r : Step s at p) where
    -- one record more
    pub next : Going s p.end (count + 1)
    next = record {
      done = g.done ++ (r.value ∷ []);
      fuel = g.fuel - 1;
      enough = omega (arith, g.enough, r.moves);
      here = r.within;
      few = omega (arith, g.few, r.moves);
      counted = omega (arith, g.counted, length-append g.done (r.value ∷ []));
      whole = g.whole
          ∙ ap (after g.done) (records_next g.fuel (drop at s) (record { value = r.value; rest = drop p.end s }) filled (omega (arith, g.enough, length-drop at s)) r.reads)
          ∙ after_next g.done r.value (records_in (g.fuel - 1) (drop p.end s));
    }

-- ---- the answer

-- all bytes are read: the count is that of the records
pub ended_count : (s : List ℕ) (at count : ℕ) → Going s at count → length s ≤ at → Some count ≡ store_from (whole_records s)
ended_count s at count g h =
    let e : whole_records s ≡ Some g.done = g.whole ∙ ap (λ (t : List ℕ). after g.done (records_in g.fuel t)) (drop_of_length-le s h) ∙ ap (after g.done) (records_end g.fuel) ∙ ap Some (append-nil g.done) in
    ap Some g.counted ∙ ap store_from (sym e)
