-- The lines of records, a record at a time: those written so far, and those of the records that are left. Assumes nothing.
use Prim.Native.Nat.{ℕ, zero, suc, ◌+◌, ◌*◌, ◌≤◌, ◌<◌}
use native.Mathlib.Numerals.{add-one}
use native.Mathlib.Omega.{arith}
use mathlib.Core.Path.{◌≡◌, refl, sym, ap, subst, ◌∙◌}
use mathlib.Core.Bool.{Bool, true, false}
use mathlib.Core.List.{List, [], ◌∷◌, ◌++◌, append_assoc, append-nil}
use lib.ListN.{length, drop, length-append, drop_of_length-le}
use lib.Seq.{drop-cons}
use lib.Dec.{ltb}
use borrow.Author.Tests.{ltb-true, ltb-false}
use Rattle.std.specs.Prelude.{None, Option, Some}
use Rattle.codec.specs.Codec.{Reading}
use Rattle.record.specs.Record.{Numbers, Record, is_given, image}
use Rattle.record.specs.NumbersForm.{meaning}
use Rattle.record.proofs.NumberLaws.{meaning_same}
use Rattle.record.specs.Store.{records_in, record_before}
use Rattle.image.specs.Places.{record_from, record_places}
use Rattle.image.specs.declared.RecordAt.{RecordAt}
use Rattle.image.proofs.AnswerLaws.{record_got, record_not}
use Rattle.listing_lines.specs.Listing.{columns, columns_of, line_of, lines_from}
use Rattle.listing_lines.specs.Steps.{records_of, listed_lines}
use Rattle.listing_text.specs.Listed.{StepsListed}
use Rattle.listing_text.specs.Readings.{ReadAt}
use Rattle.listing_text.specs.declared.listed.Walk.{Walk}

-- ---- the line of a record

-- the line of a record that was read
line_read : (position at : ℕ) (r : Record) (p : RecordAt) → p ≡ record_places at r → columns_of position (meaning p.numbers) p.we_are_uac p.route_count ≡ columns position r
line_read position at r p e =
    ap (λ (q : RecordAt). columns_of position (meaning q.numbers) q.we_are_uac q.route_count) e
    ∙ ap (λ (x : Numbers). columns_of position x r.we_are_uac (length r.routes)) (meaning_same r.numbers)

-- ---- records of bytes, the first and the others

record Opened (fuel : ℕ) (t : List ℕ) (x : Reading Record) (rest : List Record) : Type 0 where
  others : List Record
  less : ℕ
  all : rest ≡ x.value ∷ others
  reads : records_in less x.rest ≡ Some others

opened : (fuel : ℕ) (t : List ℕ) (x : Reading Record) (rest : List Record) → records_in fuel t ≡ Some rest → 0 < length t → image.read t ≡ Some x → Opened fuel t x rest
unfolding records_in
opened fuel [] x rest e h q = absurd (let z : 0 < 0 = h in omega arith)
opened zero (b ∷ t) x rest e h q = absurd (let z : ◌≡◌ {A = ℕ} 0 1 = cc in omega arith)
opened (suc fuel) (b ∷ t) x rest e h q = by (records_in fuel x.rest) refl (rw q at e)
  where
    by : (o : Option (List Record)) → records_in fuel x.rest ≡ o → record_before x.value o ≡ Some rest → Opened (suc fuel) (b ∷ t) x rest
    by None u v = absurd (let z : ◌≡◌ {A = ℕ} 0 1 = cc in omega arith)
    by (Some rs) u v = record { others = rs; less = fuel; all = (let w : x.value ∷ rs ≡ rest = cc in sym w); reads = u }

unreadable : (fuel : ℕ) (t : List ℕ) (rest : List Record) → records_in fuel t ≡ Some rest → 0 < length t → image.read t ≡ None → ⊥
unfolding records_in
unreadable fuel [] rest e h q = let z : 0 < 0 = h in omega arith
unreadable zero (b ∷ t) rest e h q = let z : ◌≡◌ {A = ℕ} 0 1 = cc in omega arith
unreadable (suc fuel) (b ∷ t) rest e h q = let v : None ≡ Some rest = (rw q at e) in let z : ◌≡◌ {A = ℕ} 0 1 = cc in omega arith

none_left : (fuel : ℕ) (rest : List Record) → records_in fuel [] ≡ Some rest → rest ≡ []
unfolding records_in
none_left zero rest e = let q : [] ≡ rest = cc in sym q
none_left (suc fuel) rest e = let q : [] ≡ rest = cc in sym q

-- ---- the walk

-- `text` are the lines of the records before the place; a line has at most 192 bytes
pub record Left (s : List ℕ) (at position size : ℕ) (text : List ℕ) : Type 0 where
  pub rest : List Record
  pub fuel : ℕ
  pub reads : records_in fuel (drop at s) ≡ Some rest
  pub here : at ≤ length s
  pub whole : listed_lines s ≡ text ++ lines_from position rest
  pub sized : size ≡ length text
  pub small : size ≤ 192 * at
  pub low : position ≤ at + 1

pub start : (s : List ℕ) → is_given (records_in (length s) s) ≡ true → Left s 0 1 0 []
start s h = by (records_in (length s) s) refl h
  where
    by : (o : Option (List Record)) → records_in (length s) s ≡ o → is_given o ≡ true → Left s 0 1 0 []
    by None e g = absurd (let z : ◌≡◌ {A = ℕ} 0 1 = cc in omega arith)
    by (Some rs) e g = record { rest = rs; fuel = length s; reads = e; here = omega arith; whole = ap (λ (o : Option (List Record)). lines_from 1 (records_of o)) e; sized = refl; small = omega arith; low = omega arith }

module _ (s : List ℕ) (at position size : ℕ) (text : List ℕ) (l : Left s at position size text) (more : at < length s) where
  ahead : 0 < length (drop at s)
  ahead = rw (drop-cons s at 0 more) (omega arith)

  -- the record at the place can be read
  pub not_broken : record_from at (image.read (drop at s)) ≡ None → ⊥
  not_broken e = unreadable l.fuel (drop at s) l.rest l.reads ahead (record_not at (image.read (drop at s)) e)

  module _ (p : RecordAt) (e : record_from at (image.read (drop at s)) ≡ Some p) where
    abbrev pub line : List ℕ
    line = line_of (columns_of position (meaning p.numbers) p.we_are_uac p.route_count)

    pub further : at < p.end
    further = let g = record_got s at l.here e in rw g.placed (omega arith)

    -- one record fewer is left, and one line more is written
    pub step : length line ≤ 192 → Left s p.end (position + 1) (size + length line) (text ++ line)
    unfolding lines_from
    step h =
        let g = record_got s at l.here e in
        let o = opened l.fuel (drop at s) (record { value = g.value; rest = drop p.end s }) l.rest l.reads ahead g.got.reads in
        let w : listed_lines s ≡ (text ++ line) ++ lines_from (suc position) o.others =
        l.whole
        ∙ ap (λ (rs : List Record). text ++ lines_from position rs) o.all
        ∙ ap (λ (c : List (List ℕ)). text ++ (line_of c ++ lines_from (suc position) o.others)) (sym (line_read position at g.value p g.placed))
        ∙ sym (append_assoc text line (lines_from (suc position) o.others)) in
        record {
          rest = o.others;
          fuel = o.less;
          reads = o.reads;
          here = g.got.within;
          whole = rw (add-one position) w;
          sized = omega (arith, l.sized, length-append text line);
          small = omega (arith, l.small, further);
          low = omega (arith, l.low, further);
        }

-- ---- the records that are given

-- what is read at a place
pub read_there : (s : List ℕ) (at : ℕ) → at ≤ length s → (o : Option RecordAt) → o ≡ record_from at (image.read (drop at s)) → ReadAt s at o
read_there s at h None e = sym e
read_there s at h (Some r) e =
    let g = record_got s at h (sym e) in
    (sym e, rw g.placed (omega arith), g.got.within)

-- a turn: the record at the place, and the walk after it
pub record Given (s : List ℕ) (w : Walk) (x : RecordAt) (t : Walk) : Type 0 where
  pub more : w.at < length s
  pub reads : record_from w.at (image.read (drop w.at s)) ≡ Some x
  pub same : t.bytes.now ≡ s
  pub ends : t.at ≡ x.end

-- a walk that begins
pub begun : (s : List ℕ) (w t : Walk) → t ≡ w → w.bytes.now ≡ s → w.at ≡ 0 → (t.bytes.now ≡ s) × (t.at ≡ 0)
begun s w t e b a = (ap (λ (x : Walk). x.bytes.now) e ∙ b, ap (λ (x : Walk). x.at) e ∙ a)

module _ (s : List ℕ) (w : Walk) (e : w.bytes.now ≡ s) where
  pub given : {x : RecordAt} {t : Walk} → StepsListed w (Some x) t → Given s w x t
  given {x} {t} k =
      let r : ReadAt s w.at (Some x) = subst (λ (b : List ℕ). ReadAt b w.at (Some x)) e k.0 in
      record { more = omega (arith, r.1, r.2); reads = r.0; same = k.1 ∙ e; ends = k.2 }

  pub ended : {position size : ℕ} {text : List ℕ} (t : Walk) → Left s w.at position size text → StepsListed w None t → length s ≤ w.at
  ended {position} {size} {text} t l k = by (ltb w.at (length s)) refl
    where
      by : (b : Bool) → ltb w.at (length s) ≡ b → length s ≤ w.at
      by true q = absurd (not_broken s w.at position size text l (ltb-true w.at (length s) q) (subst (λ (b : List ℕ). ReadAt b w.at None) e k))
      by false q = ltb-false w.at (length s) q

-- a turn, after its line of so many bytes; `i` is its number, `k` that of the turn, and `next` that of the one after it
pub turn : (s : List ℕ) (w : Walk) (x : RecordAt) (t : Walk) → Given s w x t → {i k next : ℕ} → i ≡ k → next ≡ k + 1 → (size : ℕ) (text : List ℕ) → Left s w.at (k + 1) size text
    → {n : ℕ} → n ≡ length (line_of (columns_of (i + 1) (meaning x.numbers) x.we_are_uac x.route_count)) → n ≤ 192
    → Left s t.at (next + 1) (size + n) (text ++ line_of (columns_of (i + 1) (meaning x.numbers) x.we_are_uac x.route_count))
turn s w x t g {i} {k} {next} a b size text l {n} h u =
    let line : ℕ → List ℕ = λ j. line_of (columns_of (j + 1) (meaning x.numbers) x.we_are_uac x.route_count) in
    let m : n ≡ length (line k) = h ∙ ap (λ (j : ℕ). length (line j)) a in
    let y : Left s x.end (k + 1 + 1) (size + length (line k)) (text ++ line k) = step s w.at (k + 1) size text l g.more x g.reads (omega (arith, m, u)) in
    rw (g.ends, b, m, a) y

-- before the first
pub start_at : (s : List ℕ) {at k : ℕ} → at ≡ 0 → k ≡ 0 → is_given (records_in (length s) s) ≡ true → Left s at (k + 1) 0 []
start_at s a p h = rw (a, p) (start s h)

-- at the end the lines are all written
pub done : (s : List ℕ) (at position size : ℕ) (text : List ℕ) → Left s at position size text → length s ≤ at → listed_lines s ≡ text
unfolding lines_from
done s at position size text l h =
    let d : drop at s ≡ [] = drop_of_length-le s h in
    let r : l.rest ≡ [] = none_left l.fuel l.rest (rw d at l.reads) in
    l.whole ∙ ap (λ (rs : List Record). text ++ lines_from position rs) r ∙ append-nil text

-- so much is left to be written
pub room : (s : List ℕ) (at position size : ℕ) (text : List ℕ) → Left s at position size text → size ≤ length (listed_lines s)
room s at position size text l = omega (arith, l.sized, ap length l.whole, length-append text (lines_from position l.rest))
