-- A sweep, a record at a time: the front is the images of the records that stay, and the bytes after it are what they were. Assumes nothing.
use Prim.Native.Nat.{ℕ, ◌+◌, ◌-◌, ◌≤◌, ◌<◌}
use native.Mathlib.Omega.{arith}
use mathlib.Core.Path.{◌≡◌, refl, sym, ap, ap₂, subst, ◌∙◌}
use mathlib.Core.Bool.{Bool, true, false, cond, not}
use mathlib.Core.List.{List, [], ◌∷◌, ◌++◌, append_assoc, append-nil}
use lib.ListN.{length, take, drop, length-append, length-drop, take-append-drop}
use lib.Seq.{take-append_seam, drop-append-le, drop-append-add, drop-drop}
use Rattle.std.specs.Prelude.{Err, Ok}
use Rattle.limits.specs.Limits.{LimitSet}
use Rattle.limits.specs.declared.Refusal.{Refusal}
use Rattle.edit.specs.Edit.{over, put_at}
use Rattle.output.proofs.OutputLaws.{put_next}
use Rattle.codec.specs.Codec.{write_all}
use Rattle.record.specs.Record.{Record, image}
use Rattle.codec.proofs.CodecLaws.{Bytes}
use Rattle.image.specs.Places.{record_places}
use Rattle.record_walk.specs.Walk.{At, end_at}
use Rattle.store.specs.Counting.{records_held, count_answer}
use Rattle.book.specs.Calls.{no_value}
use Rattle.record.specs.Store.{decode_all}
use Rattle.book.specs.Book.{Book, records_image, is_terminated, keep, living, only, Taken}
use Rattle.book.specs.Store.{run}
use Rattle.book.proofs.SentenceLaws.{kept_size}
use Rattle.book.proofs.JudgeLaws.{sweep_clear, sweep_judged}
use Rattle.book.proofs.WayLaws.{kept_with, way_taken}
use Rattle.dialog_manager.specs.Search.{Stored}
use Rattle.dialog_manager.proofs.LookupLaws.{Kept}
use Rattle.store_edits.specs.Edits.{sweeping, living_in, TerminatedAt}
use Rattle.store_edits.proofs.AheadLaws.{Ahead, all_ahead, Front, front, none_ahead}
use Rattle.store_edits.proofs.RemoveLaws.{images, unheld}

-- ---- the records so far

-- the front is written, and these records are yet to be read
pub record Closing (s : List ℕ) (used : ℕ) (bytes : List ℕ) (at to : ℕ) : Type 0 where
  pub front : List ℕ
  pub rest : Book
  pub all : living_in (decode_all (take used s)) ≡ front ++ records_image (keep living rest)
  pub ahead : Ahead s used at rest
  pub to_is : to ≡ length front
  pub below : to ≤ at
  pub are : bytes ≡ over front s
  pub within : used ≤ length s

pub start : (s : List ℕ) (used : ℕ) → Bytes s → used ≤ length s → Stored (take used s) → Closing s used s 0 0
start s used hb h k = record {
  front = [];
  rest = k.records;
  all = ap living_in k.are;
  ahead = all_ahead s used k.records hb h k.are;
  to_is = refl;
  below = omega arith;
  are = refl;
  within = h;
}

past_front : (front s : List ℕ) (at : ℕ) → length front ≤ at → drop at (over front s) ≡ drop at s
past_front front s at h =
    let z : length front + (at - length front) ≡ at = omega (arith, h) in
    ap (λ (n : ℕ). drop n (over front s)) (sym z) ∙ (drop-append-add front (drop (length front) s) (at - length front) ∙ (drop-drop (at - length front) (length front) s ∙ ap (λ (n : ℕ). drop n s) z))

-- a turn: what is so after the record at the place, if it stays and if it goes
pub record Next (s : List ℕ) (used : ℕ) (bytes : List ℕ) (at to end : ℕ) : Type 0 where
  pub moves : at < end
  pub fits : end ≤ used
  pub stays : {after : List ℕ} → TerminatedAt bytes at false → after ≡ put_at to (take (end - at) (drop at bytes)) bytes → Closing s used after end (to + (end - at))
  pub goes : TerminatedAt bytes at true → Closing s used bytes end to

module _ (s : List ℕ) (used : ℕ) (bytes : List ℕ) (at to : ℕ) (g : Closing s used bytes at to) where
  same_ahead : drop at bytes ≡ drop at s
  same_ahead = ap (drop at) g.are ∙ past_front g.front s at (omega (arith, g.below, g.to_is))

  module _ (h : at < used) where
    abbrev first : Front s used at g.rest
    first = front s used at g.rest g.ahead h

    -- a record stands there
    pub stands : At bytes at
    stands = record { reading = record { value = first.value; rest = drop (record_places at first.value).end s }; reads = ap image.read same_ahead ∙ first.reads }

    its_end : end_at bytes at ≡ (record_places at first.value).end
    unfolding end_at stands
    its_end = rw stands.reads (sym first.ends)

    pub next : (end : ℕ) → end ≡ end_at bytes at → Next s used bytes at to end
    unfolding stands write_all
    next end q =
        let x : Record = first.value in
        let i : List ℕ = image.write x in
        let after : List ℕ = drop (record_places at x).end s in
        let here : drop at bytes ≡ i ++ after = same_ahead ∙ first.starts in
        let e : end ≡ (record_places at x).end = q ∙ its_end in
        let l : end - at ≡ length i = omega (arith, e, first.ends) in
        let ahead : Ahead s used end first.more = subst (λ (m : ℕ). Ahead s used m first.more) (sym e) first.next in
        let split : (t : Bool) → t ≡ is_terminated x.numbers.state → living_in (decode_all (take used s)) ≡ g.front ++ records_image (cond (not t) (x ∷ keep living first.more) (keep living first.more)) =
        λ t k. g.all ∙ (ap (λ (b : Book). g.front ++ records_image (keep living b)) first.split ∙ ap (λ (u : Bool). g.front ++ records_image (cond (not u) (x ∷ keep living first.more) (keep living first.more))) (sym k)) in
        record {
          moves = omega (arith, e, first.moves);
          fits = omega (arith, e, first.fits);
          stays = λ k w.
              let took : take (end - at) (drop at bytes) ≡ i = ap₂ (λ (m : ℕ) (u : List ℕ). take m u) l here ∙ take-append_seam i after in
              record {
                front = g.front ++ i;
                rest = first.more;
                all = split false (k stands.reading stands.reads) ∙ sym (append_assoc g.front i (records_image (keep living first.more)));
                ahead = ahead;
                to_is = omega (arith, g.to_is, l, length-append g.front i);
                below = omega (arith, g.below, first.moves, e);
                are = w ∙ (ap₂ (λ (u v : List ℕ). put_at to u v) took g.are ∙ put_next g.front i s to (sym g.to_is));
                within = g.within;
              };
          goes = λ k. record {
            front = g.front;
            rest = first.more;
            all = split true (k stands.reading stands.reads);
            ahead = ahead;
            to_is = g.to_is;
            below = omega (arith, g.below, e, first.moves);
            are = g.are;
            within = g.within;
          };
        }

  -- all records are read
  pub done : used ≤ at → living_in (decode_all (take used s)) ≡ g.front
  unfolding write_all
  done h = g.all ∙ (ap (λ (b : Book). g.front ++ records_image (keep living b)) (none_ahead s used at g.rest g.ahead h) ∙ append-nil g.front)

  -- no byte more or less
  pub same_long : length bytes ≡ length s
  same_long = ap length g.are ∙ omega (arith, length-append g.front (drop (length g.front) s), length-drop (length g.front) s, g.to_is, g.below, g.ahead.left, g.within)

-- bytes are left
pub more : (s bytes : List ℕ) (at to : ℕ) → Closing s (length s) bytes at to → at < length bytes → at < length s
more s bytes at to g h = omega (arith, same_long s (length s) bytes at to g, h)

-- the front of the lent bytes, swept; those behind it stay
pub swept_front : (s : List ℕ) (used : ℕ) (t : List ℕ) {after : List ℕ} → used ≤ length s → after ≡ over t (take used s) → length after ≡ length (take used s) → after ++ drop used s ≡ over t s
swept_front s used t {after} h e l =
    let f : List ℕ = take used s in
    let n : length t ≤ length f = omega (arith, sym l ∙ ap length e, length-append t (drop (length t) f), length-drop (length t) f) in
    ap (λ (x : List ℕ). x ++ drop used s) e ∙ append_assoc t (drop (length t) f) (drop used s)
    ∙ ap (λ (x : List ℕ). t ++ x) (sym (drop-append-le (length t) f (drop used s) n) ∙ ap (drop (length t)) (take-append-drop used s))

-- ---- the whole call

abbrev taken : Taken
taken = record { change = only living; value = no_value }

pub unswept : (L : LimitSet) (n : ℕ) (s : List ℕ) (used : ℕ) {cause : Refusal} → count_answer (records_held s used) ≡ Err cause
    → run L (sweeping n) s used ≡ kept_with L (sweeping n) s used cause
unswept L n s used e = unheld L (sweeping n) s used (sweep_clear L n) e

pub swept : (L : LimitSet) (n : ℕ) (s : List ℕ) (used : ℕ) → Bytes s → Kept s used
    → run L (sweeping n) s used ≡ record { bytes = over (living_in (decode_all (take used s))) s; used = length (living_in (decode_all (take used s))); answer = Ok no_value }
swept L n s used hb k =
    let g = images s used hb k in
    way_taken L (sweeping n) s used (sweep_clear L n) k.within k.contents k.read taken (sweep_judged L n k.contents.records) (omega (arith, kept_size living k.contents.records, g.long, k.within))
    ∙ ap (λ (t : List ℕ). record { bytes = over t s; used = length t; answer = Ok no_value }) (sym (ap living_in k.are))
