-- A record against those after it, and all records one after another: the turns of the two walks. Assumes nothing.
use Prim.Native.Nat.{ℕ, ◌≤◌, ◌<◌}
use mathlib.Core.Path.{◌≡◌, refl, sym, ap, ◌∙◌}
use mathlib.Core.Bool.{Bool, true, false, cond, not, ◌&&◌}
use mathlib.Core.List.{List, ◌∷◌}
use lib.ListN.{length, drop}
use Rattle.std.specs.Prelude.{None, Some}
use Rattle.text.specs.Text.{equal}
use Rattle.record.specs.Record.{Record, is_given}
use Rattle.record.specs.Store.{same_id, lacks, distinct, records_in, decode_all}
use Rattle.codec.proofs.CodecLaws.{Bytes}
use Rattle.distinct.specs.Distinct.{Whole, is_distinct}
use Rattle.ordered_store.specs.Order.{order}
use Rattle.std.specs.declared.cmp.Ordering.TheVariants.{Equal}
use Rattle.ordered_store.proofs.OrderLaws.{order_itself, order_equal}
use Rattle.record_walk.specs.Walk.{At, end_at}
use Rattle.distinct.specs.Keys.{key_at}
use Rattle.distinct.specs.Pairs.{WholeFrom, alone_from}
use Rattle.distinct.proofs.Identities.{same_key}
use Rattle.record_walk.proofs.Images.{back}
use Rattle.distinct.proofs.KeysAt.{key_is}
use Rattle.text.proofs.Sames.{equal_same, equal_is}
use Rattle.record_walk.proofs.Walks.{From, Next, next, from_end, from_more, given_records, still}
use Rattle.record_walk.specs.declared.records.Records.{Records}
use Rattle.distinct.proofs.Walks.{key_next}

module _ (s : List ℕ) (b : Bytes s) where
  -- a record from a place on, its end, and what follows
  pub record Step (at : ℕ) : Type 0 where
    pub rec : Record
    pub others : List Record
    pub all : From s at (rec ∷ others)
    pub next : Next s b at rec others

  pub step : (at : ℕ) → at < length s → WholeFrom s at → Step at
  step at h w =
      let m = from_more s b at w.records h w.are in
      let e : From s at (m.0 ∷ m.1.0) = w.are ∙ ap Some m.1.1 in
      record { rec = m.0; others = m.1.0; all = e; next = next s b at m.0 m.1.0 e }

  -- of a walk over these bytes
  pub whole_here : (r : Records) → r.bytes.now ≡ s → WholeFrom s r.at
  whole_here r e = let g = given_records (records_in (length s) (drop r.at s)) (still s r e) in record { records = g.0; are = g.1 }

  abbrev pub step_whole : (at : ℕ) → Step at → WholeFrom s (end_at s at)
  step_whole at n = record { records = n.others; are = n.next.others }

  -- ---- one record

  module _ (p : ℕ) (x : At s p) where
    pub alone_end : (q : ℕ) → length s ≤ q → WholeFrom s q → alone_from s p q ≡ true
    unfolding alone_from lacks
    alone_end q h w = rw (x.reads, w.are, from_end s b q w.records h w.are)

    -- the test of one record after another
    alone_step : (q : ℕ) (n : Step q) → alone_from s p q ≡ (not (equal (key_at s q) (key_at s p)) && alone_from s p (end_at s q))
    unfolding alone_from lacks
    alone_step q n =
        let k : same_id n.rec x.reading.value ≡ equal (key_at s q) (key_at s p) = same_key n.rec x.reading.value n.next.formed (back s p b x).1 ∙ rw (key_next s b q n.rec n.others n.next, key_is s p b x) in
        rw (x.reads, n.all, n.next.others, k)

    pub alone_met : (q : ℕ) → Step q → order (key_at s q) (key_at s p) ≡ Equal → alone_from s p q ≡ false
    alone_met q n e = alone_step q n ∙ rw (order_equal (key_at s q) (key_at s p) e, equal_same (key_at s p))

    pub alone_next : (q : ℕ) → Step q → (order (key_at s q) (key_at s p) ≡ Equal → ⊥) → alone_from s p q ≡ alone_from s p (end_at s q)
    alone_next q n e = alone_step q n ∙ by (equal (key_at s q) (key_at s p)) refl
      where
        by : (t : Bool) → equal (key_at s q) (key_at s p) ≡ t → (not (equal (key_at s q) (key_at s p)) && alone_from s p (end_at s q)) ≡ alone_from s p (end_at s q)
        by true t = absurd (e (ap (λ (k : List ℕ). order k (key_at s p)) (equal_is (key_at s q) (key_at s p) t) ∙ order_itself (key_at s p)))
        by false t = rw t

-- ---- all records

-- whether all records are distinct is whether those from a place on are
pub record Left (s : List ℕ) (at : ℕ) : Type 0 where
  pub whole : WholeFrom s at
  pub same : is_distinct s ≡ distinct whole.records

pub distinct_given : (rs : List Record) → is_given (cond (distinct rs) (Some rs) None) ≡ distinct rs
distinct_given rs = by (distinct rs) refl
  where
    by : (t : Bool) → distinct rs ≡ t → is_given (cond (distinct rs) (Some rs) None) ≡ distinct rs
    by true t = rw t
    by false t = rw t

pub left_start : (s : List ℕ) → Whole s → Left s 0
unfolding decode_all
left_start s w = record { whole = record { records = w.0; are = w.1 }; same = rw w.1 (distinct_given w.0) }

module _ (s : List ℕ) (b : Bytes s) where
  pub left_end : (at : ℕ) → length s ≤ at → Left s at → is_distinct s ≡ true
  unfolding distinct
  left_end at h l = l.same ∙ ap distinct (from_end s b at l.whole.records h l.whole.are)

  -- the first record left, and the others
  left_step : (at : ℕ) (l : Left s at) (h : at < length s) → let n = step s b at h l.whole in is_distinct s ≡ (alone_from s at (end_at s at) && distinct n.others)
  unfolding distinct alone_from
  left_step at l h =
      let n = step s b at h l.whole in
      let e : Some l.whole.records ≡ Some (n.rec ∷ n.others) = sym l.whole.are ∙ n.all in
      let m : l.whole.records ≡ n.rec ∷ n.others = cc in
      let k : alone_from s at (end_at s at) ≡ lacks n.others n.rec = rw (n.next.here.reads, n.next.others, n.next.is) in
      l.same ∙ ap distinct m ∙ rw k

  pub left_met : (at : ℕ) → Left s at → at < length s → alone_from s at (end_at s at) ≡ false → is_distinct s ≡ false
  left_met at l h e = left_step at l h ∙ rw e

  pub left_next : (at : ℕ) → Left s at → at < length s → alone_from s at (end_at s at) ≡ true → Left s (end_at s at)
  left_next at l h e =
      let n = step s b at h l.whole in
      record { whole = step_whole s b at n; same = left_step at l h ∙ rw e }
