-- The Early records of a Call-ID, counted a record at a time. Assumes nothing.
use Prim.Native.Nat.{ℕ, ◌+◌, ◌*◌, ◌%◌, ◌≤◌, ◌<◌}
use native.Mathlib.Omega.{arith}
use mathlib.Core.Path.{◌≡◌, refl, sym, ap, subst, ◌∙◌}
use mathlib.Core.Bool.{Bool, true, false, cond, not, ◌&&◌}
use mathlib.Core.List.{List, ◌∷◌}
use lib.ListN.{length, drop}
use lib.Seq.{take-length}
use Rattle.std.specs.Prelude.{Some}
use Rattle.text.specs.Text.{equal}
use Rattle.record.specs.Record.{State, early, confirmed, terminated, Record, bit_of, state_number, state_of, StateByte, state_byte_number, state_byte_of}
use Rattle.codec.proofs.CodecLaws.{Bytes}
use Rattle.image.specs.Places.{record_places}
use Rattle.image.specs.declared.RecordAt.{RecordAt}
use Rattle.image.specs.declared.sections.IdsAt.{IdsAt}
use Rattle.record_walk.specs.Walk.{At, end_at}
use Rattle.store.specs.Identifiers.{IdsRead}
use Rattle.text.specs.Spans.{part_in}
use Rattle.dialog_id.specs.Ident.{Ident, ident, same_ident}
use Rattle.dialog_id.specs.IdTexts.{ident_in}
use Rattle.record.specs.Store.{decode_all}
use Rattle.book.specs.Book.{Book, is_of, others, keep, is_early, is_early_of, early_of}
use Rattle.dialog_manager.specs.Search.{IdsWithin, Stored}
use Rattle.dialog_manager.proofs.SearchLaws.{Turn, its_end, ids_within, texts_of, named_held, call_held}
use Rattle.store_puts.specs.Puts.{early_others, state_at, early_at}
use Rattle.store_edits.proofs.AheadLaws.{Ahead, all_ahead, Front, front, none_ahead}
use Rattle.store_edits.proofs.StateLaws.{byte, place, state_here, state_is}

-- ---- the state byte

-- it tells the state that it was made of
told : (b : StateByte) → (state_byte_of (state_byte_number b)).state ≡ b.state
told b = ap state_of (low b.state (bit_of b.we_are_uac) (bit_of b.secure)) ∙ again b.state
  where
    low : (x : State) (u c : ℕ) → (state_number x + 4 * u + 8 * c) % 4 ≡ state_number x
    low early u c = omega arith
    low confirmed u c = omega arith
    low terminated u c = omega arith

    again : (x : State) → state_of (state_number x) ≡ x
    again early = refl
    again confirmed = refl
    again terminated = refl

-- that of the record at a place
state_told : (s : List ℕ) (p : ℕ) (b : Bytes s) (x : At s p) → state_at s (place s p b x) ≡ x.reading.value.numbers.state
state_told s p b x = ap (λ (n : ℕ). (state_byte_of n).state) (state_is s p b x) ∙ told (byte s p b x)

-- ---- one record

-- what a record counts
abbrev pub is_counted : Ident → Record → Bool
is_counted i x = is_early x.numbers.state && (equal x.call_id i.call_id && not (is_of i x))

abbrev pub counts : Ident → Record → ℕ
counts i x = cond (is_counted i x) 1 0

pub at_most_one : (i : Ident) (x : Record) → counts i x ≤ 1
at_most_one i x = by (is_counted i x)
  where
    by : (t : Bool) → cond t 1 0 ≤ 1
    by true = omega arith
    by false = omega arith

-- the count of the records is that of the first and that of the others
one_more : (i : Ident) (x : Record) (b : Book) → early_others i (Some (x ∷ b)) ≡ counts i x + early_others i (Some b)
unfolding is_early_of
one_more i x b = by (is_of i x)
  where
    p : Bool
    p = equal x.call_id i.call_id

    e : Bool
    e = is_early x.numbers.state

    k : Book
    k = keep (others i) b

    other : (p e : Bool) → ◌≡◌ {A = ℕ} (cond (p && e) 1 0) (cond (e && (p && true)) 1 0)
    other true true = refl
    other true false = refl
    other false true = refl
    other false false = refl

    own : (p e : Bool) → ◌≡◌ {A = ℕ} (cond (e && (p && false)) 1 0) 0
    own true true = refl
    own true false = refl
    own false true = refl
    own false false = refl

    by : (t : Bool) → early_of i.call_id (cond (not t) (x ∷ k) k) ≡ cond (e && (p && not t)) 1 0 + early_of i.call_id k
    by true = omega (arith, own p e)
    by false = ap (λ (n : ℕ). n + early_of i.call_id k) (other p e)

-- ---- the records so far

-- n were counted before `at`, and those of the rest come to it
pub record Counting (i : Ident) (s : List ℕ) (at n : ℕ) : Type 0 where
  pub rest : Book
  pub ahead : Ahead s (length s) at rest
  pub all : early_others i (decode_all s) ≡ n + early_others i (Some rest)
  pub few : n ≤ at

pub start : (i : Ident) (s : List ℕ) → Bytes s → Stored s → Counting i s 0 0
start i s hb k = record {
  rest = k.records;
  ahead = all_ahead s (length s) k.records hb (omega arith) (ap decode_all (take-length s) ∙ k.are);
  all = omega (arith, ap (early_others i) k.are);
  few = omega arith;
}

-- the record at the place, and the next place
pub record Counted (c l r : List ℕ) (s : List ℕ) (at n : ℕ) (i : IdsAt) : Type 0 where
  pub within : IdsWithin s i × (i.end < length s)
  pub moves : at < end_at s at
  pub fits : end_at s at ≤ length s
  pub again : {t : Bool} → t ≡ early_at s i c l r → Counting (ident c l r) s (end_at s at) (n + cond t 1 0)

module _ (c l r : List ℕ) (s : List ℕ) (at n : ℕ) (g : Counting (ident c l r) s at n) where
  -- all records are read
  pub done : length s ≤ at → n ≡ early_others (ident c l r) (decode_all s)
  done h =
      let z : early_others (ident c l r) (Some g.rest) ≡ 0 = ap (λ (b : Book). early_others (ident c l r) (Some b)) (none_ahead s (length s) at g.rest g.ahead h) in
      omega (arith, z, g.all)

  module _ (h : at < length s) where
    f : Front s (length s) at g.rest
    f = front s (length s) at g.rest g.ahead h

    abbrev here : At s at
    here = record { reading = record { value = f.value; rest = drop (record_places at f.value).end s }; reads = f.reads }

    abbrev places : RecordAt
    places = record_places at f.value

    abbrev turn : Turn s at places
    turn = record { step = record { value = f.value; reads = f.reads; ends = f.ends; moves = f.moves; within = f.fits }; placed = refl }

    module _ (hb : Bytes s) where
      end_is : end_at s at ≡ places.end
      end_is = its_end s at hb (omega (arith, h)) here

      weighed : early_at s places.ids c l r ≡ is_counted (ident c l r) f.value
      weighed = rw (state_told s at hb here, named_held s places.ids c l r f.value (texts_of s at places turn hb), call_held s places.ids c f.value (texts_of s at places turn hb))

      at_places : Counted c l r s at n places.ids
      at_places = record {
        within = (ids_within s at places turn, state_here s at hb here);
        moves = omega (arith, f.moves, end_is);
        fits = omega (arith, f.fits, end_is);
        again = λ {t} q.
            let m : cond t 1 0 ≡ counts (ident c l r) f.value = ap (λ (u : Bool). cond u 1 0) (q ∙ weighed) in
            subst (λ (e : ℕ). Counting (ident c l r) s e (n + cond t 1 0)) (sym end_is) (record {
              rest = f.more;
              ahead = f.next;
              all = omega (arith, g.all, ap (λ (b : Book). early_others (ident c l r) (Some b)) f.split, one_more (ident c l r) f.value f.more, m);
              few = omega (arith, g.few, m, at_most_one (ident c l r) f.value, f.moves);
            });
      }

      pub counted : (i : IdsAt) → IdsRead s at i → Counted c l r s at n i
      counted i e = subst (Counted c l r s at n) (sym (e here.reading here.reads)) at_places

-- ---- the texts of another identifier, read at their places

module _ (s : List ℕ) (i : IdsAt) (o k : Ident) (e : o ≡ ident_in s i.id) where
  -- its Call-ID is the same, so that the tags decide
  pub other_met : is_early (state_at s i.end) ≡ true → equal o.call_id k.call_id ≡ true → not (same_ident o k) ≡ early_at s i k.call_id k.local_tag k.remote_tag
  unfolding same_ident
  other_met a q =
      let c : equal (part_in s i.id.call_id) k.call_id ≡ true = ap (λ (x : Ident). equal x.call_id k.call_id) (sym e) ∙ q in
      rw (e, a, c)

  -- it has another
  pub other_not : equal o.call_id k.call_id ≡ false → false ≡ early_at s i k.call_id k.local_tag k.remote_tag
  other_not q =
      let c : equal (part_in s i.id.call_id) k.call_id ≡ false = ap (λ (x : Ident). equal x.call_id k.call_id) (sym e) ∙ q in
      rw c (by (is_early (state_at s i.end)))
    where
      by : (t : Bool) → false ≡ t && false
      by true = refl
      by false = refl
