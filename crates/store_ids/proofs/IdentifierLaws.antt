-- The identifiers of a store's records, a record at a time: what has been passed, what a turn adds, and what the call answers. Assumes nothing.
use Prim.Native.Nat.{ℕ, ◌+◌, ◌≤◌, ◌<◌}
use native.Mathlib.Omega.{arith}
use mathlib.Core.Path.{◌≡◌, refl, sym, ap, subst, ◌∙◌}
use mathlib.Core.List.{List, [], ◌∷◌, ◌++◌, append_assoc, append-nil}
use lib.ListN.{length, take, drop, length-append, length-drop}
use lib.Seq.{length-take-le}
use borrow.Author.Tests.{lt-ltb, le-ltb}
use Rattle.std.proofs.lemmas.Option.{same_Some}
use Rattle.std.specs.Prelude.{Err, None, Ok, Some}
use Rattle.limits.specs.Limits.{LimitSet}
use Rattle.limits.specs.declared.Refusal.{Refusal}
use Rattle.limits.specs.declared.Refusal.TheVariants.{NoRoom}
use Rattle.text.specs.declared.Span.{Span}
use Rattle.edit.specs.Edit.{over, put_at}
use Rattle.output.proofs.OutputLaws.{put_next}
use Rattle.codec.specs.Codec.{Reading, text, write_all}
use Rattle.record.specs.Record.{Record, image}
use Rattle.codec.proofs.CodecLaws.{Bytes, bytes_drop}
use Rattle.record.proofs.StoreLaws.{EachFormed, decoded}
use Rattle.record.proofs.WellFormedLaws.{image_round}
use Rattle.image.specs.Places.{record_places, ids_of}
use Rattle.image.specs.declared.sections.IdsAt.{IdsAt}
use Rattle.codec.proofs.SizeLaws.{text_size}
use Rattle.image_writer.proofs.LieLaws.{Lie, record_lies}
use Rattle.record_walk.specs.Walk.{At, end_at}
use Rattle.store.specs.Counting.{records_held, count_answer}
use Rattle.store.specs.Identifiers.{IdsRead}
use Rattle.text.specs.Spans.{part_in}
use Rattle.dialog_id.specs.IdTexts.{ident_in, TextsShort}
use Rattle.book.specs.Calls.{all_ids, read, written}
use Rattle.record.specs.Store.{decode_all}
use Rattle.book.specs.Book.{Book, records_image, identifiers_of, reply, reading_cause}
use Rattle.book.specs.Store.{run}
use Rattle.dialog_manager.specs.Search.{Stored, IdsWithin}
use Rattle.dialog_manager.proofs.SearchLaws.{Turn, standing, its_end, ids_within}
use Rattle.dialog_manager.proofs.LookupLaws.{Kept, store_refuses, replies}
use Rattle.store_ids.specs.Identifiers.{ids_in, IdsShort, length_at, texts_at}

-- ---- sizes

-- a text that lies within the bytes, with its two length bytes
pub part_size : (s : List ℕ) (v : Span) → v.start + v.length ≤ length s → length (text.write (part_in s v)) ≡ 2 + v.length
part_size s v h =
    let k : v.length ≤ length (drop v.start s) = omega (arith, length-drop v.start s) in
    omega (arith, text_size (part_in s v), length-take-le v.length (drop v.start s) k)

-- three of them
texts_size_lem : (s : List ℕ) (i : IdsAt) → IdsWithin s i → length (texts_at s i) ≡ length_at i
texts_size_lem s i w =
    let a = text.write (part_in s i.id.call_id) in
    let b = text.write (part_in s i.id.local_tag) in
    let c = text.write (part_in s i.id.remote_tag) in
    omega (arith, length-append a (b ++ c), length-append b c, part_size s i.id.call_id w.0, part_size s i.id.local_tag w.1, part_size s i.id.remote_tag w.2)

-- what two length bytes hold of a part, they hold of its text
part_short : (s : List ℕ) (v : Span) → v.start + v.length ≤ length s → v.length < 65536 → length (part_in s v) < 65536
part_short s v h l = omega (arith, part_size s v h, text_size (part_in s v))

pub texts_short : (s : List ℕ) (i : IdsAt) → IdsWithin s i → IdsShort i → TextsShort (ident_in s i.id)
texts_short s i w l = (part_short s i.id.call_id w.0 l.0, part_short s i.id.local_tag w.1 l.1, part_short s i.id.remote_tag w.2 l.2)

-- ---- the records so far

-- the records before `at` are passed, `front` is their identifiers
pub record Passed (s : List ℕ) (at : ℕ) : Type 0 where
  pub front : List ℕ
  pub rest : Book
  pub all : ids_in (decode_all s) ≡ front ++ identifiers_of rest
  pub formed : EachFormed rest
  pub ahead : drop at s ≡ records_image rest
  pub here : at ≤ length s
  pub few : length front ≤ at

-- none is passed
unfoldable start : (s : List ℕ) → Bytes s → Stored s → Passed s 0
start s hb k =
    let d = decoded s k.records hb k.are in
    record {
      front = [];
      rest = k.records;
      all = ap ids_in k.are;
      formed = d.1;
      ahead = d.0;
      here = omega arith;
      few = omega arith;
    }

-- a turn: the texts of the identifier of the record at `at`, and the identifiers passed with it
pub record More (s : List ℕ) (at : ℕ) (g : Passed s at) (i : IdsAt) : Type 0 where
  pub within : IdsWithin s i
  pub short : IdsShort i
  pub size : length (texts_at s i) ≡ length_at i
  pub moves : at < end_at s at
  pub after : Passed s (end_at s at)
  pub grown : after.front ≡ g.front ++ texts_at s i

-- the first record of those left, and what is read where they begin
record First (s : List ℕ) (at : ℕ) (g : Passed s at) : Type 0 where
  value : Record
  more : Book
  splits : g.rest ≡ value ∷ more
  formed : EachFormed (value ∷ more)
  reads : image.read (drop at s) ≡ Some (record { value = value; rest = records_image more })

module _ (s : List ℕ) (at : ℕ) (g : Passed s at) where
  -- no more bytes than all
  pub front_fits : length g.front ≤ length (ids_in (decode_all s))
  front_fits = omega (arith, ap length g.all, length-append g.front (identifiers_of g.rest))

  -- all are passed
  pub done : length s ≤ at → ids_in (decode_all s) ≡ g.front
  unfolding write_all identifiers_of
  done h = by g.rest refl
    where
      by : (b : Book) → g.rest ≡ b → ids_in (decode_all s) ≡ g.front
      by [] e = g.all ∙ (ap (λ (b : Book). g.front ++ identifiers_of b) e ∙ append-nil g.front)
      by (x ∷ more) e =
          let z : length (drop at s) ≡ length (image.write x ++ records_image more) = ap length (g.ahead ∙ ap records_image e) in
          absurd (omega (arith, h, z, length-drop at s, length-append (image.write x) (records_image more)))

  module _ (h : at < length s) where
    -- bytes are left, so a record is
    first : First s at g
    unfolding write_all
    first = by g.rest refl
      where
        by : (b : Book) → g.rest ≡ b → First s at g
        by [] e = absurd (let z : length (drop at s) ≡ 0 = ap length (g.ahead ∙ ap records_image e) in omega (arith, h, z, length-drop at s))
        by (x ∷ more) e =
            let w : EachFormed (x ∷ more) = subst EachFormed e g.formed in
            record {
              value = x;
              more = more;
              splits = e;
              formed = w;
              reads = ap image.read (g.ahead ∙ ap records_image e) ∙ image_round x w.0 (records_image more);
            }

    -- a record stands here
    pub stands : At s at
    stands = record { reading = record { value = first.value; rest = records_image first.more }; reads = first.reads }

    -- its identifier comes next
    pub next : (i : IdsAt) → Bytes s → IdsRead s at i → More s at g i
    unfolding identifiers_of stands
    next i hb e =
        let f = first in
        let p = record_places at f.value in
        let t : Turn s at p = standing s at hb g.here stands in
        let q : end_at s at ≡ p.end = its_end s at hb g.here stands in
        let u : ◌≡◌ {A = Reading Record} (record { value = t.step.value; rest = drop p.end s }) (record { value = f.value; rest = records_image f.more }) = same_Some _ _ (sym t.step.reads ∙ f.reads) in
        let placed : i ≡ p.ids = e stands.reading f.reads in
        let within : IdsWithin s i = subst (IdsWithin s) (sym placed) (ids_within s at p t) in
        let k : Lie s (at + 2) (ids_of f.value) = record_lies s at stands.reading (bytes_drop at s hb) f.reads in
        let texts : texts_at s i ≡ text.write f.value.call_id ++ (text.write f.value.local_tag ++ text.write f.value.remote_tag) = rw (placed, k.call_id, k.local_tag, k.remote_tag) in
        let n : length (texts_at s i) ≡ length_at i = texts_size_lem s i within in
        let l : at + length_at i ≤ p.end = rw placed (omega arith) in
        let w = f.formed.0 in
        record {
          within = within;
          short = rw placed (w.call_id.0, w.local_tag.0, w.remote_tag.0);
          size = n;
          moves = omega (arith, q, t.step.moves);
          after = record {
            front = g.front ++ texts_at s i;
            rest = f.more;
            all = g.all ∙ (ap (λ (b : Book). g.front ++ identifiers_of b) f.splits ∙ (ap (λ (l : List ℕ). g.front ++ (l ++ identifiers_of f.more)) (sym texts) ∙ sym (append_assoc g.front (texts_at s i) (identifiers_of f.more))));
            formed = f.formed.1;
            ahead = ap (λ (m : ℕ). drop m s) q ∙ ap (λ (y : Reading Record). y.rest) u;
            here = omega (arith, q, t.step.within);
            few = omega (arith, g.few, n, l, q, length-append g.front (texts_at s i));
          };
          grown = refl;
        }

-- ---- the size so far

-- n is how many bytes the identifiers passed take
pub record Measured (s : List ℕ) (at n : ℕ) : Type 0 where
  pub passed : Passed s at
  pub size : n ≡ length passed.front

-- before the first
pub measure : (s : List ℕ) → Bytes s → Stored s → Measured s 0 0
unfolding start
measure s hb k = record { passed = start s hb k; size = refl }

module _ (s : List ℕ) (at n : ℕ) (f : Measured s at n) (i : IdsAt) (m : More s at f.passed i) {k : ℕ} (e : k ≡ length_at i) where
  -- the identifiers passed, with this one
  one_more : n + k ≡ length m.after.front
  one_more = omega (arith, e, f.size, m.size, ap length m.grown, length-append f.passed.front (texts_at s i))

  -- one identifier more
  pub measured : {next : ℕ} → next ≡ end_at s at → Measured s next (n + k)
  measured q = rw q (record { passed = m.after; size = one_more })

  -- no larger than the bytes
  pub small : n + k ≤ length s
  small = omega (arith, one_more, m.after.few, m.after.here)

-- ---- the output so far

-- the identifiers passed stand over the front of the output, `to` is the place after them
pub record Filled (s out₀ : List ℕ) (at to : ℕ) (out : List ℕ) : Type 0 where
  pub passed : Passed s at
  pub to_is : to ≡ length passed.front
  pub are : out ≡ over passed.front out₀

-- before the first
pub fill : (s out : List ℕ) → Bytes s → Stored s → Filled s out 0 0 out
unfolding start
fill s out hb k = record { passed = start s hb k; to_is = refl; are = refl }

module _ (s out₀ : List ℕ) (at to : ℕ) (out : List ℕ) (f : Filled s out₀ at to out) (room : length (ids_in (decode_all s)) ≤ length out₀) where
  -- no byte more or less
  pub same_long : length out ≡ length out₀
  same_long =
      let l = f.passed.front in
      omega (arith, ap length f.are, length-append l (drop (length l) out₀), length-drop (length l) out₀, front_fits s at f.passed)

  module _ (i : IdsAt) (m : More s at f.passed i) where
    -- there is room for one identifier more
    pub free : to + length_at i ≤ length out
    free = omega (arith, f.to_is, m.size, ap length m.grown, length-append f.passed.front (texts_at s i), front_fits s (end_at s at) m.after, same_long)

    -- it is written
    pub filled : {end next : ℕ} {new : List ℕ} → end ≡ end_at s at → next ≡ to + length (texts_at s i) → new ≡ put_at to (texts_at s i) out → Filled s out₀ end next new
    filled {end} {next} {new} q a b = rw q (record {
      passed = m.after;
      to_is = omega (arith, a, f.to_is, ap length m.grown, length-append f.passed.front (texts_at s i));
      are = b
          ∙ (ap (put_at to (texts_at s i)) f.are
          ∙ (put_next f.passed.front (texts_at s i) out₀ to (sym f.to_is) ∙ ap (λ (l : List ℕ). over l out₀) (sym m.grown)));
    })

-- ---- the whole answer

-- the arguments alone refuse nothing
no_cause : (L : LimitSet) (room : ℕ) → reading_cause L (all_ids room) ≡ None
unfolding reading_cause
no_cause L room = refl

module _ (L : LimitSet) (n room : ℕ) (bytes : List ℕ) (used : ℕ) (hb : Bytes bytes) where
  -- 3
  pub unread : {cause : Refusal} → count_answer (records_held bytes used) ≡ Err cause → Err cause ≡ (run L (read n (all_ids room)) bytes used).answer
  unread e = store_refuses L n (all_ids room) bytes used hb (no_cause L room) e

  module _ (k : Kept bytes used) where
    -- 18
    pub too_long : room < length (ids_in (decode_all (take used bytes))) → Err NoRoom ≡ (run L (read n (all_ids room)) bytes used).answer
    unfolding reply
    too_long h =
        let l : room < length (identifiers_of k.contents.records) = rw k.are at h in
        replies L n (all_ids room) bytes used hb (no_cause L room) k (Err NoRoom) (rw (lt-ltb room (length (identifiers_of k.contents.records)) l))

    -- all are written
    pub fitting : length (ids_in (decode_all (take used bytes))) ≤ room → Ok (written (ids_in (decode_all (take used bytes)))) ≡ (run L (read n (all_ids room)) bytes used).answer
    unfolding reply
    fitting h =
        let l : length (identifiers_of k.contents.records) ≤ room = rw k.are at h in
        replies L n (all_ids room) bytes used hb (no_cause L room) k (Ok (written (ids_in (decode_all (take used bytes))))) (rw (k.are, le-ltb room (length (identifiers_of k.contents.records)) l))
