-- What is held, at a place of bytes: the tests that the code makes pick what is answered. Assumes nothing.
use Prim.Native.Nat.{ℕ, suc, ◌+◌, ◌-◌, ◌*◌, ◌≤◌, ◌<◌}
use native.Mathlib.Omega.{arith}
use mathlib.Core.Path.{◌≡◌, refl, sym, ap, ap₂, ◌∙◌}
use mathlib.Core.Bool.{Bool, true, false, true≢false}
use mathlib.Core.List.{List, ◌∷◌, ◌++◌}
use lib.ListN.{length, take, drop, get_or, length-drop, length-append}
use lib.Seq.{drop-drop, get_or-drop, drop_at, length-take-le}
use Rattle.std.proofs.lemmas.List.{get_or_append_left, get_or-take, drop-take}
use lib.Dec.{leb, eqb}
use borrow.Author.Tests.{le-leb, lt-leb, leb-true}
use Rattle.std.specs.Prelude.{None, Option, Some}
use Rattle.limits.specs.Limits.{LimitSet}
use Rattle.text.specs.declared.Span.{Span}
use Rattle.codec.specs.Codec.{Reading, in_front, passing, renamed, read_all, write_all, eight}
use Rattle.codec.proofs.CodecLaws.{Bytes, counted_exact}
use Rattle.methods.specs.Methods.{is_method}
use Rattle.codec.proofs.AnswerLaws.{TextGot}
use Rattle.codec.proofs.ReadLaws.{byte_at, two_at, four_at_lem, eight_none}
use Rattle.prack_body.specs.Lists.{Pending}
use Rattle.prack_body.specs.Layout.{is_bit, pending_form, is_short, list_form, tracked_form}
use Rattle.prack_body.specs.Places.{is_read, list_places, list_from, tracked_from}
use Rattle.prack_body.specs.declared.ListAt.{ListAt}
use Rattle.prack_body.proofs.LayoutLaws.{pending_exact, entries_size}

-- ---- entries

-- the four bytes at a place as a number
abbrev pub four_at : List ℕ → ℕ → ℕ
four_at s at = ((get_or s at 0 * 256 + get_or s (at + 1) 0) * 256 + get_or s (at + 2) 0) * 256 + get_or s (at + 3) 0

module _ (s : List ℕ) (at : ℕ) (h : at + 20 ≤ length s) where
  -- a method's number and a flag in their places: an entry
  pub entry_at : is_method (get_or s (at + 8) 0) ≡ true → is_bit (get_or s (at + 11) 0) ≡ true → (p : Pending) × (pending_form.read (drop at s) ≡ Some (record { value = p; rest = drop (at + 20) s }))
  entry_at m b =
      let e : at + 4 + 4 ≡ at + 8 = omega arith in
      let f : at + 8 + 1 ≡ at + 9 = omega arith in
      let g : at + 9 + 2 ≡ at + 11 = omega arith in
      let i : at + 11 + 1 ≡ at + 12 = omega arith in
      let j : at + 12 + 4 ≡ at + 16 = omega arith in
      let k : at + 16 + 4 ≡ at + 20 = omega arith in (
        record {
          rseq = four_at s at;
          cseq = four_at s (at + 4);
          method = get_or s (at + 8) 0;
          code = get_or s (at + 9) 0 * 256 + get_or s (at + 9 + 1) 0;
          acknowledged = eqb (get_or s (at + 11) 0) 1;
          registered_at = four_at s (at + 12) * 4294967296 + four_at s (at + 16);
        },
        rw (four_at_lem s at (omega arith), four_at_lem s (at + 4) (omega arith), e, byte_at s (at + 8) (omega arith), m, f, two_at s (at + 9) (omega arith), g, byte_at s (at + 11) (omega arith), b, i, four_at_lem s (at + 12) (omega arith), j, four_at_lem s (at + 16) (omega arith), k),
      )

  -- another method's number, or another flag: none
  pub entry_method : is_method (get_or s (at + 8) 0) ≡ false → pending_form.read (drop at s) ≡ None
  entry_method m =
      let e : at + 4 + 4 ≡ at + 8 = omega arith in
      rw (four_at_lem s at (omega arith), four_at_lem s (at + 4) (omega arith), e, byte_at s (at + 8) (omega arith), m)

  pub entry_flag : is_method (get_or s (at + 8) 0) ≡ true → is_bit (get_or s (at + 11) 0) ≡ false → pending_form.read (drop at s) ≡ None
  entry_flag m b =
      let e : at + 4 + 4 ≡ at + 8 = omega arith in
      let f : at + 8 + 1 ≡ at + 9 = omega arith in
      let g : at + 9 + 2 ≡ at + 11 = omega arith in
      rw (four_at_lem s at (omega arith), four_at_lem s (at + 4) (omega arith), e, byte_at s (at + 8) (omega arith), m, f, two_at s (at + 9) (omega arith), g, byte_at s (at + 11) (omega arith), b)

more_read : (p : Pending) (o : Option (Reading (List Pending))) → is_read (in_front p o) ≡ is_read o
more_read p None = refl
more_read p (Some x) = refl

-- the loop over entries
module _ (s : List ℕ) (i count at : ℕ) where
  -- one entry more was read
  pub turn : i < count → (p : Pending) × (pending_form.read (drop at s) ≡ Some (record { value = p; rest = drop (at + 20) s }))
      → is_read (read_all pending_form (count - i) (drop at s)) ≡ is_read (read_all pending_form (count - (i + 1)) (drop (at + 20) s))
  unfolding read_all
  turn h g =
      let k : count - i ≡ suc (count - (i + 1)) = omega arith in
      rw (k, g.1) (more_read g.0 (read_all pending_form (count - (i + 1)) (drop (at + 20) s)))

  -- one that is none ends it
  pub stop : i < count → pending_form.read (drop at s) ≡ None → is_read (read_all pending_form (count - i) (drop at s)) ≡ false
  unfolding read_all
  stop h e =
      let k : count - i ≡ suc (count - (i + 1)) = omega arith in
      rw (k, e)

  -- none is left
  pub done : i ≡ count → is_read (read_all pending_form (count - i) (drop at s)) ≡ true
  unfolding read_all
  done e =
      let k : count - i ≡ 0 = omega arith in
      rw k

-- the bytes of the entries that are left of so many from a place on
pub record Ahead (s : List ℕ) (first count : ℕ) (left : List ℕ) (i : ℕ) : Type 0 where
  pub few : i ≤ count
  pub are : left ≡ take ((count - i) * 20) (drop (first + i * 20) s)

module _ {s : List ℕ} {first count i : ℕ} {left : List ℕ} (h : first + count * 20 ≤ length s) (x : Ahead s first count left i) where
  ahead_long : length left ≡ (count - i) * 20
  ahead_long =
      let k : (count - i) * 20 ≤ length (drop (first + i * 20) s) = omega (arith, length-drop (first + i * 20) s, x.few) in
      ap length x.are ∙ length-take-le ((count - i) * 20) (drop (first + i * 20) s) k

  pub ahead_done : length left < 20 → i ≡ count
  ahead_done l = omega (arith, ahead_long, x.few)

  module _ (a b : List ℕ) (e : left ≡ a ++ b) (k : length a ≡ 20) where
    pub ahead_turn : i < count
    ahead_turn = omega (arith, ahead_long, ap length e, length-append a b)

    -- a byte of the first of them
    pub ahead_byte : (j : ℕ) → j < 20 → get_or a j 0 ≡ get_or s (first + i * 20 + j) 0
    ahead_byte j l =
        let m : j < (count - i) * 20 = omega (arith, ahead_turn) in
        sym (get_or_append_left a b 0 j (omega arith))
        ∙ ap (λ (z : List ℕ). get_or z j 0) (sym e ∙ x.are)
        ∙ get_or-take ((count - i) * 20) (drop (first + i * 20) s) j 0 m
        ∙ get_or-drop (first + i * 20) s j 0

    -- those after it
    pub ahead_next : Ahead s first count b (i + 1)
    ahead_next =
        let n : (count - i) * 20 ≡ 20 + (count - (i + 1)) * 20 = omega (arith, ahead_turn) in
        let p : first + i * 20 + 20 ≡ first + (i + 1) * 20 = omega arith in
        record {
          few = omega (arith, ahead_turn);
          are = sym (drop_at a b 20 k)
              ∙ ap (drop 20) (sym e ∙ x.are ∙ ap (λ (z : ℕ). take z (drop (first + i * 20) s)) n)
              ∙ drop-take 20 ((count - (i + 1)) * 20) (drop (first + i * 20) s)
              ∙ ap (take ((count - (i + 1)) * 20)) (drop-drop 20 (first + i * 20) s ∙ ap (λ (z : ℕ). drop z s) p);
        }

-- the entries before those left are read
pub record Looking (s : List ℕ) (first count : ℕ) (left : List ℕ) : Type 0 where
  pub turns : ℕ
  pub ahead : Ahead s first count left turns
  pub same : is_read (read_all pending_form count (drop first s)) ≡ is_read (read_all pending_form (count - turns) (drop (first + turns * 20) s))

-- none is looked at yet
pub looking : (s : List ℕ) (first count : ℕ) {left : List ℕ} {n : ℕ} → n ≡ count * 20 → left ≡ take n (drop first s) → Looking s first count left
looking s first count {left} {n} q e =
    let k : first + 0 * 20 ≡ first = omega arith in
    record {
      turns = 0;
      ahead = record { few = omega arith; are = let z : count - 0 ≡ count = omega arith in rw (z, k) (e ∙ ap (λ (m : ℕ). take m (drop first s)) q) };
      same = let z : count - 0 ≡ count = omega arith in rw (z, k);
    }

-- the next entry begins where one ends
pub next_place : (s : List ℕ) (first i count : ℕ) → is_read (read_all pending_form (count - (i + 1)) (drop (first + i * 20 + 20) s)) ≡ is_read (read_all pending_form (count - (i + 1)) (drop (first + (i + 1) * 20) s))
next_place s first i count = let k : first + i * 20 + 20 ≡ first + (i + 1) * 20 = omega arith in rw k

module _ {s : List ℕ} {first count : ℕ} {left : List ℕ} (h : first + count * 20 ≤ length s) (x : Looking s first count left) where
  -- the next entry is none
  module _ (a b : List ℕ) (e : left ≡ a ++ b) (k : length a ≡ 20) where
    room : first + x.turns * 20 + 20 ≤ length s
    room = omega (arith, ahead_turn h x.ahead a b e k)

    pub looked_method : is_method (get_or a 8 0) ≡ false → false ≡ is_read (read_all pending_form count (drop first s))
    looked_method m =
        sym (x.same ∙ stop s x.turns count (first + x.turns * 20) (ahead_turn h x.ahead a b e k) (entry_method s (first + x.turns * 20) room (ap is_method (sym (ahead_byte h x.ahead a b e k 8 (omega arith))) ∙ m)))

    pub looked_flag : is_method (get_or a 8 0) ≡ true → 1 < get_or a 11 0 → false ≡ is_read (read_all pending_form count (drop first s))
    looked_flag m f =
        sym (x.same ∙ stop s x.turns count (first + x.turns * 20) (ahead_turn h x.ahead a b e k) (entry_flag s (first + x.turns * 20) room (ap is_method (sym (ahead_byte h x.ahead a b e k 8 (omega arith))) ∙ m)
        (ap is_bit (sym (ahead_byte h x.ahead a b e k 11 (omega arith))) ∙ lt-leb _ 1 f)))

    -- it is one
    pub looked_at : is_method (get_or a 8 0) ≡ true → get_or a 11 0 ≤ 1 → Looking s first count b
    looked_at m f = record {
      turns = x.turns + 1;
      ahead = ahead_next h x.ahead a b e k;
      same = x.same
          ∙ turn s x.turns count (first + x.turns * 20) (ahead_turn h x.ahead a b e k) (entry_at s (first + x.turns * 20) room (ap is_method (sym (ahead_byte h x.ahead a b e k 8 (omega arith))) ∙ m)
          (ap is_bit (sym (ahead_byte h x.ahead a b e k 11 (omega arith))) ∙ le-leb _ 1 f))
          ∙ next_place s first x.turns count;
    }

  -- none is left
  pub looked_all : length left < 20 → true ≡ is_read (read_all pending_form count (drop first s))
  looked_all l = sym (x.same ∙ done s x.turns count (first + x.turns * 20) (ahead_done h x.ahead l))

-- so many entries as were asked for, and their bytes
pub entries_read : (n : ℕ) (s : List ℕ) (x : Reading (List Pending)) → n < 256 → Bytes s → read_all pending_form n s ≡ Some x → (length x.value ≡ n) × (n * 20 ≤ length s)
entries_read n s x l h e =
    let k = (counted_exact pending_exact).back (n ∷ s) x (l, h) e in
    let w : n ∷ s ≡ length x.value ∷ (write_all pending_form x.value ++ x.rest) = k.0 in
    let u : n ≡ length x.value = cc in
    let v : s ≡ write_all pending_form x.value ++ x.rest = cc in
    (sym u, omega (arith, ap length v, length-append (write_all pending_form x.value) x.rest, entries_size x.value))

-- ---- a list

module _ (L : LimitSet) (s : List ℕ) (at : ℕ) where
  module _ (h : at < length s) where
    module _ (one : get_or s at 0 ≡ 1) where
      module _ (l : at + 2 ≤ length s) {count : ℕ} (c : count ≡ get_or s (at + 1) 0) (small : count < 256) (b : Bytes (drop (at + 2) s)) where
        abbrev entries : Option (Reading (List Pending))
        entries = read_all pending_form count (drop (at + 2) s)

        reads : list_from at ((list_form L).read (drop at s)) ≡ list_from at (renamed Some (passing (is_short L) entries))
        reads =
            let e : at + 1 + 1 ≡ at + 2 = omega arith in
            rw (byte_at s at h, one, byte_at s (at + 1) (omega arith), e, c)

        unless : ((x : Reading (List Pending)) → entries ≡ Some x → is_short L x.value ≡ true → ⊥) → None ≡ list_from at ((list_form L).read (drop at s))
        unless f = by entries refl ∙ sym reads
          where
            by : (o : Option (Reading (List Pending))) → entries ≡ o → None ≡ list_from at (renamed Some (passing (is_short L) o))
            by None e = refl
            by (Some x) e = is (is_short L x.value) refl
              where
                is : (t : Bool) → is_short L x.value ≡ t → None ≡ list_from at (renamed Some (passing (is_short L) (Some x)))
                is true t = absurd (f x e t)
                is false t = rw t

        -- more than the set allows
        pub list_many : L.pending < count → None ≡ list_from at ((list_form L).read (drop at s))
        list_many m = unless (λ x e t. let k = entries_read count (drop (at + 2) s) x small b e in let z : length x.value ≤ L.pending = leb-true _ _ t in omega (arith, k.0))

        -- fewer bytes than the count says
        pub list_cut : length s - at - 2 < count * 20 → None ≡ list_from at ((list_form L).read (drop at s))
        list_cut m = unless (λ x e t. omega (arith, (entries_read count (drop (at + 2) s) x small b e).1, length-drop (at + 2) s))

        -- a list
        pub list_whole : count ≤ L.pending → is_read entries ≡ true → Some (record { entries = Some (record { count = count; first = at + 2 }); end = at + 2 + count * 20 }) ≡ list_from at ((list_form L).read (drop at s))
        list_whole m u = by entries refl ∙ sym reads
          where
            by : (o : Option (Reading (List Pending))) → entries ≡ o → Some (record { entries = Some (record { count = count; first = at + 2 }); end = at + 2 + count * 20 }) ≡ list_from at (renamed Some (passing (is_short L) o))
            by None e = absurd (true≢false (sym u ∙ ap is_read e))
            by (Some x) e =
                let k : length x.value ≡ count = (entries_read count (drop (at + 2) s) x small b e).0 in
                let t : leb (length x.value) L.pending ≡ true = le-leb (length x.value) L.pending (omega arith) in
                rw (t, k)

-- ---- what is held

-- a list that was read, or not
pub record ListGot (L : LimitSet) (s : List ℕ) (at : ℕ) (p : ListAt) : Type 0 where
  pub reading : Reading (Option (List Pending))
  pub reads : (list_form L).read (drop at s) ≡ Some reading
  pub placed : p ≡ list_places at reading.value

-- a list that was read, by the answer
pub list_got : (L : LimitSet) (s : List ℕ) (at : ℕ) (p : ListAt) → Some p ≡ list_from at ((list_form L).read (drop at s)) → ListGot L s at p
list_got L s at p e = by ((list_form L).read (drop at s)) refl e
  where
    by : (o : Option (Reading (Option (List Pending)))) → (list_form L).read (drop at s) ≡ o → Some p ≡ list_from at o → ListGot L s at p
    by None k q = absurd (let z : ◌≡◌ {A = ℕ} 0 1 = cc in omega arith)
    by (Some x) k q = record { reading = x; reads = k; placed = (cc) }

list_not : (L : LimitSet) (s : List ℕ) (at : ℕ) → None ≡ list_from at ((list_form L).read (drop at s)) → (list_form L).read (drop at s) ≡ None
list_not L s at e = by ((list_form L).read (drop at s)) e
  where
    by : (o : Option (Reading (Option (List Pending)))) → None ≡ list_from at o → o ≡ None
    by None q = refl
    by (Some x) q = absurd (let z : ◌≡◌ {A = ℕ} 0 1 = cc in omega arith)

module _ (L : LimitSet) (s : List ℕ) (at : ℕ) where
  module _ {i : Span} (g : TextGot s at i) where
    abbrev time_at : ℕ
    time_at = i.start + i.length

    -- a time that is cut
    pub held_time : length s - time_at < 8 → None ≡ tracked_from at ((tracked_form L).read (drop at s))
    held_time h = rw (g.got.reads, eight_none s time_at h)

    module _ {time : ℕ} (f : eight.read (drop time_at s) ≡ Some (record { value = time; rest = drop (time_at + 8) s })) where
      -- a list that can't be read
      pub held_broken : None ≡ list_from (time_at + 8) ((list_form L).read (drop (time_at + 8) s)) → None ≡ tracked_from at ((tracked_form L).read (drop at s))
      held_broken q = rw (g.got.reads, f, list_not L s (time_at + 8) q)

      -- all of it
      pub held_whole : {p : ListAt} → Some p ≡ list_from (time_at + 8) ((list_form L).read (drop (time_at + 8) s))
          → Some (record { id = i; cleaned_at = time; entries = p.entries; end = p.end }) ≡ tracked_from at ((tracked_form L).read (drop at s))
      held_whole {p} q =
          let l = list_got L s (time_at + 8) p q in
          let k : p ≡ list_places (at + 2 + length g.value + 8) l.reading.value = l.placed ∙ ap (λ (x : Span). list_places (x.start + x.length + 8) l.reading.value) g.placed in
          rw (g.got.reads, f, l.reads)
          (ap₂ (λ (x : Span) (y : ListAt). Some (record { id = x; cleaned_at = time; entries = y.entries; end = y.end })) g.placed k)
