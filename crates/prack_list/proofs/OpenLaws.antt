-- The entries of a body that are not acknowledged, written one after another. Assumes nothing.
use Prim.Native.Nat.{ℕ, ◌+◌, ◌-◌, ◌*◌, ◌/◌, ◌≤◌, ◌<◌}
use native.Mathlib.Omega.{arith}
use mathlib.Core.Path.{◌≡◌, refl, sym, ap, subst, ◌∙◌}
use mathlib.Core.Bool.{Bool, true, false}
use mathlib.Core.List.{List, [], ◌++◌, append_assoc, append-nil}
use lib.ListN.{length, take, drop, get_or, length-append, length-drop}
use lib.Seq.{drop-drop, drop-length, drop_at, take_at}
use Rattle.std.specs.Prelude.{None, Option, Some}
use Rattle.limits.specs.Limits.{LimitSet}
use Rattle.edit.specs.Edit.{put_at, over}
use Rattle.edit.proofs.EditLaws.{Wrote, wrote_then}
use Rattle.codec.specs.Codec.{two, four}
use Rattle.prack_body.specs.Lists.{Pending, Tracked, staying, is_open, entries_of, open_in}
use Rattle.prack_body.specs.Layout.{to_bit, pending_form, open_bytes}
use Rattle.prack_body.specs.Body.{Holds}
use Rattle.prack_body.proofs.BodyLaws.{flag_at, count_is, none_size}
use Rattle.prack_list.proofs.FindLaws.{Next, next_in}

-- ---- the entries of a body, with a list or without

module _ {L : LimitSet} {s : List ℕ} {n : ℕ} {t : Tracked} (h : Holds L s n t) where
  -- how many they are
  pub entry_count : (n - 10) / 20 ≡ length (entries_of t.list)
  entry_count = by t.list refl
    where
      by : (o : Option (List Pending)) → t.list ≡ o → (n - 10) / 20 ≡ length (entries_of t.list)
      by None e = subst (λ (o : Option (List Pending)). (n - 10) / 20 ≡ length (entries_of o)) (sym e) (omega (arith, none_size h e))
      by (Some ps) e = subst (λ (o : Option (List Pending)). (n - 10) / 20 ≡ length (entries_of o)) (sym e) (count_is h ps e)

  -- the entry of a turn
  pub next_entry : (i : ℕ) → i < (n - 10) / 20 → Next s (entries_of t.list) i
  next_entry i l = by t.list refl
    where
      by : (o : Option (List Pending)) → t.list ≡ o → Next s (entries_of t.list) i
      by None e = absurd (omega (arith, none_size h e))
      by (Some ps) e = subst (λ (o : Option (List Pending)). Next s (entries_of o) i) (sym e) (next_in h ps e i l)

-- ---- a turn

-- the bytes of the entries from a number on
abbrev pub opened : ℕ → List Pending → List ℕ
opened i ps = open_bytes (staying is_open (drop i ps))

module _ {s : List ℕ} {ps : List Pending} {i : ℕ} (x : Next s ps i) where
  flag : get_or s (21 + i * 20) 0 ≡ to_bit x.entry.acknowledged
  flag = let k : 21 + i * 20 ≡ 10 + i * 20 + 11 = omega arith in ap (λ (j : ℕ). get_or s j 0) k ∙ flag_at s (10 + i * 20) x.entry x.more x.lies

  open_is : get_or s (21 + i * 20) 0 ≡ 0 → x.entry.acknowledged ≡ false
  open_is e = by x.entry.acknowledged refl
    where
      by : (b : Bool) → x.entry.acknowledged ≡ b → x.entry.acknowledged ≡ false
      by true q = absurd (let z : to_bit x.entry.acknowledged ≡ 1 = rw q in omega (arith, flag))
      by false q = q

  closed_is : (get_or s (21 + i * 20) 0 ≡ 0 → ⊥) → x.entry.acknowledged ≡ true
  closed_is e = by x.entry.acknowledged refl
    where
      by : (b : Bool) → x.entry.acknowledged ≡ b → x.entry.acknowledged ≡ true
      by true q = q
      by false q = absurd (let z : to_bit x.entry.acknowledged ≡ 0 = rw q in e (flag ∙ z))

  -- one that is open gives its bytes
  pub open_turn : get_or s (21 + i * 20) 0 ≡ 0 → opened i ps ≡ (four.write x.entry.rseq ++ two.write x.entry.code) ++ opened (i + 1) ps
  unfolding staying open_bytes
  open_turn e = rw (x.left, open_is e)

  -- six of them
  pub open_long : get_or s (21 + i * 20) 0 ≡ 0 → length (opened i ps) ≡ 6 + length (opened (i + 1) ps)
  open_long e = ap length (open_turn e) ∙ length-append (four.write x.entry.rseq ++ two.write x.entry.code) (opened (i + 1) ps)

  -- an acknowledged one gives none
  pub closed_turn : (get_or s (21 + i * 20) 0 ≡ 0 → ⊥) → opened i ps ≡ opened (i + 1) ps
  unfolding staying open_bytes
  closed_turn e = rw (x.left, closed_is e)

-- none is left
pub open_end : (i : ℕ) (ps : List Pending) → i ≡ length ps → opened i ps ≡ []
unfolding staying open_bytes
open_end i ps e = rw (e, drop-length ps)

-- ---- the bytes written so far

pub record Opening (ps : List Pending) (out₀ : List ℕ) (i to : ℕ) (out : List ℕ) : Type 0 where
  pub written : List ℕ
  pub all : written ++ opened i ps ≡ opened 0 ps
  pub wrote : Wrote 0 written out₀ to out

-- nothing written yet
pub opening : (ps : List Pending) (out : List ℕ) → Opening ps out 0 0 out
opening ps out = record { written = []; all = refl; wrote = (refl, refl) }

module _ {s : List ℕ} {ps : List Pending} {out₀ out : List ℕ} {i to : ℕ} (g : Opening ps out₀ i to out) (x : Next s ps i) where
  -- an open entry has room where all have
  pub open_room : get_or s (21 + i * 20) 0 ≡ 0 → to + 6 ≤ length (opened 0 ps)
  open_room e =
      omega (arith, g.wrote.0, ap length g.all, length-append g.written (opened i ps), open_long x e)

  -- its bytes written
  pub open_more : get_or s (21 + i * 20) 0 ≡ 0 → {r : ℕ} {o : List ℕ} → r ≡ to + 6 → o ≡ put_at to (four.write x.entry.rseq ++ two.write x.entry.code) out → Opening ps out₀ (i + 1) r o
  open_more e q u =
      let six : List ℕ = four.write x.entry.rseq ++ two.write x.entry.code in
      record {
        written = g.written ++ six;
        all = append_assoc g.written six (opened (i + 1) ps) ∙ ap (λ (l : List ℕ). g.written ++ l) (sym (open_turn x e)) ∙ g.all;
        wrote = wrote_then 0 g.written six out₀ (omega arith) g.wrote (q, u);
      }

  -- an acknowledged entry passed over
  pub open_less : (get_or s (21 + i * 20) 0 ≡ 0 → ⊥) → Opening ps out₀ (i + 1) to out
  open_less e = record { written = g.written; all = ap (λ (l : List ℕ). g.written ++ l) (sym (closed_turn x e)) ∙ g.all; wrote = g.wrote }

-- all are written
pub open_done : {ps : List Pending} {out₀ out : List ℕ} {i to : ℕ} → Opening ps out₀ i to out → i ≡ length ps → (to ≡ length (opened 0 ps)) × (out ≡ over (opened 0 ps) out₀)
open_done {ps} {out₀} {out} {i} {to} g e =
    let w : g.written ≡ opened 0 ps = sym (append-nil g.written) ∙ ap (λ (l : List ℕ). g.written ++ l) (sym (open_end i ps e)) ∙ g.all in
    let k : 0 + length (opened 0 ps) ≡ length (opened 0 ps) = omega arith in
    (omega (arith, g.wrote.0, ap length w), g.wrote.1 ∙ ap (λ (l : List ℕ). put_at 0 l out₀) w ∙ ap (λ (j : ℕ). opened 0 ps ++ drop j out₀) k)

-- ---- a turn over the bytes of whole entries

module _ {s : List ℕ} {ps : List Pending} {i : ℕ} (x : Next s ps i) {left : List ℕ} (l : left ≡ drop (10 + i * 20) s) (a b : List ℕ) (e : left ≡ a ++ b) (k : length a ≡ 20) where
  -- the bytes are those of the entry
  chunk_is : a ≡ pending_form.write x.entry
  chunk_is = sym (take_at a b 20 k) ∙ ap (take 20) (sym e ∙ l ∙ x.lies)

  chunk_flag : get_or s (21 + i * 20) 0 ≡ get_or a 11 0
  chunk_flag = flag x ∙ sym (ap (λ (z : List ℕ). get_or z 11 0) chunk_is)

-- the entries before those left are looked at, and those that are open are written
pub record Written (s out₀ left : List ℕ) (to : ℕ) (out : List ℕ) : Type 0 where
  pub turns : ℕ
  pub are : left ≡ drop (10 + turns * 20) s
  pub few : turns ≤ (length s - 10) / 20
  pub long : length out ≡ length out₀
  pub opens : (L : LimitSet) (t : Tracked) → Holds L s (length s) t → Opening (entries_of t.list) out₀ turns to out

pub writing : (s out : List ℕ) {left : List ℕ} → left ≡ drop 10 s → Written s out left 0 out
writing s out e = record { turns = 0; are = e; few = omega arith; long = refl; opens = λ L t h. opening (entries_of t.list) out }

module _ {s out₀ left : List ℕ} {to : ℕ} {out : List ℕ} (g : Written s out₀ left to out) (a b : List ℕ) (e : left ≡ a ++ b) (k : length a ≡ 20) where
  one_more : g.turns < (length s - 10) / 20
  one_more = omega (arith, ap length g.are, ap length e, length-append a b, length-drop (10 + g.turns * 20) s)

  others : b ≡ drop (10 + (g.turns + 1) * 20) s
  others =
      let p : 10 + g.turns * 20 + 20 ≡ 10 + (g.turns + 1) * 20 = omega arith in
      sym (drop_at a b 20 k) ∙ ap (drop 20) (sym e ∙ g.are) ∙ drop-drop 20 (10 + g.turns * 20) s ∙ ap (λ (z : ℕ). drop z s) p

  -- an open entry has room where all have
  pub room_there : (L : LimitSet) (t : Tracked) → Holds L s (length s) t → get_or a 11 0 ≡ 0 → to + 6 ≤ length (open_bytes (open_in t.list))
  room_there L t h f = let x = next_entry h g.turns one_more in open_room (g.opens L t h) x (chunk_flag x g.are a b e k ∙ f)

  -- its bytes written
  pub wrote_one : get_or a 11 0 ≡ 0 → {r : ℕ} {o : List ℕ} → r ≡ to + 6 → length o ≡ length out → ((p : Pending) → a ≡ pending_form.write p → o ≡ put_at to (four.write p.rseq ++ two.write p.code) out) → Written s out₀ b r o
  wrote_one f q n w = record {
    turns = g.turns + 1;
    are = others;
    few = omega (arith, one_more);
    long = n ∙ g.long;
    opens = λ L t h. let x = next_entry h g.turns one_more in open_more (g.opens L t h) x (chunk_flag x g.are a b e k ∙ f) q (w x.entry (chunk_is x g.are a b e k));
  }

  -- an acknowledged one passed over
  pub passed_one : (get_or a 11 0 ≡ 0 → ⊥) → {r : ℕ} {o : List ℕ} → r ≡ to → o ≡ out → Written s out₀ b r o
  passed_one f {r} {o} q u = record {
    turns = g.turns + 1;
    are = others;
    few = omega (arith, one_more);
    long = ap length u ∙ g.long;
    opens = λ L t h.
        let x = next_entry h g.turns one_more in
        subst (λ (m : ℕ). Opening (entries_of t.list) out₀ (g.turns + 1) m o) (sym q)
        (subst (λ (z : List ℕ). Opening (entries_of t.list) out₀ (g.turns + 1) to z) (sym u) (open_less (g.opens L t h) x (λ z. f (sym (chunk_flag x g.are a b e k) ∙ z))));
  }

-- none is left
pub all_written : {s out₀ left : List ℕ} {to : ℕ} {out : List ℕ} → 10 ≤ length s → Written s out₀ left to out → length left < 20
    → (L : LimitSet) (t : Tracked) → Holds L s (length s) t → (to ≡ length (open_bytes (open_in t.list))) × (out ≡ over (open_bytes (open_in t.list)) out₀)
all_written {s} l g h L t w = open_done (g.opens L t w) (omega (arith, entry_count w, ap length g.are, length-drop (10 + g.turns * 20) s, g.few))

-- ---- how many bytes

-- the entries before those left are looked at, and the bytes of those that are open are counted
pub record Counted (s left : List ℕ) (size : ℕ) : Type 0 where
  pub turns : ℕ
  pub are : left ≡ drop (10 + turns * 20) s
  pub few : turns ≤ (length s - 10) / 20
  pub short : size ≤ turns * 6
  pub sums : (L : LimitSet) (t : Tracked) → Holds L s (length s) t → size + length (opened turns (entries_of t.list)) ≡ length (open_bytes (open_in t.list))

module _ {s left : List ℕ} {size : ℕ} (g : Counted s left size) (a b : List ℕ) (e : left ≡ a ++ b) (k : length a ≡ 20) where
  turn_more : g.turns < (length s - 10) / 20
  turn_more = omega (arith, ap length g.are, ap length e, length-append a b, length-drop (10 + g.turns * 20) s)

  left_are : b ≡ drop (10 + (g.turns + 1) * 20) s
  left_are =
      let p : 10 + g.turns * 20 + 20 ≡ 10 + (g.turns + 1) * 20 = omega arith in
      sym (drop_at a b 20 k) ∙ ap (drop 20) (sym e ∙ g.are) ∙ drop-drop 20 (10 + g.turns * 20) s ∙ ap (λ (z : ℕ). drop z s) p

  -- an open entry counted
  pub counted_one : get_or a 11 0 ≡ 0 → Counted s b (size + 6)
  counted_one f = record {
    turns = g.turns + 1;
    are = left_are;
    few = omega (arith, turn_more);
    short = omega (arith, g.short);
    sums = λ L t h. let x = next_entry h g.turns turn_more in omega (arith, g.sums L t h, open_long x (chunk_flag x g.are a b e k ∙ f));
  }

  -- an acknowledged one left out
  pub left_out : (get_or a 11 0 ≡ 0 → ⊥) → Counted s b size
  left_out f = record {
    turns = g.turns + 1;
    are = left_are;
    few = omega (arith, turn_more);
    short = omega (arith, g.short);
    sums = λ L t h. let x = next_entry h g.turns turn_more in omega (arith, g.sums L t h, ap length (closed_turn x (λ z. f (sym (chunk_flag x g.are a b e k) ∙ z))));
  }

-- none is left
pub all_counted : {s left : List ℕ} {size : ℕ} → 10 ≤ length s → Counted s left size → length left < 20
    → (L : LimitSet) (t : Tracked) → Holds L s (length s) t → size ≡ length (open_bytes (open_in t.list))
all_counted {s} {left} {size} l g h L t w =
    omega (arith, g.sums L t w, ap length (open_end g.turns (entries_of t.list) (omega (arith, entry_count w, ap length g.are, length-drop (10 + g.turns * 20) s, g.few))))

-- ---- one entry's bytes

-- the bytes of RSeq and code are those that lie in the entry
rseq_bytes : (p : Pending) → take 4 (pending_form.write p) ≡ four.write p.rseq
rseq_bytes p = refl

code_bytes : (p : Pending) → take 2 (drop 9 (pending_form.write p)) ≡ two.write p.code
code_bytes p = refl

-- they are put one after another
pub put_six : (to : ℕ) (out entry : List ℕ) (p : Pending) {m n : List ℕ} → to + 6 ≤ length out → entry ≡ pending_form.write p → m ≡ put_at to (take 4 entry) out
    → n ≡ put_at (to + 4) (take 2 (drop 9 entry)) m → n ≡ put_at to (four.write p.rseq ++ two.write p.code) out
put_six to out entry p {m} {n} l e u v =
    let a : m ≡ put_at to (four.write p.rseq) out = u ∙ ap (λ (x : List ℕ). put_at to x out) (ap (take 4) e ∙ rseq_bytes p) in
    let b : n ≡ put_at (to + 4) (two.write p.code) m = v ∙ ap (λ (x : List ℕ). put_at (to + 4) x m) (ap (λ (x : List ℕ). take 2 (drop 9 x)) e ∙ code_bytes p) in
    (wrote_then to (four.write p.rseq) (two.write p.code) out (omega arith) (refl, a) (refl, b)).1
