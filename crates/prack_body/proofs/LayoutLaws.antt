-- The bytes of what is held for one identifier text are exact, and their sizes. Assumes nothing.
use Prim.Native.Nat.{ℕ, zero, suc, ◌*◌, ◌≤◌, ◌<◌}
use native.Mathlib.Omega.{arith}
use mathlib.Core.Path.{◌≡◌, refl, sym, ap, subst, ◌∙◌}
use mathlib.Core.Bool.{Bool, true, false, ◌&&◌, and-false, false≢true}
use mathlib.Core.List.{List, [], ◌∷◌, ◌++◌}
use lib.ListN.{length}
use lib.Dec.{leb}
use borrow.Author.Tests.{leb-true}
use Rattle.std.specs.Prelude.{None, Option, Some}
use Rattle.limits.specs.Limits.{LimitSet}
use Rattle.codec.specs.Codec.{Reading, Codec, Pair, renamed, write_all}
use Rattle.codec.proofs.CodecLaws.{Bytes, bytes_after, no_reading, Exact, byte_exact, two_exact, four_exact, eight_exact, text_exact, then_exact, such_exact, mapped_exact, counted_exact, GoodAll}
use Rattle.methods.specs.Methods.{is_method}
use Rattle.prack_body.specs.Lists.{Pending, Tracked, entries_of}
use Rattle.prack_body.specs.Layout.{is_bit, from_bit, to_bit, bit, option_after, read_option, optional, Parts, pending_from, pending_parts, pending_form, PendingFormed, is_short, tracked_from, tracked_parts, tracked_form, AllFormed, ListFormed, TrackedFormed, TrackedWhole}

-- ---- a byte 0 or 1

bit_there : (b : Bool) → Unit {0} → (from_bit (to_bit b) ≡ b) × ((to_bit b < 256) × (is_bit (to_bit b) ≡ true))
bit_there true u = (refl, (omega arith, refl))
bit_there false u = (refl, (omega arith, refl))

bit_again : (n : ℕ) → (n < 256) × (is_bit n ≡ true) → (to_bit (from_bit n) ≡ n) × Unit {0}
bit_again zero g = (refl, tt)
bit_again (suc zero) g = (refl, tt)
bit_again (suc (suc n)) g = let l : suc (suc n) ≤ 1 = leb-true _ _ g.1 in absurd (omega arith)

-- any flag
pub bit_exact : Exact bit (λ b. Unit {0})
bit_exact = mapped_exact (such_exact byte_exact is_bit) (λ b. Unit {0}) from_bit to_bit bit_there bit_again

-- ---- a value that may be absent

abbrev pub GoodOption : {A : Type 0} → (A → Type 0) → Option A → Type 0
GoodOption G None = Unit {0}
GoodOption G (Some a) = G a

module _ {A : Type 0} {c : Codec A} {G : A → Type 0} (x : Exact c G) where
  option_round : (o : Option A) → GoodOption G o → (rest : List ℕ) → (optional c).read ((optional c).write o ++ rest) ≡ Some (record { value = o; rest = rest })
  option_round None g rest = refl
  option_round (Some a) g rest = rw (x.round a g rest)

  by_value : (s : List ℕ) (t : List ℕ) (o : Option (Reading A)) (r : Reading (Option A)) → Bytes t → s ≡ 1 ∷ t → c.read t ≡ o → renamed Some o ≡ Some r
      → (s ≡ (optional c).write r.value ++ r.rest) × GoodOption G r.value
  by_value s t None r h e k q = absurd (no_reading q)
  by_value s t (Some a) r h e k q =
      let m : record { value = Some a.value; rest = a.rest } ≡ r = cc in
      let l = x.back t a h k in
      subst (λ (z : Reading (Option A)). (s ≡ (optional c).write z.value ++ z.rest) × GoodOption G z.value) m (e ∙ ap (λ (u : List ℕ). 1 ∷ u) l.0, l.1)

  by_flag : (s : List ℕ) (b : Bool) (t : List ℕ) (r : Reading (Option A)) → Bytes t → s ≡ to_bit b ∷ t → option_after c b t ≡ Some r → (s ≡ (optional c).write r.value ++ r.rest) × GoodOption G r.value
  by_flag s true t r h e q = by_value s t (c.read t) r h e refl q
  by_flag s false t r h e q =
      let m : record { value = None; rest = t } ≡ r = cc in
      subst (λ (z : Reading (Option A)). (s ≡ (optional c).write z.value ++ z.rest) × GoodOption G z.value) m (e, tt)

  by_bit : (s : List ℕ) (o : Option (Reading Bool)) (r : Reading (Option A)) → Bytes s → bit.read s ≡ o → read_option c o ≡ Some r → (s ≡ (optional c).write r.value ++ r.rest) × GoodOption G r.value
  by_bit s None r h e q = absurd (no_reading q)
  by_bit s (Some b) r h e q =
      let k = bit_exact.back s b h e in
      by_flag s b.value b.rest r (bytes_after (to_bit b.value ∷ []) b.rest (subst Bytes k.0 h)) k.0 q

  -- exact where the form of the value is
  pub optional_exact : Exact (optional c) (GoodOption G)
  optional_exact = record { round = option_round; back = λ s r h e. by_bit s (bit.read s) r h refl e }

-- ---- an entry

abbrev PartsFormed : Parts → Type 0
PartsFormed p =
    (p.first < 4294967296)
    × ((p.second.first < 4294967296)
    × (((p.second.second.first < 256) × (is_method p.second.second.first ≡ true))
    × ((p.second.second.second.first < 65536) × (Unit {0} × (p.second.second.second.second.second < 18446744073709551616)))))

-- a method's number is a byte
pub method_small : (m : ℕ) → is_method m ≡ true → m < 256
method_small m e = by (leb m 14) refl
  where
    by : (t : Bool) → leb m 14 ≡ t → m < 256
    by true t = let l : m ≤ 14 = leb-true _ _ t in omega arith
    by false t = absurd (false≢true (sym (and-false (leb 1 m)) ∙ ap (λ (b : Bool). leb 1 m && b) (sym t) ∙ e))

pending_there : (p : Pending) → PendingFormed p → (pending_from (pending_parts p) ≡ p) × PartsFormed (pending_parts p)
pending_there p g = (refl, (g.rseq_fits, (g.cseq_fits, ((method_small p.method g.method_known, g.method_known), (g.code_fits, (tt, g.time_fits))))))

pending_again : (p : Parts) → PartsFormed p → (pending_parts (pending_from p) ≡ p) × PendingFormed (pending_from p)
pending_again p g = (refl, record { rseq_fits = g.0; cseq_fits = g.1.0; method_known = g.1.1.0.1; code_fits = g.1.1.1.0; time_fits = g.1.1.1.1.1 })

-- the entries that are formed
pub pending_exact : Exact pending_form PendingFormed
pending_exact =
    mapped_exact
    (then_exact four_exact (then_exact four_exact (then_exact (such_exact byte_exact is_method) (then_exact two_exact (then_exact bit_exact eight_exact)))))
    PendingFormed
    pending_from
    pending_parts
    pending_there
    pending_again

-- ---- a list, and what is held

-- one by one, said in two ways
pub all_formed : (ps : List Pending) → GoodAll PendingFormed ps → AllFormed ps
all_formed [] g = tt
all_formed (p ∷ ps) g = (g.0, all_formed ps g.1)

pub formed_all : (ps : List Pending) → AllFormed ps → GoodAll PendingFormed ps
formed_all [] g = tt
formed_all (p ∷ ps) g = (g.0, formed_all ps g.1)

module _ (L : LimitSet) where
  abbrev GoodList : List Pending → Type 0
  GoodList ps = (GoodAll PendingFormed ps × (length ps < 256)) × (is_short L ps ≡ true)

  list_there : (o : Option (List Pending)) → ListFormed L o → length (entries_of o) < 256 → GoodOption GoodList o
  list_there None g l = tt
  list_there (Some ps) g l = ((formed_all ps g.0, l), g.1)

  list_again : (o : Option (List Pending)) → GoodOption GoodList o → ListFormed L o × (length (entries_of o) < 256)
  list_again None g = (tt, omega arith)
  list_again (Some ps) g = ((all_formed ps g.0.0, g.1), g.0.1)

  tracked_there : (t : Tracked) → TrackedWhole L t → (tracked_from (tracked_parts t) ≡ t) × ((length t.id < 65536) × ((t.cleaned_at < 18446744073709551616) × GoodOption GoodList t.list))
  tracked_there t g = (refl, (g.0.id_short, (g.0.time_fits, list_there t.list g.0.list_formed g.1)))

  tracked_again : (p : Pair (List ℕ) (Pair ℕ (Option (List Pending)))) → (length p.first < 65536) × ((p.second.first < 18446744073709551616) × GoodOption GoodList p.second.second)
      → (tracked_parts (tracked_from p) ≡ p) × TrackedWhole L (tracked_from p)
  tracked_again p g = let l = list_again p.second.second g.1.1 in (refl, (record { id_short = g.0; time_fits = g.1.0; list_formed = l.0 }, l.1))

  -- what is held, if it is formed and its entries can be counted
  pub whole_exact : Exact (tracked_form L) (TrackedWhole L)
  whole_exact =
      mapped_exact
      (then_exact text_exact (then_exact eight_exact (optional_exact (such_exact (counted_exact pending_exact) (is_short L)))))
      (TrackedWhole L)
      tracked_from
      tracked_parts
      tracked_there
      tracked_again

  module _ (few : L.pending < 256) where
    counts : (o : Option (List Pending)) → ListFormed L o → length (entries_of o) < 256
    counts None g = omega arith
    counts (Some ps) g = let l : length ps ≤ L.pending = leb-true _ _ g.1 in omega arith

    -- where a list has few entries: if it is formed
    pub tracked_exact : Exact (tracked_form L) (TrackedFormed L)
    tracked_exact = record {
      round = λ t g. whole_exact.round t (g, counts t.list g.list_formed);
      back = λ s r h e. let k = whole_exact.back s r h e in (k.0, k.1.0);
    }

-- ---- sizes

-- an entry has 20 bytes
pub entry_size_lem : (p : Pending) → length (pending_form.write p) ≡ 20
entry_size_lem p = refl

-- entries of 20 bytes
pub entries_size : (ps : List Pending) → length (write_all pending_form ps) ≡ 20 * length ps
unfolding write_all
entries_size [] = refl
entries_size (p ∷ ps) = omega (arith, entries_size ps)

-- one image takes a byte at least: two length bytes stand first
pub tracked_long : (L : LimitSet) (t : Tracked) → 1 ≤ length ((tracked_form L).write t)
tracked_long L t = omega arith
