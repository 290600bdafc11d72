-- The ways out of the two calls. Assumes nothing.
use Prim.Native.Nat.{ℕ, ◌+◌, ◌-◌, ◌*◌, ◌≤◌, ◌<◌, max}
use native.Mathlib.Nat.{sub-zero}
use native.Mathlib.Omega.{arith}
use mathlib.Core.Path.{◌≡◌, refl, sym, ap, ap₂, ◌∙◌}
use mathlib.Core.List.{List, [], ◌∷◌, ◌++◌}
use lib.ListN.{length, take, drop, length-append, length-drop, take-append-drop}
use lib.Seq.{length-take-le}
use borrow.Author.Tests.{lt-ltb, le-ltb}
use Rattle.std.specs.Prelude.{ok_or, Err, None, Ok, Option, Result, Some, MatchResult, IsOkAnd, ◌⊎◌}
use Rattle.std.specs.Slice.{IsGetRangeResult}
use Rattle.std.proofs.Common.{inl, inr}
use denote.Bor.{Bor}
use Rattle.limits.specs.declared.Refusal.{Refusal}
use Rattle.limits.specs.Outcome.{and_then, or_refuse}
use Rattle.limits.specs.declared.Refusal.TheVariants.{BadStore, NoRoom}
use Rattle.edit.specs.Edit.{put_at, over}
use Rattle.std.proofs.lemmas.List.{drop-take}
use Rattle.output.specs.Output.{fitted}
use Rattle.output.proofs.OutputLaws.{put_first, put_next}
use Rattle.worst_minute.specs.Minute.{Verdict, worst_at, worst, taken_after, last_ones, rises_from}
use Rattle.worst_minute.specs.Layout.{entry_bytes, entries_in, encode_run, decode_run}
use Rattle.worst_minute.specs.Calls.{read_run, last_time, with_verdict, added, worst_in}
use Rattle.worst_minute.specs.Answers.{last_of, some_worst}
use Rattle.worst_minute.proofs.NumberLaws.{Bytes, bytes_take}
use Rattle.worst_minute.proofs.LayoutLaws.{length_entry, encode_append, encode_one, drop_encode}
use Rattle.worst_minute.proofs.ReadLaws.{Decoded, decoded, run_length, run_short, run_bytes}

-- ---- reading the run

pub read_over : (bytes : List ℕ) (used : ℕ) → length bytes < used → read_run bytes used ≡ Err BadStore
read_over bytes used h = rw (lt-ltb (length bytes) used h)

pub read_within : (bytes : List ℕ) (used : ℕ) → used ≤ length bytes → read_run bytes used ≡ or_refuse BadStore (decode_run (take used bytes))
read_within bytes used h = rw (le-ltb (length bytes) used h)

-- ---- the used bytes of those that are lent, by `get` and `ok_or`

pub lent_none : (bytes : List ℕ) (used : ℕ) (o : Option (Bor (List ℕ))) {x cause : Refusal} {r : Result (Bor (List ℕ)) Refusal} → IsGetRangeResult bytes 0 used o → r ≡ ok_or o x → r ≡ Err cause
    → (length bytes < used) × (cause ≡ x)
lent_none bytes used None {x} {cause} g e h =
    let q : ◌≡◌ {A = Result (Bor (List ℕ)) Refusal} (Err cause) (Err x) = sym h ∙ e in
    (over g.0, cc)
  where
    over : (used < 0) ⊎ (length bytes < used) → length bytes < used
    over (inl i) = absurd (omega arith)
    over (inr i) = i
lent_none bytes used (Some s) {x} {cause} g e h =
    let q : ◌≡◌ {A = Result (Bor (List ℕ)) Refusal} (Err cause) (Ok s) = sym h ∙ e in
    absurd (let z : ◌≡◌ {A = ℕ} 0 1 = cc in omega arith)

pub lent_some : (bytes : List ℕ) (used : ℕ) (o : Option (Bor (List ℕ))) (x : Refusal) {r : Result (Bor (List ℕ)) Refusal} {s : Bor (List ℕ)} → IsGetRangeResult bytes 0 used o → r ≡ ok_or o x → r ≡ Ok s
    → (used ≤ length bytes) × (s.now ≡ take used bytes)
lent_some bytes used None x {r} {s} g e h =
    let q : ◌≡◌ {A = Result (Bor (List ℕ)) Refusal} (Ok s) (Err x) = sym h ∙ e in
    absurd (let z : ◌≡◌ {A = ℕ} 0 1 = cc in omega arith)
lent_some bytes used (Some t) x {r} {s} g e h =
    let q : ◌≡◌ {A = Result (Bor (List ℕ)) Refusal} (Ok s) (Ok t) = sym h ∙ e in
    let k : s ≡ t = cc in
    (g.0.1, ap (λ (b : Bor (List ℕ)). b.now) k ∙ g.0.2 ∙ ap (λ n. take n bytes) (sub-zero used))

-- ---- `worst_minute`

-- what `count` answers, by `map`, of which `Q` is what is said of `Some`
pub some_by : {Q : ℕ × ℕ → Option (ℕ × ℕ) → Type 0} (o : Result (ℕ × ℕ) Refusal) (r : Result (Option (ℕ × ℕ)) Refusal) → MatchResult o (λ m. IsOkAnd r (Q m)) (λ e. r ≡ Err e)
    → ((m : ℕ × ℕ) (y : Option (ℕ × ℕ)) → Q m y → y ≡ Some m) → r ≡ some_worst o
some_by (Ok m) (Ok y) h q = ap Ok (q m y h)
some_by (Ok m) (Err e) h q = absurd h
some_by (Err e) r h q = h

module _ (bytes : List ℕ) (used : ℕ) where
  pub worst_over : length bytes < used → worst_in bytes used ≡ Err BadStore
  unfolding worst_in
  worst_over h = ap (λ o. and_then o (λ vs. Ok (worst vs))) (read_over bytes used h)

  pub worst_within : used ≤ length bytes → worst_in bytes used ≡ and_then (or_refuse BadStore (decode_run (take used bytes))) (λ vs. Ok (worst vs))
  unfolding worst_in
  worst_within h = ap (λ o. and_then o (λ vs. Ok (worst vs))) (read_within bytes used h)

-- no bytes are the empty run
pub worst_empty : (bytes : List ℕ) → and_then (or_refuse BadStore (decode_run (take 0 bytes))) (λ vs. Ok (worst vs)) ≡ Ok None
unfolding decode_run rises_from entries_in worst_at
worst_empty bytes = refl

-- ---- `add_verdict`

-- the run that was read, by its last time
pub record LastIs (s : List ℕ) (last : ℕ) : Type 0 where
  pub run : List Verdict
  pub is : decode_run s ≡ Some run
  pub last_is : last_time 0 run ≡ last

-- what a refusal for want of a value says
pub refused : (o : Option ℕ) {x cause : Refusal} {r : Result ℕ Refusal} → r ≡ ok_or o x → r ≡ Err cause → (o ≡ None) × (cause ≡ x)
refused None {x} {cause} e h = let q : ◌≡◌ {A = Result ℕ Refusal} (Err cause) (Err x) = sym h ∙ e in (refl, cc)
refused (Some n) {x} {cause} e h =
    let q : ◌≡◌ {A = Result ℕ Refusal} (Err cause) (Ok n) = sym h ∙ e in
    absurd (let z : ◌≡◌ {A = ℕ} 0 1 = cc in omega arith)

pub last_read : (s : List ℕ) (last : ℕ) → last_of (decode_run s) ≡ Some last → LastIs s last
last_read s last e = by (decode_run s) refl e
  where
    by : (o : Option (List Verdict)) → decode_run s ≡ o → last_of o ≡ Some last → LastIs s last
    by None p e = absurd (let n : ◌≡◌ {A = ℕ} 0 1 = cc in omega arith)
    by (Some vs) p e = record { run = vs; is = p; last_is = cc }

none_read : (s : List ℕ) → last_of (decode_run s) ≡ None → decode_run s ≡ None
none_read s e = by (decode_run s) e
  where
    by : (o : Option (List Verdict)) → last_of o ≡ None → o ≡ None
    by None e = refl
    by (Some vs) e = absurd (let n : ◌≡◌ {A = ℕ} 0 1 = cc in omega arith)

-- one that isn't full has room for an entry
pub not_full : (bytes : List ℕ) (used : ℕ) → used ≤ length bytes → {last : ℕ} → LastIs (take used bytes) last → (used ≡ 36864 → ⊥) → used < 36864
not_full bytes used h l n =
    let d = decoded (take used bytes) l.run l.is in
    omega (arith, run_length d, run_short d, length-take-le used bytes h, n)

module _ (v : Verdict) (bytes : List ℕ) (used : ℕ) where
  pub added_over : length bytes < used → added v bytes used ≡ Err BadStore
  unfolding added
  added_over h = ap (λ o. and_then o (λ vs. fitted (length bytes) (encode_run (with_verdict v vs)))) (read_over bytes used h)

  module _ (h : used ≤ length bytes) where
    added_to : (o : Option (List Verdict)) → decode_run (take used bytes) ≡ o → added v bytes used ≡ and_then (or_refuse BadStore o) (λ vs. fitted (length bytes) (encode_run (with_verdict v vs)))
    unfolding added
    added_to o e = ap (λ o. and_then o (λ vs. fitted (length bytes) (encode_run (with_verdict v vs)))) (read_within bytes used h ∙ ap (or_refuse BadStore) e)

    pub added_broken : last_of (decode_run (take used bytes)) ≡ None → added v bytes used ≡ Err BadStore
    added_broken e = added_to None (none_read (take used bytes) e)

    used_long : length (take used bytes) ≡ used
    used_long = length-take-le used bytes h

    module _ (b : Bytes bytes) {last : ℕ} (l : LastIs (take used bytes) last) {t : ℕ} (p : t ≡ max last v.time) where
      abbrev entry : Verdict
      entry = record { time = t; number = v.number }

      d : Decoded (take used bytes) l.run
      d = decoded (take used bytes) l.run l.is

      as_taken : taken_after (last_time 0 l.run) v ≡ entry
      as_taken = ap (λ n. record { time = n; number = v.number }) (ap (λ m. max m v.time) l.last_is ∙ sym p)

      bytes_are : encode_run l.run ≡ take used bytes
      bytes_are = run_bytes d (bytes_take used bytes b)

      many : used ≡ length l.run * 9
      many = sym used_long ∙ run_length d

      one_longer : length (l.run ++ (entry ∷ [])) ≡ length l.run + 1
      one_longer = length-append l.run (entry ∷ [])

      abbrev dropping : ℕ → List Verdict
      dropping n = drop n (l.run ++ (entry ∷ []))

      new_run : with_verdict v l.run ≡ dropping (length l.run + 1 - 4096)
      new_run = ap (λ x. last_ones (l.run ++ (x ∷ []))) as_taken ∙ ap (λ n. dropping (n - 4096)) one_longer

      -- the bytes of the run with the entry
      appended : encode_run (l.run ++ (entry ∷ [])) ≡ take used bytes ++ entry_bytes entry
      appended = encode_append l.run (entry ∷ []) ∙ ap₂ (λ x y. x ++ y) bytes_are (encode_one entry)

      -- ---- a run that isn't full

      module _ (few : used < 36864) where
        not_cut : encode_run (with_verdict v l.run) ≡ take used bytes ++ entry_bytes entry
        not_cut =
            let n : length l.run + 1 - 4096 ≡ 0 = omega (arith, many) in
            ap encode_run (new_run ∙ ap dropping n) ∙ appended

        new_length : length (take used bytes ++ entry_bytes entry) ≡ used + 9
        new_length = omega (arith, length-append (take used bytes) (entry_bytes entry), used_long, length_entry entry)

        pub no_room : length bytes - used < 9 → added v bytes used ≡ Err NoRoom
        no_room q = added_to (Some l.run) l.is ∙ ap (fitted (length bytes)) not_cut ∙ rw (lt-ltb (length bytes) (length (take used bytes ++ entry_bytes entry)) (omega (arith, new_length)))

        module _ (q : 9 ≤ length bytes - used) where
          pub fits : added v bytes used ≡ Ok (take used bytes ++ entry_bytes entry)
          fits = added_to (Some l.run) l.is ∙ ap (fitted (length bytes)) not_cut ∙ rw (le-ltb (length bytes) (length (take used bytes ++ entry_bytes entry)) (omega (arith, new_length)))

          pub fits_length : used + 9 ≡ length (take used bytes ++ entry_bytes entry)
          fits_length = sym new_length

          pub fits_bytes : {after : List ℕ} → after ≡ put_at used (entry_bytes entry) bytes → after ≡ over (take used bytes ++ entry_bytes entry) bytes
          fits_bytes e =
              let same : over (take used bytes) bytes ≡ bytes = ap (λ n. take used bytes ++ drop n bytes) used_long ∙ take-append-drop used bytes in
              e ∙ ap (put_at used (entry_bytes entry)) (sym same) ∙ put_next (take used bytes) (entry_bytes entry) bytes used used_long

      -- ---- a full one: the oldest is dropped

      module _ (full : used ≡ 36864) where
        front_is : drop 9 (take used bytes) ≡ take 36855 (drop 9 bytes)
        front_is = ap (λ n. drop 9 (take n bytes)) full ∙ drop-take 9 36855 bytes

        cut : encode_run (with_verdict v l.run) ≡ take 36855 (drop 9 bytes) ++ entry_bytes entry
        cut =
            let n : length l.run + 1 - 4096 ≡ 1 = omega (arith, many) in
            ap encode_run (new_run ∙ ap dropping n) ∙ by l.run refl ∙ ap (λ x. x ++ entry_bytes entry) (ap (drop 9) bytes_are ∙ front_is)
          where
            by : (vs : List Verdict) → l.run ≡ vs → encode_run (drop 1 (l.run ++ (entry ∷ []))) ≡ drop 9 (encode_run l.run) ++ entry_bytes entry
            by [] e = absurd (omega (arith, many, ap length e))
            by (u ∷ vs) e =
                ap (λ x. encode_run (drop 1 (x ++ (entry ∷ [])))) e
                ∙ encode_append vs (entry ∷ [])
                ∙ ap₂ (λ x y. x ++ y) (sym (drop_encode u vs) ∙ ap (λ x. drop 9 (encode_run x)) (sym e)) (encode_one entry)

        front_long : length (take 36855 (drop 9 bytes)) ≡ 36855
        front_long = length-take-le 36855 (drop 9 bytes) (simp length-drop (omega arith))

        cut_length_lem : length (take 36855 (drop 9 bytes) ++ entry_bytes entry) ≡ 36864
        cut_length_lem = omega (arith, length-append (take 36855 (drop 9 bytes)) (entry_bytes entry), front_long, length_entry entry)

        pub drops : added v bytes used ≡ Ok (take 36855 (drop 9 bytes) ++ entry_bytes entry)
        drops = added_to (Some l.run) l.is ∙ ap (fitted (length bytes)) cut ∙ rw (le-ltb (length bytes) (length (take 36855 (drop 9 bytes) ++ entry_bytes entry)) (omega (arith, cut_length_lem)))

        pub drops_length : used ≡ length (take 36855 (drop 9 bytes) ++ entry_bytes entry)
        drops_length = full ∙ sym cut_length_lem

        pub drops_bytes : {moved after : List ℕ} → moved ≡ put_at 0 (take 36855 (drop 9 bytes)) bytes → after ≡ put_at 36855 (entry_bytes entry) moved → after ≡ over (take 36855 (drop 9 bytes) ++ entry_bytes entry) bytes
        drops_bytes e f = f ∙ ap (put_at 36855 (entry_bytes entry)) (e ∙ put_first (take 36855 (drop 9 bytes)) bytes) ∙ put_next (take 36855 (drop 9 bytes)) (entry_bytes entry) bytes 36855 front_long
