-- The bytes of a run and its verdicts: each gives the other back. Assumes nothing.
use Prim.Native.Nat.{ℕ, zero, suc, ◌+◌, ◌*◌, ◌/◌, ◌%◌, ◌≤◌, ◌<◌}
use native.Mathlib.Nat.{zero-add}
use native.Mathlib.Omega.{arith}
use mathlib.Core.Path.{◌≡◌, refl, sym, ap, ap₂, ◌∙◌}
use mathlib.Core.Bool.{true}
use mathlib.Core.List.{List, [], ◌∷◌, ◌++◌, append_assoc, append-nil}
use lib.ListN.{length, take, drop, get_or, length-append, length-drop, take-append-drop}
use lib.Seq.{take_at, drop_at, get_or_at, drop-drop, drop-cons, length-take-le}
use lib.Dec.{leb, eqb}
use borrow.Author.Tests.{eq-eqb, le-leb}
use Rattle.std.specs.Prelude.{Some}
use Rattle.worst_minute.specs.Minute.{Verdict, rises_from, most_verdicts}
use Rattle.worst_minute.specs.Layout.{value_of, bytes_of, entry_bytes, entry_in, entries_in, encode_run, verdicts_in, decode_run}
use Rattle.worst_minute.proofs.NumberLaws.{Bytes, bytes_take, bytes_drop, length_bytes, value_bytes, bytes_value}

-- ---- one entry

pub length_entry : (v : Verdict) → length (entry_bytes v) ≡ 9
length_entry v = omega (arith, length-append (bytes_of 8 v.time) (v.number ∷ []), length_bytes 8 v.time)

-- a time fits its eight bytes
abbrev pub Fits : Verdict → Type 0
Fits v = v.time < 18446744073709551616

same_verdict : {a b c d : ℕ} → a ≡ b → c ≡ d → ◌≡◌ {A = Verdict} (record { time = a; number = c }) (record { time = b; number = d })
same_verdict p q = ap₂ (λ x y. record { time = x; number = y }) p q

-- an entry's bytes are read as it
pub entry_round : (v : Verdict) (rest : List ℕ) → Fits v → entry_in (entry_bytes v ++ rest) ≡ v
entry_round v rest h =
    let e : entry_bytes v ++ rest ≡ bytes_of 8 v.time ++ (v.number ∷ rest) = append_assoc (bytes_of 8 v.time) (v.number ∷ []) rest in
    same_verdict (ap (λ s. value_of 0 (take 8 s)) e ∙ ap (value_of 0) (take_at (bytes_of 8 v.time) (v.number ∷ rest) 8 (length_bytes 8 v.time)) ∙ value_bytes 8 v.time h)
    (ap (λ s. get_or s 8 0) e ∙ get_or_at (bytes_of 8 v.time) v.number rest 0 8 (length_bytes 8 v.time))

-- and what was read was its bytes
pub entry_back : (s : List ℕ) → Bytes s → 9 ≤ length s → entry_bytes (entry_in s) ++ drop 9 s ≡ s
entry_back s h l =
    let k : length (take 8 s) ≡ 8 = length-take-le 8 s (omega arith) in
    let b : bytes_of 8 (value_of 0 (take 8 s)) ≡ take 8 s = ap (λ j. bytes_of j (value_of 0 (take 8 s))) (sym k) ∙ bytes_value (take 8 s) (bytes_take 8 s h) in
    append_assoc (bytes_of 8 (value_of 0 (take 8 s))) (get_or s 8 0 ∷ []) (drop 9 s)
    ∙ ap₂ (λ x y. x ++ y) b (sym (drop-cons s 8 0 (omega arith)))
    ∙ take-append-drop 8 s

-- ---- entries one after another

pub length_entries : (k : ℕ) (s : List ℕ) → length (entries_in k s) ≡ k
unfolding entries_in
length_entries zero s = refl
length_entries (suc k) s = ap suc (length_entries k (drop 9 s))

-- those from the i-th on
pub drop_entries : (i k : ℕ) (s : List ℕ) → drop i (entries_in (i + k) s) ≡ entries_in k (drop (i * 9) s)
unfolding entries_in
drop_entries zero k s = ap (λ m. entries_in m s) (zero-add k)
drop_entries (suc i) k s =
    let e : suc i + k ≡ suc (i + k) = omega arith in
    let m : 9 + i * 9 ≡ suc i * 9 = omega arith in
    let f : drop (i * 9) (drop 9 s) ≡ drop (suc i * 9) s = drop-drop (i * 9) 9 s ∙ ap (λ n. drop n s) m in
    ap (λ n. drop (suc i) (entries_in n s)) e ∙ drop_entries i k (drop 9 s) ∙ ap (entries_in k) f

-- the i-th
pub nth_entry : (i k : ℕ) (s : List ℕ) (d : Verdict) → i < k → get_or (entries_in k s) i d ≡ entry_in (drop (i * 9) s)
unfolding entries_in
nth_entry i zero s d h = absurd (omega arith)
nth_entry zero (suc k) s d h = refl
nth_entry (suc i) (suc k) s d h =
    let m : 9 + i * 9 ≡ suc i * 9 = omega arith in
    let f : drop (i * 9) (drop 9 s) ≡ drop (suc i * 9) s = drop-drop (i * 9) 9 s ∙ ap (λ n. drop n s) m in
    nth_entry i k (drop 9 s) d (omega arith) ∙ ap entry_in f

-- ---- a run's bytes

pub length_run : (vs : List Verdict) → length (encode_run vs) ≡ length vs * 9
unfolding encode_run
length_run [] = omega arith
length_run (v ∷ vs) = omega (arith, length-append (entry_bytes v) (encode_run vs), length_entry v, length_run vs)

pub encode_append : (vs us : List Verdict) → encode_run (vs ++ us) ≡ encode_run vs ++ encode_run us
unfolding encode_run
encode_append [] us = refl
encode_append (v ∷ vs) us = ap (λ s. entry_bytes v ++ s) (encode_append vs us) ∙ sym (append_assoc (entry_bytes v) (encode_run vs) (encode_run us))

pub encode_one : (v : Verdict) → encode_run (v ∷ []) ≡ entry_bytes v
unfolding encode_run
encode_one v = append-nil (entry_bytes v)

-- without the first verdict
pub drop_encode : (v : Verdict) (vs : List Verdict) → drop 9 (encode_run (v ∷ vs)) ≡ encode_run vs
unfolding encode_run
drop_encode v vs = drop_at (entry_bytes v) (encode_run vs) 9 (length_entry v)

-- every time fits
abbrev pub AllFit : List Verdict → Type 0
AllFit [] = Unit {0}
AllFit (v ∷ vs) = Fits v × AllFit vs

pub entries_round : (vs : List Verdict) → AllFit vs → entries_in (length vs) (encode_run vs) ≡ vs
unfolding entries_in encode_run
entries_round [] h = refl
entries_round (v ∷ vs) h = ap₂ (λ x y. x ∷ y) (entry_round v (encode_run vs) h.0) (ap (entries_in (length vs)) (drop_encode v vs) ∙ entries_round vs h.1)

pub entries_back : (k : ℕ) (s : List ℕ) → Bytes s → length s ≡ k * 9 → encode_run (entries_in k s) ≡ s
unfolding entries_in encode_run
entries_back zero [] h l = refl
entries_back zero (b ∷ s) h l = absurd (omega (arith, l))
entries_back (suc k) s h l =
    ap (λ t. entry_bytes (entry_in s) ++ t) (entries_back k (drop 9 s) (bytes_drop 9 s h) (length-drop 9 s ∙ omega (arith, l)))
    ∙ entry_back s h (omega (arith, l))

-- a run is read from its bytes
pub decode_encode : (vs : List Verdict) → AllFit vs → length vs ≤ most_verdicts → rises_from 0 vs ≡ true → decode_run (encode_run vs) ≡ Some vs
unfolding decode_run
decode_encode vs f l r =
    let n : length (encode_run vs) / 9 ≡ length vs = ap (λ m. m / 9) (length_run vs) ∙ omega arith in
    let e : verdicts_in (encode_run vs) ≡ vs = ap (λ m. entries_in m (encode_run vs)) n ∙ entries_round vs f in
    let a : eqb (length (encode_run vs) % 9) 0 ≡ true = eq-eqb (length (encode_run vs) % 9) 0 (ap (λ m. m % 9) (length_run vs) ∙ omega arith) in
    let b : leb (length (encode_run vs)) 36864 ≡ true = le-leb (length (encode_run vs)) 36864 (omega (arith, length_run vs)) in
    rw (a, b, e, r)
