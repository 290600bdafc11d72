-- Document 02, request 10. The bytes of a run of verdicts: docs/LAYOUTS.md, "The run of verdicts". An entry is a time in eight bytes, the highest first, and a number in one; the entries lie one
-- after another, the oldest first; their times never fall; there are at most 4,096.
use Rattle.std.specs.Prelude.{ℕ, zero, suc, ◌*◌, ◌+◌, ◌/◌, ◌%◌, Bool, cond, ◌&&◌, List, [], ◌∷◌, ◌++◌, length, take, drop, get_or, leb, eqb, None, Option, Some}
use Rattle.worst_minute.specs.Minute.{Verdict, rises_from, most_verdicts}

-- ---- numbers

-- the number that bytes are, the highest first, after a number that they follow
unfoldable pub value_of : (before : ℕ) → List ℕ → ℕ
value_of n [] = n
value_of n (b ∷ s) = value_of (n * 256 + b) s

-- a number in so many bytes, the highest first
unfoldable pub bytes_of : (width : ℕ) → ℕ → List ℕ
bytes_of zero n = []
bytes_of (suc k) n = bytes_of k (n / 256) ++ (n % 256 ∷ [])

-- ---- entries

abbrev pub entry_size : ℕ
entry_size = 9

abbrev pub entry_bytes : Verdict → List ℕ
entry_bytes v = bytes_of 8 v.time ++ (v.number ∷ [])

-- the entry whose bytes stand first
abbrev pub entry_in : List ℕ → Verdict
entry_in s = record { time = value_of 0 (take 8 s); number = get_or s 8 0 }

-- so many entries, one after another
unfoldable pub entries_in : (count : ℕ) → List ℕ → List Verdict
entries_in zero s = []
entries_in (suc k) s = entry_in s ∷ entries_in k (drop entry_size s)

-- ---- a run

unfoldable pub encode_run : List Verdict → List ℕ
encode_run [] = []
encode_run (v ∷ vs) = entry_bytes v ++ encode_run vs

-- whole entries, not too many
abbrev pub is_sized : ℕ → Bool
is_sized n = eqb (n % entry_size) 0 && leb n (most_verdicts * entry_size)

abbrev pub verdicts_in : List ℕ → List Verdict
verdicts_in s = entries_in (length s / entry_size) s

-- the run that bytes are
unfoldable pub decode_run : List ℕ → Option (List Verdict)
decode_run s = cond (is_sized (length s) && rises_from 0 (verdicts_in s)) (Some (verdicts_in s)) None
