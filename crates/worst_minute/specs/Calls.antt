-- Document 02, request 10. The two calls on the lent bytes of a run, of which so many are used. Document 01, "Turned back": 3 where the used length is over the lent or the used bytes aren't of
-- the layout, 18 where the run with the verdict is larger than what is lent; a refused call keeps every byte, an accepted one every byte past the run.
use Rattle.limits.specs.declared.Refusal.{Refusal}
use Rattle.std.specs.Prelude.{ℕ, List, [], ◌∷◌, ◌++◌, length, take, ltb, Ok, Option, Result}
use Rattle.limits.specs.Outcome.{refuse_if, and_then, or_refuse}
use Rattle.limits.specs.declared.Refusal.TheVariants.{BadStore}
use Rattle.output.specs.Output.{fitted}
use Rattle.worst_minute.specs.Minute.{Verdict, Minute, worst, taken_after, last_ones}
use Rattle.worst_minute.specs.Layout.{encode_run, decode_run}

-- 3
abbrev pub read_run : List ℕ → ℕ → Result (List Verdict) Refusal
read_run bytes used = refuse_if (ltb (length bytes) used) BadStore (or_refuse BadStore (decode_run (take used bytes)))

-- the time of the last verdict, after one before them
unfoldable pub last_time : ℕ → List Verdict → ℕ
last_time t [] = t
last_time t (v ∷ vs) = last_time v.time vs

-- one more verdict at the end, with its time as taken; the 4,097th drops the oldest
abbrev pub with_verdict : Verdict → List Verdict → List Verdict
with_verdict v vs = last_ones (vs ++ (taken_after (last_time 0 vs) v ∷ []))

-- `add_verdict`: 3, 18. The bytes of the run with the verdict
unfoldable pub added : Verdict → List ℕ → ℕ → Result (List ℕ) Refusal
added v bytes used = and_then (read_run bytes used) (λ vs. fitted (length bytes) (encode_run (with_verdict v vs)))

-- `worst_minute`: 3. The worst 60 s of the run, none where it is empty
unfoldable pub worst_in : List ℕ → ℕ → Result (Option Minute) Refusal
worst_in bytes used = and_then (read_run bytes used) (λ vs. Ok (worst vs))
