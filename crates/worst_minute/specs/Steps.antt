-- Steps of the code: one pass over a run with two ends. What is to be answered is `worst` alone (specs/Minute.antt); that the pass answers it where no time falls is
-- proved (proofs/ScanLaws.antt, `scan_worst`).
use Rattle.std.specs.Prelude.{ℕ, ◌+◌, ◌-◌, ◌*◌, ◌/◌, ◌≤◌, ◌≡◌, Bool, cond, List, [], ◌∷◌, ◌++◌, length, take, drop, leb, ltb}
use Rattle.worst_minute.specs.Minute.{Verdict, is_refusal, minute, Minute, time_of}
use Rattle.worst_minute.specs.Layout.{entry_size, value_of, entries_in}
use Rattle.worst_minute.specs.declared.counting.Window.{Window}

-- ---- on lists

-- how many refusals there are
unfoldable pub refused_in : List Verdict → ℕ
refused_in [] = 0
refused_in (v ∷ vs) = cond (is_refusal v) (1 + refused_in vs) (refused_in vs)

-- 60 s or more before a time
abbrev pub is_behind : (time : ℕ) → Verdict → Bool
is_behind t v = leb minute (t - v.time)

-- how many stand first that are
unfoldable pub left_behind : (time : ℕ) → List Verdict → ℕ
left_behind t [] = 0
left_behind t (v ∷ vs) = cond (is_behind t v) (1 + left_behind t vs) 0

-- the window as one that is counted: from its first verdict on
abbrev pub minute_in : List Verdict → Minute
minute_in w = record { start = time_of w 0; refusals = refused_in w }

-- it is the worst so far only where it has more
abbrev pub or_more : Minute → Minute → Minute
or_more best m = cond (ltb best.refusals m.refusals) m best

-- a window is counted where a verdict comes that is 60 s or more after its first
abbrev pub counting : (left : ℕ) → List Verdict → Minute → Minute
counting left w best = cond (ltb 0 left) (or_more best (minute_in w)) best

-- the window, the worst of those that were counted, and the verdicts that are left to read
unfoldable pub scan : (window : List Verdict) → Minute → List Verdict → Minute
scan w best [] = or_more best (minute_in w)
scan w best (v ∷ vs) = scan (drop (left_behind v.time w) w ++ (v ∷ [])) (counting (left_behind v.time w) w best) vs

-- ---- on bytes

-- the time of the entry at a place
abbrev pub time_at : List ℕ → ℕ → ℕ
time_at bytes at = value_of 0 (take 8 (drop at bytes))

-- the verdicts from a place up to another
abbrev pub between : List ℕ → (from at : ℕ) → List Verdict
between bytes from at = entries_in ((at - from) / entry_size) (drop from bytes)

-- the window reaches from its place up to another, where an entry stands, and none of its times is above that entry's
pub record Reaches (bytes : List ℕ) (w : Window) (at : ℕ) : Type 0 where
  pub count : ℕ
  pub up : w.from + count * entry_size ≡ at
  pub entry : at + entry_size ≤ length bytes
  pub starts : w.start ≡ time_at bytes w.from
  pub counts : w.refusals ≡ refused_in (entries_in count (drop w.from bytes))
  pub below : (i : ℕ) → i ≤ count → time_at bytes (w.from + i * entry_size) ≤ time_at bytes at

-- the window without those that are left behind
abbrev pub moved_by : List ℕ → Window → (at left : ℕ) → Window
moved_by bytes w at left = record { from = w.from + left * entry_size; start = time_at bytes (w.from + left * entry_size); refusals = refused_in (drop left (between bytes w.from at)) }

abbrev pub moved_to : List ℕ → Window → ℕ → Window
moved_to bytes w at = moved_by bytes w at (left_behind (time_at bytes at) (between bytes w.from at))
