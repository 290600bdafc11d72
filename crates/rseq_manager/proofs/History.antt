-- Every list of calls on an RSeq store that began empty: the used bytes are those of the numbers that the definitions give, every answer is the one over
-- them, and no number that is held is 0. Assumes nothing.
use Prim.Native.Nat.{ℕ, ◌<◌}
use native.Mathlib.Omega.{arith}
use mathlib.Core.Path.{◌≡◌, ap, subst}
use mathlib.Core.List.{List, [], ◌∷◌}
use Rattle.std.specs.Prelude.{None, Ok, Option, Some}
use Rattle.limits.specs.Limits.{rust_limits}
use Rattle.limits.specs.Outcome.{and_then, or_refuse}
use Rattle.limits.specs.declared.Refusal.TheVariants.{NotFound}
use Rattle.ordered_store.specs.Entries.{entry_of}
use Rattle.ordered_store.specs.Run.{Decided}
use Rattle.ordered_store.specs.History.{Call, EachSent, EachTyped, content, Follows}
use Rattle.ordered_store.proofs.EntryLaws.{set_ascends, without_ascends, set_good, without_good, found_good}
use Rattle.ordered_store.proofs.HistoryLaws.{Sound, Keeps, sound, follows}
use Rattle.dialog_id.specs.Ident.{Ident, ident_cause}
use Rattle.rseq_entries.specs.Entries.{key_of_ident, Entry, key_of, entry_form, WellFormed}
use Rattle.rseq_manager.specs.RSeq.{number_after, Action, next, current, remove, len, action_cause, deciding, numbered, judge, calls}
use Rattle.rseq_entries.proofs.FormLaws.{form_exact, filled}
use Rattle.rseq_manager.proofs.AnswerLaws.{shorts}

-- a number that a call gives is never 0, and has four bytes
pub number_fits : (n : ℕ) (o : Option Entry) → (0 < number_after n o) × (number_after n o < 4294967296)
number_fits n None = (omega arith, omega arith)
number_fits n (Some e) = (omega arith, omega arith)

new_formed : (id : Ident) (n : ℕ) (o : Option Entry) → ident_cause rust_limits id ≡ None → WellFormed (numbered id (number_after n o))
new_formed id n o e =
    let s = shorts id e in
    let k = number_fits n o in
    record { call_short = s.0; local_short = s.1; remote_short = s.2; positive = k.0; fits = k.1 }

-- what was decided
decided : {es : List Entry} {n : ℕ} {d : Decided Entry ℕ} → deciding es n ≡ Ok d → es ≡ d.entries
decided {es} {n} {d} e = let k : record { entries = es; answer = Ok n } ≡ d = cc in ap (λ (x : Decided Entry ℕ). x.entries) k

-- each call keeps well-formed, ascending entries so
action_keeps : (a : Action) (es : List Entry) (d : Decided Entry ℕ) → action_cause rust_limits a ≡ None → judge a es ≡ Ok d → Sound key_of WellFormed es → Sound key_of WellFormed d.entries
unfolding action_cause judge
action_keeps (next id n) es d c j s =
    let o : Option Entry = entry_of key_of (key_of_ident id) es in
    let a : Entry = numbered id (number_after n o) in
    subst (Sound key_of WellFormed) (decided j) (set_good key_of WellFormed a es (new_formed id n o c) s.0, set_ascends key_of a es s.1)
action_keeps (current id) es d c j s = by (entry_of key_of (key_of_ident id) es) j
  where
    by : (o : Option Entry) → and_then (or_refuse NotFound o) (λ e. deciding es e.number) ≡ Ok d → Sound key_of WellFormed d.entries
    by None j = absurd (let z : ◌≡◌ {A = ℕ} 0 1 = cc in omega arith)
    by (Some e) j = subst (Sound key_of WellFormed) (decided j) s
action_keeps (remove id) es d c j s =
    subst (Sound key_of WellFormed) (decided j) (without_good key_of WellFormed (key_of_ident id) es s.0, without_ascends key_of (key_of_ident id) es s.1)
action_keeps len es d c j s = subst (Sound key_of WellFormed) (decided j) s

pub keeps : Keeps key_of WellFormed (calls rust_limits)
keeps a es d t e j s = action_keeps a es d e j s

-- ---- every list of calls

-- the store follows the numbers, for every list of calls each lent at most the memory
pub rseq_follows : (m : List ℕ) (cs : List (Call Action)) → EachSent (calls rust_limits) m cs → Follows entry_form key_of (calls rust_limits) m cs
rseq_follows m cs s = follows entry_form key_of (calls rust_limits) WellFormed form_exact filled keeps m cs s

-- after every list of calls, the numbers held are well-formed entries in ascending order
pub held_sound : (cs : List (Call Action)) → Sound key_of WellFormed (content entry_form key_of (calls rust_limits) cs)
held_sound cs = sound entry_form key_of (calls rust_limits) WellFormed form_exact filled keeps cs (typed cs)
  where
    typed : (cs : List (Call Action)) → EachTyped (calls rust_limits) cs
    typed [] = tt
    typed (c ∷ cs) = (tt, typed cs)

-- no number held is 0
pub never_zero : (cs : List (Call Action)) (id : Ident) (e : Entry) → entry_of key_of (key_of_ident id) (content entry_form key_of (calls rust_limits) cs) ≡ Some e → 0 < e.number
never_zero cs id e q = (found_good key_of WellFormed (key_of_ident id) (content entry_form key_of (calls rust_limits) cs) e (held_sound cs).0 q).positive
