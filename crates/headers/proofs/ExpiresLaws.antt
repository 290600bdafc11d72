-- The parts of a Session-Expires value: the turns of the loop of `find_refresher`, and the first part. Assumes nothing.
use Prim.Native.Nat.{ℕ, ◌+◌, ◌-◌, ◌≤◌, ◌<◌}
use native.Mathlib.Numerals.{add-one}
use native.Mathlib.Omega.{arith}
use mathlib.Core.Path.{◌≡◌, refl, ◌∙◌}
use mathlib.Core.Bool.{Bool, true, false}
use mathlib.Core.List.{List, [], ◌∷◌}
use lib.ListN.{length, take, drop}
use lib.Seq.{take_all}
use lib.Dec.{eqb}
use borrow.Author.Tests.{eqb-true, eqb-false}
use Rattle.std.proofs.lemmas.List.{take_rest}
use Rattle.std.specs.Prelude.{None, Ok, Option, Some}
use Rattle.text.specs.Text.{is, other, same, span, split, trimmed}
use Rattle.text.specs.Number.{read_digits, number_from}
use Rattle.text.proofs.Words.{split_at, split_last}
use Rattle.msg.specs.Block.{HeaderLine, value_of}
use Rattle.msg.proofs.LookupLaws.{Says, said_bytes}
use Rattle.text.specs.Spans.{part_in}
use Rattle.text.specs.declared.Span.{Span}
use Rattle.headers.specs.SessionExpires.{refresher_uac, refresher_uas, refresher_in, Interval, with_refresher, session_expires, interval_of, expires_from, expires_answer}
use Rattle.headers.specs.declared.session_timer.Refresher.{Refresher}
use Rattle.headers.specs.declared.session_timer.Refresher.TheVariants.{Uac, Uas}

-- the segments that are left, of which g is the first, and p the trimmed one
module _ (ls : List (List ℕ)) (g p : List ℕ) (gs : List (List ℕ)) (e : ls ≡ g ∷ gs) (hp : p ≡ trimmed g) where
  pub is_uac_lem : same p refresher_uac ≡ true → refresher_in ls ≡ Some Uac
  unfolding refresher_in
  is_uac_lem d = rw (e, ← hp, d)

  pub is_uas_lem : same p refresher_uac ≡ false → same p refresher_uas ≡ true → refresher_in ls ≡ Some Uas
  unfolding refresher_in
  is_uas_lem d f = rw (e, ← hp, d, f)

  pub is_other_lem : same p refresher_uac ≡ false → same p refresher_uas ≡ false → refresher_in ls ≡ refresher_in gs
  unfolding refresher_in
  is_other_lem d f = rw (e, ← hp, d, f)

pub parts_done : (ls : List (List ℕ)) → ls ≡ [] → refresher_in ls ≡ None
unfolding refresher_in
parts_done ls e = rw e

-- ---- the first part: n is where the first semicolon stands, and d the trimmed digits before it

module _ (v : List ℕ) (n : ℕ) (d : List ℕ) (hn : n ≡ span (other 59) v) (hd : d ≡ trimmed (take n v)) where
  pub only_part : n ≡ length v → session_expires v ≡ with_refresher (read_digits 32 d) []
  unfolding session_expires
  only_part e = rw (split_last (is 59) v (omega (arith, hn)), hd, take_all n v (omega arith))

  pub more_parts : n < length v → session_expires v ≡ with_refresher (read_digits 32 d) (split (is 59) (take (length v - (n + 1)) (drop (n + 1) v)))
  unfolding session_expires
  more_parts h = rw (split_at (is 59) v (rw (← hn) h), ← hn, hd, take_rest v (n + 1), add-one n)

  by_digits : (ps : List (List ℕ)) → number_from (read_digits 32 d) ≡ None → with_refresher (read_digits 32 d) ps ≡ None
  by_digits ps e = go (read_digits 32 d) e
    where
      go : (o : Option ℕ) → number_from o ≡ None → with_refresher o ps ≡ None
      go None e = refl
      go (Some k) e = absurd (let z : ◌≡◌ {A = ℕ} 0 1 = cc in omega arith)

  pub no_digits : n ≤ length v → number_from (read_digits 32 d) ≡ None → session_expires v ≡ None
  no_digits h e = by (eqb n (length v)) refl
    where
      by : (u : Bool) → eqb n (length v) ≡ u → session_expires v ≡ None
      by true q = only_part (eqb-true _ _ q) ∙ by_digits [] e
      by false q = let k : n ≡ length v → ⊥ = eqb-false n (length v) q in more_parts (omega arith) ∙ by_digits (split (is 59) (take (length v - (n + 1)) (drop (n + 1) v))) e

-- the answer by the digits and the parts after them
pub with_digits : (o : Option ℕ) (k : ℕ) (ps : List (List ℕ)) (r : Option Refresher) → number_from o ≡ Some k → r ≡ refresher_in ps → Some (k, r) ≡ expires_from (with_refresher o ps)
with_digits None k ps r e f = absurd (let z : ◌≡◌ {A = ℕ} 0 1 = cc in omega arith)
with_digits (Some j) k ps r e f = let q : j ≡ k = cc in rw (f, q)

pub no_refresher : None ≡ refresher_in []
unfolding refresher_in
no_refresher = refl

-- ---- of a block

pub interval_in_lem : (s : List ℕ) (o : Option HeaderLine) (v : Span) (next : ℕ) → Says s o v next → interval_of (value_of o) ≡ session_expires (part_in s v)
interval_in_lem s o v next r = rw (said_bytes s o v next r, r.is)

-- ---- the answer with refusals by the one without

pub answer_is : (o : Option Interval) → expires_answer (Ok o) ≡ Ok (expires_from o)
answer_is None = refl
answer_is (Some i) = refl
