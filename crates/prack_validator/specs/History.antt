-- What is claimed of a whole list of calls on a PRACK store that began empty: told only the calls' arguments, the definitions give its contents; a list never
-- has more entries than the limit; and RFC 3262 section 3's PRACK, sent again, is refused with 24 while the entry that it acknowledged stands.
use Rattle.std.specs.Prelude.{ℕ, ◌≤◌, ◌≡◌, true, false, List, ◌∷◌, length, Err, Ok, Result, Some}
use Rattle.limits.specs.Limits.{LimitSet}
use Rattle.limits.specs.declared.Refusal.{Refusal}
use Rattle.limits.specs.declared.Refusal.TheVariants.{DuplicatePrack}
use Rattle.msg.specs.Block.{is_block}
use Rattle.rack.specs.declared.RAck.{RAck}
use Rattle.ordered_store.specs.History.{Call, World, Follows, decide, answer_of, content, world, lending}
use Rattle.prack_body.specs.Lists.{Pending, Tracked, is_due, first_of_rseq}
use Rattle.prack_body.specs.Layout.{tracked_form}
use Rattle.prack_entries.specs.Entries.{key_of, held_for, clean_for}
use Rattle.prack_verdict.specs.Verdict.{rack_in}
use Rattle.prack_validator.specs.Validator.{Action, validate, Value, rack, calls}

-- what is held after a list of calls
abbrev pub held : LimitSet → List (Call Action) → List Tracked
held L cs = content (tracked_form L) key_of (calls L) cs

-- what a call answers after them
abbrev pub answer_to : LimitSet → Call Action → List (Call Action) → Result Value Refusal
answer_to L c cs = answer_of (tracked_form L) key_of (calls L) (decide (tracked_form L) key_of (calls L) c (held L cs))

-- the store after them
abbrev pub store : LimitSet → List ℕ → List (Call Action) → World
store L m cs = world (tracked_form L) key_of (calls L) m cs

-- a PRACK that acknowledges again: in the list as the call's cleanup leaves it an acknowledged entry stands, the first of its RSeq, whose RSeq, CSeq and method are the PRACK's
pub record Repeats (L : LimitSet) (id block : List ℕ) (time : ℕ) (ts : List Tracked) : Type 0 where
  pub list : List Pending
  pub stands : (clean_for L time id ts).list ≡ Some list
  pub rack : RAck
  pub reads : rack_in block ≡ Some rack
  pub entry : Pending
  pub first : first_of_rseq rack.rseq list ≡ Some entry
  pub acknowledged : entry.acknowledged ≡ true
  pub same_cseq : entry.cseq ≡ rack.cseq
  pub same_method : entry.method ≡ rack.method

-- the call that gives a PRACK
abbrev pub sent : (lent : ℕ) (id block : List ℕ) (time : ℕ) → Call Action
sent lent id block time = record { lent = lent; action = validate id block time }

-- a PRACK that 1 and 2 take, lent at least the used bytes
pub record Sendable (L : LimitSet) (m : List ℕ) (lent used : ℕ) (id block : List ℕ) : Type 0 where
  pub lends : lent ≤ length m
  pub holds : used ≤ lent
  pub text_fits : length id ≤ L.text
  pub block_fits : length block ≤ L.text
  pub formed : is_block block ≡ true

pub record PrackHistory (L : LimitSet) (m : List ℕ) (cs : List (Call Action)) : Type 0 where
  -- the store holds what the definitions give, and each call answered what they answer
  pub follows : Follows (tracked_form L) key_of (calls L) m cs
  -- "The eleventh entry drops the oldest"
  pub few : (id : List ℕ) (t : Tracked) (list : List Pending) → held_for id (held L cs) ≡ Some t → t.list ≡ Some list → length list ≤ L.pending
  -- 24
  pub repeated : (lent : ℕ) (id block : List ℕ) (time : ℕ) → Sendable L m lent (store L m cs).used id block → Repeats L id block time (held L cs)
      → (lending (tracked_form L) key_of (calls L) (sent lent id block time) (store L m cs)).answer ≡ Err DuplicatePrack
  -- a PRACK that was accepted acknowledges again when it is sent once more, at a time at which no cleanup is due
  pub repeats : (lent : ℕ) (id block : List ℕ) (time later : ℕ) (k : RAck) (t : Tracked) → answer_to L (sent lent id block time) cs ≡ Ok (rack k)
      → held_for id (held L (sent lent id block time ∷ cs)) ≡ Some t → is_due L later t ≡ false → Repeats L id block later (held L (sent lent id block time ∷ cs))
