-- A list of calls on a store of entries, from an empty one, each given what the last left: the content that the definitions give, told only the calls'
-- arguments. Document 01, "The book of demand 3", says this of the dialog store; here it is said once for the stores of entries. A list of calls has the
-- LATEST FIRST, so that what holds for every list holds at every earlier point of it.
use Rattle.std.specs.Prelude.{ℕ, ◌≤◌, ◌≡◌, List, [], ◌∷◌, ◌++◌, length, take, drop, ltb, Err, Ok, Option, Result, Some}
use Rattle.limits.specs.Outcome.{refuse_by, refuse_if, and_then, number_in}
use Rattle.limits.specs.declared.Refusal.{Refusal}
use Rattle.limits.specs.declared.Refusal.TheVariants.{BadStore}
use Rattle.codec.specs.Codec.{Codec}
use Rattle.ordered_store.specs.Entries.{Key, encode_entries, decode_entries}
use Rattle.ordered_store.specs.Run.{Decided, Left, Returns, fitting, run}

-- what the calls of a store do: that the numbers of an action are of their types, what its arguments alone refuse, and what it decides over the entries
pub record Calls (A B : Type 0) : Type 1 where
  pub Action : Type 0
  pub Typed : Action → Type 0
  pub cause : Action → Option Refusal
  pub judge : Action → List A → Result (Decided A B) Refusal

-- a call, and how many bytes it is lent for the store
pub record Call (Action : Type 0) : Type 0 where
  pub lent : ℕ
  pub action : Action

-- one that is lent these bytes, all of them
abbrev pub call_on : {Action : Type 0} → List ℕ → Action → Call Action
call_on bytes a = record { lent = length bytes; action = a }

-- what is true of every call that is made: it is lent no more than there is, and its numbers are of their types
pub record Sent {A B : Type 0} (C : Calls A B) (m : List ℕ) (c : Call C.Action) : Type 0 where
  pub lends : c.lent ≤ length m
  pub typed : C.Typed c.action

abbrev pub EachSent : {A B : Type 0} (C : Calls A B) → List ℕ → List (Call C.Action) → Type 0
EachSent C m [] = Unit {0}
EachSent C m (c ∷ cs) = Sent C m c × EachSent C m cs

abbrev pub EachTyped : {A B : Type 0} (C : Calls A B) → List (Call C.Action) → Type 0
EachTyped C [] = Unit {0}
EachTyped C (c ∷ cs) = C.Typed c.action × EachTyped C cs

-- the memory that the calls are lent bytes of, and the used length between two calls
pub record World : Type 0 where
  pub memory : List ℕ
  pub used : ℕ

module _ {A B : Type 0} (form : Codec A) (key_of : A → Key) (C : Calls A B) where
  -- ---- the content, told the calls alone

  -- the verdict over the content: 1, 2, 28; 3 where the used length is over the lent; then the call's own; 18
  unfoldable pub decide : Call C.Action → List A → Result (Decided A B) Refusal
  decide c es = refuse_by (C.cause c.action) (refuse_if (ltb c.lent (length (encode_entries form es))) BadStore (and_then (C.judge c.action es) (λ d. fitting form c.lent d)))

  abbrev pub after : Result (Decided A B) Refusal → List A → List A
  after (Err cause) es = es
  after (Ok d) es = d.entries

  abbrev pub answer_of : Result (Decided A B) Refusal → Result B Refusal
  answer_of (Err cause) = Err cause
  answer_of (Ok d) = d.answer

  unfoldable pub content : List (Call C.Action) → List A
  content [] = []
  content (c ∷ cs) = after (decide c (content cs)) (content cs)

  unfoldable pub content_answers : List (Call C.Action) → List (Result B Refusal)
  content_answers [] = []
  content_answers (c ∷ cs) = answer_of (decide c (content cs)) ∷ content_answers cs

  -- ---- the store

  -- a call is lent the first bytes of the memory, as many as it says; what it leaves there is the memory for the next
  abbrev pub lending : Call C.Action → World → Left B
  lending c w = run form key_of (C.cause c.action) (C.judge c.action) (take c.lent w.memory) w.used

  unfoldable pub world : List ℕ → List (Call C.Action) → World
  world m [] = record { memory = m; used = 0 }
  world m (c ∷ cs) = record { memory = (lending c (world m cs)).bytes ++ drop c.lent (world m cs).memory; used = (lending c (world m cs)).used }

  unfoldable pub store_answers : List ℕ → List (Call C.Action) → List (Result B Refusal)
  store_answers m [] = []
  store_answers m (c ∷ cs) = (lending c (world m cs)).answer ∷ store_answers m cs

  -- the claim: after the calls the used bytes are those of the content, and are read as it; every answer is the one over the content
  pub record Follows (m : List ℕ) (cs : List (Call C.Action)) : Type 0 where
    pub holds : take (world m cs).used (world m cs).memory ≡ encode_entries form (content cs)
    pub reads : decode_entries form key_of (take (world m cs).used (world m cs).memory) ≡ Some (content cs)
    pub answers : store_answers m cs ≡ content_answers cs

-- ---- calls that were really made

-- what a caller saw of a call: the number that it returned, and what was lent beside the store, as the call was entered and as it returned
pub record Seen (D : Type 0) : Type 0 where
  pub number : ℕ
  pub lent : D
  pub left : D

-- kept is what an answer leaves of what was lent beside the store
module _ {B D : Type 0} (kept : Result B Refusal → D → D) where
  -- the caller saw this answer: its number, and its values in what was lent for them
  pub record Shows (a : Result B Refusal) (s : Seen D) : Type 0 where
    pub number_is : s.number ≡ number_in a
    pub values_are : s.left ≡ kept a s.lent

  -- call by call
  abbrev pub EachShows : List (Result B Refusal) → List (Seen D) → Type 0
  EachShows [] [] = Unit {0}
  EachShows [] (s ∷ ss) = ⊥
  EachShows (a ∷ rest) [] = ⊥
  EachShows (a ∷ rest) (s ∷ ss) = Shows a s × EachShows rest ss

module _ {A B D : Type 0} (form : Codec A) (key_of : A → Key) (C : Calls A B) (kept : Result B Refusal → D → D) where
  -- Calls of which nothing is known but what their contracts promise: each was lent the first bytes of the memory, as many as it says, and the used length, as
  -- the last left them. The calls, the memory and the used length that they leave, and what their caller saw of each.
  pub data Ran (m : List ℕ) : List (Call C.Action) → World → List (Seen D) → Type 0 where
    start : Ran m [] (record { memory = m; used = 0 }) []
    called : {cs : List (Call C.Action)} {w : World} {ss : List (Seen D)} → Ran m cs w ss
        → (c : Call C.Action) (bytes : List ℕ) (used number : ℕ) (lent left : D) → Returns (lending form key_of C c w) bytes used number → left ≡ kept (lending form key_of C c w).answer lent
        → Ran m (c ∷ cs) (record { memory = bytes ++ drop c.lent w.memory; used = used }) (record { number = number; lent = lent; left = left } ∷ ss)

-- ---- calls of functions

-- A function was called: the call, the bytes lent for the store and the used length as it was entered, those that it left, the number returned, and what was lent
-- beside the store, before and after.
abbrev pub Serving : Type 0 → Type 0 → Type 1
Serving Action D = Call Action → List ℕ → ℕ → List ℕ → ℕ → ℕ → D → D → Type 0

module _ {A B D : Type 0} (C : Calls A B) (Served : Serving C.Action D) where
  -- a list of such calls from an empty store in a memory m, the latest first: the calls, the memory and the used length that they leave, and what their caller saw of each
  pub data Made (m : List ℕ) : List (Call C.Action) → World → List (Seen D) → Type 0 where
    none_made : Made m [] (record { memory = m; used = 0 }) []
    one_more : {cs : List (Call C.Action)} {w : World} {ss : List (Seen D)} → Made m cs w ss
        → (c : Call C.Action) (after : List ℕ) (left number : ℕ) (lent kept : D) → Served c (take c.lent w.memory) w.used after left number lent kept
        → Made m (c ∷ cs) (record { memory = after ++ drop c.lent w.memory; used = left }) (record { number = number; lent = lent; left = kept } ∷ ss)

-- what the contracts of the functions say of each call: `run`'s bytes, used length and number, its values, that the call is lent the bytes that it is entered with,
-- and that its numbers are of their types
pub record KeepsContracts {A B D : Type 0} (form : Codec A) (key_of : A → Key) (C : Calls A B) (kept : Result B Refusal → D → D) (Served : Serving C.Action D) : Type 0 where
  pub returns : {c : Call C.Action} {bytes : List ℕ} {used : ℕ} {after : List ℕ} {left number : ℕ} {before behind : D} → Served c bytes used after left number before behind
      → Returns (run form key_of (C.cause c.action) (C.judge c.action) bytes used) after left number
  pub values : {c : Call C.Action} {bytes : List ℕ} {used : ℕ} {after : List ℕ} {left number : ℕ} {before behind : D} → Served c bytes used after left number before behind
      → behind ≡ kept (run form key_of (C.cause c.action) (C.judge c.action) bytes used).answer before
  pub lends_all : {c : Call C.Action} {bytes : List ℕ} {used : ℕ} {after : List ℕ} {left number : ℕ} {before behind : D} → Served c bytes used after left number before behind
      → c.lent ≡ length bytes
  pub typed : {c : Call C.Action} {bytes : List ℕ} {used : ℕ} {after : List ℕ} {left number : ℕ} {before behind : D} → Served c bytes used after left number before behind → C.Typed c.action
