-- RSeq numbers about the C functions: one claim about every list of calls of them on a store, from an empty one, each lent the first bytes of the memory, as many
-- as it says, and the used length, as the last left them. Of a call nothing is known but the contract that its function is proved to keep: `Post` of a function
-- is what the toolchain makes of its `ensures`. Assumes nothing.
use Prim.Native.Nat.{ℕ, ◌<◌}
use mathlib.Core.Path.{◌≡◌, refl, ap}
use mathlib.Core.List.{List}
use lib.ListN.{length}
use Rattle.std.specs.Prelude.{None, Option, Result, Some}
use Rattle.std.specs.Option.{option_map}
use Rattle.limits.specs.Limits.{rust_limits}
use Rattle.limits.specs.declared.Refusal.{Refusal}
use Rattle.ordered_store.specs.Entries.{entry_of}
use Rattle.ordered_store.specs.Run.{Returns}
use Rattle.ordered_store.specs.History.{Call, call_on, World, content, content_answers, world, Follows, Seen, EachShows, Made, KeepsContracts}
use Rattle.ordered_store.proofs.HistoryLaws.{made_follows}
use Rattle.dialog_id.specs.Ident.{Ident, ident}
use Rattle.rseq_entries.specs.Entries.{key_of_ident, Entry, key_of, entry_form, WellFormed}
use Rattle.rseq_manager.specs.RSeq.{Action, next, current, remove, len, ran, calls}
use Rattle.rseq_manager.specs.Answers.{emptiness}
use Rattle.rseq_entries.proofs.FormLaws.{form_exact, filled}
use Rattle.rseq_manager.proofs.History.{keeps, never_zero}
use Rattle.c_answers.specs.Given.{value_after}
use Rattle.sip_dialog.proofs.Called.{RseqNextCall, RseqCurrentCall, RseqRemoveCall, RseqLenCall, RseqIsEmptyCall}

-- ---- one call

-- what a function is lent beside the store: a number for an RSeq number or a count, or one for whether there is none
pub record Lent : Type 0 where
  pub number : Option ℕ
  pub empty : Option ℕ

-- what an answer leaves of it
abbrev pub lent_after : Result ℕ Refusal → Lent → Lent
lent_after a l = record { number = option_map (value_after a) l.number; empty = option_map (value_after (emptiness a)) l.empty }

abbrev pub nothing : Lent
nothing = record { number = None; empty = None }

abbrev pub numbered : ℕ → Lent
numbered n = record { number = Some n; empty = None }

abbrev pub asked : ℕ → Lent
asked n = record { number = None; empty = Some n }

-- A C function was called: with these bytes lent for the store and this used length it was entered, with those it returned, and this number; beside the store it
-- was lent this, and left that.
pub data Served : Call Action → (bytes : List ℕ) (used : ℕ) (after : List ℕ) (left number : ℕ) (given kept : Lent) → Type 0 where
  by_next : (k : RseqNextCall) → Served (call_on k.store.now (next (ident k.call_id.now k.local_tag.now k.remote_tag.now) k.n)) k.store.now k.used.now k.store'.now k.used'.now k.returned (numbered k.rseq.now) (numbered k.rseq'.now)
  by_current : (k : RseqCurrentCall) → Served (call_on k.store.now (current (ident k.call_id.now k.local_tag.now k.remote_tag.now))) k.store.now k.used k.store.now k.used k.returned (numbered k.rseq.now) (numbered k.rseq'.now)
  by_remove : (k : RseqRemoveCall) → Served (call_on k.store.now (remove (ident k.call_id.now k.local_tag.now k.remote_tag.now))) k.store.now k.used.now k.store'.now k.used'.now k.returned nothing nothing
  by_len : (k : RseqLenCall) → Served (call_on k.store.now len) k.store.now k.used k.store.now k.used k.returned (numbered k.count.now) (numbered k.count'.now)
  by_is_empty : (k : RseqIsEmptyCall) → Served (call_on k.store.now len) k.store.now k.used k.store.now k.used k.returned (asked k.empty.now) (asked k.empty'.now)

-- each contract says what `ran` leaves of the call, lent all of the bytes
returns : {c : Call Action} {bytes : List ℕ} {used : ℕ} {after : List ℕ} {left number : ℕ} {given kept : Lent} → Served c bytes used after left number given kept
    → Returns (ran rust_limits c.action bytes used) after left number
returns (by_next k) = k.kept.0
returns (by_current k) = k.kept.0
returns (by_remove k) = k.kept
returns (by_len k) = k.kept.0
returns (by_is_empty k) = k.kept.0

-- and what its answer leaves of what was lent beside the store
values : {c : Call Action} {bytes : List ℕ} {used : ℕ} {after : List ℕ} {left number : ℕ} {given kept : Lent} → Served c bytes used after left number given kept
    → kept ≡ lent_after (ran rust_limits c.action bytes used).answer given
values (by_next k) = ap numbered k.kept.1
values (by_current k) = ap numbered k.kept.1
values (by_remove k) = refl
values (by_len k) = ap numbered k.kept.1
values (by_is_empty k) = ap asked k.kept.1

-- a call is lent the bytes that it is entered with, all of them
lends_all : {c : Call Action} {bytes : List ℕ} {used : ℕ} {after : List ℕ} {left number : ℕ} {given kept : Lent} → Served c bytes used after left number given kept
    → c.lent ≡ length bytes
lends_all (by_next k) = refl
lends_all (by_current k) = refl
lends_all (by_remove k) = refl
lends_all (by_len k) = refl
lends_all (by_is_empty k) = refl

-- ---- every list of calls

pub contracts : KeepsContracts entry_form key_of (calls rust_limits) lent_after Served
contracts = record { returns = returns; values = values; lends_all = lends_all; typed = λ s. tt }

-- After every list of calls of the C functions the store is the one that the definitions give, told only the calls' arguments (`Follows`), every call returned the
-- number, and left the values, of the answer over that content, and no number held is 0.
pub rseq_of_calls : (m : List ℕ) {cs : List (Call Action)} {w : World} {ss : List (Seen Lent)} → Made (calls rust_limits) Served m cs w ss
    → Follows entry_form key_of (calls rust_limits) m cs
    × ((w ≡ world entry_form key_of (calls rust_limits) m cs)
    × (EachShows lent_after (content_answers entry_form key_of (calls rust_limits) cs) ss
    × ((id : Ident) (e : Entry) → entry_of key_of (key_of_ident id) (content entry_form key_of (calls rust_limits) cs) ≡ Some e → 0 < e.number)))
rseq_of_calls m {cs} {w} {ss} d =
    let k = made_follows entry_form key_of (calls rust_limits) lent_after WellFormed form_exact filled keeps m Served contracts d in
    (k.0, (k.1.0, (k.1.1, never_zero cs)))
