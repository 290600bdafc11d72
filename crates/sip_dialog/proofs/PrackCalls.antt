-- PRACK lists about the C functions: one claim about every list of calls of them on a store, from an empty one, each given the same settings and lent the first bytes of
-- the memory, as many as it says, and the used length, as the last left them. Of a call nothing is known but the contract that its function is proved to keep: `Post` of a function
-- is what the toolchain makes of its `ensures`. Assumes nothing.
use Prim.Native.Nat.{ℕ, ◌≤◌}
use mathlib.Core.Path.{◌≡◌, refl, ap, ap₂, subst, ◌∙◌}
use mathlib.Core.Bool.{true, false}
use mathlib.Core.List.{List}
use lib.ListN.{length, take}
use Rattle.std.specs.Prelude.{Err, None, Option, Result, Some}
use Rattle.std.specs.Option.{option_map}
use Rattle.std.proofs.lemmas.Iterator.Adapters.{option_map_id}
use Rattle.limits.specs.Limits.{rust_limits}
use Rattle.limits.specs.Settings.{in_bounds, limits_in}
use Rattle.limits.specs.declared.settings.Settings.{Settings}
use Rattle.limits.specs.Outcome.{number_in}
use Rattle.limits.specs.declared.Refusal.{Refusal}
use Rattle.limits.specs.declared.Refusal.TheVariants.{SettingOutOfBounds}
use Rattle.msg.specs.Block.{is_block}
use Rattle.rack.specs.declared.RAck.{RAck}
use Rattle.ordered_store.specs.Run.{Left, Returns}
use Rattle.ordered_store.specs.History.{Call, call_on, World, content_answers, Seen, EachShows, Made, one_more, KeepsContracts}
use Rattle.ordered_store.proofs.HistoryLaws.{made_sent, made_follows}
use Rattle.prack_body.specs.Layout.{tracked_form}
use Rattle.prack_entries.specs.Entries.{key_of}
use Rattle.prack_entries.proofs.PlaceLaws.{filled}
use Rattle.prack_validator.specs.Validator.{Action, register, validate, is_pracked, get_pending, remove_dialog, remove_pracked, Value, ran, ran_with, Typed, calls}
use Rattle.prack_validator.specs.Answers.{rack_after, length_after, output_after}
use Rattle.prack_validator.specs.History.{held, store, Repeats, Sendable, PrackHistory}
use Rattle.prack_validator.proofs.History.{Good, held_exact, keeps, prack_history}
use Rattle.prack_validator.proofs.SettingLaws.{ran_within, ran_outside}
use Rattle.c_prack_answers.specs.Given.{rack_of, pracked_after}
use Rattle.sip_dialog.proofs.Called.{PrackRegisterCall, PrackValidateCall, PrackIsPrackedCall, PrackGetPendingCall, PrackRemoveDialogCall, PrackRemovePrackedCall}

-- ---- one call

-- what a function is lent beside the store: three numbers for a RAck, one for whether a response is acknowledged, or an output and one for its length
pub record Lent : Type 0 where
  pub rack : Option RAck
  pub pracked : Option ℕ
  pub output : Option (List ℕ)
  pub length : Option ℕ

-- what an answer leaves of it
abbrev pub lent_after : Result Value Refusal → Lent → Lent
lent_after a l = record {
  rack = option_map (rack_after a) l.rack;
  pracked = option_map (pracked_after a) l.pracked;
  output = option_map (output_after a) l.output;
  length = option_map (length_after a) l.length;
}

abbrev pub nothing : Lent
nothing = record { rack = None; pracked = None; output = None; length = None }

abbrev pub racked : RAck → Lent
racked k = record { rack = Some k; pracked = None; output = None; length = None }

abbrev pub asked : ℕ → Lent
asked n = record { rack = None; pracked = Some n; output = None; length = None }

abbrev pub listed : List ℕ → ℕ → Lent
listed output size = record { rack = None; pracked = None; output = Some output; length = Some size }

-- A C function was called: with these bytes lent for the store and this used length it was entered, with those it returned, and this number; beside the store it
-- was lent this, and left that.
pub data Served : Settings → Call Action → (bytes : List ℕ) (used : ℕ) (after : List ℕ) (left number : ℕ) (given kept : Lent) → Type 0 where
  by_register : (k : PrackRegisterCall) → Served k.settings (call_on k.store.now (register k.id.now k.rseq k.cseq k.method k.code k.time)) k.store.now k.used.now k.store'.now k.used'.now k.returned nothing nothing
  by_validate : (k : PrackValidateCall) → Served k.settings (call_on k.store.now (validate k.id.now k.block.now k.time)) k.store.now k.used.now k.store'.now k.used'.now k.returned (racked (rack_of k.rseq.now k.cseq.now k.method.now)) (racked (rack_of k.rseq'.now k.cseq'.now k.method'.now))
  by_is_pracked : (k : PrackIsPrackedCall) → Served k.settings (call_on k.store.now (is_pracked k.id.now k.rseq)) k.store.now k.used k.store.now k.used k.returned (asked k.pracked.now) (asked k.pracked'.now)
  by_get_pending : (k : PrackGetPendingCall) → Served k.settings (call_on k.store.now (get_pending k.id.now k.time (length k.out.now))) k.store.now k.used.now k.store'.now k.used'.now k.returned (listed k.out.now k.written.now) (listed k.out'.now k.written'.now)
  by_remove_dialog : (k : PrackRemoveDialogCall) → Served k.settings (call_on k.store.now (remove_dialog k.id.now)) k.store.now k.used.now k.store'.now k.used'.now k.returned nothing nothing
  by_remove_pracked : (k : PrackRemovePrackedCall) → Served k.settings (call_on k.store.now (remove_pracked k.id.now k.rseq)) k.store.now k.used.now k.store'.now k.used'.now k.returned nothing nothing

-- each contract says what `ran` leaves of the call, lent all of the bytes
returns : {s : Settings} {c : Call Action} {bytes : List ℕ} {used : ℕ} {after : List ℕ} {left number : ℕ} {given kept : Lent} → Served s c bytes used after left number given kept
    → Returns (ran_with s c.action bytes used) after left number
returns (by_register k) = k.kept.0
returns (by_validate k) = k.kept.0
returns (by_is_pracked k) = k.kept.0
returns (by_get_pending k) = k.kept.0
returns (by_remove_dialog k) = k.kept
returns (by_remove_pracked k) = k.kept

-- and what its answer leaves of what was lent beside the store
values : {s : Settings} {c : Call Action} {bytes : List ℕ} {used : ℕ} {after : List ℕ} {left number : ℕ} {given kept : Lent} → Served s c bytes used after left number given kept
    → kept ≡ lent_after (ran_with s c.action bytes used).answer given
values (by_register k) = refl
values (by_validate k) = ap racked k.kept.1.0
values (by_is_pracked k) = ap asked k.kept.1
values (by_get_pending k) = ap₂ listed k.kept.1.0 k.kept.1.1.0
values (by_remove_dialog k) = refl
values (by_remove_pracked k) = refl

-- a call is lent the bytes that it is entered with, all of them
lends_all : {s : Settings} {c : Call Action} {bytes : List ℕ} {used : ℕ} {after : List ℕ} {left number : ℕ} {given kept : Lent} → Served s c bytes used after left number given kept
    → c.lent ≡ length bytes
lends_all (by_register k) = refl
lends_all (by_validate k) = refl
lends_all (by_is_pracked k) = refl
lends_all (by_get_pending k) = refl
lends_all (by_remove_dialog k) = refl
lends_all (by_remove_pracked k) = refl

-- and given numbers of their types
typed : {s : Settings} {c : Call Action} {bytes : List ℕ} {used : ℕ} {after : List ℕ} {left number : ℕ} {given kept : Lent} → Served s c bytes used after left number given kept
    → Typed c.action
typed (by_register k) = k.kept.1
typed (by_validate k) = k.kept.1.1
typed (by_is_pracked k) = tt
typed (by_get_pending k) = k.kept.1.1.1
typed (by_remove_dialog k) = tt
typed (by_remove_pracked k) = tt

-- ---- every list of calls

module _ (s : Settings) (p : in_bounds s ≡ true) where
  returns_within : {c : Call Action} {bytes : List ℕ} {used : ℕ} {after : List ℕ} {left number : ℕ} {given kept : Lent} → Served s c bytes used after left number given kept
      → Returns (ran (limits_in s) c.action bytes used) after left number
  returns_within {c} {bytes} {used} {after} {left} {number} x = subst (λ l. Returns l after left number) (ran_within s c.action bytes used p) (returns x)

  values_within : {c : Call Action} {bytes : List ℕ} {used : ℕ} {after : List ℕ} {left number : ℕ} {given kept : Lent} → Served s c bytes used after left number given kept
      → kept ≡ lent_after (ran (limits_in s) c.action bytes used).answer given
  values_within {c} {bytes} {used} {after} {left} {number} {given} x = values x ∙ ap (λ (l : Left Value). lent_after l.answer given) (ran_within s c.action bytes used p)

  pub contracts : KeepsContracts (tracked_form (limits_in s)) key_of (calls (limits_in s)) lent_after (Served s)
  contracts = record { returns = returns_within; values = values_within; lends_all = lends_all; typed = typed }

  -- After every list of calls of the C functions: `PrackHistory` (the store is the one that the definitions give, told only the calls' arguments; no list has more entries than
  -- the settings allow; 24 for a PRACK sent again), the memory and the used length are those that it speaks of, and every call returned the number, and left the values, of
  -- the answer over what is held.
  pub prack_of_calls : (m : List ℕ) {cs : List (Call Action)} {w : World} {ss : List (Seen Lent)} → Made (calls (limits_in s)) (Served s) m cs w ss
      → PrackHistory (limits_in s) m cs × ((w ≡ store (limits_in s) m cs) × EachShows lent_after (content_answers (tracked_form (limits_in s)) key_of (calls (limits_in s)) cs) ss)
  prack_of_calls m {cs} {w} {ss} d =
      let k = made_follows (tracked_form (limits_in s)) key_of (calls (limits_in s)) lent_after (Good s p) (held_exact s p) (filled (limits_in s)) (keeps s p) m (Served s) contracts d in (
        prack_history s p m cs (made_sent (tracked_form (limits_in s)) key_of (calls (limits_in s)) lent_after (Good s p) (held_exact s p) (filled (limits_in s)) (keeps s p) m (Served s) contracts d),
        k.1,
      )

  -- 24 of the C function: after every such list of calls, while an acknowledged entry stands (after the call's own cleanup) and is the first of its RSeq, a call of
  -- `sip_dialog_prack_validate` with a PRACK of its RSeq, CSeq and method, whose texts 1 and 2 take and which is lent at least the used bytes, returns 24.
  pub repeat_returns_24 : (m : List ℕ) {cs : List (Call Action)} {w : World} {ss : List (Seen Lent)} → Made (calls (limits_in s)) (Served s) m cs w ss
      → (id block : List ℕ) (time lent : ℕ) (after : List ℕ) (left number : ℕ) (given kept : Lent)
      → Served s (record { lent = lent; action = validate id block time }) (take lent w.memory) w.used after left number given kept
      → w.used ≤ lent → length id ≤ rust_limits.text → length block ≤ rust_limits.text → is_block block ≡ true → Repeats (limits_in s) id block time (held (limits_in s) cs) → number ≡ 24
  repeat_returns_24 m {cs} {w} {ss} d id block time lent after left number given kept x u a b f r =
      let c : Call Action = record { lent = lent; action = validate id block time } in
      let k = prack_of_calls m d in
      let same : w ≡ store (limits_in s) m cs = k.1.0 in
      let sent = made_sent (tracked_form (limits_in s)) key_of (calls (limits_in s)) lent_after (Good s p) (held_exact s p) (filled (limits_in s)) (keeps s p) m (Served s) contracts (one_more d c after left number given kept x) in
      let ok : Sendable (limits_in s) m lent (store (limits_in s) m cs).used id block =
      record { lends = sent.0.lends; holds = subst (λ (y : World). y.used ≤ lent) same u; text_fits = a; block_fits = b; formed = f } in
      (returns_within x).number_is
      ∙ ap (λ (y : World). number_in (ran (limits_in s) (validate id block time) (take lent y.memory) y.used).answer) same
      ∙ ap number_in (k.0.repeated lent id block time ok r)

-- Given settings of which one lies outside its bounds, a call returns 30: the store's bytes, whatever they are, the used length and all that was lent stay.
pub record Kept30 (bytes : List ℕ) (used : ℕ) (after : List ℕ) (left number : ℕ) (given kept : Lent) : Type 0 where
  pub number_is : number ≡ 30
  pub bytes_same : after ≡ bytes
  pub used_same : left ≡ used
  pub lent_same : kept ≡ given

pub refused_call : (s : Settings) → in_bounds s ≡ false → {c : Call Action} {bytes : List ℕ} {used : ℕ} {after : List ℕ} {left number : ℕ} {given kept : Lent}
    → Served s c bytes used after left number given kept → Kept30 bytes used after left number given kept
refused_call s p {c} {bytes} {used} {after} {left} {number} {given} {kept} x =
    let l = ran_outside s c.action bytes used p in
    let r = subst (λ y. Returns y after left number) l (returns x) in
    record {
      number_is = r.number_is;
      bytes_same = r.bytes_are;
      used_same = r.used_is;
      lent_same = values x ∙ (ap (λ (y : Left Value). lent_after y.answer given) l ∙ kept_all given);
    }
  where
    kept_all : (l : Lent) → lent_after (Err SettingOutOfBounds) l ≡ l
    kept_all l = λ i. record { rack = option_map_id l.rack i; pracked = option_map_id l.pracked i; output = option_map_id l.output i; length = option_map_id l.length i }
